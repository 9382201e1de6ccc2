-- Create and delete over the full state: one disk store, and every count as it was.
use mathlib.Core.Path.{◌≡◌, refl, ap, sym, subst}
use mathlib.Core.Logic.{◌⊎◌, inl, inr}
use mathlib.Core.List.{List}
use Prim.Native.Nat.{ℕ, ◌<◌}
use native.Mathlib.Omega.{arith}
use native.Mathlib.Decide.{ℕ_discrete}
use lib.Dec.{T, ltb, ltb→lt}
use lib.ListN.{set}
use lib.Seq.{get_or-set_other}
use Rattle.tables.specs.Laws.{if_no}
use Rattle.tables.specs.Questions.{Asked}
use Rattle.tables.specs.Rule.{test}
use Rattle.model.specs.declared.sizes.Sizes.{Sizes}
use Rattle.model.specs.declared.event.Event.TheVariants as Event
use Rattle.model.specs.declared.event.Design.TheVariants.{Create, Delete}
use Rattle.model.specs.Payer
use Rattle.model.specs.State.{State, Files, Frames, files, frames, all_pages, slot_of, charged, payer}
use Rattle.model.specs.Setters.{counted}
use Rattle.model.specs.Questions.{questions}
use Rattle.model.specs.Designs
use Rattle.model.specs.Step.{carried}
use Rattle.model.specs.Laws.Creating.{creating}
use Rattle.model.specs.Laws.Index.{of_pages}
use Rattle.model.specs.Laws.Ruled.{Ruled}
use Rattle.model.specs.Laws.Fit.{Fit}
use Rattle.leaves.specs.Counts.{counts}
use Rattle.designs.proofs.Kept.{after, counts_kept, counted_kept}

-- a page of an inactive design that lists nothing does not count
uncounted : (z : Sizes) (v : Files) (c : Frames) (i : ℕ) → ¬ (v.active (slot_of z i) ≡ 1) → v.map i ≡ 0 → ¬ (T (counts z v c i))
uncounted z v c i off e t = omega (arith, e, ltb→lt 0 (v.map i) (rw (if_no (v.active (slot_of z i)) 1 (test (charged z v c i)) (ltb 0 (v.map i)) off) at t))

-- a slot takes number and account; the highest number may be new
abbrev filed_state : State → List ℕ → ℕ → ℕ → ℕ → State
filed_state st h s q n = after st (set st.disk.numbers s n) (set st.disk.accounts s q) h st.memory.held.addresses st.memory.held.states st.memory.slots.active

module _ (z : Sizes) (st : State) (f : Fit z st) (r : Ruled z st) where
  abbrev v : Files
  v = files st

  -- the slot is inactive and lists nothing
  filed_left : (top : List ℕ) (s q n : ℕ) → ¬ (v.active s ≡ 1) → ((i : ℕ) → i < all_pages z → slot_of z i ≡ s → v.map i ≡ 0) → counted z (filed_state st top s q n) ≡ filed_state st top s q n
  unfolding payer charged
  filed_left top s q n off zero = counted_kept z st f r.counts (set st.disk.numbers s n) (set st.disk.accounts s q) top st.memory.held.addresses st.memory.held.states st.memory.slots.active
      (λ m h. refl)
      (counts_kept z v (files (filed_state st top s q n)) (frames st) (frames st) (λ i h. refl) pays)
    where
      pays : (i : ℕ) → i < all_pages z → (payer v (slot_of z i) ≡ payer (files (filed_state st top s q n)) (slot_of z i)) ⊎ (¬ (T (counts z v (frames st) i)))
      pays i h = elim (ℕ_discrete (slot_of z i) s) [
        | yes e ↦ inr (uncounted z v (frames st) i (λ a. off (subst (λ (t : ℕ). v.active t ≡ 1) e a)) (zero i h e))
        | no e ↦ inl (ap (Payer.payer v.parent v.limit) (sym (get_or-set_other st.disk.accounts s (slot_of z i) q 0 e)))
      ]

  pub create_left : (s q n : ℕ) → Asked (questions z st (Event.Design (Create s q n))) → carried z st (Event.Design (Create s q n))
      ≡ after st (set st.disk.numbers s n) (set st.disk.accounts s q) (set st.disk.highest 0 n) st.memory.held.addresses st.memory.held.states st.memory.slots.active
  unfolding carried Designs.create
  create_left s q n a =
      let k = creating z st s q n a in
      filed_left (set st.disk.highest 0 n) s q n (λ e. let p : 0 < v.number s = r.records.active_filled_holds s k.slot e in omega (arith, p, k.empty))
      (λ i h e. r.disk.empty_map_holds i h (subst (λ (t : ℕ). v.number t ≡ 0) (sym e) k.empty))

  pub delete_left : (s : ℕ) → Asked (questions z st (Event.Design (Delete s))) → carried z st (Event.Design (Delete s))
      ≡ after st (set st.disk.numbers s 0) (set st.disk.accounts s 0) st.disk.highest st.memory.held.addresses st.memory.held.states st.memory.slots.active
  unfolding carried Designs.delete
  delete_left s a = filed_left st.disk.highest s 0 0 a.1.1.1.0 (λ i h e. of_pages z f.sizes.pages s (λ j. v.map j ≡ 0) a.1.1.0 i e)
