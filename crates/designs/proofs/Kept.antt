-- Events that leave every count as it was: the state written out, and the counts by what they count.
use mathlib.Core.Path.{◌≡◌, refl, ap, sym, ◌∙◌}
use mathlib.Core.Bool.{Bool, true, false, ◌&&◌}
use mathlib.Core.Logic.{◌⊎◌, inl, inr}
use mathlib.Core.List.{List}
use Prim.Native.Nat.{ℕ, ◌<◌}
use lib.Dec.{T, eqb}
use Rattle.tables.specs.Laws.{count_same}
use Rattle.tables.specs.Store.{Split}
use Rattle.tables.specs.TabLaws.{tab_same}
use Rattle.model.specs.declared.sizes.Sizes.{Sizes}
use Rattle.model.specs.Lines.{FREE}
use Rattle.model.specs.State.{State, Files, Frames, files, frames, all_pages, slot_of, payer, used_of, free_count}
use Rattle.model.specs.Setters.{on_held, set_free, set_free_map, set_used, counted}
use Rattle.model.specs.Lent.{state_in}
use Rattle.model.specs.Laws.Ruled.{OfCounts}
use Rattle.model.specs.Laws.Fit.{Fit}
use Rattle.leaves.specs.Counts.{counts, counts_for, used_counts, used_counts_holds, free_same}
use Rattle.leaves.specs.FreeMap.{free_map_table, free_map, free_map_same}

-- the state after an event about a design: numbers, accounts, the highest number, addresses, states and active switches are new
abbrev pub after : State → List ℕ → List ℕ → List ℕ → List ℕ → List ℕ → List ℕ → State
after st numbers accounts highest addresses states active = state_in st.memory.chip st.memory.line
    st.memory.core.frames
    st.memory.held.pool
    st.disk.records
    numbers
    accounts
    st.disk.maps
    st.disk.limits
    st.disk.parents
    highest
    st.memory.core.words
    st.memory.core.free_queue
    st.memory.core.removal_list
    addresses
    states
    st.memory.held.owners
    st.memory.held.free_map
    active
    st.memory.slots.updating
    st.memory.slots.images
    st.memory.used

-- where a split falls
pub split_in : {A B : Type 0} {x a b : B} → Split A x a b → A → x ≡ a
split_in (inl t) h = t.1
split_in (inr t) h = absurd (t.0 h)

pub split_out : {A B : Type 0} {x a b : B} → Split A x a b → ¬ A → x ≡ b
split_out (inl t) h = absurd (h t.0)
split_out (inr t) h = t.1

and_none : (a b : Bool) → ¬ (T b) → (a && b) ≡ false
and_none true true n = absurd (n tt)
and_none true false n = refl
and_none false b n = refl

-- every page counts alike, and where its payer changes it does not count
pub counts_kept : (z : Sizes) (v v' : Files) (c c' : Frames) → ((i : ℕ) → i < all_pages z → counts z v c i ≡ counts z v' c' i)
    → ((i : ℕ) → i < all_pages z → (payer v (slot_of z i) ≡ payer v' (slot_of z i)) ⊎ (¬ (T (counts z v c i)))) → used_counts z v c ≡ used_counts z v' c'
unfolding used_of
counts_kept z v v' c c' same pays = tab_same z.accounts (used_of z v c) (used_of z v' c') (λ q l. count_same (all_pages z) (counts_for z v c q) (counts_for z v' c' q) (one q))
  where
    one : (q i : ℕ) → i < all_pages z → counts_for z v c q i ≡ counts_for z v' c' q i
    one q i h = elim (pays i h) [
      | inl e ↦ ap (λ (p : ℕ). eqb p q && counts z v c i) e ∙ ap (λ (b : Bool). eqb (payer v' (slot_of z i)) q && b) (same i h)
      | inr n ↦ and_none (eqb (payer v (slot_of z i)) q) (counts z v c i) n ∙ sym (and_none (eqb (payer v' (slot_of z i)) q) (counts z v' c' i) (λ t. n (rw (same i h) t)))
    ]

-- a state with the old counts, in which they count the same, is its own counted state
module _ (z : Sizes) (st : State) (f : Fit z st) (k : OfCounts z st) (numbers accounts highest addresses states active : List ℕ) where
  abbrev new : State
  new = after st numbers accounts highest addresses states active

  pub counted_kept : ((r : ℕ) → r < z.records → eqb ((files st).state r) FREE ≡ eqb ((files new).state r) FREE) → used_counts z (files st) (frames st) ≡ used_counts z (files new) (frames new) → counted z new ≡ new
  unfolding counted
  counted_kept free used = sym (λ i. set_used (u i) (on_held (λ h. set_free (n i) (set_free_map (m i) h)) new))
    where
      u : st.memory.used ≡ used_counts z (files new) (frames new)
      u = used_counts_holds z (files st) (frames st) st.memory.used f.memory.used k.used ∙ used

      m : st.memory.held.free_map ≡ free_map_table z (files new).state
      m = free_map z (files st).state st.memory.held.free_map f.memory.free_map k.free_map ∙ free_map_same z (files st).state (files new).state free

      n : st.memory.held.pool.free ≡ free_count z (files new).state
      n = k.free ∙ free_same z (files st).state (files new).state free
