-- An import on both boards: the records that it takes, the tables that it leaves, whole and after some of its stores, and what the ledgers note of it.
use mathlib.Core.Path.{◌≡◌, refl, ap, sym, ◌∙◌}
use mathlib.Core.List.{List}
use Prim.Native.Nat.{ℕ, zero, suc, ◌%◌}
use lib.ListN.{set}
use Rattle.tables.specs.Base.{at, if}
use Rattle.tables.specs.Store.{store}
use Rattle.model.specs.declared.sizes.Sizes.{Sizes}
use Rattle.model.specs.Lines.{FILED}
use Rattle.model.specs.State.{Disk, State}
use Rattle.model.specs.Setters.{on_held, set_numbers, set_accounts, set_maps, set_states, set_owners, set_hand, raise}
use Rattle.model.specs.Parts.{of_slot, picked}
use Rattle.model.specs.Pool as Pool
use Rattle.model.specs.Import.{Sheet, Taking, taking, taken, field_of, has, said, store_record, entry, store_slot, made, imported}
use Rattle.model.specs.Ledger.{Ledger, note}
use Rattle.model.specs.Acts.{partly, wholly}
use Rattle.isolation.specs.Words.{bare_disk, bare}
use Rattle.isolation.proofs.Reworded.{reworded, Same, counted_same}
use Rattle.isolation.proofs.Told.{told, ToldLike}
use Rattle.isolation.proofs.Ledgers.{spent_like, carried_like, placed_like}

-- the record stores change words alone
pub made_bare : (z : Sizes) (st : State) (s q n : ℕ) (h : Sheet) (k : ℕ) (d : Disk) → bare_disk (made z st s q n h k d) ≡ bare_disk d
unfolding made store_record
made_bare z st s q n h zero d = refl
made_bare z st s q n h (suc k) d = made_bare z st s q n h k d

-- ── the records taken, by tables alone ──
module _ (z : Sizes) (st : State) (rs ws ks : List ℕ) (s : ℕ) where
  abbrev st' : State
  st' = reworded st rs ws ks

  taking_at : (k : ℕ) → taking z st' s k ≡ taking z st s k
  unfolding taking
  taking_at zero = refl
  taking_at (suc k) = ap (λ (t : Taking). let r = picked z (at t.states) st.memory.held.pool.hand t.last in record { states = set t.states r FILED; owners = set t.owners r s; last = suc r }) (taking_at k)

  taking_same : taking z st' s ≡ taking z st s
  taking_same = λ x k. taking_at k x

  pub taken_same : (k : ℕ) → taken z st' s k ≡ taken z st s k
  unfolding taken
  taken_same k = ap (λ (t : Taking). picked z (at t.states) st.memory.held.pool.hand t.last) (taking_at k)

  -- ── the tables that the stores leave ──
  module _ (q n : ℕ) (h : Sheet) where
    slot_same : (d : Disk) → store_slot z st' s q n h d ≡ store_slot z st s q n h d
    unfolding store_slot entry taken
    slot_same d = ap (λ (t : ℕ → Taking). let r : ℕ → ℕ = λ k. picked z (at (t k).states) st.memory.held.pool.hand (t k).last in
        set_numbers (set d.numbers s n) (set_accounts (set d.accounts s q) (set_maps (store d.maps (of_slot z s) (λ i. if (has h (i % z.pages)) (suc (r (field_of h (i % z.pages)))) 0)) d))) taking_same

    pub imported_bare : Same (imported z st' s q n h) (imported z st s q n h)
    unfolding imported
    imported_bare = counted_same z (record { tables = λ x. filled (taking_at h.count x) (left x) })
      where
        filled : Taking → Disk → State
        filled t d = on_held (λ y. set_hand (Pool.taken z t.last y.pool).hand (set_states t.states (set_owners t.owners y))) (record { disk = d; memory = (bare st).memory })

        left : bare_disk (store_slot z st' s q n h (made z st' s q n h h.count (raise n st'.disk))) ≡ bare_disk (store_slot z st s q n h (made z st s q n h h.count (raise n st.disk)))
        left = ap bare_disk (slot_same _) ∙ unfold store_slot in ap (store_slot z st s q n h) (made_bare z st' s q n h h.count (raise n st'.disk) ∙ sym (made_bare z st s q n h h.count (raise n st.disk)))

  -- ── what the ledgers note ──
  module _ (hidden n : ℕ) (h : Sheet) (l l' : Ledger) (a : ToldLike z hidden (told l) (told l')) where
    pub partly_like : (k : ℕ) → ToldLike z hidden (told (partly z st s n h k l)) (told (partly z st' s n h k l'))
    unfolding partly
    partly_like zero = spent_like z hidden l l' a n
    partly_like (suc k) = rw (taken_same k) (carried_like z hidden (partly z st s n h k l) (partly z st' s n h k l') (partly_like k) (h.page k) (taken z st s k) (h.word k))

    pub wholly_like : ToldLike z hidden (told (wholly z st s n h l)) (told (wholly z st' s n h l'))
    unfolding wholly
    wholly_like = placed_like z hidden (partly z st s n h h.count l) (partly z st' s n h h.count l') (partly_like h.count) s (has h) (said h)
