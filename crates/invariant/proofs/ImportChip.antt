-- An import leaves the chip as it is, whole and after each of its stores: a record that it stores was free, so it had no copy.
use mathlib.Core.Path.{◌≡◌, refl, ap, ◌∙◌}
use mathlib.Core.Logic.{inl, inr}
use Prim.Native.Nat.{ℕ, zero, suc, ◌+◌, ◌*◌, ◌<◌, ◌≤◌}
use native.Mathlib.Omega.{arith}
use Rattle.tables.specs.Base.{at}
use Rattle.model.specs.declared.sizes.Sizes.{Sizes}
use Rattle.model.specs.Lines.{LIVE}
use Rattle.model.specs.State.{State, files}
use Rattle.model.specs.Setters.{counted}
use Rattle.model.specs.Import.{Sheet, store_record, store_slot, made, imported}
use Rattle.invariant.proofs.ChipKept.{Copies, copies_stay, live_below}
use Rattle.invariant.proofs.FreeStore.{word_other}
use Rattle.invariant.proofs.Imports.{Before, mid, midway, nth_below, nth_free, state_at, free}

module _ (z : Sizes) (st : State) (s q n : ℕ) (h : Sheet) (b : Before z st s q n h) where
  -- no live record's words change
  pub live_same : (k : ℕ) → k ≤ h.count → (r : ℕ) → (files st).state r ≡ LIVE → (w : ℕ) → w < z.words → at (mid z st s q n h b k).disk.records (r * z.words + w) ≡ at st.disk.records (r * z.words + w)
  unfolding made store_record
  live_same zero i r l w lw = refl
  live_same (suc k) i r l w lw =
      let m = midway z st s q n h b k (omega (arith, i)) in
      word_other z (mid z st s q n h b k) m.fit m.ruled _ (nth_below z st s q n h b k) (nth_free z st s q n h b k i) (h.word k) r w
      (live_below z st.memory.held.states b.fit.memory.states r l) lw (λ e. omega (arith, l, ap (files st).state e ∙ nth_free z st s q n h b k i))
      ∙ live_same k (omega (arith, i)) r l w lw

  pub midway_chip : Copies z st → (k : ℕ) → k ≤ h.count → Copies z (mid z st s q n h b k)
  midway_chip c k i = copies_stay z st (mid z st s q n h b k) refl c (λ r l. l) (live_same k i)

  pub import_chip : Copies z st → Copies z (imported z st s q n h)
  unfolding imported counted store_slot
  import_chip c = copies_stay z st (imported z st s q n h) refl c
      (λ r l. elim (state_at z st s q n h b r) [ inl x ↦ absurd (omega (arith, l, free z st s q n h b r x.0)) | inr x ↦ x.1 ∙ l ])
      (live_same h.count (omega arith))
