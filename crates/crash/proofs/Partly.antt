-- An import after k of its record stores keeps the invariant, so a cut may fall there; and what its stores left.
use mathlib.Core.Path.{◌≡◌, refl, ap, sym, ◌∙◌}
use mathlib.Core.List.{◌∷◌}
use mathlib.Core.Logic.{◌⊎◌, inl, inr}
use Prim.Native.Nat.{ℕ, zero, suc, ◌+◌, ◌*◌, ◌<◌, ◌≤◌}
use native.Mathlib.Omega.{arith}
use native.Mathlib.Decide.{ℕ_discrete}
use lib.ListN.{length}
use Rattle.tables.specs.Base.{at}
use Rattle.tables.specs.Laws.{last}
use Rattle.model.specs.declared.sizes.Sizes.{Sizes}
use Rattle.model.specs.State.{State}
use Rattle.model.specs.Import.{Sheet, taken, store_record, made}
use Rattle.model.specs.Ledger.{Ledger, Write, ended, note, spent, carried_in, page_write}
use Rattle.model.specs.Acts.{partly}
use Rattle.model.specs.Demand3.{last_into}
use Rattle.invariant.proofs.FreeStore.{word_split}
use Rattle.model.specs.Setters.{on_disk, raise}
use Rattle.invariant.proofs.Imports.{Before, mid, midway, nth_below, nth_free, nth_once}
use Rattle.crash.proofs.Writes.{In, bounded, last_here, last_there}
use Rattle.crash.proofs.Link.{Tied}
use Rattle.crash.proofs.FreeTied.{free_tied, spent_tied}
use Rattle.crash.proofs.Raised.{raise_tied}

module _ (z : Sizes) (st : State) (s q n : ℕ) (h : Sheet) (l : Ledger) (b : Before z st s q n h) (tied : Tied z st l) where
  abbrev nth : ℕ → ℕ
  nth = taken z st s

  abbrev at_mid : ℕ → State
  at_mid k = mid z st s q n h b k

  below : (k : ℕ) → nth k < z.records
  below = nth_below z st s q n h b

  once : (j k : ℕ) → j < h.count → k < h.count → nth j ≡ nth k → j ≡ k
  once = nth_once z st s q n h b

  -- the ledger after k stores
  abbrev pub led : ℕ → Ledger
  led k = partly z st s n h k l

  pub births_are : (k : ℕ) → (led k).births ≡ suc l.births
  unfolding partly note spent carried_in
  births_are zero = refl
  births_are (suc k) = births_are k

  pub design_is : (k : ℕ) → (led k).design ≡ l.design
  unfolding partly note spent carried_in
  design_is zero = refl
  design_is (suc k) = design_is k

  fresh : (k t : ℕ) → t < z.slots → ¬ ((led k).design t ≡ (led k).births)
  fresh k t i e = omega (arith, ap (λ (f : ℕ → ℕ). f t) (design_is k), births_are k, e, tied.disk.designs.young t i)

  pub mid_tied : (k : ℕ) → k ≤ h.count → Tied z (at_mid k) (led k)
  unfolding made partly note store_record
  mid_tied zero i = spent_tied z (on_disk (raise n) st) l n (raise_tied z st l n tied)
  mid_tied (suc k) i =
      let m = midway z st s q n h b k (omega (arith, i)) in
      free_tied z (at_mid k) m.fit m.ruled (nth k) (below k) (nth_free z st s q n h b k i) (h.word k) (led k) (mid_tied k (omega (arith, i))) (h.page k) (fresh k)

  -- ── what the stores left ──
  -- the j-th write
  abbrev pub write : ℕ → Write
  write j = ended (page_write (led j).births (h.page j) (nth j) (h.word j)) (suc (length (led j).finished))

  pub finished_more : (k : ℕ) → (led (suc k)).finished ≡ write k ∷ (led k).finished
  unfolding partly note carried_in
  finished_more k = refl

  pub last_is : (k : ℕ) → k ≤ h.count → (j : ℕ) → j < k → last_into (nth j) (led k).finished ≡ write j
  last_is zero i j g = absurd (omega (arith, g))
  last_is (suc k) i j g = ap (last_into (nth j)) (finished_more k) ∙ elim (ℕ_discrete j k) [
    | yes e ↦ rw e (last_here (write k) (led k).finished (nth k) refl)
    | no e ↦ last_there (write k) (led k).finished (nth j) (λ d. e (once j k (omega (arith, g, i)) i (sym d))) ∙ last_is k (omega (arith, i)) j (omega (arith, g, e))
  ]

  pub finished_long : (k : ℕ) → length (led k).finished ≡ length l.finished + k
  unfolding partly note spent
  finished_long zero = omega arith
  finished_long (suc k) = ap length (finished_more k) ∙ omega (arith, finished_long k)

  -- a finished write is older than the import, or one of its own
  pub older : (k : ℕ) (y : Write) → In y (led k).finished → (y.serial ≤ length l.finished) ⊎ ((j : ℕ) × (j < k) × (y ≡ write j))
  unfolding partly note spent carried_in In
  older zero y i = inl (bounded l.finished tied.disk.listing.numbered y i)
  older (suc k) y i = elim i [
    | inl e ↦ inr (k, omega arith, e)
    | inr e ↦ elim (older k y e) [ inl a ↦ inl a | inr a ↦ inr (a.0, omega (arith, a.1), a.2) ]
  ]

  -- the words stand
  pub words_stand : (k : ℕ) → k ≤ h.count → (j : ℕ) → j < k → (w : ℕ) → w < z.words → at (at_mid k).disk.records (nth j * z.words + w) ≡ h.word j w
  unfolding made store_record
  words_stand zero i j g w y = absurd (omega (arith, g))
  words_stand (suc k) i j g w y =
      let m = midway z st s q n h b k (omega (arith, i)) in
      elim (word_split z (at_mid k) m.fit m.ruled (nth k) (below k) (nth_free z st s q n h b k i) (h.word k) (nth j) w (below j) y) [
        | inl x ↦ x.1 ∙ ap (λ (a : ℕ). h.word a w) (sym (once j k (omega (arith, g, i)) i x.0))
        | inr x ↦ x.1 ∙ words_stand k (omega (arith, i)) j (elim (last g) [ inl a ↦ a | inr a ↦ absurd (x.0 (ap nth a)) ]) w y
      ]
