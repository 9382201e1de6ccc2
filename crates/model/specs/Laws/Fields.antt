-- Which field of a sheet a page has.
use Rattle.std.specs.Prelude.{◌≡◌, refl, ℕ, ◌<◌, T}
use Rattle.std.proofs.Math.Logic.{inl, inr}
use Rattle.std.proofs.Common.{arith}
use Rattle.std.proofs.Math.Dec.{eqb, eqb→eq, ltb→lt, lt→ltb}
use Rattle.tables.specs.Base.{find}
use Rattle.tables.specs.Laws.{eq→T}
use Rattle.tables.specs.FindLaws.{find_cases}
use Rattle.model.specs.Import.{Sheet, field_of, has}

module _ (h : Sheet) (once : (j k : ℕ) → j < h.count → k < h.count → h.page j ≡ h.page k → j ≡ k) where
  pub field_of_holds : (p : ℕ) → T (has h p) → (field_of h p < h.count) × (h.page (field_of h p) ≡ p)
  unfolding has field_of
  field_of_holds p t = elim (find_cases h.count (λ k. eqb (h.page k) p) 0) [
    | inl f ↦ (omega (arith, f.inside), eqb→eq (h.page (find h.count (λ k. eqb (h.page k) p) 0)) p f.passes)
    | inr f ↦ absurd (omega (arith, f.0, ltb→lt (find h.count (λ k. eqb (h.page k) p) 0) h.count t))
  ]

  pub has_at : (k : ℕ) → k < h.count → T (has h (h.page k))
  unfolding has field_of
  has_at k l = elim (find_cases h.count (λ j. eqb (h.page j) (h.page k)) 0) [
    | inl f ↦ lt→ltb (find h.count (λ j. eqb (h.page j) (h.page k)) 0) h.count (omega (arith, f.inside))
    | inr f ↦ absurd (f.1 k (omega arith) (omega (arith, l)) (eq→T {a = h.page k} refl))
  ]

  pub field_at : (k : ℕ) → k < h.count → field_of h (h.page k) ≡ k
  field_at k l = let f = field_of_holds (h.page k) (has_at k l) in once (field_of h (h.page k)) k f.0 l f.1
