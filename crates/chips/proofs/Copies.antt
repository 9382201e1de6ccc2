-- Where a record's copy is: what the search of the entries tells of the chip.
use mathlib.Core.Path.{◌≡◌, ap, ◌∙◌}
use mathlib.Core.Bool.{Bool}
use mathlib.Core.List.{List}
use mathlib.Core.Logic.{inl, inr}
use Prim.Native.Nat.{ℕ, suc, ◌%◌, ◌<◌, ◌≤◌}
use native.Mathlib.Omega.{arith}
use lib.Dec.{eqb, eqb→eq}
use lib.ListN.{length, set}
use Rattle.tables.specs.Base.{at, find}
use Rattle.tables.specs.FindLaws.{find_cases}
use Rattle.tables.specs.Laws.{eq→T}
use Rattle.tables.specs.Rule.{Holds, told, untold}
use Rattle.model.specs.declared.sizes.Sizes.{Sizes}
use Rattle.model.specs.State.{Chip}
use Rattle.model.specs.Lent.{chip_of}
use Rattle.model.specs.Parts.{set_part}
use Rattle.model.specs.Chip.{has_copy, place_of, place_for, copied}

module _ (z : Sizes) (k : Chip) (r b : ℕ) (long : length k.copies ≡ z.chip) (e : b ≡ find (length k.copies) (λ j. eqb (at k.copies j) (suc r)) 0) where
  abbrev is : ℕ → Bool
  is j = eqb (at k.copies j) (suc r)

  sought : b ≡ find z.chip is 0
  sought = e ∙ ap (λ (n : ℕ). find n is 0) long

  pub place_is : b ≡ place_of z k r
  unfolding place_of
  place_is = sought

  pub has_copy_holds : b < z.chip → Holds (has_copy z k r)
  has_copy_holds h = elim (find_cases z.chip is 0) [
    | inl f ↦ (find z.chip is 0, omega (arith, f.inside), eqb→eq _ _ f.passes)
    | inr f ↦ absurd (omega (arith, h, sought, f.0))
  ]

  pub no_copy : z.chip ≤ b → ¬ (Holds (has_copy z k r))
  no_copy d h = elim (find_cases z.chip is 0) [
    | inl f ↦ absurd (omega (arith, d, sought, f.inside))
    | inr f ↦ f.1 h.0 (omega arith) (omega (arith, h.1)) (eq→T h.2)
  ]

  -- a page already there replaces its own copy
  pub own_place : b < z.chip → (word : ℕ → ℕ) {ws cs : List ℕ} → ws ≡ set_part z b word k.words → cs ≡ set k.copies b (suc r) → chip_of ws cs k.next ≡ copied z r word k
  unfolding copied place_for
  own_place h word p q =
      let e = place_is in
      rw (told (has_copy z k r) (has_copy_holds h)) (λ x. chip_of ((p ∙ ap (λ (j : ℕ). set_part z j word k.words) e) x) ((q ∙ ap (λ (j : ℕ). set k.copies j (suc r)) e) x) k.next)

  -- otherwise the next place is filled
  pub next_place : z.chip ≤ b → (word : ℕ → ℕ) {ws cs ns : List ℕ} → ws ≡ set_part z (at k.next 0) word k.words → cs ≡ set k.copies (at k.next 0) (suc r)
      → ns ≡ set k.next 0 (suc (at k.next 0) % z.chip) → chip_of ws cs ns ≡ copied z r word k
  unfolding copied place_for
  next_place d word p q n = rw (untold (has_copy z k r) (no_copy d)) (λ x. chip_of (p x) (q x) (n x))
