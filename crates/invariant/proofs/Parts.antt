-- Parts of W words in a table; pages by slot and number.
use mathlib.Core.Path.{◌≡◌, ap, sym, ◌∙◌}
use mathlib.Core.List.{List}
use mathlib.Core.Logic.{inl, inr}
use Prim.Native.Nat.{ℕ, ◌+◌, ◌*◌, ◌/◌, ◌%◌, ◌<◌}
use native.Mathlib.Nat.{div-add-mod'}
use lib.Arith.{digits_lt, digits_div, digits_mod}
use lib.ListN.{length}
use Rattle.tables.specs.Base.{at}
use Rattle.tables.specs.Rule.{same}
use Rattle.tables.specs.Store.{Split, at_store}
use Rattle.model.specs.declared.sizes.Sizes.{Sizes}
use Rattle.model.specs.Parts.{set_part}

-- a word of part g after part f took words
pub at_part : (z : Sizes) (xs : List ℕ) (f : ℕ) (word : ℕ → ℕ) (n g k : ℕ) → length xs ≡ n * z.words → g < n → k < z.words → Split (g ≡ f) (at (set_part z f word xs) (g * z.words + k)) (word k) (at xs (g * z.words + k))
at_part z xs f word n g k e h l = elim (at_store xs (λ j. same (j / z.words) f) (λ j. word (j % z.words)) (g * z.words + k) (rw e (digits_lt h l))) [
  | inl x ↦ inl (sym (digits_div g l) ∙ x.0, x.1 ∙ ap word (digits_mod g l))
  | inr x ↦ inr (λ d. x.0 (digits_div g l ∙ d), x.1)
]

-- two pages of one slot with one number within it
pub same_page : (n i j : ℕ) → i / n ≡ j / n → i % n ≡ j % n → i ≡ j
same_page n i j p q = sym (div-add-mod' i n) ∙ ap (λ (x : ℕ). x * n + i % n) p ∙ ap (λ (x : ℕ). j / n * n + x) q ∙ div-add-mod' j n
