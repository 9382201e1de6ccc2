-- A page's field by the entry that lists it.
use mathlib.Core.Path.{◌≡◌, refl, ap, sym, ◌∙◌, subst}
use mathlib.Core.Bool.{Bool, true, false, not}
use mathlib.Core.List.{List, []}
use Prim.Native.Nat.{ℕ, pred, ◌+◌, ◌-◌, ◌*◌, ◌≤◌}
use native.Mathlib.Omega.{arith}
use lib.ListN.{length}
use Rattle.tables.specs.Base.{at, if}
use Rattle.tables.specs.Laws.{if_yes, if_no, not_zero}
use Rattle.tables.specs.Rule.{test, told}
use Rattle.sheets.specs.Sheet.{blank, page_field, laid}
use Rattle.sheets.specs.Laws.Printed.{length_page}
use Rattle.sheets.specs.Laws.Laying.{laid_none}
use Rattle.carrying.specs.Texts.{text_of, Listed, shown_text}

module _ (w : ℕ) (records : List ℕ) (entry : ℕ) where
  pub nothing_shown : entry ≡ 0 → false ≡ not (test (blank w (text_of w records entry)))
  nothing_shown e = ap not (sym (told (blank w (text_of w records entry)) (λ j h. if_yes entry 0 0 _ e)))

  module _ (some : ¬ (entry ≡ 0)) where
    before : entry - 1 ≡ pred entry
    before = omega (arith, not_zero entry some)

    pub text_is : (j : ℕ) → at records ((entry - 1) * w + j) ≡ text_of w records entry j
    text_is j = ap (λ (r : ℕ). at records (r * w + j)) before ∙ sym (if_no entry 0 0 (at records (pred entry * w + j)) some)

    pub room : Listed w entry records → (entry - 1) * w + w ≤ length records
    room l = subst (λ (r : ℕ). r * w + w ≤ length records) (sym before) (l (pred entry) (not_zero entry some))

    pub field_is : (p : ℕ) → page_field w p (λ j. at records ((entry - 1) * w + j)) ≡ page_field w p (text_of w records entry)
    field_is p = λ i. page_field w p (λ j. text_is j i)

  -- a page that is shown is listed
  pub shown_listed : not (test (blank w (text_of w records entry))) ≡ true → ¬ (entry ≡ 0)
  shown_listed e z = no (nothing_shown z ∙ e)
    where
      no : false ≡ true → ⊥
      no e = let n : ◌≡◌ {A = ℕ} 0 1 = ap (λ (b : Bool). if b 1 0) e in omega (arith, n)

  pub shown_text_holds : (p : ℕ) → not (test (blank w (text_of w records entry))) ≡ true → shown_text w p (text_of w records entry) ≡ page_field w p (text_of w records entry)
  unfolding shown_text
  shown_text_holds p e = go (test (blank w (text_of w records entry))) e
    where
      go : (b : Bool) → not b ≡ true → if b [] (page_field w p (text_of w records entry)) ≡ page_field w p (text_of w records entry)
      go true e = let n : ◌≡◌ {A = ℕ} 0 1 = ap (λ (b : Bool). if b 1 0) e in absurd (omega (arith, n))
      go false e = refl

  pub hidden_text : (p : ℕ) → not (test (blank w (text_of w records entry))) ≡ false → shown_text w p (text_of w records entry) ≡ []
  unfolding shown_text
  hidden_text p e = go (test (blank w (text_of w records entry))) e
    where
      go : (b : Bool) → not b ≡ false → if b [] (page_field w p (text_of w records entry)) ≡ []
      go true e = refl
      go false e = let n : ◌≡◌ {A = ℕ} 1 0 = ap (λ (b : Bool). if b 1 0) e in absurd (omega (arith, n))

  pub shown_long : (p : ℕ) → not (test (blank w (text_of w records entry))) ≡ true → length (shown_text w p (text_of w records entry)) ≡ 5 + 4 * w
  shown_long p e = ap length (shown_text_holds p e) ∙ length_page w p (text_of w records entry)

  pub hidden_laid : (p i : ℕ) (b : List ℕ) → not (test (blank w (text_of w records entry))) ≡ false → b ≡ laid b i (shown_text w p (text_of w records entry))
  hidden_laid p i b e = laid_none b i ∙ ap (laid b i) (sym (hidden_text p e))

  pub hidden_long : (p i : ℕ) → not (test (blank w (text_of w records entry))) ≡ false → i ≡ i + length (shown_text w p (text_of w records entry))
  hidden_long p i e = omega (arith, ap length (hidden_text p e))
