-- The sheet, page after page.
use mathlib.Core.Path.{◌≡◌, refl, ap, ◌∙◌}
use mathlib.Core.List.{List, [], ◌∷◌, ◌++◌}
use Prim.Native.Nat.{ℕ, zero, suc, ◌+◌, ◌≤◌}
use native.Mathlib.Omega.{arith}
use native.Mathlib.Numerals.{add-one}
use native.Mathlib.Decide.{ℕ_discrete}
use lib.ListN.{length, length-append}
use Rattle.sheets.specs.Sheet.{bytes, runs, field, shown_field, head, printed, laid}
use Rattle.sheets.specs.Laws.Printed.{length_head}
use Rattle.sheets.specs.Laws.Laying.{laid_none, laid_then}
use Rattle.carrying.specs.Texts.{shown_text, slot_text}

module _ (pages w slot number : ℕ) (records maps : List ℕ) where
  abbrev word : ℕ → ℕ → ℕ
  word = slot_text pages w slot records maps

  -- the fields of the first p pages
  abbrev pub area : ℕ → List ℕ
  area p = runs p (shown_field w word)

  same_field : (p : ℕ) → shown_text w p (word p) ≡ shown_field w word p
  unfolding shown_text shown_field
  same_field p = refl

  area_next : (p : ℕ) → area p ++ shown_text w p (word p) ≡ area (p + 1)
  unfolding runs
  area_next p = rw (add-one p) (ap (λ (f : List ℕ). runs p (shown_field w word) ++ f) (same_field p))

  pub none_long : 14 ≡ 14 + length (area 0)
  unfolding runs
  none_long = refl

  pub none_laid : (b : List ℕ) → b ≡ laid b 14 (area 0)
  unfolding runs
  none_laid b = laid_none b 14

  pub next_long : (p from : ℕ) → from ≡ 14 + length (area p) → from + length (shown_text w p (word p)) ≡ 14 + length (area (p + 1))
  next_long p from e = omega (arith, e, length-append (area p) (shown_text w p (word p)), ap length (area_next p))

  pub next_laid : (b : List ℕ) {x y : List ℕ} (p from : ℕ) → from ≡ 14 + length (area p) → x ≡ laid b 14 (area p) → y ≡ laid x from (shown_text w p (word p)) → y ≡ laid b 14 (area (p + 1))
  next_laid b p from e f g = laid_then b 14 (area p) (shown_text w p (word p)) from f e g ∙ ap (laid b 14) (area_next p)

  pub all_laid : (b : List ℕ) {u x y : List ℕ} (from : ℕ) → from ≡ 14 + length (area pages) → u ≡ laid b 0 (head w pages number) → x ≡ laid u 14 (area pages) → y ≡ laid x from (field 4 []) → y ≡ laid b 0 (printed w pages number word)
  unfolding printed
  all_laid b from e h f g =
      laid_then b 0 (head w pages number ++ area pages) (field 4 []) from
      (laid_then b 0 (head w pages number) (area pages) 14 h (omega (arith, length_head w pages number)) f)
      (omega (arith, e, length-append (head w pages number) (area pages), length_head w pages number)) g

  pub all_long : (from : ℕ) → from ≡ 14 + length (area pages) → from + 3 ≡ length (printed w pages number word)
  unfolding printed bytes
  all_long from e = omega (arith, e, length-append (head w pages number ++ area pages) (4 ∷ 0 ∷ 0 ∷ []), length-append (head w pages number) (area pages), length_head w pages number)

  -- the fields of a part of the pages take no more room than all
  pub area_rises : (p n : ℕ) → p ≤ n → length (area p) ≤ length (area n)
  area_rises p zero h = let e : p ≡ 0 = omega (arith, h) in rw e (omega arith)
  area_rises p (suc n) h = elim (ℕ_discrete p (suc n)) [
    | yes e ↦ rw e (omega arith)
    | no e ↦ omega (arith, area_rises p n (omega (arith, h, e)), next_long n (14 + length (area n)) refl, ap (λ (k : ℕ). length (area k)) (add-one n))
  ]
