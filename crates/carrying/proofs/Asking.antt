-- The questions about a sheet, by what its parser says.
use mathlib.Core.Path.{◌≡◌, refl, ap, sym, ◌∙◌}
use mathlib.Core.Bool.{Bool, true, false}
use mathlib.Core.List.{List, []}
use Prim.Native.Nat.{ℕ, suc, ◌+◌, ◌-◌, ◌<◌, ◌≤◌}
use native.Mathlib.Omega.{arith}
use native.Mathlib.Decide.{dec_lt}
use lib.Dec.{leb}
use borrow.Author.Tests.{lt-leb, le-leb}
use Rattle.tables.specs.Base.{at, if}
use Rattle.tables.specs.Rule.{Holds, test, below, sound, complete, told, untold}
use Rattle.std.specs.Prelude.{Some, None}
use Rattle.sheets.specs.declared.read.Sheet.{Sheet}
use Rattle.sheets.specs.Sheet.{words_in, pages_in, number_in, count_in, form, parsed}
use Rattle.tables.specs.Questions.{Questions, first_no, yes_all}
use Rattle.model.specs.declared.sizes.Sizes.{Sizes}
use Rattle.model.specs.Payer.{payer}
use Rattle.model.specs.Questions.{sheet_questions}
use Rattle.model.specs.Laws.Own.{first_yes, first_no_holds}
use Rattle.carrying.specs.Seen.{seen_asked}
use Rattle.carrying.specs.Asks.{pages_asked}

abbrev sheet_in : List ℕ → Sheet
sheet_in s = record { words = words_in s; pages = pages_in s; number = number_in s; count = count_in s }

-- a sheet of the form, and what it says
pub record Told (s : List ℕ) (x : Sheet) : Type 0 where
  pub of : Holds (form s)
  pub is : x ≡ sheet_in s

pub of_form : (s : List ℕ) (x : Sheet) → Some x ≡ parsed s → Told s x
unfolding parsed
of_form s x e = go (test (form s)) refl e
  where
    go : (b : Bool) → test (form s) ≡ b → Some x ≡ if b (Some (sheet_in s)) None → Told s x
    go true f q = record { of = sound (form s) (rw f tt); is = cc }
    go false f q = let z : ◌≡◌ {A = ℕ} 0 1 = cc in absurd (omega (arith, z))

pub no_form : (s : List ℕ) → None ≡ parsed s → ¬ (Holds (form s))
unfolding parsed
no_form s e h = go (test (form s)) (told (form s) h) e
  where
    go : (b : Bool) → b ≡ true → None ≡ if b (Some (sheet_in s)) None → ⊥
    go true f q = let z : ◌≡◌ {A = ℕ} 0 1 = cc in omega (arith, z)
    go false f q = let z : ◌≡◌ {A = ℕ} 0 1 = cc in omega (arith, z)

-- used and count together, without their sum
pub past_limit : (limit used count : ℕ) → limit < used → leb used limit ≡ test (below (used + count) (suc limit))
past_limit limit used count h = lt-leb used limit h ∙ sym (untold (below (used + count) (suc limit)) (λ l. omega (arith, h, l)))

pub within_limit : (limit used count : ℕ) → used ≤ limit → leb count (limit - used) ≡ test (below (used + count) (suc limit))
within_limit limit used count h = elim (dec_lt (limit - used) count) [
  | yes l ↦ lt-leb count (limit - used) l ∙ sym (untold (below (used + count) (suc limit)) (λ g. omega (arith, g, l, h)))
  | no l ↦ le-leb count (limit - used) (omega (arith, l)) ∙ sym (told (below (used + count) (suc limit)) (omega (arith, l, h)))
]

-- ── 30, 18 and 19 ──
module _ (z : Sizes) (account w n count free : ℕ) (limits parents used : List ℕ) where
  abbrev pays : ℕ
  pays = payer (at parents) (at limits) account

  abbrev questions : Questions
  questions = pages_asked z account w n count free limits parents used

  -- the answer by these
  abbrev No : ℕ → Type 0
  No r = r ≡ first_no questions

  pub asks_30 : ¬ ((w ≡ z.words) × (n ≡ z.pages)) → No 30
  asks_30 d = sym (first_no_holds 30 _ _ d)

  module _ (fits : (w ≡ z.words) × (n ≡ z.pages)) where
    pub asks_none : count ≡ 0 → No 0
    asks_none c = sym (yes_all questions (fits, (λ h. absurd (omega (arith, h, c)), (λ h. absurd (omega (arith, h, c)), tt))))

    pub asks_18 : ¬ (count ≡ 0) → test (below (at used pays + count) (suc (at limits pays))) ≡ false → No 18
    asks_18 c f = sym (first_yes 30 _ _ fits ∙ first_no_holds 18 _ _ (λ h. no (h (omega (arith, c)))))
      where
        no : at used pays + count < suc (at limits pays) → ⊥
        no h = rw f at (complete (below (at used pays + count) (suc (at limits pays))) h)

    module _ (afford : test (below (at used pays + count) (suc (at limits pays))) ≡ true) where
      yes_18 : at used pays + count < suc (at limits pays)
      yes_18 = sound (below (at used pays + count) (suc (at limits pays))) (rw afford tt)

      pub asks_19 : ¬ (count ≡ 0) → free < count → No 19
      asks_19 c f = sym (first_yes 30 _ _ fits ∙ first_yes 18 _ _ (λ h. yes_18) ∙ first_no_holds 19 _ _ (λ h. h (omega (arith, c)) f))

      pub asks_yes : ¬ (free < count) → No 0
      asks_yes f = sym (yes_all questions (fits, (λ h. yes_18, (λ h. f, tt))))

-- ── the whole sheet ──
module _ (z : Sizes) (account : ℕ) (s : List ℕ) (free : ℕ) (limits parents used : List ℕ) where
  abbrev asked : Questions
  asked = sheet_questions z (seen_asked free [] limits parents [] used) account s

  pub asks_29 : None ≡ parsed s → 29 ≡ first_no asked
  asks_29 e = sym (first_no_holds 29 _ _ (no_form s e))

  -- past 29, the others answer
  pub asks_more : (x : Sheet) → Some x ≡ parsed s → first_no (pages_asked z account x.words x.pages x.count free limits parents used) ≡ first_no asked
  asks_more x e =
      let k = of_form s x e in
      (λ i. first_no (pages_asked z account (k.is i).words (k.is i).pages (k.is i).count free limits parents used)) ∙ sym (first_yes 29 _ _ k.of)

-- its own number, and how many pages it has
pub told_of : (s : List ℕ) (x : Sheet) → Some x ≡ parsed s → (x.number ≡ number_in s) × (x.count ≡ count_in s)
told_of s x e = let k = of_form s x e in (ap (λ (x : Sheet). x.number) k.is, ap (λ (x : Sheet). x.count) k.is)

-- ── what the code's tests say ──
pub told_by_holds : (limits parents used : List ℕ) (account count p l u : ℕ) (r : Bool) → p ≡ payer (at parents) (at limits) account → l ≡ at limits p → u ≡ at used p → r ≡ test (below (u + count) (suc l))
    → test (below (at used (payer (at parents) (at limits) account) + count) (suc (at limits (payer (at parents) (at limits) account)))) ≡ r
told_by_holds limits parents used account count p l u r e f g h = sym (h ∙ (λ i. test (below ((g ∙ ap (at used) e) i + count) (suc ((f ∙ ap (at limits) e) i)))))
