-- The form, case by case.
use mathlib.Core.Path.{◌≡◌, sym, ◌∙◌}
use mathlib.Core.Bool.{Bool, true, false, not}
use mathlib.Core.List.{List}
use Rattle.std.specs.Prelude.{Some, None}
use Prim.Native.Nat.{ℕ, suc, ◌+◌, ◌-◌, ◌*◌, ◌/◌, ◌<◌, ◌≤◌}
use native.Mathlib.Nat.{suc-mul, mul-le-mul}
use native.Mathlib.Numerals.{add-one}
use native.Mathlib.Omega.{arith}
use lib.Dec.{eqb}
use lib.ListN.{length}
use borrow.Author.Tests.{eq-eqb, ne_eqb}
use Rattle.tables.specs.Base.{at}
use Rattle.tables.specs.Rule.{Rule, Holds, test, non, alike, sound, complete, told, untold}
use Rattle.sheets.specs.Laws.Formed.{Formed, formed, has_form}
use Rattle.sheets.specs.Sheet.{number, headed, blank, words_in, pages_in, number_in, count_in, place_of, page_at, word_at, least_in, page_in, field_fits, page_fits, form, parsed}

module _ (s : List ℕ) (i tag size : ℕ) where
  pub other_tag : ¬ (at s i ≡ tag) → eqb (at s i) tag ≡ test (headed s i tag size)
  other_tag d = ne_eqb (at s i) tag d ∙ sym (untold (headed s i tag size) (λ h. d h.0))

  pub by_size : at s i ≡ tag → (x : ℕ) → x ≡ number 2 0 s (i + 1) → eqb x size ≡ test (headed s i tag size)
  unfolding test
  by_size e x f = rw (eq-eqb (at s i) tag e, f)

-- a test that says no, and one that says yes
pub says_no_holds : (r : Rule) → test r ≡ false → ¬ (Holds r)
says_no_holds r e h = rw e at (complete r h)

pub says_yes : (r : Rule) → test r ≡ true → Holds r
says_yes r e = sound r (rw e tt)

-- a page's field
module _ (s : List ℕ) (w n least i : ℕ) where
  pub no_head : test (headed s i 2 (2 + 4 * w)) ≡ false → false ≡ test (field_fits s w n least i)
  no_head e = sym (untold (field_fits s w n least i) (λ h. says_no_holds (headed s i 2 (2 + 4 * w)) e h.0))

  pub page_high : n ≤ page_at s i → false ≡ test (field_fits s w n least i)
  page_high l = sym (untold (field_fits s w n least i) (λ h. omega (arith, l, h.1.0)))

  pub page_low : page_at s i < least → false ≡ test (field_fits s w n least i)
  page_low l = sym (untold (field_fits s w n least i) (λ h. h.1.1.0 l))

  pub page_blank : test (blank w (word_at s i)) ≡ true → false ≡ test (field_fits s w n least i)
  page_blank e = sym (untold (field_fits s w n least i) (λ h. h.1.1.1 (says_yes (blank w (word_at s i)) e)))

  -- the rest decides where its head, its page and its place are of the form
  pub page_told : test (headed s i 2 (2 + 4 * w)) ≡ true → page_at s i < n → ¬ (page_at s i < least) → (b : Bool) → b ≡ test (blank w (word_at s i)) → not b ≡ test (field_fits s w n least i)
  unfolding test
  page_told e l g b f = rw f (alike (non (blank w (word_at s i))) (field_fits s w n least i) (λ h. (says_yes (headed s i 2 (2 + 4 * w)) e, (l, (g, h)))) (λ h. h.1.1.1))

le_mul : (a b m : ℕ) → a ≤ b → a * m ≤ b * m
le_mul a b m h = mul-le-mul {n₂ = b} {m₂ = m} h (omega arith)

-- the fields, one after another
module _ (s : List ℕ) where
  pub place_first : 14 ≡ place_of s 0
  unfolding place_of
  place_first = omega arith

  pub place_next : (w k : ℕ) → w ≡ words_in s → place_of s k + (5 + 4 * w) ≡ place_of s (k + 1)
  unfolding place_of
  place_next w k e = rw (add-one k, suc-mul k (5 + 4 * words_in s), e) (omega arith)

  pub place_room : (w k n : ℕ) → w ≡ words_in s → k < n → place_of s k + (5 + 4 * w) ≤ place_of s n
  unfolding place_of
  place_room w k n e l = rw e (omega (arith, suc-mul k (5 + 4 * words_in s), le_mul (suc k) n (5 + 4 * words_in s) l))

  -- each place is within, if the last is
  pub least_next : (k : ℕ) → suc (page_at s (place_of s k)) ≡ least_in s (k + 1)
  unfolding page_in
  least_next k = rw (add-one k)

  pub page_fits_holds : (w n k least i : ℕ) → w ≡ words_in s → n ≡ pages_in s → i ≡ place_of s k → least ≡ least_in s k → test (field_fits s w n least i) ≡ test (page_fits s k)
  unfolding page_fits
  page_fits_holds w n k least i e f g h = rw (e, f, g, h)

-- what a reader answers
module _ (s : List ℕ) where
  pub wrong : ¬ (Formed s) → None ≡ parsed s
  unfolding parsed
  wrong d = rw (untold (form s) (λ h. d (formed s h)))

  pub right : (w n num c : ℕ) → w ≡ words_in s → n ≡ pages_in s → num ≡ number_in s → c ≡ count_in s → Formed s → Some (record { words = w; pages = n; number = num; count = c }) ≡ parsed s
  unfolding parsed
  right w n num c e f g h k = rw (told (form s) (has_form s k), e, f, g, h)

  pub words_are : {w : ℕ} → w ≡ number 2 0 s 3 → w ≡ words_in s
  unfolding words_in
  words_are e = e

  pub pages_are : {n : ℕ} → n ≡ number 2 0 s 5 → n ≡ pages_in s
  unfolding pages_in
  pages_are e = e

  pub number_is : {n : ℕ} → n ≡ number 4 0 s 10 → n ≡ number_in s
  unfolding number_in
  number_is e = e

  pub count_is : (w : ℕ) → w ≡ words_in s → (length s - 17) / (5 + 4 * w) ≡ count_in s
  unfolding count_in
  count_is w e = rw e

  pub place_is : (w c : ℕ) → w ≡ words_in s → c ≡ count_in s → 14 + c * (5 + 4 * w) ≡ place_of s (count_in s)
  unfolding place_of
  place_is w c e f = rw (e, f)

  pub place_by : (w c : ℕ) → w ≡ words_in s → 14 + c * (5 + 4 * w) ≡ place_of s c
  unfolding place_of
  place_by w c e = rw e

  pub size_by : (w c : ℕ) → w ≡ words_in s → c ≡ count_in s → c * (5 + 4 * w) ≡ count_in s * (5 + 4 * words_in s)
  size_by w c e f = rw (e, f)
