-- What a design sheet is, what export prints, and what stands in a sheet.
use Rattle.std.specs.Prelude.{Option, Some, None, List, [], ◌∷◌, ◌++◌, ℕ, zero, suc, ◌+◌, ◌-◌, ◌*◌, ◌/◌, ◌%◌, eqb, ltb, length}
use Rattle.tables.specs.Base.{at, if, find}
use Rattle.tables.specs.Rule.{Rule, same, below, non, ◌and◌, each, test}
use Rattle.tables.specs.Store.{store}
use Rattle.sheets.specs.declared.read.Sheet.{Sheet}

-- ── what export prints ──
-- .. every number high byte first: the n bytes of a number
unfoldable pub bytes : ℕ → ℕ → List ℕ
bytes zero v = []
bytes (suc n) v = bytes n (v / 256) ++ v % 256 ∷ []

-- the runs f 0, f 1, .., f (n − 1), one after another
unfoldable pub runs : ℕ → (ℕ → List ℕ) → List ℕ
runs zero f = []
runs (suc n) f = runs n f ++ f n

-- (02) A design sheet is a run of fields with a one-byte tag and a two-byte length: a field, by its tag and its body.
abbrev pub field : ℕ → List ℕ → List ℕ
field tag body = (tag ∷ bytes 2 (length body)) ++ body

-- First tag 03 holds W and N, 2 bytes each, next tag 01 the unique number, 4 bytes.
unfoldable pub head : ℕ → ℕ → ℕ → List ℕ
head w n number = field 3 (bytes 2 w ++ bytes 2 n) ++ field 1 (bytes 4 number)

-- .. tag 02: page number, 2 bytes, and W words of 4. word: the page's words
unfoldable pub page_field : ℕ → ℕ → (ℕ → ℕ) → List ℕ
page_field w p word = field 2 (bytes 2 p ++ runs w λ j. bytes 4 (word j))

-- the page is all zeros
abbrev pub blank : ℕ → (ℕ → ℕ) → Rule
blank w word = each w λ j. same (word j) 0

-- .. then tag 02 for each page that is not all zeros. word: the words of all pages, by page
unfoldable pub shown_field : ℕ → (ℕ → ℕ → ℕ) → ℕ → List ℕ
shown_field w word p = if (test (blank w (word p))) [] (page_field w p (word p))

-- .. pages rising. Tag 04, empty, ends it: the sheet of a design of n pages of w words.
unfoldable pub printed : ℕ → ℕ → ℕ → (ℕ → ℕ → ℕ) → List ℕ
printed w n number word = (head w n number ++ runs n (shown_field w word)) ++ field 4 []

-- a run of bytes laid over a buffer from place i on; bytes before and after it are untouched
unfoldable pub laid : List ℕ → ℕ → List ℕ → List ℕ
laid buffer i run = store buffer (λ k. non (below k i) and below k (i + length run)) (λ k. at run (k - i))

-- ── what stands in a sheet ──
-- the number of n bytes from place i on, high byte first; value: that of the bytes before them
unfoldable pub number : ℕ → ℕ → List ℕ → ℕ → ℕ
number zero value s i = value
number (suc n) value s i = number n (value * 256 + at s i) s (suc i)

module _ (s : List ℕ) where
  -- its W and N, and its unique number
  unfoldable pub words_in : ℕ
  words_in = number 2 0 s 3

  unfoldable pub pages_in : ℕ
  pages_in = number 2 0 s 5

  unfoldable pub number_in : ℕ
  number_in = number 4 0 s 10

  -- the fields of tag 02 all take so many bytes; so there are so many of them, and the k-th, from 0, starts at that place
  abbrev pub page_bytes : ℕ
  page_bytes = 5 + 4 * words_in

  unfoldable pub count_in : ℕ
  count_in = (length s - 17) / page_bytes

  unfoldable pub place_of : ℕ → ℕ
  place_of k = 14 + k * page_bytes

  -- the page of such a field that starts at place i, and its words
  abbrev pub page_at : ℕ → ℕ
  page_at i = number 2 0 s (i + 3)

  abbrev pub word_at : ℕ → ℕ → ℕ
  word_at i j = number 4 0 s (i + 5 + 4 * j)

  -- .. and of the k-th
  unfoldable pub page_in : ℕ → ℕ
  page_in k = page_at (place_of k)

  unfoldable pub word_in : ℕ → ℕ → ℕ
  word_in k j = word_at (place_of k) j

  -- a field of this tag and length starts at place i
  abbrev pub headed : ℕ → ℕ → ℕ → Rule
  headed i tag size = same (at s i) tag and same (number 2 0 s (i + 1)) size

  -- pages rising: the least page that the k-th field may have
  abbrev pub least_in : ℕ → ℕ
  least_in zero = 0
  least_in (suc k) = suc (page_in k)

  -- a page's field at place i: its length, a page below n, none below the least, not all zeros
  abbrev pub field_fits : ℕ → ℕ → ℕ → ℕ → Rule
  field_fits w n least i = headed i 2 (2 + 4 * w) and below (page_at i) n and non (below (page_at i) least) and non (blank w (word_at i))

  unfoldable pub page_fits : ℕ → Rule
  page_fits k = field_fits words_in pages_in (least_in k) (place_of k)

  -- (02) 29 for a sheet not of this form (number 0, a page of zeros, one of its N or above, or bytes after tag 04, are not).
  unfoldable pub form : Rule
  form =
      below 16 (length s) and headed 0 3 4 and headed 7 1 4 and below 0 number_in
      and same (length s) (17 + count_in * page_bytes) and each count_in page_fits and headed (place_of count_in) 4 0

  -- the words that a sheet gives a page: those of its field, zeros where it has none
  unfoldable pub text_in : ℕ → ℕ → ℕ
  text_in p j = let k = find count_in (λ k. eqb (page_in k) p) 0 in if (ltb k count_in) (word_in k j) 0

  -- what a reader answers: W, N, the number and how many pages it has; None where it is not of the form
  unfoldable pub parsed : Option Sheet
  parsed = if (test form) (Some (record { words = words_in; pages = pages_in; number = number_in; count = count_in })) None
