-- Edges of design sheets, as one table under one theorem, by computation: what is printed, and each way a byte string is not of the form.
use Rattle.std.specs.Prelude.{◌≡◌, refl, Option, Some, None, Bool, true, List, [], ◌∷◌, ◌++◌, ℕ, zero, suc, take}
use Rattle.tables.specs.Base.{all, any, find}
use Rattle.tables.specs.Rule.{non, each, test}
use Rattle.sheets.specs.declared.read.Sheet.{Sheet}
use Rattle.sheets.specs.Sheet.{bytes, runs, head, page_field, shown_field, printed, number, words_in, pages_in, number_in, count_in, place_of, page_in, word_in, page_fits, form, text_in, parsed}

-- tag 03 with W 1 and N 3, tag 01 with number 7, a page of one word v, and tag 04
abbrev sizes : List ℕ
sizes = 3 ∷ 0 ∷ 4 ∷ 0 ∷ 1 ∷ 0 ∷ 3 ∷ []

abbrev unique : List ℕ
unique = 1 ∷ 0 ∷ 4 ∷ 0 ∷ 0 ∷ 0 ∷ 7 ∷ []

abbrev page : ℕ → ℕ → List ℕ
page p v = 2 ∷ 0 ∷ 6 ∷ 0 ∷ p ∷ 0 ∷ 0 ∷ 0 ∷ v ∷ []

abbrev end : List ℕ
end = 4 ∷ 0 ∷ 0 ∷ []

-- a sheet with these fields between tags 01 and 04
abbrev sheet : List ℕ → List ℕ
sheet fields = sizes ++ unique ++ fields ++ end

abbrev two : List ℕ
two = sheet (page 0 9 ++ page 2 8)

-- the words of a design: page 0 has 9, page 1 zeros, page 2 8
abbrev woven : ℕ → ℕ → ℕ
woven zero j = 9
woven (suc zero) j = 0
woven (suc (suc p)) j = 8

-- a sheet of the form: its W and N, its number, how many pages it has
abbrev told : ℕ → ℕ → ℕ → ℕ → Option Sheet
told w n number count = Some (record { words = w; pages = n; number = number; count = count })

-- what a reader answers, all that it looks at computed
unfoldable pub says : List ℕ → Option Sheet
unfolding parsed form words_in pages_in number_in count_in place_of page_in word_in page_fits number test all any find
says s = parsed s

-- cut short after any of its bytes but the last: each of these is not of the form
unfoldable pub short_wrong : ℕ → List ℕ → Bool
unfolding parsed form words_in pages_in number_in count_in place_of page_in word_in page_fits number test all any find
short_wrong n s = test (each n λ k. non (form (take k s)))

pub record Edges : Type 0 where
  -- what export prints: no field for the page of zeros; every number high byte first
  printed_two : printed 1 3 7 woven ≡ two
  high_first : printed 1 258 16909060 (λ p j. 0) ≡ 3 ∷ 0 ∷ 4 ∷ 0 ∷ 1 ∷ 1 ∷ 2 ∷ 1 ∷ 0 ∷ 4 ∷ 1 ∷ 2 ∷ 3 ∷ 4 ∷ 4 ∷ 0 ∷ 0 ∷ []
  -- of the form: two pages, none, the last page that N allows
  of_two : says two ≡ told 1 3 7 2
  of_none : says (sheet []) ≡ told 1 3 7 0
  of_last : says (sheet (page 2 1)) ≡ told 1 3 7 1
  -- judged by its own W and N, whatever these are
  of_any_sizes : says (3 ∷ 0 ∷ 4 ∷ 255 ∷ 255 ∷ 0 ∷ 0 ∷ unique ++ end) ≡ told 65535 0 7 0
  -- the paper's four: number 0; a page of zeros; one of its N, and one above; bytes after tag 04
  number_0 : says (sizes ++ 1 ∷ 0 ∷ 4 ∷ 0 ∷ 0 ∷ 0 ∷ 0 ∷ page 0 9 ++ end) ≡ None
  page_of_zeros : says (sheet (page 0 9 ++ page 2 0)) ≡ None
  page_of_n : says (sheet (page 3 9)) ≡ None
  page_above_n : says (sheet (2 ∷ 0 ∷ 6 ∷ 1 ∷ 0 ∷ 0 ∷ 0 ∷ 0 ∷ 9 ∷ [])) ≡ None
  byte_after : says (two ++ 0 ∷ []) ≡ None
  page_after : says (sheet end ++ page 0 9) ≡ None
  sheet_after : says (two ++ two) ≡ None
  -- an empty string; a sheet cut short anywhere, 0 to 34 of its 35 bytes
  empty : says [] ≡ None
  cut_short_holds : short_wrong 35 two ≡ true
  -- pages equal, and falling
  page_twice : says (sheet (page 1 9 ++ page 1 8)) ≡ None
  page_falling : says (sheet (page 2 9 ++ page 0 8)) ≡ None
  -- no end, and an end that is not empty
  no_end : says (sizes ++ unique ++ page 0 9 ++ page 2 8) ≡ None
  end_with_a_byte : says (sizes ++ unique ++ 4 ∷ 0 ∷ 1 ∷ 0 ∷ []) ≡ None
  -- wrong order: number before sizes, a page before the number; sizes twice
  number_first : says (unique ++ sizes ++ end) ≡ None
  page_first : says (sizes ++ page 0 9 ++ unique ++ end) ≡ None
  sizes_twice : says (sizes ++ sizes ++ unique ++ end) ≡ None
  -- another tag, in each field
  other_tag_3 : says (2 ∷ 0 ∷ 4 ∷ 0 ∷ 1 ∷ 0 ∷ 3 ∷ unique ++ end) ≡ None
  other_tag_1 : says (sizes ++ 0 ∷ 0 ∷ 4 ∷ 0 ∷ 0 ∷ 0 ∷ 7 ∷ end) ≡ None
  other_tag_2 : says (sheet (5 ∷ 0 ∷ 6 ∷ 0 ∷ 0 ∷ 0 ∷ 0 ∷ 0 ∷ 9 ∷ [])) ≡ None
  other_tag_4 : says (sizes ++ unique ++ 3 ∷ 0 ∷ 0 ∷ []) ≡ None
  -- another length, in each field: one byte less or more than it holds, or its low byte first
  other_length_3 : says (3 ∷ 0 ∷ 5 ∷ 0 ∷ 1 ∷ 0 ∷ 3 ∷ unique ++ end) ≡ None
  other_length_1 : says (sizes ++ 1 ∷ 0 ∷ 3 ∷ 0 ∷ 0 ∷ 0 ∷ 7 ∷ end) ≡ None
  other_length_2 : says (sheet (2 ∷ 0 ∷ 7 ∷ 0 ∷ 0 ∷ 0 ∷ 0 ∷ 0 ∷ 9 ∷ [])) ≡ None
  low_byte_first : says (sheet (2 ∷ 6 ∷ 0 ∷ 0 ∷ 0 ∷ 0 ∷ 0 ∷ 0 ∷ 9 ∷ [])) ≡ None
  -- a page of two words in a sheet whose W is 1
  page_of_two_words : says (sheet (2 ∷ 0 ∷ 10 ∷ 0 ∷ 0 ∷ 0 ∷ 0 ∷ 0 ∷ 9 ∷ 0 ∷ 0 ∷ 0 ∷ 9 ∷ [])) ≡ None
  -- W 0: a page has no word that is not zero
  page_of_no_words : says (3 ∷ 0 ∷ 4 ∷ 0 ∷ 0 ∷ 0 ∷ 3 ∷ unique ++ 2 ∷ 0 ∷ 2 ∷ 0 ∷ 0 ∷ end) ≡ None
  -- the words that it gives each page
  text_0 : text_in two 0 0 ≡ 9
  text_1 : text_in two 1 0 ≡ 0
  text_2 : text_in two 2 0 ≡ 8

pub edges : Edges
unfolding says short_wrong printed head shown_field page_field runs bytes text_in form words_in pages_in count_in place_of page_in word_in number test all find
edges = record {
  printed_two = refl;
  high_first = refl;
  of_two = refl;
  of_none = refl;
  of_last = refl;
  of_any_sizes = refl;
  number_0 = refl;
  page_of_zeros = refl;
  page_of_n = refl;
  page_above_n = refl;
  byte_after = refl;
  page_after = refl;
  sheet_after = refl;
  empty = refl;
  cut_short_holds = refl;
  page_twice = refl;
  page_falling = refl;
  no_end = refl;
  end_with_a_byte = refl;
  number_first = refl;
  page_first = refl;
  sizes_twice = refl;
  other_tag_3 = refl;
  other_tag_1 = refl;
  other_tag_2 = refl;
  other_tag_4 = refl;
  other_length_3 = refl;
  other_length_1 = refl;
  other_length_2 = refl;
  low_byte_first = refl;
  page_of_two_words = refl;
  page_of_no_words = refl;
  text_0 = refl;
  text_1 = refl;
  text_2 = refl;
}
