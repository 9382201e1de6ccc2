-- Each way in which a sheet is not of the form (29), and what is of the form but of another W or N (30), as one table under one theorem, by computation.
use Rattle.std.specs.Prelude.{◌≡◌, refl, Bool, true, false, not, List, [], ◌∷◌, ◌++◌, ℕ, length, set, take}
use Rattle.tables.specs.Base.{all}
use Rattle.tables.specs.Rule.{test}
use Rattle.sheets.specs.Sheet.{form}
use Rattle.edges.specs.Lists.{small, said, says}
use Rattle.edges.specs.Sheets.{sizes_field, number_field, first_page, last_page, end, sheet, bare, import, opened}

-- what an import of the sheet is answered
unfoldable answers : List ℕ → List ℕ
unfolding says
answers b = says small (opened ++ import 0 7 b ∷ [])

-- the first k bytes of the sheet are no sheet, whatever k below its length
unfoldable cut_short : Bool
unfolding said
cut_short = all (length sheet) (λ k. not (test (form (take k sheet))))

abbrev wrong : List ℕ
wrong = 29 ∷ 0 ∷ []

abbrev another : List ℕ
another = 30 ∷ 0 ∷ []

pub record FormEdges : Type 0 where
  right : answers sheet ≡ 0 ∷ 9 ∷ []
  -- the paper's four: number 0; a page of zeros, the first and the last; a page of its N, and above; bytes after tag 04
  number_zero : answers (set sheet 13 0) ≡ wrong
  first_page_of_zeros : answers (set sheet 22 0) ≡ wrong
  last_page_of_zeros : answers (set (set (set sheet 37 0) 38 0) 39 0) ≡ wrong
  page_of_its_n : answers (set sheet 31 3) ≡ wrong
  page_above : answers (set sheet 30 1) ≡ wrong
  own_n : answers (set sheet 6 2) ≡ wrong
  byte_after : answers (sheet ++ 0 ∷ []) ≡ wrong
  end_after : answers (sheet ++ end) ≡ wrong
  page_after : answers (sizes_field ++ number_field ++ first_page ++ end ++ last_page) ≡ wrong
  sheet_after : answers (bare ++ bare) ≡ wrong
  -- no byte, no end, no page's end, and cut short after any byte
  no_byte : answers [] ≡ wrong
  no_end : answers (sizes_field ++ number_field ++ first_page ++ last_page) ≡ wrong
  end_short : answers (take 42 sheet) ≡ wrong
  page_short : answers (take 39 sheet ++ end) ≡ wrong
  head_short : answers (take 16 bare) ≡ wrong
  cut_short_holds : cut_short ≡ true
  -- a field of another order
  number_first : answers (number_field ++ sizes_field ++ first_page ++ last_page ++ end) ≡ wrong
  page_first : answers (sizes_field ++ first_page ++ number_field ++ last_page ++ end) ≡ wrong
  end_first : answers (sizes_field ++ number_field ++ end ++ first_page) ≡ wrong
  no_number : answers (sizes_field ++ first_page ++ last_page ++ end) ≡ wrong
  no_sizes : answers (number_field ++ first_page ++ last_page ++ end) ≡ wrong
  twice_numbered : answers (sizes_field ++ number_field ++ number_field ++ end) ≡ wrong
  -- a wrong tag at each field
  sizes_tag : answers (set sheet 0 1) ≡ wrong
  number_tag : answers (set sheet 7 3) ≡ wrong
  page_tag : answers (set sheet 14 1) ≡ wrong
  last_page_tag : answers (set sheet 27 5) ≡ wrong
  end_tag : answers (set sheet 40 2) ≡ wrong
  -- a wrong length at each field, in its low and its high byte
  sizes_long : answers (set sheet 2 5) ≡ wrong
  sizes_high : answers (set sheet 1 1) ≡ wrong
  number_short : answers (set sheet 9 3) ≡ wrong
  number_high : answers (set sheet 8 1) ≡ wrong
  page_short_by_one : answers (set sheet 16 9) ≡ wrong
  page_long_by_one : answers (set sheet 29 11) ≡ wrong
  page_high : answers (set sheet 15 1) ≡ wrong
  end_long : answers (set sheet 42 1) ≡ wrong
  end_high : answers (set sheet 41 1) ≡ wrong
  -- pages equal, and pages falling
  pages_equal : answers (set sheet 31 0) ≡ wrong
  pages_falling : answers (sizes_field ++ number_field ++ last_page ++ first_page ++ end) ≡ wrong
  -- by its own W the fields are no longer its pages: 29 before 30
  own_w : answers (set sheet 4 3) ≡ wrong
  -- of the form, with another W or N: also those that no sizes allow, and a page that its own N has and the board's has not
  another_w : answers (set bare 4 3) ≡ another
  another_n : answers (set sheet 6 4) ≡ another
  w_zero : answers (set bare 4 0) ≡ another
  n_zero : answers (set bare 6 0) ≡ another
  w_high : answers (set bare 3 255) ≡ another
  n_high : answers (set sheet 5 255) ≡ another
  its_own_page : answers (set (set sheet 6 4) 31 3) ≡ another
  -- the number takes four bytes
  number_whole : answers (set (set (set (set sheet 10 255) 11 255) 12 255) 13 255) ≡ 0 ∷ 4294967295 ∷ []

pub form_edges : FormEdges
unfolding answers cut_short
form_edges = record {
  right = refl;
  number_zero = refl;
  first_page_of_zeros = refl;
  last_page_of_zeros = refl;
  page_of_its_n = refl;
  page_above = refl;
  own_n = refl;
  byte_after = refl;
  end_after = refl;
  page_after = refl;
  sheet_after = refl;
  no_byte = refl;
  no_end = refl;
  end_short = refl;
  page_short = refl;
  head_short = refl;
  cut_short_holds = refl;
  number_first = refl;
  page_first = refl;
  end_first = refl;
  no_number = refl;
  no_sizes = refl;
  twice_numbered = refl;
  sizes_tag = refl;
  number_tag = refl;
  page_tag = refl;
  last_page_tag = refl;
  end_tag = refl;
  sizes_long = refl;
  sizes_high = refl;
  number_short = refl;
  number_high = refl;
  page_short_by_one = refl;
  page_long_by_one = refl;
  page_high = refl;
  end_long = refl;
  end_high = refl;
  pages_equal = refl;
  pages_falling = refl;
  own_w = refl;
  another_w = refl;
  another_n = refl;
  w_zero = refl;
  n_zero = refl;
  w_high = refl;
  n_high = refl;
  its_own_page = refl;
  number_whole = refl;
}
