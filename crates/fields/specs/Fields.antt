-- The event program's fields: "tag (1 byte), length (2 bytes), values of 2 bytes, number and word value 4, all high byte first".
use Rattle.std.specs.Prelude.{◌≡◌, Bool, not, ◌&&◌, List, [], ◌∷◌, ℕ, zero, suc, ◌+◌, ◌*◌, leb, ltb, eqb, length, get_or}
use Rattle.tables.specs.Base.{at, if}
use Rattle.model.specs.declared.request.Request.{Request}
use Rattle.fields.specs.declared.Field.{Field}
use Rattle.fields.specs.declared.Field.TheVariants.{End, Whole, Cut, Short, Wrong}

-- the number of n bytes from place i on, high byte first, after the bytes read so far
unfoldable pub number : ℕ → ℕ → List ℕ → ℕ → ℕ
number zero value s i = value
number (suc n) value s i = number n (value * 256 + at s i) s (suc i)

abbrev row : ℕ → ℕ → ℕ → ℕ → List ℕ
row a b c d = a ∷ b ∷ c ∷ d ∷ []

-- the widths of each tag's values, 0 for none: "01 create slot account number; 02 delete slot; 03 activate slot; 04 deactivate slot;
-- 05 fault slot page; 06 read slot page word; 07 write slot page word value; 08 claim; 09 wire slot page; 0A unwire slot page;
-- 0B truncate slot k; 0C update slot; 0D page done frame good; 0E map done slot good; 0F limit account pages; 10 cut and restart"
abbrev pub widths : List (List ℕ)
widths =
    row 0 0 0 0
    ∷ row 2 2 4 0
    ∷ row 2 0 0 0
    ∷ row 2 0 0 0
    ∷ row 2 0 0 0
    ∷ row 2 2 0 0
    ∷ row 2 2 2 0
    ∷ row 2 2 2 4
    ∷ row 0 0 0 0
    ∷ row 2 2 0 0
    ∷ row 2 2 0 0
    ∷ row 2 2 0 0
    ∷ row 2 0 0 0
    ∷ row 2 2 0 0
    ∷ row 2 2 0 0
    ∷ row 2 2 0 0
    ∷ row 0 0 0 0
    ∷ []

unfoldable pub width : ℕ → ℕ → ℕ
width tag k = at (get_or widths tag []) k

-- the length that a tag's field must give
unfoldable pub total : ℕ → ℕ
total tag = width tag 0 + width tag 1 + width tag 2 + width tag 3

abbrev pub CUT : ℕ
CUT = 16

abbrev pub is_tag : ℕ → Bool
is_tag tag = ltb 0 tag && ltb tag (suc CUT)

-- the request of a field whose values start at place i
unfoldable pub request_at : List ℕ → ℕ → ℕ → Request
request_at s tag i = record {
  kind = tag;
  first = number (width tag 0) 0 s i;
  second = number (width tag 1) 0 s (i + width tag 0);
  third = number (width tag 2) 0 s (i + width tag 0 + width tag 1);
  fourth = number (width tag 3) 0 s (i + width tag 0 + width tag 1 + width tag 2);
}

-- what stands at place i
unfoldable pub field_at : List ℕ → ℕ → Field
field_at s i =
    let tag = at s i in
    if (leb (length s) i) End
    (if (not (is_tag tag)) Wrong
    (if (ltb (length s) (i + 3)) Short
    (if (not (eqb (number 2 0 s (i + 1)) (total tag))) Wrong
    (if (ltb (length s) (i + 3 + total tag)) Short
    (if (eqb tag CUT) (Cut (i + 3))
    (Whole (request_at s tag (i + 3)) (i + 3 + total tag)))))))

-- it is a whole field, and the next one starts there
abbrev pub Ends : ℕ → Field → Type 0
Ends n End = ⊥
Ends n (Whole request next) = n ≡ next
Ends n (Cut next) = n ≡ next
Ends n Short = ⊥
Ends n Wrong = ⊥
