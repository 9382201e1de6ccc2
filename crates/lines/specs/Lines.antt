-- The lines that the event program prints, as bytes: "It prints the line `n tag answer result`, then a line an event: count from 1,
-- tag (hexadecimal), answer (0 or refusal), result (0 unless named above), all but the tag decimal."
use Rattle.std.specs.Prelude.{◌≡◌, refl, List, [], ◌∷◌, ◌++◌, ℕ, ◌+◌, ◌/◌, ◌%◌, ◌≤◌, ltb, length}
use Rattle.std.proofs.lemmas.List.Edits.{sets}
use Rattle.tables.specs.Base.{if}
use Rattle.lines.specs.Text.{text}
use Rattle.lines.specs.Decimal.{decimal, digits}

abbrev pub header : List ℕ
header = text "n tag answer result\n"

-- a digit below 16: `0` to `9`, then `A` to `F`
unfoldable pub hex_digit : ℕ → ℕ
hex_digit d = if (ltb d 10) (48 + d) (55 + d)

-- a tag, below 256, in two digits
abbrev pub hex : ℕ → List ℕ
hex tag = hex_digit (tag / 16 % 16) ∷ hex_digit (tag % 16) ∷ []

-- an event's line: its count, its tag between two spaces, its answer and result
abbrev pub between : ℕ → List ℕ
between tag = text " " ++ hex tag ++ text " "

abbrev pub answers : ℕ → ℕ → List ℕ
answers answer result = decimal answer ++ text " " ++ decimal result ++ text "\n"

unfoldable pub line_of : ℕ → ℕ → ℕ → ℕ → List ℕ
line_of n tag answer result = decimal n ++ between tag ++ answers answer result

-- "it prints `bad field at` and the tag's byte offset, from 0"
unfoldable pub bad_field : ℕ → List ℕ
bad_field offset = text "bad field at " ++ decimal offset ++ text "\n"

-- the bytes were put into a buffer from a place on, the rest of it is as it was, and they end at r
pub record Wrote (before after : List ℕ) (place : ℕ) (bytes : List ℕ) (r : ℕ) : Type 0 where
  pub buffer : after ≡ sets before place bytes
  pub end : r ≡ place + length bytes
  pub fits : r ≤ length before
  pub size : length after ≡ length before

-- the lines of the paper's worked example
pub example : (line_of 6 8 0 2 ++ line_of 9 14 0 0 ++ line_of 10 16 0 0 ++ line_of 15 12 10 0) ++ bad_field 96
    ≡ text "6 08 0 2\n9 0E 0 0\n10 10 0 0\n15 0C 10 0\nbad field at 96\n"
unfolding line_of bad_field hex_digit decimal digits
example = refl
