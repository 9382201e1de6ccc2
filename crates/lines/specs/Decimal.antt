-- A number in decimal: its digits from the first to the last, with no zero before others.
use Rattle.std.specs.Prelude.{List, [], ◌∷◌, ◌++◌, ℕ, zero, suc, ◌+◌, ◌-◌, ◌*◌, ◌/◌, ◌%◌, ltb}
use Rattle.tables.specs.Base.{if}

-- the byte of a digit below 10, from `0` on
abbrev pub digit : ℕ → ℕ
digit d = 48 + d

-- the digits of n, at most so many before the last
unfoldable pub digits : ℕ → ℕ → List ℕ
digits zero n = digit n ∷ []
digits (suc more) n = let before = digits more (n / 10) in if (ltb n 10) (digit n ∷ []) (before ++ digit (n % 10) ∷ [])

-- n has fewer than n digits before its last
unfoldable pub decimal : ℕ → List ℕ
decimal n = digits n n

-- the number that a text stands for, after the digits read so far
unfoldable pub read : ℕ → List ℕ → ℕ
read value [] = value
read value (byte ∷ rest) = read (value * 10 + (byte - 48)) rest
