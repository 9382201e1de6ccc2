-- The search of a map of marks: the first mark from below, the last one from above, the words around one, and what lies around a record.
use Rattle.std.specs.Prelude.{◌≡◌, Bool, ◌||◌, List, ℕ, suc, ◌+◌, ◌-◌, ◌%◌, ◌<◌, ◌≤◌, T, eqb, ltb}
use Rattle.tables.specs.Base.{if, at, find}
use Rattle.tables.specs.Marks.{bit_of}
use Rattle.model.specs.declared.sizes.Sizes.{Sizes}
use Rattle.model.specs.Parts.{is_free}
use Rattle.leaves.specs.FreeMap.{told_by}

-- a number is marked
abbrev pub marked : List ℕ → ℕ → Bool
marked map i = eqb (bit_of map i) 1

-- the first marked number from a up to b, or b
abbrev pub first_mark : List ℕ → ℕ → ℕ → ℕ
first_mark map a b = find (b - a) (marked map) a

-- one past the last marked number from a up to b, or a
abbrev pub last_mark : List ℕ → ℕ → ℕ → ℕ
last_mark map a b = b - find (b - a) (λ k. marked map (b - suc k)) 0

-- no word from a up to b has a mark
abbrev pub Unmarked : List ℕ → ℕ → ℕ → Type 0
Unmarked map a b = (w : ℕ) → a ≤ w → w < b → at map w ≡ 0

-- a word so far from word w, below or above, has a mark
abbrev pub mark_around : List ℕ → ℕ → ℕ → Bool
mark_around map w k = ltb 0 (at map (w - k)) || ltb 0 (at map (w + k))

-- a count k that is below n, or else one that is above every record's number
abbrev pub or_none : ℕ → ℕ → ℕ
or_none n k = if (ltb k n) k 65536

-- how many numbers are passed from i up to a mark, in its word and the next
abbrev pub ahead : List ℕ → ℕ → ℕ
ahead map i = or_none (64 - i % 32) (find (64 - i % 32) (λ k. marked map (i + k)) 0)

-- how far down the word of i and the one before it reach
abbrev pub span : ℕ → ℕ
span i = if (ltb i 32) i (32 + i % 32)

-- how many numbers are passed from i down to a mark, in its word and the one before
abbrev pub behind : List ℕ → ℕ → ℕ
behind map i = or_none (suc (span i)) (find (suc (span i)) (λ k. marked map (i - k)) 0)

-- record r lies between these two, and none from the one up to the other is free
pub record Around (z : Sizes) (map : List ℕ) (r below above : ℕ) : Type 0 where
  pub low : below ≤ suc r
  pub most : below ≤ z.records
  pub high : r ≤ above
  pub none : (i : ℕ) → below ≤ i → i < above → ¬ T (is_free z (told_by map) i)
