-- Where the journal keeps what: the commit sector, two areas for contents, the home sectors; and what a commit sector says.
use Rattle.std.specs.Prelude.{ℕ, zero, suc, ◌+◌, ◌-◌, ◌%◌, Bool, false, not, ◌&&◌, List, [], ◌∷◌, ◌++◌, length, ◌==◌, nat_le}
use Rattle.tables.specs.Base.{at, if, tab}
use Rattle.tables.specs.Rule.{Rule, same, below, each, test}
use Rattle.journal.specs.Device.{Content, Write}

-- a store: home sectors, by number, and what they become, in order
abbrev pub Store : Type 0
Store = List Write

-- ── sectors: 0 the commit, then two areas of `most` sectors each, then home ──
abbrev pub commit_at : ℕ
commit_at = 0

unfoldable pub odd : ℕ → Bool
odd zero = false
odd (suc n) = not (odd n)

-- The sequence number after n: one word, so it begins again at 0; only odd and even matter.
unfoldable pub next_sequence : ℕ → ℕ
next_sequence n = (n + 1) % 4294967296

-- The sector of content i of store n: two areas in turn, so that a store never overwrites the contents of the one before.
unfoldable pub area_at : ℕ → ℕ → ℕ → ℕ
area_at most n i = if (odd n) (1 + most + i) (1 + i)

-- the sector of home sector x
unfoldable pub home_at : ℕ → ℕ → ℕ
home_at most x = 1 + most + most + x

-- ── the commit sector: magic, sequence number, count, the home sectors' numbers, then zeros ──
abbrev pub MAGIC : ℕ
MAGIC = 0x4A524E4C

-- how many home sectors a commit sector has words for
abbrev pub most_homes : ℕ
most_homes = 125

unfoldable pub zeros : ℕ → List ℕ
zeros zero = []
zeros (suc n) = 0 ∷ zeros n

unfoldable pub commit_words : ℕ → List ℕ → Content
commit_words n homes = MAGIC ∷ n ∷ length homes ∷ (homes ++ zeros (most_homes - length homes))

-- the home sectors of a store
unfoldable pub homes_of : Store → List ℕ
homes_of [] = []
homes_of (w ∷ ws) = w.place ∷ homes_of ws

-- the commit sector of store n
unfoldable pub commit_of : ℕ → Store → Content
commit_of n s = commit_words n (homes_of s)

-- ── what the journal takes, and what a recovery takes ──
-- no more contents than an area has sectors, and than a commit sector can name
abbrev pub count_fits : ℕ → ℕ → Bool
count_fits most count = nat_le count most && nat_le count most_homes

-- A store that the journal takes: not too many contents, and home sectors that are there.
unfoldable pub fits : ℕ → ℕ → Store → Bool
fits most room s = count_fits most (length s) && test (each (length s) (λ i. below (at (homes_of s) i) room))

-- the first `count` home sectors that a commit sector names are there
abbrev pub homes_there : ℕ → ℕ → Content → Rule
homes_there count room c = each count (λ i. below (at c (3 + i)) room)

-- every word behind them is zero
abbrev pub zeros_behind : ℕ → Content → Rule
zeros_behind count c = each (most_homes - count) (λ i. same (at c (3 + count + i)) 0)

-- The commit sector of a store that fits. Any other is damaged or foreign.
unfoldable pub valid : ℕ → ℕ → Content → Bool
valid most room c = at c 0 == MAGIC && (count_fits most (at c 2) && (test (homes_there (at c 2) room c) && test (zeros_behind (at c 2) c)))

-- the home sectors that a commit sector names
unfoldable pub named : Content → List ℕ
named c = tab (at c 2) (λ i. at c (3 + i)) 0
