-- The journal for C: areas of 125 sectors, a number for each of its cases, and the answers where it has none.
use Rattle.std.specs.Prelude.{List, ℕ, ltb, leb, length, Option, Some, None, Result, Ok, Err}
use Rattle.tables.specs.Base.{if}
use Rattle.journal.specs.declared.Ask.{Ask}
use Rattle.journal.specs.declared.Committed.{Committed}
use Rattle.journal.specs.declared.Refusal.{Refusal}
use Rattle.journal.specs.Device.{Content}
use Rattle.journal.specs.Layout.{most_homes, area_at, home_at, commit_words}
use Rattle.disk.specs.declared.stores.Step.{Step}
use Rattle.disk.specs.declared.stores.Found.{Found}

-- how many sectors an area has: as many as a commit sector can name
abbrev pub most : ℕ
most = most_homes

-- ── a number for each case ──
abbrev pub step_of : Ask → Step
step_of Ask.Done = record { what = 0; number = 0 }
step_of (Ask.Content i) = record { what = 1; number = i }
step_of Ask.Sync = record { what = 2; number = 0 }
step_of Ask.Commit = record { what = 3; number = 0 }
step_of (Ask.Home i) = record { what = 4; number = i }

abbrev pub recovery_of : Option ℕ → Step
recovery_of None = record { what = 0; number = 0 }
recovery_of (Some i) = record { what = 5; number = i }

abbrev pub refusal_number : Refusal → ℕ
refusal_number Refusal.Foreign = 1
refusal_number Refusal.TooMany = 2
refusal_number Refusal.NoHome = 3
refusal_number Refusal.NotZero = 4

abbrev pub found_of : Result Committed Refusal → Found
found_of (Ok s) = record { what = 0; sequence = s.sequence; count = s.count }
found_of (Err e) = record { what = refusal_number e; sequence = 0; count = 0 }

-- ── where there is none ──
-- content i of store n; 0, the commit's sector, past the area
unfoldable pub area_of : ℕ → ℕ → ℕ
area_of n i = if (ltb i most) (area_at most n i) 0

-- home sector x; 0, the commit's sector, past 32 bits
unfoldable pub home_of : ℕ → ℕ
home_of x = if (ltb (home_at most x) 4294967296) (home_at most x) 0

-- the commit sector, and the answer: 1, and nothing is written, where it cannot name so many
abbrev pub commit_answer : List ℕ → ℕ
commit_answer homes = if (leb (length homes) most_homes) 0 1

unfoldable pub commit_left : ℕ → List ℕ → Content → Content
commit_left n homes old = if (leb (length homes) most_homes) (commit_words n homes) old
