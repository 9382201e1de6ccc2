-- What a board is to do: the claims about every list of calls, cuts and kills.
use Rattle.std.specs.Prelude.{◌≡◌, List, [], ◌∷◌, ℕ, zero, suc, ◌<◌, ◌≤◌, T}
use Rattle.tables.specs.Base.{at}
use Rattle.tables.specs.Rule.{Holds}
use Rattle.model.specs.declared.sizes.Sizes.{Sizes}
use Rattle.model.specs.Sizes.{sizes_fit}
use Rattle.model.specs.State.{Disk, Memory, State}
use Rattle.model.specs.Rules.{lower, disk_rules}
use Rattle.model.specs.Restart.{formatted}
use Rattle.model.specs.Step.{disk_lengths, memory_lengths}
use Rattle.model.specs.Acts as K
use Rattle.model.specs.Acts.{Act}
use Rattle.model.specs.OneNumber.{one_number, from_pack_by_number}
use Rattle.model.specs.Demand3.{After, demand3}
use Rattle.model.specs.Terms.{all_answered}
use Rattle.journal.specs.Device.{Sectors}
use Rattle.journal.specs.Layout.{home_at, fits}
use Rattle.layout.specs.Laid.{room, laid}
use Rattle.board.specs.Calls.{Entry, written, entries_of}
use Rattle.board.specs.Board.{Phase, ready, calling, lost, lost_in, Board, Move, call, calls, next, cut, kill, Driver, driver, runs, fresh}

-- the home sectors hold a disk part
abbrev pub Laid : Sizes → ℕ → Disk → Sectors → Type 0
Laid z most d f = (x : ℕ) → x < room z → f (home_at most x) ≡ laid z d x

-- whatever is in memory after a cut, its tables have their lengths
abbrev pub Lengths : Sizes → List Move → Type 0
Lengths z [] = Unit {0}
Lengths z (call a ∷ moves) = Lengths z moves
Lengths z (calls acts ∷ moves) = Lengths z moves
Lengths z (next ∷ moves) = Lengths z moves
Lengths z (cut lands junk ∷ moves) = Holds (memory_lengths z junk) × Lengths z moves
Lengths z (kill junk ∷ moves) = Holds (memory_lengths z junk) × Lengths z moves

-- the disk part was read since the last cut
abbrev pub Readable : Phase → Type 0
Readable ready = Unit {0}
Readable (calling c) = Unit {0}
Readable lost = ⊥
Readable (lost_in c) = ⊥

-- a board, driven so, on a device that holds this disk part
abbrev pub reached : Sizes → Driver → Sectors → Disk → Memory → List Move → Board
reached z v f pack junk moves = runs z v (fresh f (record { disk = pack; memory = junk })) moves

-- what the keeper's world is after the board's past
abbrev pub world : Sizes → Disk → Memory → Board → K.World
world z pack junk b = K.run z (K.start z pack junk) b.past

-- Whatever was called, wherever cuts and kills fell, in recoveries too, whatever landed of the device's sectors: the board's past is a list of acts that demand 3 speaks of, and its tables, once read, are those which that list leaves.
unfoldable pub OnSectors : Sizes → ℕ → Driver → Type 0
OnSectors z most v = (pack : Disk) (junk : Memory) (f : Sectors) (moves : List Move)
    → Holds (sizes_fit z) → Holds (disk_lengths z pack) → Holds (memory_lengths z junk) → Holds (disk_rules z (record { disk = pack; memory = junk })) → Laid z most pack f → Lengths z moves
    → (let b = reached z v f pack junk moves in
    T (K.legal z (K.start z pack junk) b.past) × (Readable b.phase → (b.up ≡ (world z pack junk b).up) × (b.state ≡ (world z pack junk b).state)))

-- So demand 3 holds with a premise about sectors in place of one about stores: from a finished format, of the tables that the board has.
abbrev pub Demand3OnSectors : Type 0
Demand3OnSectors = (z : Sizes) (most : ℕ) (parents : List ℕ) (junk : Memory) (f : Sectors) (moves : List Move)
    → Holds (sizes_fit z) → Holds (lower z.accounts (at parents)) → Holds (memory_lengths z junk) → Laid z most (formatted z parents) f → Lengths z moves
    → (let b = reached z (driver z most) f (formatted z parents) junk moves in
    let w = world z (formatted z parents) junk b in
    After (demand3 z w) z w × (Readable b.phase → (b.up ≡ w.up) × (b.state ≡ w.state)))

-- From any pack, on sectors: no two designs ever have the same number, demand 3 holds with the number in place of the birth, and no act of the past was answered 1 or 2.
abbrev pub OneNumberOnSectors : Type 0
OneNumberOnSectors = (z : Sizes) (most : ℕ) (pack : Disk) (junk : Memory) (f : Sectors) (moves : List Move)
    → Holds (sizes_fit z) → Holds (disk_lengths z pack) → Holds (memory_lengths z junk) → Holds (disk_rules z (record { disk = pack; memory = junk })) → Laid z most pack f → Lengths z moves
    → (let b = reached z (driver z most) f pack junk moves in
    let w = world z pack junk b in
    Holds (one_number w) × Holds (from_pack_by_number z w) × Holds (all_answered z (K.start z pack junk) b.past))

-- so many steps, and then these moves
abbrev pub steps : ℕ → List Move → List Move
steps zero moves = moves
steps (suc n) moves = next ∷ steps n moves

-- Whatever happened, some number of steps later nothing is under way: every call is reported, and every recovery ends.
abbrev pub Finishes : Type 0
Finishes = (z : Sizes) (most : ℕ) (pack : Disk) (junk : Memory) (f : Sectors) (moves : List Move)
    → Holds (sizes_fit z) → 8 ≤ most → Holds (disk_lengths z pack) → Holds (memory_lengths z junk) → Holds (disk_rules z (record { disk = pack; memory = junk })) → Laid z most pack f → Lengths z moves
    → (let v = driver z most in (k : ℕ) × ((runs z v (reached z v f pack junk moves) (steps k [])).phase ≡ ready))

-- what holds of each entry
abbrev pub EachEntry : (Entry → Type 0) → List Entry → Type 0
EachEntry P [] = Unit {0}
EachEntry P (e ∷ es) = P e × EachEntry P es

-- Every entry of every call is one that the journal takes, if its areas have 8 sectors or more.
abbrev pub EntriesFit : Type 0
EntriesFit = (z : Sizes) (most : ℕ) → Holds (sizes_fit z) → 8 ≤ most → (st : State) (a : Act) → EachEntry (λ e. T (fits most (room z) (written z e.disk e.sectors))) (entries_of z st a)
