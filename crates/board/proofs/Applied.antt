-- The board computed along lists of moves: what its tables hold and what has happened, so that the theorems speak of something.
use mathlib.Core.Path.{◌≡◌, refl}
use mathlib.Core.Bool.{Bool, true, false}
use mathlib.Core.List.{List, [], ◌∷◌}
use Prim.Native.Nat.{ℕ, ◌-◌}
use lib.Dec.{ltb}
use lib.ListN.{length}
use Rattle.tables.specs.Base.{at, if}
use Rattle.model.specs.State.{Disk}
use Rattle.model.specs.Restart.{formatted}
use Rattle.model.specs.Acts.{Act}
use Rattle.edges.specs.Lists.{small, junk, restart, limit, create, activate, fault, write, claim, page_done, update, map_done, said}
use Rattle.journal.specs.Device as Device
use Rattle.journal.specs.Device.{Sectors, landed, now, carry}
use Rattle.journal.specs.Layout.{odd, next_sequence, area_at, home_at, zeros, commit_words, homes_of, commit_of, fits, valid, named}
use Rattle.journal.specs.Journal as J
use Rattle.layout.specs.Rows.{per_row, sector_of, word_of, row_sector, read_rows}
use Rattle.layout.specs.Laid.{header, width, rows, table, place, before, room, table_at, table_of, laid, read_table, read_disk}
use Rattle.layout.specs.Touched.{row_at, touches, touched}
use Rattle.board.specs.Calls as Calls
use Rattle.board.specs.Board as Board
use Rattle.board.specs.Board.{Move, call, calls, cut, kill, Driver, driver}
use Rattle.board.specs.Claims.{steps, reached}

-- areas of four sectors, empty, and behind them a disk part of the event program's sizes, formatted
abbrev pub most : ℕ
most = 4

abbrev pub pack : Disk
pack = formatted small (0 ∷ [])

abbrev pub device : Sectors
device s = if (ltb s 9) [] (laid small pack (s - 9))

-- a call, and steps enough for it to be reported; after the report a step does nothing
abbrev pub done : Act → List Move → List Move
done a moves = call a ∷ steps 20 moves

abbrev pub after : Driver → List Move → Board.Board
after v moves = reached small v device pack (junk small) moves

-- the account's limit, the slot's number, the first two entries of its map, the first words of two records; and how many acts the past has
unfoldable pub shows : Board.Board → List ℕ
unfolding said landed now carry Device.cut odd next_sequence area_at home_at zeros commit_words homes_of commit_of fits valid named J.syncs J.to_area J.to_home J.planned J.journal J.read_back J.sequence J.look J.go_on J.take_up J.act J.run J.start
    per_row sector_of word_of row_sector read_rows header width rows table place before room table_at table_of laid read_table read_disk row_at touches touched
    Calls.written Calls.raises Calls.stores_of Calls.sectors_of Calls.in_turn Calls.entries_of Calls.left_by Calls.joined Calls.together Board.interrupted Board.left_after Board.up_after driver Board.go_on Board.move Board.runs Board.fresh
shows b = at b.state.disk.limits 0 ∷ at b.state.disk.numbers 0 ∷ at b.state.disk.maps 0 ∷ at b.state.disk.maps 1 ∷ at b.state.disk.records 0 ∷ at b.state.disk.records 2 ∷ length b.past ∷ []

-- a design with two pages written in frames, and both on their way to the disk
abbrev pub claimed : List Move → List Move
claimed moves = steps 5 (done restart (done (limit 0 3) (done (create 0 0 7) (done (activate 0) (done (fault 0 0) (done (fault 0 1) (done (write 0 0 0 9) (done (write 0 1 0 8) (done claim (done claim moves))))))))))

-- Both pages one entry, then the map: each call is reported.
abbrev pub saved : List Move → List Move
saved moves = claimed (calls (page_done 0 1 ∷ page_done 1 1 ∷ []) ∷ steps 20 (done (update 0) (done (map_done 0 1) moves)))

-- the power fails when the map's commit sector is written and not synced: it lands, or it does not
abbrev pub torn : Bool → List Move
torn lands = claimed (calls (page_done 0 1 ∷ page_done 1 1 ∷ []) ∷ steps 20 (done (update 0) (call (map_done 0 1) ∷ steps 4 (cut (λ i. lands) (junk small) ∷ steps 9 []))))

-- the program ends there, and the power fails in the recovery, before its first sync
abbrev pub torn_later : Bool → List Move
torn_later lands = claimed (calls (page_done 0 1 ∷ page_done 1 1 ∷ []) ∷ steps 20 (done (update 0) (call (map_done 0 1) ∷ steps 4 (kill (junk small) ∷ cut (λ i. lands) (junk small) ∷ steps 9 []))))

abbrev right : List Move → List ℕ
right moves = shows (after (driver small most) moves)

pub computed : (right (saved []) ≡ 3 ∷ 7 ∷ 1 ∷ 2 ∷ 9 ∷ 8 ∷ 15 ∷ []) × (right (torn true) ≡ 3 ∷ 7 ∷ 1 ∷ 2 ∷ 9 ∷ 8 ∷ 16 ∷ []) × (right (torn false) ≡ 3 ∷ 7 ∷ 0 ∷ 0 ∷ 9 ∷ 8 ∷ 15 ∷ [])
    × (right (torn_later true) ≡ 3 ∷ 7 ∷ 1 ∷ 2 ∷ 9 ∷ 8 ∷ 16 ∷ []) × (right (torn_later false) ≡ 3 ∷ 7 ∷ 0 ∷ 0 ∷ 9 ∷ 8 ∷ 15 ∷ [])
unfolding shows
computed = (refl, refl, refl, refl, refl)
