-- The layout by number, for one choice of sizes: what stands in which word of which sector, which sectors a call touches, and the header's words.
use mathlib.Core.Path.{◌≡◌, refl}
use mathlib.Core.List.{List, [], ◌∷◌, ◌++◌}
use Prim.Native.Nat.{ℕ, ◌+◌, ◌*◌}
use Rattle.tables.specs.Base.{at, find, tab}
use Rattle.tables.specs.Rule.{test, sound}
use Rattle.sheets.specs.Sheet.{number, words_in, count_in}
use Rattle.model.specs.declared.sizes.Sizes.{Sizes}
use Rattle.model.specs.declared.event.Design.TheVariants.{Create}
use Rattle.model.specs.declared.event.Account.TheVariants.{Limit}
use Rattle.model.specs.declared.event.Writeback.TheVariants.{MapDone}
use Rattle.model.specs.declared.event.Event.TheVariants as Event
use Rattle.model.specs.Sizes.{sizes_fit, sizes_of}
use Rattle.model.specs.State.{Disk, State}
use Rattle.model.specs.Step.{disk_lengths}
use Rattle.model.specs.Stores.{event, importing}
use Rattle.layout.specs.Rows.{per_row, sector_of, word_of, row_sector}
use Rattle.layout.specs.Laid.{records, maps, highest, header, place, table, width, rows, before, begins, room, table_at, table_of, laid, read_disk}
use Rattle.layout.specs.Touched.{row_at, touches}
use Rattle.layout.proofs.Back.{read_back_holds}

-- W 130, R 2, F 1, S 2, N 3, Q 1, B 1: a record takes two sectors, the second with two words
abbrev z : Sizes
z = sizes_of 130 2 1 2 3 1 1

-- entry i of each table says the table's hundreds and i
abbrev d : Disk
d = record {
  records = tab 260 (λ i. 1000 + i) 0;
  numbers = tab 2 (λ i. 300 + i) 0;
  accounts = tab 2 (λ i. 400 + i) 0;
  maps = tab 6 (λ i. 200 + i) 0;
  limits = 500 ∷ [];
  parents = 600 ∷ [];
  highest = 700 ∷ [];
}

-- the header, two records of two sectors, two maps, five tables of one sector
the_room : room z ≡ 12
unfolding room before table rows width per_row
the_room = refl

-- where each table begins
the_begins : tab 7 (before z) 0 ≡ 1 ∷ 5 ∷ 7 ∷ 8 ∷ 9 ∷ 10 ∷ 11 ∷ []
unfolding tab before table rows width per_row
the_begins = refl

-- k words of a sector, from word w up
abbrev words : ℕ → ℕ → ℕ → List ℕ
words x w k = tab k (at (laid z d x)) w

-- the header says magic, version, W, R, S, N and Q, then zeros
the_header : words 0 0 9 ≡ 0x5045454B ∷ 0x4B534944 ∷ 5 ∷ 130 ∷ 2 ∷ 2 ∷ 3 ∷ 1 ∷ 0 ∷ []
unfolding laid header tab
the_header = refl

-- record 0 stands in sectors 1 and 2, record 1 in 3 and 4; its word 129 is word 1 of sector 4, and zeros are behind it
the_records : (words 1 0 2 ++ words 1 126 2 ≡ 1000 ∷ 1001 ∷ 1126 ∷ 1127 ∷ []) × (words 2 0 3 ≡ 1128 ∷ 1129 ∷ 0 ∷ []) × (words 3 0 2 ≡ 1130 ∷ 1131 ∷ []) × (words 4 0 3 ≡ 1258 ∷ 1259 ∷ 0 ∷ [])
unfolding laid table_at table place before rows width per_row row_sector table_of find tab
the_records = (refl, refl, refl, refl)

the_place : (begins z records + sector_of 130 (1 * 130 + 129) ≡ 4) × (word_of 130 (1 * 130 + 129) ≡ 1)
unfolding before place table rows width per_row sector_of word_of
the_place = (refl, refl)

-- each map in a sector of its own, and each table behind them
the_maps : (words 5 0 4 ≡ 200 ∷ 201 ∷ 202 ∷ 0 ∷ []) × (words 6 0 4 ≡ 203 ∷ 204 ∷ 205 ∷ 0 ∷ [])
unfolding laid table_at table place before rows width per_row row_sector table_of find tab
the_maps = (refl, refl)

the_tables : (words 7 0 3 ≡ 300 ∷ 301 ∷ 0 ∷ []) × (words 8 0 3 ≡ 400 ∷ 401 ∷ 0 ∷ []) × (words 9 0 2 ≡ 500 ∷ 0 ∷ []) × (words 10 0 2 ≡ 600 ∷ 0 ∷ []) × (words 11 0 2 ≡ 700 ∷ 0 ∷ [])
unfolding laid table_at table place before rows width per_row row_sector table_of find tab
the_tables = (refl, refl, refl, refl, refl)

-- the sectors of a row
the_rows : (row_at z records 1 ≡ 3 ∷ 4 ∷ []) × (row_at z maps 1 ≡ 6 ∷ []) × (row_at z highest 0 ≡ 11 ∷ [])
unfolding row_at tab before place table rows width per_row
the_rows = (refl, refl, refl)

-- what calls touch, in any state
module _ (st : State) where
  create_touches : touches z st (event (Event.Design (Create 1 0 9))) ≡ (11 ∷ []) ∷ (7 ∷ 8 ∷ []) ∷ []
  unfolding touches row_at tab before place table rows width per_row
  create_touches = refl

  limit_touches : touches z st (event (Event.Account (Limit 0 9))) ≡ (9 ∷ []) ∷ []
  unfolding touches row_at tab before place table rows width per_row
  limit_touches = refl

  map_touches : (touches z st (event (Event.Writeback (MapDone 1 1))) ≡ (6 ∷ []) ∷ []) × (touches z st (event (Event.Writeback (MapDone 1 0))) ≡ [])
  unfolding touches row_at tab before place table rows width per_row
  map_touches = (refl, refl)

  -- a sheet without pages
  import_touches : touches z st (importing 1 0 9 []) ≡ (11 ∷ []) ∷ (7 ∷ 8 ∷ 6 ∷ []) ∷ []
  unfolding touches count_in words_in number row_at tab before place table rows width per_row
  import_touches = refl

-- these sizes fit and this disk part has its lengths, so the theorem says of it that it is read back
read_again : read_disk z (laid z d) ≡ d
unfolding test tab
read_again = read_back_holds z d (laid z d) (sound (sizes_fit z) tt) (sound (disk_lengths z d) tt) (λ x h. refl)
