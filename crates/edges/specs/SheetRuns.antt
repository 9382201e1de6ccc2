-- Claim, invariant and rules, computed after every act of lists with imports, exports and cuts inside imports; and worlds with an import that the claim must deny.
use Rattle.std.specs.Prelude.{◌≡◌, refl, List, [], ◌∷◌, ◌++◌, ℕ, T, replicate, set}
use Rattle.model.specs.State.{Disk, State}
use Rattle.model.specs.Setters.{on_disk, set_records, set_maps, raise}
use Rattle.model.specs.Import
use Rattle.model.specs.Ledger
use Rattle.model.specs.Acts
use Rattle.model.specs.Acts.{Act, World, run}
use Rattle.edges.specs.Lists.{limit, create, delete, activate, deactivate, fault, read, write, claim, truncate, update, page_done, map_done, restart, small, cut, cut_in, said, begin}
use Rattle.edges.specs.Runs.{holds, stands}
use Rattle.edges.specs.Packs
use Rattle.edges.specs.Worlds.{whole, dropped, hurt, denied, seen}
use Rattle.edges.specs.Sheets.{sheet, bare, import, opened}

abbrev export : ℕ → ℕ → Act
export s room = Acts.exporting s (replicate room 7)

-- ── lists ──
-- imported, and read
abbrev imported : List Act
imported = opened ++ import 0 7 sheet ∷ []

abbrev read_last : List Act
read_last = activate 0 ∷ fault 0 2 ∷ page_done 0 1 ∷ read 0 2 1 ∷ []

-- another design: page 0 stored and its update under way, page 1 being written
abbrev beside : List Act
beside = create 1 0 6 ∷ activate 1 ∷ fault 1 0 ∷ write 1 0 0 5 ∷ claim ∷ page_done 0 1 ∷ update 1 ∷ fault 1 1 ∷ write 1 1 1 6 ∷ claim ∷ []

-- ── the hurts ──
-- the last page's record holds zeros; the words of the first page; the first page's those of the last
abbrev last_unwritten : Disk → Disk
last_unwritten = set_records (5 ∷ 0 ∷ 0 ∷ 0 ∷ 0 ∷ 0 ∷ 0 ∷ 0 ∷ [])

abbrev first_twice : Disk → Disk
first_twice = set_records (5 ∷ 0 ∷ 5 ∷ 0 ∷ 0 ∷ 0 ∷ 0 ∷ 0 ∷ [])

-- the two records are listed at each other's pages; the last page is not listed; the first page's record stands at both
abbrev exchanged : Disk → Disk
exchanged = set_maps (2 ∷ 0 ∷ 1 ∷ 0 ∷ 0 ∷ 0 ∷ [])

abbrev last_dropped : Disk → Disk
last_dropped = set_maps (1 ∷ 0 ∷ 0 ∷ 0 ∷ 0 ∷ 0 ∷ [])

abbrev doubled : Disk → Disk
doubled = set_maps (1 ∷ 0 ∷ 1 ∷ 0 ∷ 0 ∷ 0 ∷ [])

-- ── the slot stored before the last record ──
-- the number, the first record and the slot are stored, as a keeper with the wrong order would leave it: the ledger is fed what these two stores feed
unfoldable early : World
unfolding begin
early = let w = run small (begin small) opened in let h = Import.sheet_of sheet in record {
  up = w.up;
  state = on_disk (λ d. Import.store_slot small w.state 0 0 7 h (Import.made small w.state 0 0 7 h 1 (raise 7 d))) w.state;
  ledger = Ledger.note small (Acts.partly small w.state 0 7 h 1 w.ledger) (Ledger.imported_slot 0 (Import.has h) (Import.said h));
}

-- the ledger is fed the first record's store alone: the map lists records of no design
unfoldable untold : World
unfolding begin early
untold = let w = run small (begin small) opened in record { up = w.up; state = early.state; ledger = Acts.partly small w.state 0 7 (Import.sheet_of sheet) 1 w.ledger }

pub record SheetRuns : Type 0 where
  -- imported, read, cut, and read again; written further and cut; exported in between
  read_again : T (holds (imported ++ activate 0 ∷ fault 0 0 ∷ page_done 0 1 ∷ read 0 0 0 ∷ fault 0 2 ∷ page_done 1 1 ∷ read 0 2 1 ∷ cut [] [] ∷ restart ∷ export 0 43 ∷ read_last))
  woven_further : T (holds (imported ++ export 0 50 ∷ read_last ++ write 0 2 1 6 ∷ claim ∷ update 0 ∷ cut (0 ∷ []) (0 ∷ []) ∷ restart ∷ export 0 43 ∷ read_last))
  -- a cut after each number of stores leaves an empty slot, which is filled anew, and the sheet is imported
  cut_inside_holds : T (holds (opened ++ cut_in (import 0 7 sheet) 0 [] [] ∷ restart ∷ create 0 0 7 ∷ delete 0 ∷ cut_in (import 0 8 sheet) 1 [] [] ∷ restart ∷ create 0 0 9 ∷ delete 0
      ∷ cut_in (import 0 10 sheet) 2 [] [] ∷ restart ∷ cut_in (import 0 11 sheet) 3 [] [] ∷ restart ∷ import 0 12 sheet ∷ cut [] [] ∷ restart ∷ read_last))
  bare_cut : T (holds (opened ++ cut_in (import 0 7 bare) 0 [] [] ∷ restart ∷ cut_in (import 0 7 bare) 1 [] [] ∷ restart ∷ import 0 8 bare ∷ cut [] [] ∷ restart ∷ activate 0 ∷ fault 0 1 ∷ read 0 1 1 ∷ []))
  -- a cut inside an import at which another design's write and update land, and one at which they do not
  others_land : T (holds (opened ++ beside ++ cut_in (import 0 7 sheet) 2 (1 ∷ []) (1 ∷ []) ∷ restart ∷ activate 1 ∷ fault 1 0 ∷ page_done 0 1 ∷ read 1 0 0 ∷ []))
  others_lost : T (holds (opened ++ beside ++ cut_in (import 0 7 sheet) 3 [] [] ∷ restart ∷ import 0 8 sheet ∷ activate 1 ∷ fault 1 0 ∷ read 1 0 0 ∷ []))
  others_go_on : T (holds (opened ++ beside ++ import 0 7 sheet ∷ map_done 1 1 ∷ page_done 1 1 ∷ cut [] [] ∷ restart ∷ read_last))
  -- another design's copy stays in the chip, and is taken; an imported page is read, goes in and is taken from there
  others_copied : T (holds (opened ++ create 1 0 6 ∷ activate 1 ∷ fault 1 0 ∷ write 1 0 0 5 ∷ claim ∷ page_done 0 1 ∷ import 0 7 sheet ∷ fault 1 0 ∷ read 1 0 0 ∷ read_last ++ claim ∷ claim ∷ fault 0 2 ∷ read 0 2 1
      ∷ cut [] [] ∷ restart ∷ read_last))
  -- imported pages are truncated and freed; their records are taken again by two more imports
  taken_again : T (holds (imported ++ activate 0 ∷ truncate 0 0 ∷ update 0 ∷ map_done 0 1 ∷ deactivate 0 ∷ delete 0 ∷ import 1 8 sheet ∷ import 0 9 sheet ∷ cut [] [] ∷ restart ∷ read_last))
  -- a truncate that no update follows: a cut brings the imported words back
  back : T (holds (imported ++ activate 0 ∷ truncate 0 0 ∷ cut [] [] ∷ restart ∷ read_last))
  -- refused imports and exports among them: 5, 6, 33, 29, 30, 18, 31, 4, 9
  refused : T (stands (imported ++ import 0 5 sheet ∷ import 1 7 sheet ∷ import 1 6 sheet ∷ import 1 8 [] ∷ import 1 8 (set bare 4 3) ∷ limit 0 3 ∷ import 1 8 sheet ∷ export 0 42 ∷ export 1 43 ∷ activate 0 ∷ export 0 43 ∷ cut [] [] ∷ restart ∷ []))
  -- from a pack that no format made
  from_pack_holds : T (Packs.holds Packs.one (restart ∷ cut_in (import 0 9 sheet) 2 [] [] ∷ restart ∷ import 0 10 sheet ∷ export 1 43 ∷ cut [] [] ∷ restart ∷ read_last))
  -- ── worlds ──
  -- unhurt, nothing is denied; a dropped, exchanged or doubled page, and words that are not the sheet's, are denied
  imported_whole : seen (hurt whole imported) ≡ [] ∷ [] ∷ [] ∷ [] ∷ []
  imported_dropped : seen (hurt dropped imported) ≡ (3 ∷ 5 ∷ []) ∷ (3 ∷ 4 ∷ 5 ∷ []) ∷ (3 ∷ 5 ∷ []) ∷ (3 ∷ 4 ∷ 5 ∷ []) ∷ []
  imported_last : seen (hurt last_dropped imported) ≡ (3 ∷ 5 ∷ []) ∷ (3 ∷ 4 ∷ 5 ∷ []) ∷ (3 ∷ 5 ∷ []) ∷ (3 ∷ 4 ∷ 5 ∷ []) ∷ []
  imported_exchanged : seen (hurt exchanged imported) ≡ (2 ∷ 5 ∷ []) ∷ (2 ∷ 4 ∷ 5 ∷ []) ∷ (2 ∷ 5 ∷ []) ∷ (2 ∷ 4 ∷ 5 ∷ []) ∷ []
  imported_doubled : denied (hurt doubled imported) ≡ 1 ∷ 2 ∷ 5 ∷ []
  imported_unwritten : seen (hurt last_unwritten imported) ≡ (2 ∷ 5 ∷ []) ∷ (2 ∷ 4 ∷ 5 ∷ []) ∷ (2 ∷ 5 ∷ []) ∷ (2 ∷ 4 ∷ 5 ∷ []) ∷ []
  imported_twice : seen (hurt first_twice imported) ≡ (2 ∷ 5 ∷ []) ∷ (2 ∷ 4 ∷ 5 ∷ []) ∷ (2 ∷ 5 ∷ []) ∷ (2 ∷ 4 ∷ 5 ∷ []) ∷ []
  -- the slot stored before the last record: denied as it stands, at a cut there and after a restart
  slot_early : seen early ≡ (2 ∷ 5 ∷ []) ∷ (2 ∷ 4 ∷ 5 ∷ []) ∷ (2 ∷ 5 ∷ []) ∷ (2 ∷ 4 ∷ 5 ∷ []) ∷ []
  slot_untold : seen untold ≡ (2 ∷ 5 ∷ []) ∷ (2 ∷ 5 ∷ []) ∷ (2 ∷ 5 ∷ []) ∷ (2 ∷ 5 ∷ []) ∷ []

pub sheet_runs : SheetRuns
unfolding holds stands Packs.holds hurt seen denied early untold
sheet_runs = record {
  read_again = tt;
  woven_further = tt;
  cut_inside_holds = tt;
  bare_cut = tt;
  others_land = tt;
  others_lost = tt;
  others_go_on = tt;
  others_copied = tt;
  taken_again = tt;
  back = tt;
  refused = tt;
  from_pack_holds = tt;
  imported_whole = refl;
  imported_dropped = refl;
  imported_last = refl;
  imported_exchanged = refl;
  imported_doubled = refl;
  imported_unwritten = refl;
  imported_twice = refl;
  slot_early = refl;
  slot_untold = refl;
}
