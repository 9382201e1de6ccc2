-- Imports and exports, as one table under one theorem, by computation: what is answered, what is left, which stores are made, and a sheet carried to another board.
use Rattle.std.specs.Prelude.{◌≡◌, refl, Bool, true, false, List, [], ◌∷◌, ◌++◌, ℕ, ◌*◌, ◌/◌, ◌%◌, T, replicate, set, take}
use Rattle.tables.specs.Base.{count}
use Rattle.model.specs.declared.sizes.Sizes.{Sizes}
use Rattle.model.specs.Lines.{STATES, FREE, FILED, allowed, by_event, by_import}
use Rattle.model.specs.State.{Disk, State}
use Rattle.model.specs.Export
use Rattle.model.specs.Acts
use Rattle.model.specs.Acts.{Act, World, run, start}
use Rattle.edges.specs.Lists.{limit, create, delete, activate, deactivate, fault, read, write, truncate, update, page_done, map_done, restart, small, sized, junk, cut_in, said, says, leaves}
use Rattle.edges.specs.Edges.{tables, equal}
use Rattle.edges.specs.StoreEdges.{made, may_be}
use Rattle.edges.specs.Packs
use Rattle.edges.specs.Sheets.{sheet, bare, import, opened}

-- what an export leaves of a buffer of so many bytes 7, after a list
unfoldable pub buffer : List Act → ℕ → ℕ → List ℕ
unfolding said leaves
buffer acts s room = (Export.export small (leaves small acts) s (replicate room 7)).left

abbrev export : ℕ → ℕ → Act
export s room = Acts.exporting s (replicate room 7)

-- page 0 of another design is in a frame and charged
abbrev charged : List Act
charged = create 1 0 6 ∷ activate 1 ∷ fault 1 0 ∷ write 1 0 0 5 ∷ []

-- two accounts, the second with limit 0: the first pays for it
abbrev shared : Sizes
shared = record { words = 2; records = 4; frames = 2; slots = 2; pages = 3; accounts = 2; chip = 2 }

-- ── from packs ──
-- slot 1 has design 8: its page 0 is listed in record 1, which holds zeros, its page 2 in record 0
abbrev zeros : Disk
zeros = record { records = 0 ∷ 9 ∷ 0 ∷ 0 ∷ 7 ∷ 7 ∷ 0 ∷ 0 ∷ []; numbers = 0 ∷ 8 ∷ []; accounts = 0 ∷ 0 ∷ []; maps = 0 ∷ 0 ∷ 0 ∷ 2 ∷ 0 ∷ 1 ∷ []; limits = 4 ∷ []; parents = 0 ∷ []; highest = 0 ∷ [] }

unfoldable from_zeros : ℕ → List ℕ
unfolding said Packs.from
from_zeros room = (Export.export small (run small (Packs.from zeros) (restart ∷ [])).state 1 (replicate room 7)).left

-- five records: slot 1 lists record 3 at its page 0
abbrev wide : Sizes
wide = sized 5 2

abbrev third : Disk
third = record { records = replicate 10 6; numbers = 0 ∷ 5 ∷ []; accounts = 0 ∷ 0 ∷ []; maps = 0 ∷ 0 ∷ 0 ∷ 4 ∷ 0 ∷ 0 ∷ []; limits = 5 ∷ []; parents = 0 ∷ []; highest = 0 ∷ [] }

-- records 0 and 1 are taken by an import and freed again, and the hand stands at 2: the next import takes 2, and then 1, which is nearer to it than 4
unfoldable nearer : State
unfolding said
nearer = (run wide (start wide third (junk wide)) (restart ∷ import 0 7 sheet ∷ activate 0 ∷ truncate 0 0 ∷ update 0 ∷ map_done 0 1 ∷ deactivate 0 ∷ delete 0 ∷ import 0 8 sheet ∷ [])).state

-- ── the lines ──
-- how many there are, from any state to any
unfoldable many : (ℕ → ℕ → Bool) → ℕ
unfolding said
many line = count (STATES * STATES) (λ k. line (k / STATES) (k % STATES))

-- ── another board: other R, F, S and Q, the same W and N ──
abbrev there : Sizes
there = record { words = 2; records = 6; frames = 1; slots = 3; pages = 3; accounts = 2; chip = 2 }

-- the sheet of slot 0 here
unfoldable sent : List ℕ
unfolding buffer
sent = take 43 (buffer (opened ++ import 0 9 sheet ∷ []) 0 43)

abbrev arrived : List Act
arrived = restart ∷ limit 1 2 ∷ Acts.importing 2 1 5 sent ∷ activate 2 ∷ []

pub record SheetEdges : Type 0 where
  -- the result is the sheet's own number; slot, account and number in range
  taken : says small (opened ++ import 0 7 sheet ∷ []) ≡ 0 ∷ 9 ∷ []
  slot_past : says small (opened ++ import 2 7 sheet ∷ []) ≡ 3 ∷ 0 ∷ []
  account_past : says small (opened ++ Acts.importing 0 1 7 sheet ∷ []) ≡ 3 ∷ 0 ∷ []
  no_number : says small (opened ++ import 0 0 sheet ∷ []) ≡ 3 ∷ 0 ∷ []
  -- a filled slot, a number that is there; both before 29, 29 before 30, both before 18
  filled : says small (opened ++ create 0 0 8 ∷ import 0 7 sheet ∷ []) ≡ 5 ∷ 0 ∷ []
  known : says small (opened ++ create 1 0 7 ∷ import 0 7 sheet ∷ []) ≡ 6 ∷ 0 ∷ []
  filled_first : says small (opened ++ create 0 0 7 ∷ import 0 7 [] ∷ []) ≡ 5 ∷ 0 ∷ []
  known_first : says small (opened ++ create 1 0 7 ∷ import 0 7 [] ∷ []) ≡ 6 ∷ 0 ∷ []
  form_first : says small (restart ∷ import 0 7 (set (set sheet 6 4) 13 0) ∷ []) ≡ 29 ∷ 0 ∷ []
  sizes_first : says small (restart ∷ import 0 7 (set sheet 6 4) ∷ []) ≡ 30 ∷ 0 ∷ []
  -- 18 for all pages together: at the limit, and one past it; beside a page that is charged; by the account that pays
  at_the_limit : says small (restart ∷ limit 0 2 ∷ import 0 7 sheet ∷ []) ≡ 0 ∷ 9 ∷ []
  past_the_limit : says small (restart ∷ limit 0 1 ∷ import 0 7 sheet ∷ []) ≡ 18 ∷ 0 ∷ []
  beside_at_limit : says small (restart ∷ limit 0 3 ∷ charged ++ import 0 7 sheet ∷ []) ≡ 0 ∷ 9 ∷ []
  beside_past_limit : says small (restart ∷ limit 0 2 ∷ charged ++ import 0 7 sheet ∷ []) ≡ 18 ∷ 0 ∷ []
  payer_at_limit : says shared (restart ∷ limit 0 3 ∷ charged ++ Acts.importing 0 1 7 sheet ∷ []) ≡ 0 ∷ 9 ∷ []
  payer_past_limit : says shared (restart ∷ limit 0 2 ∷ charged ++ Acts.importing 0 1 7 sheet ∷ []) ≡ 18 ∷ 0 ∷ []
  -- 19 for all together: as many free records as pages, and one less; beside a record that is taken; 18 before it
  enough_records : says (sized 2 2) (opened ++ import 0 7 sheet ∷ []) ≡ 0 ∷ 9 ∷ []
  one_record_less : says (sized 1 2) (opened ++ import 0 7 sheet ∷ []) ≡ 19 ∷ 0 ∷ []
  beside_enough : says (sized 3 2) (opened ++ charged ++ import 0 7 sheet ∷ []) ≡ 0 ∷ 9 ∷ []
  beside_one_less : says (sized 2 2) (opened ++ charged ++ import 0 7 sheet ∷ []) ≡ 19 ∷ 0 ∷ []
  limit_first : says (sized 1 2) (restart ∷ limit 0 1 ∷ import 0 7 sheet ∷ []) ≡ 18 ∷ 0 ∷ []
  -- neither of a sheet without pages: limit 0, a full account, no free record
  bare_at_zero : says small (restart ∷ import 0 7 bare ∷ []) ≡ 0 ∷ 9 ∷ []
  bare_at_full : says small (restart ∷ limit 0 1 ∷ charged ++ import 0 7 bare ∷ []) ≡ 0 ∷ 9 ∷ []
  bare_no_record : says (sized 1 2) (opened ++ charged ++ import 0 7 bare ∷ []) ≡ 0 ∷ 9 ∷ []
  bare_past_limit : says small (restart ∷ limit 0 1 ∷ charged ++ limit 0 0 ∷ import 0 7 bare ∷ []) ≡ 0 ∷ 9 ∷ []
  -- a refusal leaves all as it was
  refused_same : T (equal (tables (leaves small (restart ∷ limit 0 1 ∷ import 0 7 sheet ∷ []))) (tables (leaves small (restart ∷ limit 0 1 ∷ []))))
  -- what an import into slot 1 leaves: the caller's number and account, the map, the records' words; filed, of the slot; the hand just past the last one; free map and counts
  numbers_left : (leaves small (opened ++ import 1 7 sheet ∷ [])).disk.numbers ≡ 0 ∷ 7 ∷ []
  account_left : (leaves shared (restart ∷ limit 1 2 ∷ Acts.importing 1 1 7 sheet ∷ [])).disk.accounts ≡ 0 ∷ 1 ∷ []
  map_left_holds : (leaves small (opened ++ import 1 7 sheet ∷ [])).disk.maps ≡ 0 ∷ 0 ∷ 0 ∷ 1 ∷ 0 ∷ 2 ∷ []
  words_left : (leaves small (opened ++ import 1 7 sheet ∷ [])).disk.records ≡ 5 ∷ 0 ∷ 0 ∷ 70000 ∷ 0 ∷ 0 ∷ 0 ∷ 0 ∷ []
  states_left : (leaves small (opened ++ import 1 7 sheet ∷ [])).memory.held.states ≡ 1 ∷ 1 ∷ 0 ∷ 0 ∷ []
  owners_left : (leaves small (opened ++ import 1 7 sheet ∷ [])).memory.held.owners ≡ 1 ∷ 1 ∷ 0 ∷ 0 ∷ []
  free_left_holds : (leaves small (opened ++ import 1 7 sheet ∷ [])).memory.held.free_map ≡ 12 ∷ []
  pool_left : (leaves small (opened ++ import 1 7 sheet ∷ [])).memory.held.pool ≡ record { hand = 2; free = 2 }
  used_left_holds : (leaves small (opened ++ import 1 7 sheet ∷ [])).memory.used ≡ 2 ∷ []
  -- a sheet without pages moves no hand
  bare_hand : (leaves small (opened ++ charged ++ import 0 7 bare ∷ [])).memory.held.pool ≡ record { hand = 1; free = 3 }
  -- the first record by the hand, the next the nearest to it
  nearer_taken : nearer.disk.maps ≡ 3 ∷ 0 ∷ 2 ∷ 4 ∷ 0 ∷ 0 ∷ []
  nearer_hand : nearer.memory.held.pool.hand ≡ 2
  -- eleven lines for events, the twelfth, from free to filed, for imports alone
  twelve_lines : many allowed ≡ 12
  eleven_by_events : many by_event ≡ 11
  one_by_imports : many by_import ≡ 1
  not_by_an_event : by_event FREE FILED ≡ false
  by_an_import : by_import FREE FILED ≡ true
  -- so many stores: the highest number, each page's record, then the slot; a cut falls before or after each but the last
  four_stores : made opened (import 0 7 sheet) ≡ 4
  two_stores : made opened (import 0 7 bare) ≡ 2
  refused_none : made opened (import 0 7 []) ≡ 0
  cut_first : may_be (opened ++ cut_in (import 0 7 sheet) 0 [] [] ∷ restart ∷ []) ≡ true
  cut_last : may_be (opened ++ cut_in (import 0 7 sheet) 3 [] [] ∷ restart ∷ []) ≡ true
  not_after_the_last : may_be (opened ++ cut_in (import 0 7 sheet) 4 [] [] ∷ []) ≡ false
  bare_cut : may_be (opened ++ cut_in (import 0 7 bare) 1 [] [] ∷ restart ∷ []) ≡ true
  not_after_its_last : may_be (opened ++ cut_in (import 0 7 bare) 2 [] [] ∷ []) ≡ false
  not_of_a_refused : may_be (opened ++ cut_in (import 0 7 []) 0 [] [] ∷ []) ≡ false
  not_before_restart : may_be (import 0 7 bare ∷ []) ≡ false
  -- a cut before the last store leaves an empty slot, the records stored
  empty_slot : (leaves small (opened ++ cut_in (import 0 7 sheet) 3 [] [] ∷ [])).disk.numbers ≡ 0 ∷ 0 ∷ []
  empty_map_holds : (leaves small (opened ++ cut_in (import 0 7 sheet) 3 [] [] ∷ [])).disk.maps ≡ replicate 6 0
  one_stored : (leaves small (opened ++ cut_in (import 0 7 sheet) 2 [] [] ∷ [])).disk.records ≡ 5 ∷ 0 ∷ 0 ∷ 0 ∷ 0 ∷ 0 ∷ 0 ∷ 0 ∷ []
  both_stored : (leaves small (opened ++ cut_in (import 0 7 sheet) 3 [] [] ∷ [])).disk.records ≡ 5 ∷ 0 ∷ 0 ∷ 70000 ∷ 0 ∷ 0 ∷ 0 ∷ 0 ∷ []
  -- exported: what was imported, number by number and word by word; bytes after it untouched; one byte too few gets 31, a slot that is empty 4, an active one 9
  back_again : buffer (opened ++ import 0 9 sheet ∷ []) 0 48 ≡ sheet ++ 7 ∷ 7 ∷ 7 ∷ 7 ∷ 7 ∷ []
  its_length : says small (opened ++ import 0 9 sheet ∷ export 0 43 ∷ []) ≡ 0 ∷ 43 ∷ []
  too_short : says small (opened ++ import 0 9 sheet ∷ export 0 42 ∷ []) ≡ 31 ∷ 0 ∷ []
  no_room : says small (opened ++ import 0 9 sheet ∷ export 0 0 ∷ []) ≡ 31 ∷ 0 ∷ []
  untouched : buffer (opened ++ import 0 9 sheet ∷ []) 0 42 ≡ replicate 42 7
  export_past : says small (opened ++ import 0 9 sheet ∷ export 2 43 ∷ []) ≡ 3 ∷ 0 ∷ []
  empty : says small (opened ++ export 0 43 ∷ []) ≡ 4 ∷ 0 ∷ []
  active : says small (opened ++ import 0 9 sheet ∷ activate 0 ∷ export 0 43 ∷ []) ≡ 9 ∷ 0 ∷ []
  active_first : says small (opened ++ import 0 9 sheet ∷ activate 0 ∷ export 0 42 ∷ []) ≡ 9 ∷ 0 ∷ []
  -- a design without pages; a listed record of zeros gives no field
  created : buffer (opened ++ create 0 0 9 ∷ []) 0 18 ≡ bare ++ 7 ∷ []
  zeros_listed : from_zeros 31 ≡ 3 ∷ 0 ∷ 4 ∷ 0 ∷ 2 ∷ 0 ∷ 3 ∷ 1 ∷ 0 ∷ 4 ∷ 0 ∷ 0 ∷ 0 ∷ 8 ∷ 2 ∷ 0 ∷ 10 ∷ 0 ∷ 2 ∷ 0 ∷ 0 ∷ 0 ∷ 0 ∷ 0 ∷ 0 ∷ 0 ∷ 9 ∷ 4 ∷ 0 ∷ 0 ∷ 7 ∷ []
  -- carried to the other board and read there: each word of each page
  carried : says there (arrived ++ []) ≡ 0 ∷ 0 ∷ []
  carried_first : says there (arrived ++ fault 2 0 ∷ page_done 0 1 ∷ read 2 0 0 ∷ []) ≡ 0 ∷ 5 ∷ []
  carried_first_end : says there (arrived ++ fault 2 0 ∷ page_done 0 1 ∷ read 2 0 1 ∷ []) ≡ 0 ∷ 0 ∷ []
  carried_blank : says there (arrived ++ fault 2 1 ∷ read 2 1 0 ∷ []) ≡ 0 ∷ 0 ∷ []
  carried_last : says there (arrived ++ fault 2 2 ∷ page_done 0 1 ∷ read 2 2 1 ∷ []) ≡ 0 ∷ 70000 ∷ []

pub sheet_edges : SheetEdges
unfolding says leaves tables equal buffer made may_be nearer from_zeros sent many allowed by_event by_import
sheet_edges = record {
  taken = refl;
  slot_past = refl;
  account_past = refl;
  no_number = refl;
  filled = refl;
  known = refl;
  filled_first = refl;
  known_first = refl;
  form_first = refl;
  sizes_first = refl;
  at_the_limit = refl;
  past_the_limit = refl;
  beside_at_limit = refl;
  beside_past_limit = refl;
  payer_at_limit = refl;
  payer_past_limit = refl;
  enough_records = refl;
  one_record_less = refl;
  beside_enough = refl;
  beside_one_less = refl;
  limit_first = refl;
  bare_at_zero = refl;
  bare_at_full = refl;
  bare_no_record = refl;
  bare_past_limit = refl;
  refused_same = tt;
  numbers_left = refl;
  account_left = refl;
  map_left_holds = refl;
  words_left = refl;
  states_left = refl;
  owners_left = refl;
  free_left_holds = refl;
  pool_left = refl;
  used_left_holds = refl;
  bare_hand = refl;
  nearer_taken = refl;
  nearer_hand = refl;
  twelve_lines = refl;
  eleven_by_events = refl;
  one_by_imports = refl;
  not_by_an_event = refl;
  by_an_import = refl;
  four_stores = refl;
  two_stores = refl;
  refused_none = refl;
  cut_first = refl;
  cut_last = refl;
  not_after_the_last = refl;
  bare_cut = refl;
  not_after_its_last = refl;
  not_of_a_refused = refl;
  not_before_restart = refl;
  empty_slot = refl;
  empty_map_holds = refl;
  one_stored = refl;
  both_stored = refl;
  back_again = refl;
  its_length = refl;
  too_short = refl;
  no_room = refl;
  untouched = refl;
  export_past = refl;
  empty = refl;
  active = refl;
  active_first = refl;
  created = refl;
  zeros_listed = refl;
  carried = refl;
  carried_first = refl;
  carried_first_end = refl;
  carried_blank = refl;
  carried_last = refl;
}
