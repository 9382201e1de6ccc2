-- What the claim denies: worlds of which one is hurt, and keepers that do an event wrongly.
use Rattle.std.specs.Prelude.{◌≡◌, refl, Bool, true, false, not, List, [], ◌∷◌, ◌++◌, ℕ, zero, suc, ◌/◌, ltb, length, take, set}
use Rattle.tables.specs.Base.{at, if, all}
use Rattle.tables.specs.Rule.{test}
use Rattle.sheets.specs.Sheet.{printed}
use Rattle.model.specs.declared.event.Page.TheVariants.{Fault, Write}
use Rattle.model.specs.declared.event.Writeback.TheVariants.{Claim, Truncate, PageDone}
use Rattle.model.specs.declared.event.Event.{Event}
use Rattle.model.specs.declared.event.Event.TheVariants as Event
use Rattle.model.specs.Lines.{FREE}
use Rattle.model.specs.State.{Disk, State}
use Rattle.model.specs.Setters.{on_disk, on_core, on_held, set_records, set_maps, set_limits, set_words, set_addresses, set_states, set_hand, set_used, set_chip}
use Rattle.model.specs.Parts.{word_at}
use Rattle.model.specs.Accounts
use Rattle.model.specs.Step.{carried, whole}
use Rattle.model.specs.Export.{page_text}
use Rattle.model.specs.Demand3.{last_into}
use Rattle.model.specs.Acts.{Act, World, run, start}
use Rattle.edges.specs.Lists.{limit, create, delete, activate, deactivate, fault, read, write, wire, claim, truncate, update, page_done, map_done, turn, look, restart, small, said}
use Rattle.edges.specs.Sheets.{import}
use Rattle.isolation.specs.Words.{set_copied}
use Rattle.isolation.specs.Answers.{results}
use Rattle.isolation.specs.Shown.{listed_like, imaged_like, live_like, frames_like, copies_like, places_like, written_like, untouched_like, words_like}
use Rattle.isolation.specs.Pairs.{disk_tables, memory_tables, same, Board, first, second, fresh, rubbish, cut_at, export_to, opened, put}

-- the sentences that say no: 1 the disk's tables, 2 the memory's, 3 listed records, 4 those of begun images, 5 live ones, 6 frames, 7 records that were written, 8 records that were not; 9 copies in the chip, 10 its empty places; 11 the words as a whole
unfoldable denied : World → World → List ℕ
unfolding said last_into listed_like imaged_like live_like frames_like copies_like places_like written_like untouched_like words_like
denied w w' = no 1 (same (disk_tables w.state.disk) (disk_tables w'.state.disk)) (no 2 (same (memory_tables w.state.memory) (memory_tables w'.state.memory))
    (no 3 (test (listed_like small 1 w w')) (no 4 (test (imaged_like small 1 w w')) (no 5 (test (live_like small 1 w w')) (no 6 (test (frames_like small 1 w w')) (no 7 (test (written_like small 1 w w')) (no 8 (test (untouched_like small 1 w w'))
    (no 9 (test (copies_like small 1 w w')) (no 10 (test (places_like small 1 w w')) (no 11 (test (words_like small 1 w w')) []))))))))))
  where
    no : ℕ → Bool → List ℕ → List ℕ
    no n true rest = rest
    no n false rest = n ∷ rest

abbrev on_state : (State → State) → World → World
on_state f w = record { up = w.up; state = f w.state; ledger = w.ledger }

-- the two worlds after a list, the second one hurt
unfoldable after : (Board → List Act) → (State → State) → List ℕ
unfolding said fresh rubbish denied
after acts hurt = denied (run small (fresh first) (acts first)) (on_state hurt (run small (fresh second) (acts second)))

-- the two worlds after a list and a wrong event
unfoldable wrongly : (Board → List Act) → (Board → State → State) → List ℕ
unfolding said fresh rubbish denied
wrongly acts event = denied (on_state (event first) (run small (fresh first) (acts first))) (on_state (event second) (run small (fresh second) (acts second)))

-- what is handed back after a list, on one board
unfoldable handed : {A : Type 0} → (Board → List Act) → (State → A) → Board → A
unfolding said fresh rubbish
handed acts call b = call (run small (fresh b) (acts b)).state

-- ── two packs ──
-- the hidden design lists record 0, which holds 9 on one board and 4 on the other
abbrev pack_of : ℕ → Disk
pack_of x = record { records = x ∷ 0 ∷ 0 ∷ 0 ∷ 0 ∷ 0 ∷ 0 ∷ 0 ∷ []; numbers = 7 ∷ 0 ∷ []; accounts = 0 ∷ 0 ∷ []; maps = 1 ∷ 0 ∷ 0 ∷ 0 ∷ 0 ∷ 0 ∷ []; limits = 4 ∷ []; parents = 0 ∷ []; highest = 7 ∷ [] }

-- the two worlds after a list from them, both hurt alike, and the second one's record 0 zeros
unfoldable blanked : List Act → (State → State) → List ℕ
unfolding said rubbish denied
blanked acts hurt = denied (on_state hurt (run small (start small (pack_of 9) first.memory) acts)) (on_state (λ st. on_disk (set_records (0 ∷ 0 ∷ 0 ∷ 0 ∷ 0 ∷ 0 ∷ 0 ∷ 0 ∷ [])) (hurt st)) (run small (start small (pack_of 4) second.memory) acts))

-- no page is listed; and none has an address
abbrev unlisted : State → State
unlisted st = on_disk (set_maps (0 ∷ 0 ∷ 0 ∷ 0 ∷ 0 ∷ 0 ∷ [])) st

abbrev unheld : State → State
unheld st = on_held (set_addresses (0 ∷ 0 ∷ 0 ∷ 0 ∷ 0 ∷ 0 ∷ [])) (unlisted st)

-- ── the lists ──
-- a page of each design in a frame: the hidden one's holds 9 or 4, the other's 6
abbrev framed : Board → List Act
framed b = opened ++ put b ++ fault 0 0 ∷ fault 1 0 ∷ []

-- the hidden design's page has left frame 0, and the other design's is being read into it
abbrev reading : Board → List Act
reading b = opened ++ put b ++ deactivate 1 ∷ activate 1 ∷ fault 1 0 ∷ []

-- the hidden design's record has been freed, and the other design's page 1 holds it, nulled
abbrev taken : Board → List Act
taken b = opened ++ put b ++ truncate 0 0 ∷ update 0 ∷ map_done 0 1 ∷ fault 1 1 ∷ []

-- an update of the other design is under way, and its page is written further
abbrev begun : Board → List Act
begun b = framed b ++ update 1 ∷ []

-- the hidden design's page is written in its frame, and may be claimed
abbrev due : Board → List Act
due b = opened ++ put b ++ fault 0 0 ∷ write 0 0 0 (b.value 1) ∷ []

-- the hidden design's copy is dropped: its place, the first, is empty
abbrev dropped : Board → List Act
dropped b = opened ++ put b ++ truncate 0 0 ∷ []

-- the chip with other words, and with other places
abbrev in_chip : List ℕ → State → State
in_chip ws st = set_chip (set_copied ws st.memory.chip) st

abbrev in_places : List ℕ → List ℕ → State → State
in_places rs n st = set_chip (record { words = st.memory.chip.words; copies = rs; next = n }) st

-- ── the wrong keepers ──
-- a fault that does not zero the frame
abbrev unzeroed : Board → State → State
unzeroed b st = on_core (set_words st.memory.core.words) (carried small st (Event.Page (Fault 1 1)))

-- a page look that is not refused while the page is being read
abbrev looked_early : State → List ℕ
looked_early st = take 2 st.memory.core.words

-- the other design's listed record, cut from its page, is handed out to the hidden one, which writes it
abbrev freed : State → State
freed st = on_held (λ h. set_hand 1 (set_states (set h.states 1 FREE) h)) st

abbrev in_turn : List Event → State → State
in_turn [] st = st
in_turn (e ∷ es) st = in_turn es (carried small st e)

abbrev handed_out : Board → State → State
handed_out b st = in_turn (Event.Page (Fault 0 2) ∷ Event.Page (Write 0 2 0 (b.value 1)) ∷ Event.Writeback Claim ∷ Event.Writeback (PageDone 1 1) ∷ []) (freed st)

-- a limit that is refused while the first word of the frames is 5 or more
abbrev limit_by_word : Board → State → State
limit_by_word b st = if (ltb (at st.memory.core.words 0) 5) (Accounts.limit small st 0 3) st

-- a claim that takes a page of words below 5 for a page of zeros
abbrev claim_below : Board → State → State
claim_below b st = carried small (if (all small.words (λ k. ltb (word_at small st.memory.core.words 0 k) 5)) (on_core (set_words (0 ∷ 0 ∷ 0 ∷ 0 ∷ [])) st) st) (Event.Writeback Claim)

-- an export that leaves out a page of words below 5
abbrev export_below : State → ℕ
export_below st = length (printed small.words small.pages 7 (λ p j. page_text small st 0 p j / 5))

-- .. and one that has a field for each listed page, by its entry: its length is that of the map, so the claim does not deny it
abbrev export_by_entry : State → ℕ
export_by_entry st = length (printed small.words small.pages 7 (λ p j. at st.disk.maps p))

-- a truncate that empties a copy's place and leaves its words there
abbrev lingers : Board → State → State
lingers b st = in_chip st.memory.chip.words (whole small st (Event.Writeback (Truncate 0 0)))

-- a keeper that has not dropped the copy of a record which has passed to the other design
abbrev undropped : Board → State → State
undropped b st = set_chip (record { words = b.value 1 ∷ 0 ∷ 0 ∷ 6 ∷ []; copies = 1 ∷ 2 ∷ []; next = 0 ∷ [] }) st

-- a fault that takes a copy only if its first word is below 5
abbrev fault_by_word : Board → State → State
fault_by_word b st = if (ltb (at st.memory.chip.words 0) 5) (whole small st (Event.Page (Fault 0 0))) (carried small st (Event.Page (Fault 0 0)))

-- an act of each kind, but a read of the hidden design, if that is in slot 1
abbrev id : ℕ → ℕ
id s = s

abbrev nth : ℕ → Act
nth k = pick k (limit 0 1 ∷ create 0 0 7 ∷ delete 1 ∷ activate 1 ∷ deactivate 1 ∷ fault 1 0 ∷ write 1 0 0 1 ∷ wire 1 0 ∷ claim ∷ truncate 1 0 ∷ turn ∷ look 1 0 ∷ export_to 1 9 ∷ import 1 7 [] ∷ restart ∷ [])
  where
    pick : ℕ → List Act → Act
    pick k [] = read 0 0 0
    pick zero (a ∷ acts) = a
    pick (suc k) (a ∷ acts) = pick k acts

pub record Denials : Type 0 where
  -- unhurt, nothing is denied
  whole : after framed (λ st. st) ≡ []
  -- a word of the other design in its frame, and in its record, which is listed and live; and in a begun image
  frame : after framed (on_core (set_words (4 ∷ 0 ∷ 0 ∷ 7 ∷ []))) ≡ 6 ∷ 11 ∷ []
  record' : after framed (on_disk (set_records (4 ∷ 0 ∷ 0 ∷ 7 ∷ 0 ∷ 0 ∷ 0 ∷ 0 ∷ []))) ≡ 3 ∷ 5 ∷ 7 ∷ 11 ∷ []
  image : after begun (on_disk (set_records (4 ∷ 0 ∷ 0 ∷ 7 ∷ 0 ∷ 0 ∷ 0 ∷ 0 ∷ []))) ≡ 3 ∷ 4 ∷ 5 ∷ 7 ∷ 11 ∷ []
  -- the hidden design's words may be any, but zero on both or on neither
  other_value : after framed (on_core (set_words (1 ∷ 0 ∷ 0 ∷ 6 ∷ []))) ≡ []
  zero_on_one : after framed (on_core (set_words (0 ∷ 0 ∷ 0 ∷ 6 ∷ []))) ≡ 6 ∷ 11 ∷ []
  zero_record : after framed (on_disk (set_records (4 ∷ 1 ∷ 0 ∷ 6 ∷ 0 ∷ 0 ∷ 0 ∷ 0 ∷ []))) ≡ 3 ∷ 5 ∷ 7 ∷ 11 ∷ []
  -- a record of the pack that only the file map names, only a live address, only a begun image
  listed_alone : blanked (restart ∷ []) (λ st. st) ≡ 3 ∷ 11 ∷ []
  live_alone : blanked (restart ∷ activate 0 ∷ []) unlisted ≡ 5 ∷ 11 ∷ []
  imaged_alone : blanked (restart ∷ activate 0 ∷ update 0 ∷ []) unheld ≡ 4 ∷ 11 ∷ []
  -- a table
  table : after framed (on_disk (set_limits (5 ∷ []))) ≡ 1 ∷ []
  used : after framed (set_used (1 ∷ [])) ≡ 2 ∷ []
  -- a record that nobody has written since the format
  untouched : after framed (on_disk (set_records (4 ∷ 0 ∷ 0 ∷ 6 ∷ 1 ∷ 0 ∷ 0 ∷ 0 ∷ []))) ≡ 8 ∷ 11 ∷ []
  -- not what an earlier holder left in a reading frame, nor what stands in a free one
  left : after reading (on_core (set_words (3 ∷ 3 ∷ 3 ∷ 3 ∷ []))) ≡ []
  -- until the restart only the disk is compared: the words as a whole are not denied by what memory holds, but by a listed record
  down : after (λ b. framed b ++ cut_at b [] [] ∷ []) (λ st. st) ≡ 2 ∷ 5 ∷ 6 ∷ []
  down_record : after (λ b. framed b ++ cut_at b [] [] ∷ []) (on_disk (set_records (4 ∷ 0 ∷ 0 ∷ 7 ∷ 0 ∷ 0 ∷ 0 ∷ 0 ∷ []))) ≡ 2 ∷ 3 ∷ 4 ∷ 5 ∷ 6 ∷ 7 ∷ 11 ∷ []
  -- nor what one left in a record that another design holds now and has not written, but for zeros
  held : after taken (on_disk (set_records (1 ∷ 0 ∷ 0 ∷ 6 ∷ 0 ∷ 0 ∷ 0 ∷ 0 ∷ []))) ≡ []
  held_zero : after taken (on_disk (set_records (0 ∷ 0 ∷ 0 ∷ 6 ∷ 0 ∷ 0 ∷ 0 ∷ 0 ∷ []))) ≡ 7 ∷ 11 ∷ []
  -- a fault that does not zero a page's frame
  unzeroed_denied : wrongly (λ b. opened ++ put b) unzeroed ≡ 6 ∷ 11 ∷ []
  -- a look at a reading frame of the other design would show the hidden one's words: 9 on one board, 4 on the other
  looked_early_holds : handed reading looked_early first ≡ 9 ∷ 0 ∷ []
  looked_early' : handed reading looked_early second ≡ 4 ∷ 0 ∷ []
  -- a record handed out while it is listed
  handed_out_holds : wrongly (λ b. framed b ++ truncate 1 0 ∷ claim ∷ []) handed_out ≡ 3 ∷ 7 ∷ 11 ∷ []
  -- the chip: a word of the other design's copy; the hidden one's may be any, but zero on both or on neither; a word in an empty place; a place, the next place
  copy : after framed (in_chip (4 ∷ 0 ∷ 0 ∷ 7 ∷ [])) ≡ 9 ∷ 11 ∷ []
  copy_value : after framed (in_chip (1 ∷ 0 ∷ 0 ∷ 6 ∷ [])) ≡ []
  copy_zero : after framed (in_chip (0 ∷ 0 ∷ 0 ∷ 6 ∷ [])) ≡ 9 ∷ 11 ∷ []
  empty_place : after dropped (in_chip (1 ∷ 0 ∷ 0 ∷ 6 ∷ [])) ≡ 10 ∷ 11 ∷ []
  place : after framed (in_places (1 ∷ 3 ∷ []) (0 ∷ [])) ≡ 2 ∷ []
  next : after framed (in_places (1 ∷ 2 ∷ []) (1 ∷ [])) ≡ 2 ∷ []
  -- words that stay in a dropped copy's place, a copy that stays when its record passes on, a copy that is taken by what it holds
  lingers_denied : wrongly (λ b. opened ++ put b) lingers ≡ 10 ∷ 11 ∷ []
  undropped_denied : wrongly taken undropped ≡ 9 ∷ 11 ∷ []
  fault_denied : wrongly (λ b. opened ++ put b) fault_by_word ≡ 2 ∷ []
  -- a limit that looks at a word
  limit_denied : wrongly framed limit_by_word ≡ 1 ∷ []
  -- a claim that looks at more of a word than whether it is zero
  claim_denied : wrongly due claim_below ≡ 2 ∷ 6 ∷ 11 ∷ []
  -- an export that does: 30 bytes on one board, 17 on the other; by its entries alone it tells nothing
  export_below_holds : handed (λ b. opened ++ put b ++ deactivate 0 ∷ []) export_below first ≡ 30
  export_below' : handed (λ b. opened ++ put b ++ deactivate 0 ∷ []) export_below second ≡ 17
  by_entry : handed (λ b. opened ++ put b ++ deactivate 0 ∷ []) export_by_entry first ≡ 30
  by_entry' : handed (λ b. opened ++ put b ++ deactivate 0 ∷ []) export_by_entry second ≡ 30
  -- unequal results of any act are denied; a read of the hidden design's word is, if it is zero on one board
  results_equal : all 16 (λ k. not (test (results 1 id (nth k) 1 2))) ≡ true
  hidden_read : test (results 1 id (read 1 0 0) 9 4) ≡ true
  hidden_zero : test (results 1 id (read 1 0 0) 9 0) ≡ false

pub denials : Denials
unfolding after blanked wrongly handed said
denials = record {
  whole = refl;
  frame = refl;
  record' = refl;
  image = refl;
  other_value = refl;
  zero_on_one = refl;
  zero_record = refl;
  listed_alone = refl;
  live_alone = refl;
  imaged_alone = refl;
  table = refl;
  used = refl;
  untouched = refl;
  left = refl;
  down = refl;
  down_record = refl;
  held = refl;
  held_zero = refl;
  unzeroed_denied = refl;
  looked_early_holds = refl;
  looked_early' = refl;
  handed_out_holds = refl;
  copy = refl;
  copy_value = refl;
  copy_zero = refl;
  empty_place = refl;
  place = refl;
  next = refl;
  lingers_denied = refl;
  undropped_denied = refl;
  fault_denied = refl;
  limit_denied = refl;
  claim_denied = refl;
  export_below_holds = refl;
  export_below' = refl;
  by_entry = refl;
  by_entry' = refl;
  results_equal = refl;
  hidden_read = refl;
  hidden_zero = refl;
}
