-- The chip in between (paper 02, wish 13), as one table under one theorem, by computation: what stands in it after each event, and what a fault finds. It has two places, or one, or three.
use Rattle.std.specs.Prelude.{◌≡◌, refl, List, [], ◌∷◌, ◌++◌, ℕ}
use Rattle.model.specs.declared.sizes.Sizes.{Sizes}
use Rattle.model.specs.declared.frame.Frame.{Frame}
use Rattle.model.specs.declared.event.Writeback.TheVariants.{PageDone}
use Rattle.model.specs.declared.event.Event.TheVariants as Event
use Rattle.model.specs.State.{Chip, State, frame_at}
use Rattle.model.specs.Setters.{set_chip}
use Rattle.model.specs.Pages.{fresh, awaiting}
use Rattle.model.specs.Step.{step}
use Rattle.model.specs.Acts.{Act}
use Rattle.edges.specs.Lists.{limit, create, activate, deactivate, fault, read, write, wire, claim, truncate, update, page_done, map_done, restart, cut, join, turn, sized, small, says, leaves}
use Rattle.edges.specs.Edges.{opened, listing}
use Rattle.edges.specs.Sheets.{sheet, import}

-- one place only
abbrev lone : Sizes
lone = record { words = 2; records = 4; frames = 2; slots = 2; pages = 3; accounts = 1; chip = 1 }

-- three places
abbrev wide : Sizes
wide = record { words = 2; records = 4; frames = 2; slots = 2; pages = 3; accounts = 1; chip = 3 }

-- the chip, and a frame, as a list leaves them
unfoldable chip : List Act → Chip
unfolding leaves
chip acts = (leaves small acts).memory.chip

unfoldable alone : List Act → Chip
unfolding leaves
alone acts = (leaves lone acts).memory.chip

unfoldable among : List Act → Chip
unfolding leaves
among acts = (leaves wide acts).memory.chip

unfoldable frame : ℕ → List Act → Frame
unfolding leaves
frame f acts = frame_at (leaves small acts).memory.core.frames f

-- place 0's record and words, place 1's, the next place
abbrev pub holds : ℕ → ℕ → ℕ → ℕ → ℕ → ℕ → ℕ → Chip
holds r a b s c d n = record { words = a ∷ b ∷ c ∷ d ∷ []; copies = r ∷ s ∷ []; next = n ∷ [] }

-- the only place's record and words
abbrev has : ℕ → ℕ → ℕ → Chip
has r a b = record { words = a ∷ b ∷ []; copies = r ∷ []; next = 0 ∷ [] }

-- a page is written and stored, by the frame that it takes
abbrev put : ℕ → ℕ → ℕ → List Act
put p x f = fault 0 p ∷ write 0 p 1 x ∷ claim ∷ page_done f 1 ∷ []

-- page 0 is stored, with the word 9; pages 0 and 1 are; page 0 is listed, and nothing in the chip
abbrev stored : List Act
stored = opened 3 ++ write 0 0 1 9 ∷ claim ∷ page_done 0 1 ∷ []

abbrev both : List Act
both = stored ++ put 1 4 1

abbrev again : List Act
again = listing ++ restart ∷ activate 0 ∷ []

-- page 0's record is nulled: the page was written to zeros and claimed
abbrev voided : List Act
voided = stored ++ fault 0 0 ∷ write 0 0 1 0 ∷ claim ∷ []

-- page 0 is being read, and has a copy at place 1: by the rules alone, no list leads there
abbrev read_twice : State
read_twice = set_chip (holds 0 0 0 1 0 9 0) (leaves small (again ++ fault 0 0 ∷ []))

pub record ChipEdges : Type 0 where
  -- Restart empties the chip, place 0 next.
  empty : chip (restart ∷ []) ≡ holds 0 0 0 0 0 0 0
  emptied : chip (both ++ restart ∷ []) ≡ holds 0 0 0 0 0 0 0
  -- Each good write goes to the disk and also into the chip, under its record number; a failed one does not.
  written : chip stored ≡ holds 1 0 9 0 0 0 1
  unwritten : chip (opened 2 ++ write 0 0 1 9 ∷ claim ∷ page_done 0 0 ∷ []) ≡ holds 0 0 0 0 0 0 0
  -- Each good read goes in too; a failed one does not.
  reads : chip (again ++ fault 0 0 ∷ page_done 0 1 ∷ []) ≡ holds 1 0 9 0 0 0 1
  unread : chip (again ++ fault 0 0 ∷ page_done 0 0 ∷ []) ≡ holds 0 0 0 0 0 0 0
  -- A page already there replaces its own copy, and the next place stays;
  replaced : chip (stored ++ fault 0 0 ∷ write 0 0 1 5 ∷ claim ∷ page_done 1 1 ∷ []) ≡ holds 1 0 5 0 0 0 1
  replaced_last : chip (both ++ fault 0 1 ∷ write 0 1 1 5 ∷ claim ∷ page_done 0 1 ∷ []) ≡ holds 1 0 9 2 0 5 0
  replaced_read : (step small read_twice (Event.Writeback (PageDone 0 1))).left.memory.chip ≡ holds 0 0 0 1 0 9 0
  replaced_taken : (step small read_twice (Event.Writeback (PageDone 0 1))).answer.refusal ≡ 0
  -- otherwise places are filled in turn, 0 to B−1 and round.
  second : chip both ≡ holds 1 0 9 2 0 4 0
  round : chip (both ++ put 2 7 0) ≡ holds 3 0 7 2 0 4 1
  third : among both ≡ record { words = 0 ∷ 9 ∷ 0 ∷ 4 ∷ 0 ∷ 0 ∷ []; copies = 1 ∷ 2 ∷ 0 ∷ []; next = 2 ∷ [] }
  third_round : among (both ++ put 2 7 0) ≡ record { words = 0 ∷ 9 ∷ 0 ∷ 4 ∷ 0 ∷ 7 ∷ []; copies = 1 ∷ 2 ∷ 3 ∷ []; next = 0 ∷ [] }
  -- (what stood there goes, and is read when it is wanted: then it goes in, and what stood at the next place goes)
  back_in : chip (both ++ put 2 7 0 ++ fault 0 0 ∷ page_done 1 1 ∷ []) ≡ holds 3 0 7 1 0 9 0
  -- (in turn: an empty place elsewhere is not preferred)
  in_turn_holds : chip (both ++ truncate 0 1 ∷ put 2 7 0) ≡ holds 3 0 7 0 0 0 1
  -- A fault on a live address found there is in service as after a good read, with no transfer; the chip stays.
  found : says small (stored ++ fault 0 0 ∷ []) ≡ 0 ∷ 1 ∷ []
  found_frame : frame 1 (stored ++ fault 0 0 ∷ []) ≡ fresh 0
  found_word : says small (stored ++ fault 0 0 ∷ read 0 0 1 ∷ []) ≡ 0 ∷ 9 ∷ []
  found_words : (leaves small (stored ++ fault 0 0 ∷ [])).memory.core.words ≡ 0 ∷ 9 ∷ 0 ∷ 9 ∷ []
  found_list : (leaves small (stored ++ fault 0 1 ∷ fault 0 0 ∷ [])).memory.core.removal_list ≡ 1 ∷ 2 ∷ []
  found_chip : chip (stored ++ fault 0 0 ∷ []) ≡ holds 1 0 9 0 0 0 1
  found_done : says small (stored ++ fault 0 0 ∷ page_done 1 1 ∷ []) ≡ 22 ∷ 0 ∷ []
  as_read : frame 0 (again ++ fault 0 0 ∷ page_done 0 1 ∷ []) ≡ fresh 0
  -- It asks as any fault: 14 while the page's write is under way, 15 where it is in a frame, 20 without a free frame; no record need be free.
  found_writing : says small (stored ++ fault 0 0 ∷ write 0 0 1 5 ∷ claim ∷ fault 0 0 ∷ []) ≡ 14 ∷ 0 ∷ []
  found_again : says small (stored ++ fault 0 0 ∷ fault 0 0 ∷ []) ≡ 15 ∷ 0 ∷ []
  found_crowded : says small (stored ++ fault 0 1 ∷ fault 0 2 ∷ fault 0 0 ∷ []) ≡ 20 ∷ 0 ∷ []
  found_recordless : says (sized 1 2) (stored ++ fault 0 0 ∷ []) ≡ 0 ∷ 1 ∷ []
  -- The charge is as it was.
  found_used : (leaves small (stored ++ fault 0 0 ∷ [])).memory.used ≡ 1 ∷ []
  -- (by a turn too: its request stays first and is served by the next one)
  turn_says : says small (stored ++ join 0 0 ∷ turn ∷ []) ≡ 0 ∷ 0 ∷ []
  turn_frame : frame 1 (stored ++ join 0 0 ∷ turn ∷ []) ≡ fresh 0
  turn_chip : chip (stored ++ join 0 0 ∷ turn ∷ []) ≡ holds 1 0 9 0 0 0 1
  turn_reads : frame 0 (again ++ join 0 0 ∷ turn ∷ []) ≡ awaiting 0
  found_turn : says small (stored ++ join 0 0 ∷ turn ∷ turn ∷ []) ≡ 0 ∷ 1 ∷ []
  -- One that is not there is read, also after a restart, and after its place was filled anew.
  not_found : frame 0 (again ++ fault 0 0 ∷ []) ≡ awaiting 0
  filled_anew : frame 1 (both ++ put 2 7 0 ++ fault 0 0 ∷ []) ≡ awaiting 0
  -- A copy is dropped as soon as its record stops being live, and empty places hold zeros: by a truncate over its page,
  truncated : chip (both ++ truncate 0 1 ∷ []) ≡ holds 1 0 9 0 0 0 0
  truncated_next : chip (stored ++ truncate 0 0 ∷ []) ≡ holds 0 0 0 0 0 0 1
  truncated_framed : chip (both ++ fault 0 1 ∷ truncate 0 1 ∷ []) ≡ holds 1 0 9 0 0 0 0
  truncated_word : says small (stored ++ truncate 0 0 ∷ fault 0 0 ∷ read 0 0 1 ∷ []) ≡ 0 ∷ 0 ∷ []
  below : chip (both ++ truncate 0 2 ∷ []) ≡ holds 1 0 9 2 0 4 0
  -- by a claim of a page of zeros,
  blanked : chip (both ++ fault 0 0 ∷ write 0 0 1 0 ∷ claim ∷ []) ≡ holds 0 0 0 2 0 4 0
  blanked_next : chip voided ≡ holds 0 0 0 0 0 0 1
  -- also by a turn's,
  blanked_turn : chip (stored ++ fault 0 0 ∷ write 0 0 1 0 ∷ fault 0 1 ∷ wire 0 1 ∷ join 0 2 ∷ turn ∷ []) ≡ holds 0 0 0 0 0 0 1
  -- (a fault of the nulled page takes no copy: it is a page of zeros; written again it goes in at the next place, not where it was)
  voided_frame : frame 0 (voided ++ fault 0 0 ∷ []) ≡ fresh 0
  voided_word : says small (voided ++ fault 0 0 ∷ read 0 0 1 ∷ []) ≡ 0 ∷ 0 ∷ []
  voided_again : chip (voided ++ put 0 6 0) ≡ holds 0 0 0 1 0 6 0
  -- by a deactivate; the next fault is a read. An activate brings nothing in.
  rested : chip (listing ++ deactivate 0 ∷ []) ≡ holds 0 0 0 0 0 0 1
  rested_read : frame 1 (listing ++ deactivate 0 ∷ activate 0 ∷ fault 0 0 ∷ []) ≡ awaiting 0
  rested_awake : chip (listing ++ deactivate 0 ∷ activate 0 ∷ []) ≡ holds 0 0 0 0 0 0 1
  -- (not a copy of another design's)
  rested_other : chip (stored ++ create 1 0 8 ∷ activate 1 ∷ fault 1 0 ∷ write 1 0 1 4 ∷ claim ∷ page_done 1 1 ∷ update 1 ∷ map_done 1 1 ∷ deactivate 1 ∷ []) ≡ holds 1 0 9 0 0 0 0
  -- Not by a deactivate that is refused.
  rested_not : chip (stored ++ deactivate 0 ∷ []) ≡ holds 1 0 9 0 0 0 1
  -- Not by a claim that frees an unmodified page or begins a write, nor by a failed write: the copy is its record's, whatever the frame holds.
  unmodified : chip (stored ++ fault 0 0 ∷ claim ∷ []) ≡ holds 1 0 9 0 0 0 1
  begun : chip (stored ++ fault 0 0 ∷ write 0 0 1 5 ∷ claim ∷ []) ≡ holds 1 0 9 0 0 0 1
  failed : chip (stored ++ fault 0 0 ∷ write 0 0 1 5 ∷ claim ∷ page_done 1 0 ∷ []) ≡ holds 1 0 9 0 0 0 1
  -- Nor by an update or its end.
  updated : chip (stored ++ update 0 ∷ []) ≡ holds 1 0 9 0 0 0 1
  listed : chip (stored ++ update 0 ∷ map_done 0 1 ∷ []) ≡ holds 1 0 9 0 0 0 1
  unlisted : chip (stored ++ update 0 ∷ map_done 0 0 ∷ []) ≡ holds 1 0 9 0 0 0 1
  -- An import puts nothing in and drops nothing; its pages are read.
  imported : chip (restart ∷ limit 0 3 ∷ import 0 7 sheet ∷ []) ≡ holds 0 0 0 0 0 0 0
  imported_beside : chip (stored ++ import 1 8 sheet ∷ []) ≡ holds 1 0 9 0 0 0 1
  imported_says : says small (stored ++ import 1 8 sheet ∷ []) ≡ 0 ∷ 9 ∷ []
  imported_read : frame 0 (restart ∷ limit 0 3 ∷ import 0 7 sheet ∷ activate 0 ∷ fault 0 0 ∷ []) ≡ awaiting 0
  -- What lands at a cut does not go in.
  landed : chip (stored ++ update 0 ∷ map_done 0 1 ∷ fault 0 0 ∷ write 0 0 1 5 ∷ claim ∷ cut (1 ∷ []) [] ∷ restart ∷ []) ≡ holds 0 0 0 0 0 0 0
  -- One place: it is always the next.
  lone_empty : alone (restart ∷ []) ≡ has 0 0 0
  lone_written : alone stored ≡ has 1 0 9
  lone_round : alone both ≡ has 2 0 4
  lone_replaced : alone (stored ++ fault 0 0 ∷ write 0 0 1 5 ∷ claim ∷ page_done 1 1 ∷ []) ≡ has 1 0 5
  lone_found : says lone (both ++ fault 0 1 ∷ read 0 1 1 ∷ []) ≡ 0 ∷ 4 ∷ []
  lone_gone : says lone (both ++ fault 0 0 ∷ read 0 0 1 ∷ []) ≡ 14 ∷ 0 ∷ []
  lone_back : alone (both ++ fault 0 0 ∷ page_done 0 1 ∷ []) ≡ has 1 0 9
  lone_dropped : alone (both ++ truncate 0 1 ∷ []) ≡ has 0 0 0

pub chip_edges : ChipEdges
unfolding says leaves chip alone among frame
chip_edges = record {
  empty = refl;
  emptied = refl;
  written = refl;
  unwritten = refl;
  reads = refl;
  unread = refl;
  replaced = refl;
  replaced_last = refl;
  replaced_read = refl;
  replaced_taken = refl;
  second = refl;
  round = refl;
  third = refl;
  third_round = refl;
  back_in = refl;
  in_turn_holds = refl;
  found = refl;
  found_frame = refl;
  found_word = refl;
  found_words = refl;
  found_list = refl;
  found_chip = refl;
  found_done = refl;
  as_read = refl;
  found_writing = refl;
  found_again = refl;
  found_crowded = refl;
  found_recordless = refl;
  found_used = refl;
  turn_says = refl;
  turn_frame = refl;
  turn_chip = refl;
  turn_reads = refl;
  found_turn = refl;
  not_found = refl;
  filled_anew = refl;
  truncated = refl;
  truncated_next = refl;
  truncated_framed = refl;
  truncated_word = refl;
  below = refl;
  blanked = refl;
  blanked_next = refl;
  blanked_turn = refl;
  voided_frame = refl;
  voided_word = refl;
  voided_again = refl;
  rested = refl;
  rested_read = refl;
  rested_awake = refl;
  rested_other = refl;
  rested_not = refl;
  unmodified = refl;
  begun = refl;
  failed = refl;
  updated = refl;
  listed = refl;
  unlisted = refl;
  imported = refl;
  imported_beside = refl;
  imported_says = refl;
  imported_read = refl;
  landed = refl;
  lone_empty = refl;
  lone_written = refl;
  lone_round = refl;
  lone_replaced = refl;
  lone_found = refl;
  lone_gone = refl;
  lone_back = refl;
  lone_dropped = refl;
}
