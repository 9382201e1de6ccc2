-- Lists from packs that no format made: the claim and its invariant computed after every act, and worlds with a hurt disk that the claim must deny.
use Rattle.std.specs.Prelude.{◌≡◌, refl, Bool, ◌&&◌, List, [], ◌∷◌, ◌++◌, ℕ, T}
use Rattle.model.specs.State.{Disk}
use Rattle.model.specs.Setters.{on_disk, set_records, set_maps}
use Rattle.model.specs.Acts.{Act, World, legal, run, start}
use Rattle.model.specs.Demand3.{last_into, last_update, each_of, some_of, in_one_place_of_maps, live_listed}
use Rattle.model.specs.FromPack.{written_words, pack_words, written_reads, pack_reads, in_pack, birth_maps, from_packed, from_pack}
use Rattle.edges.specs.Lists.{create, delete, activate, deactivate, fault, read, write, claim, truncate, update, page_done, map_done, restart, small, junk, cut, said, trace}
use Rattle.edges.specs.RuleList.{says_no}
use Rattle.edges.specs.Runs.{right, always}
use Rattle.edges.specs.Worlds.{on_state}

-- ── the packs ──
-- slot 1 has design 8, page 0 in record 1 and page 2 in record 0; slot 0 is empty
abbrev pub one : Disk
one = record { records = 0 ∷ 9 ∷ 0 ∷ 4 ∷ 7 ∷ 7 ∷ 0 ∷ 0 ∷ []; numbers = 0 ∷ 8 ∷ []; accounts = 0 ∷ 0 ∷ []; maps = 0 ∷ 0 ∷ 0 ∷ 2 ∷ 0 ∷ 1 ∷ []; limits = 4 ∷ []; parents = 0 ∷ []; highest = 0 ∷ [] }

-- slot 0 has design 5 too, page 1 in record 3
abbrev two : Disk
two = record { records = 0 ∷ 9 ∷ 0 ∷ 4 ∷ 7 ∷ 7 ∷ 3 ∷ 0 ∷ []; numbers = 5 ∷ 8 ∷ []; accounts = 0 ∷ 0 ∷ []; maps = 0 ∷ 4 ∷ 0 ∷ 2 ∷ 0 ∷ 1 ∷ []; limits = 4 ∷ []; parents = 0 ∷ []; highest = 0 ∷ [] }

-- the record of page 0 of slot 1 holds zeros
abbrev bare : Disk
bare = record { records = 0 ∷ 9 ∷ 0 ∷ 0 ∷ 7 ∷ 7 ∷ 0 ∷ 0 ∷ []; numbers = 0 ∷ 8 ∷ []; accounts = 0 ∷ 0 ∷ []; maps = 0 ∷ 0 ∷ 0 ∷ 2 ∷ 0 ∷ 1 ∷ []; limits = 4 ∷ []; parents = 0 ∷ []; highest = 0 ∷ [] }

unfoldable pub from : Disk → World
unfolding said
from pack = start small pack (junk small)

-- the list is legal, each act of it is carried out, and after each act all is right
unfoldable pub holds : Disk → List Act → Bool
unfolding from always right
holds pack acts = legal small (from pack) acts && always right (from pack) acts

-- ── the lists ──
abbrev opened : List Act
opened = restart ∷ activate 1 ∷ []

-- a map update finishes, and promises pages that nobody wrote
abbrev stored : List Act
stored = update 1 ∷ map_done 1 1 ∷ []

abbrev unwritten : List Act
unwritten = opened ++ fault 1 0 ∷ page_done 0 1 ∷ read 1 0 1 ∷ stored

-- page 0 is written to the pack's record: 5, and then 6
abbrev written : List Act
written = opened ++ fault 1 0 ∷ page_done 0 1 ∷ write 1 0 1 5 ∷ claim ∷ page_done 0 1 ∷ fault 1 0 ∷ write 1 0 1 6 ∷ claim ∷ page_done 1 1 ∷ stored

-- the update begins with the pack's words; it and a write of page 0 land at a cut
abbrev landed : List Act
landed = opened ++ update 1 ∷ fault 1 0 ∷ page_done 0 1 ∷ write 1 0 1 5 ∷ claim ∷ cut (0 ∷ []) (1 ∷ []) ∷ restart ∷ []

-- the pages are truncated and page 0 is written to another record, which lands at a cut; no update does, so the pack's words are back
abbrev back : List Act
back = unwritten ++ truncate 1 0 ∷ fault 1 0 ∷ write 1 0 1 3 ∷ claim ∷ cut (1 ∷ []) [] ∷ restart ∷ activate 1 ∷ fault 1 0 ∷ page_done 0 1 ∷ read 1 0 1 ∷ stored

-- the pack's design is deleted, and its slot and records go to another one
abbrev pub another : List Act
another = opened ++ truncate 1 0 ∷ stored ++ deactivate 1 ∷ delete 1 ∷ create 1 0 9 ∷ restart ∷ []

abbrev replaced : List Act
replaced = another ++ activate 1 ∷ fault 1 0 ∷ write 1 0 0 2 ∷ claim ∷ page_done 0 1 ∷ fault 1 2 ∷ write 1 2 0 3 ∷ claim ∷ page_done 1 1 ∷ cut [] [] ∷ restart ∷ activate 1 ∷ stored

-- a page of the pack is written to zeros and claimed: its record is void and is listed no more; written again, it is listed anew
abbrev voided : List Act
voided = opened ++ fault 1 2 ∷ page_done 0 1 ∷ write 1 2 1 0 ∷ claim ∷ stored ++ fault 1 2 ∷ write 1 2 0 5 ∷ claim ∷ page_done 1 1 ∷ stored

-- a page of zeros of the pack is written and lost at a cut; it comes in again, and goes unmodified
abbrev stale : List Act
stale = opened ++ fault 1 0 ∷ page_done 0 1 ∷ write 1 0 1 5 ∷ cut [] [] ∷ opened ++ fault 1 0 ∷ page_done 0 1 ∷ claim ∷ stored

-- designs of the pack and a created one, failed dones, cuts
abbrev beside : List Act
beside = opened ++ create 0 0 9 ∷ activate 0 ∷ fault 0 0 ∷ write 0 0 0 6 ∷ claim ∷ page_done 0 0 ∷ claim ∷ page_done 0 1 ∷ update 0 ∷ update 1 ∷ map_done 1 0 ∷ cut [] (0 ∷ []) ∷ cut [] [] ∷ restart
    ∷ activate 0 ∷ activate 1 ∷ truncate 1 1 ∷ fault 0 0 ∷ page_done 0 1 ∷ read 0 0 0 ∷ update 1 ∷ cut [] (1 ∷ []) ∷ restart ∷ []

abbrev both : List Act
both = restart ∷ activate 0 ∷ activate 1 ∷ fault 0 1 ∷ page_done 0 1 ∷ write 0 1 1 8 ∷ claim ∷ page_done 0 1 ∷ update 0 ∷ map_done 0 1 ∷ stored

-- page 0 of both designs is written, that of slot 1 first
abbrev firsts : List Act
firsts = restart ∷ activate 0 ∷ activate 1 ∷ fault 1 0 ∷ page_done 0 1 ∷ write 1 0 1 5 ∷ claim ∷ page_done 0 1 ∷ fault 0 0 ∷ write 0 0 1 8 ∷ claim ∷ page_done 1 1 ∷ update 0 ∷ map_done 0 1 ∷ stored

-- a page of zeros of the pack comes in and goes, written by nobody
abbrev idle : List Act
idle = opened ++ fault 1 0 ∷ page_done 0 1 ∷ claim ∷ stored

-- ── the hurts ──
abbrev whole : Disk → Disk
whole d = d

-- page 0 of slot 1 is dropped from the map; its record is listed at the next page; in two entries
abbrev dropped : Disk → Disk
dropped = set_maps (0 ∷ 0 ∷ 0 ∷ 0 ∷ 0 ∷ 1 ∷ [])

abbrev moved : Disk → Disk
moved = set_maps (0 ∷ 0 ∷ 0 ∷ 0 ∷ 2 ∷ 1 ∷ [])

abbrev doubled : Disk → Disk
doubled = set_maps (0 ∷ 0 ∷ 0 ∷ 2 ∷ 2 ∷ 1 ∷ [])

-- its two pages change places; so do pages of two designs
abbrev swapped : Disk → Disk
swapped = set_maps (0 ∷ 0 ∷ 0 ∷ 1 ∷ 0 ∷ 2 ∷ [])

abbrev mixed : Disk → Disk
mixed = set_maps (0 ∷ 2 ∷ 0 ∷ 4 ∷ 0 ∷ 1 ∷ [])

-- an empty slot lists a record that was free; the map is the pack's again
abbrev given : Disk → Disk
given = set_maps (3 ∷ 0 ∷ 0 ∷ 2 ∷ 0 ∷ 1 ∷ [])

abbrev pub again : Disk → Disk
again = set_maps (0 ∷ 0 ∷ 0 ∷ 2 ∷ 0 ∷ 1 ∷ [])

-- the record of page 0 holds the pack's words, those of the older finished write, and words that nobody wrote
abbrev packs : Disk → Disk
packs = set_records (0 ∷ 9 ∷ 0 ∷ 4 ∷ 7 ∷ 7 ∷ 0 ∷ 0 ∷ [])

abbrev older : Disk → Disk
older = set_records (0 ∷ 9 ∷ 0 ∷ 5 ∷ 7 ∷ 7 ∷ 0 ∷ 0 ∷ [])

abbrev strange : Disk → Disk
strange = set_records (0 ∷ 9 ∷ 0 ∷ 8 ∷ 7 ∷ 7 ∷ 0 ∷ 0 ∷ [])

-- the first pages of two designs change places; the record of slot 1's holds the words of slot 0's
abbrev exchanged : Disk → Disk
exchanged = set_maps (2 ∷ 4 ∷ 0 ∷ 3 ∷ 0 ∷ 1 ∷ [])

abbrev strangers : Disk → Disk
strangers = set_records (0 ∷ 9 ∷ 0 ∷ 8 ∷ 0 ∷ 8 ∷ 3 ∷ 0 ∷ [])

unfoldable pub hurt : Disk → (Disk → Disk) → List Act → World
unfolding from
hurt pack d acts = on_state (on_disk d) (run small (from pack) acts)

-- ── what is computed ──
-- the sentences that say no: 1 in one place, 2 written words, 3 the pack's words, 4 live listed, 5 reads of what was written, 6 of the pack, 7 maps as at birth; 8 is the claim whole
unfoldable pub denied : World → List ℕ
unfolding says_no last_into last_update each_of some_of written_words pack_words live_listed written_reads pack_reads birth_maps from_packed from_pack
denied w = says_no 1 (in_one_place_of_maps small w ∷ written_words small w ∷ pack_words small w (in_pack small w) ∷ live_listed small w ∷ written_reads small w ∷ pack_reads small w ∷ birth_maps small w (in_pack small w) ∷ from_pack small w ∷ [])

-- as the world stands; after a cut, before any restart; once a restart has found it
unfoldable pub seen : World → List (List ℕ)
unfolding denied
seen w = denied w ∷ denied (run small w (cut [] [] ∷ [])) ∷ denied (run small w (restart ∷ [])) ∷ []

-- a read of word 1 of page 0 of slot 1, after a list from the first pack: its answer and result
unfoldable pub heard : List Act → List ℕ
unfolding trace from
heard acts = trace small (run small (from one) acts) (read 1 0 1 ∷ [])

pub record Packs : Type 0 where
  -- The lists are legal, each act is carried out, and the claim holds after each.
  unwritten_right : T (holds one unwritten)
  written_right : T (holds one written)
  landed_right : T (holds one landed)
  back_right : T (holds one back)
  replaced_right : T (holds one replaced)
  voided_right : T (holds one voided)
  beside_right : T (holds one beside)
  both_right : T (holds two both)
  -- The pack's words are read, also after a write that was lost; a finished one is read.
  unwritten_read : heard unwritten ≡ 0 ∷ 4 ∷ []
  back_read : heard back ≡ 0 ∷ 4 ∷ []
  written_read : heard (written ++ restart ∷ activate 1 ∷ fault 1 0 ∷ page_done 0 1 ∷ []) ≡ 0 ∷ 6 ∷ []
  -- Before an update is finished the pack's map stands, and a created design's is zero.
  opened_dropped : seen (hurt one dropped opened) ≡ (7 ∷ 8 ∷ []) ∷ (7 ∷ 8 ∷ []) ∷ (7 ∷ 8 ∷ []) ∷ []
  created_given : seen (hurt one given (opened ++ create 0 0 9 ∷ [])) ≡ (3 ∷ 7 ∷ 8 ∷ []) ∷ (3 ∷ 7 ∷ 8 ∷ []) ∷ (3 ∷ 7 ∷ 8 ∷ []) ∷ []
  -- Promised, but written by nobody: unhurt, nothing is denied. A promised page dropped; listed at the next page; two pages in each other's place; other words than the pack's; a record in two entries, and a restart is refused.
  unwritten_whole : seen (hurt one whole unwritten) ≡ [] ∷ [] ∷ [] ∷ []
  unwritten_dropped : seen (hurt one dropped unwritten) ≡ (4 ∷ 8 ∷ []) ∷ (4 ∷ 8 ∷ []) ∷ (4 ∷ 8 ∷ []) ∷ []
  unwritten_moved : seen (hurt one moved unwritten) ≡ (3 ∷ 4 ∷ 6 ∷ 8 ∷ []) ∷ (3 ∷ 4 ∷ 8 ∷ []) ∷ (3 ∷ 4 ∷ 8 ∷ []) ∷ []
  unwritten_swapped : seen (hurt one swapped unwritten) ≡ (3 ∷ 6 ∷ 8 ∷ []) ∷ (3 ∷ 8 ∷ []) ∷ (3 ∷ 8 ∷ []) ∷ []
  unwritten_strange : seen (hurt one strange unwritten) ≡ (3 ∷ 8 ∷ []) ∷ (3 ∷ 8 ∷ []) ∷ (3 ∷ 6 ∷ 8 ∷ []) ∷ []
  unwritten_doubled : seen (hurt one doubled unwritten) ≡ (1 ∷ 3 ∷ 6 ∷ 8 ∷ []) ∷ (1 ∷ 3 ∷ 8 ∷ []) ∷ (1 ∷ 3 ∷ 6 ∷ 8 ∷ []) ∷ []
  -- Written since the start: the pack's words and those of an older finished write are denied.
  written_whole : seen (hurt one whole written) ≡ [] ∷ [] ∷ [] ∷ []
  written_dropped : seen (hurt one dropped written) ≡ (4 ∷ 8 ∷ []) ∷ (4 ∷ 8 ∷ []) ∷ (4 ∷ 8 ∷ []) ∷ []
  written_moved : seen (hurt one moved written) ≡ (2 ∷ 4 ∷ 8 ∷ []) ∷ (2 ∷ 4 ∷ 8 ∷ []) ∷ (2 ∷ 4 ∷ 8 ∷ []) ∷ []
  written_packs : seen (hurt one packs written) ≡ (2 ∷ 8 ∷ []) ∷ (2 ∷ 8 ∷ []) ∷ (2 ∷ 5 ∷ 8 ∷ []) ∷ []
  written_older : seen (hurt one older written) ≡ (2 ∷ 8 ∷ []) ∷ (2 ∷ 8 ∷ []) ∷ (2 ∷ 5 ∷ 8 ∷ []) ∷ []
  -- A write that finished after the update began.
  landed_whole : seen (hurt one whole landed) ≡ [] ∷ [] ∷ [] ∷ []
  landed_dropped : seen (hurt one dropped landed) ≡ (4 ∷ 8 ∷ []) ∷ (4 ∷ 8 ∷ []) ∷ (4 ∷ 8 ∷ []) ∷ []
  landed_packs : seen (hurt one packs landed) ≡ (2 ∷ 8 ∷ []) ∷ (2 ∷ 8 ∷ []) ∷ (2 ∷ 5 ∷ 8 ∷ []) ∷ []
  -- A write that counts no more: the pack's words stand again, and no others.
  back_whole : seen (hurt one whole back) ≡ [] ∷ [] ∷ [] ∷ []
  back_dropped : seen (hurt one dropped back) ≡ (4 ∷ 8 ∷ []) ∷ (4 ∷ 8 ∷ []) ∷ (4 ∷ 8 ∷ []) ∷ []
  back_strange : seen (hurt one strange back) ≡ (3 ∷ 8 ∷ []) ∷ (3 ∷ 8 ∷ []) ∷ (3 ∷ 6 ∷ 8 ∷ []) ∷ []
  -- What the pack listed for a design that is gone is not listed for the next one in its slot.
  another_again : seen (hurt one again another) ≡ (3 ∷ 6 ∷ 7 ∷ 8 ∷ []) ∷ (3 ∷ 7 ∷ 8 ∷ []) ∷ (3 ∷ 7 ∷ 8 ∷ []) ∷ []
  -- Pages of two designs of the pack in each other's place.
  both_whole : seen (hurt two whole both) ≡ [] ∷ [] ∷ [] ∷ []
  both_mixed : seen (hurt two mixed both) ≡ (2 ∷ 3 ∷ 8 ∷ []) ∷ (2 ∷ 3 ∷ 8 ∷ []) ∷ (2 ∷ 3 ∷ 8 ∷ []) ∷ []
  -- Both first pages are written since: neither in the other's place, nor with the other's words.
  firsts_right : T (holds two firsts)
  firsts_exchanged : seen (hurt two exchanged firsts) ≡ (2 ∷ 8 ∷ []) ∷ (2 ∷ 8 ∷ []) ∷ (2 ∷ 8 ∷ []) ∷ []
  firsts_strangers : seen (hurt two strangers firsts) ≡ (2 ∷ 8 ∷ []) ∷ (2 ∷ 8 ∷ []) ∷ (2 ∷ 5 ∷ 8 ∷ []) ∷ []
  -- A claim of a page of zeros that nobody wrote ends no promise.
  idle_right : T (holds bare idle)
  idle_dropped : denied (hurt bare dropped idle) ≡ 4 ∷ 8 ∷ []
  stale_right : T (holds bare stale)
  stale_dropped : denied (hurt bare dropped stale) ≡ 4 ∷ 8 ∷ []

pub packs_told : Packs
unfolding holds hurt seen heard
packs_told = record {
  unwritten_right = tt;
  written_right = tt;
  landed_right = tt;
  back_right = tt;
  replaced_right = tt;
  voided_right = tt;
  beside_right = tt;
  both_right = tt;
  unwritten_read = refl;
  back_read = refl;
  written_read = refl;
  opened_dropped = refl;
  created_given = refl;
  unwritten_whole = refl;
  unwritten_dropped = refl;
  unwritten_moved = refl;
  unwritten_swapped = refl;
  unwritten_strange = refl;
  unwritten_doubled = refl;
  written_whole = refl;
  written_dropped = refl;
  written_moved = refl;
  written_packs = refl;
  written_older = refl;
  landed_whole = refl;
  landed_dropped = refl;
  landed_packs = refl;
  back_whole = refl;
  back_dropped = refl;
  back_strange = refl;
  another_again = refl;
  both_whole = refl;
  both_mixed = refl;
  firsts_right = tt;
  firsts_exchanged = refl;
  firsts_strangers = refl;
  idle_right = tt;
  idle_dropped = refl;
  stale_right = tt;
  stale_dropped = refl;
}
