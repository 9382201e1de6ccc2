-- Worlds that demand 3's claim must deny: a legal list is run, the disk of the world reached is hurt, and the claim's sentences are computed there.
use Rattle.std.specs.Prelude.{◌≡◌, refl, List, [], ◌∷◌, ◌++◌, ℕ, T}
use Rattle.tables.specs.Base.{at}
use Rattle.model.specs.declared.event.Page.TheVariants.{Read}
use Rattle.model.specs.declared.event.Event.TheVariants as Event
use Rattle.model.specs.State.{Disk, State, page_of}
use Rattle.model.specs.Setters.{on_disk, on_core, set_records, set_maps, set_words}
use Rattle.model.specs.Step
use Rattle.model.specs.Ledger.{set_design}
use Rattle.model.specs.Acts.{Act, World, run}
use Rattle.model.specs.Demand3.{last_into, last_update, each_of, some_of, in_one_place_of_maps, own_words, live_listed, live_reads, demand3}
use Rattle.edges.specs.Lists.{limit, create, activate, deactivate, fault, write, claim, truncate, update, page_done, map_done, restart, small, cut, said, begin}
use Rattle.edges.specs.RuleList.{says_no}
use Rattle.edges.specs.Runs.{holds}

-- ── the lists ──
-- page 0 of a design is written: 9, and then 5 into the same record
abbrev pub nine : List Act
nine = restart ∷ limit 0 4 ∷ create 0 0 7 ∷ activate 0 ∷ fault 0 0 ∷ write 0 0 1 9 ∷ claim ∷ page_done 0 1 ∷ []

abbrev pub five : List Act
five = fault 0 0 ∷ write 0 0 1 5 ∷ claim ∷ []

abbrev pub stored : List Act
stored = update 0 ∷ map_done 0 1 ∷ []

-- a map update finishes, and promises the page since a finished write made it live
abbrev pub written : List Act
written = nine ++ five ++ page_done 1 1 ∷ stored

-- one more finishes, and promises the page since an activate found it listed: after a deactivate, and after a restart
abbrev rested : List Act
rested = written ++ deactivate 0 ∷ activate 0 ∷ stored

abbrev restarted : List Act
restarted = written ++ restart ∷ activate 0 ∷ stored

-- the update began between the two writes; it and the second write land at a cut
abbrev landed : List Act
landed = nine ++ update 0 ∷ five ++ cut (1 ∷ []) (0 ∷ []) ∷ restart ∷ []

-- page 0 of another design holds 3 and page 1 of the first one 4; what happens to other pages and designs ends no promise,
-- nor does another design's update, a failed one, or one under way
abbrev several : List Act
several = nine ++ five ++ page_done 1 1 ∷ fault 0 1 ∷ write 0 1 1 4 ∷ claim ∷ page_done 0 1 ∷ create 1 0 8 ∷ activate 1 ∷ fault 1 0 ∷ write 1 0 1 3 ∷ claim ∷ page_done 1 1 ∷ update 1 ∷ map_done 1 1
    ∷ deactivate 1 ∷ fault 0 2 ∷ write 0 2 0 0 ∷ claim ∷ truncate 0 2 ∷ stored ++ activate 1 ∷ update 1 ∷ map_done 1 1 ∷ update 0 ∷ map_done 0 0 ∷ update 0 ∷ []

-- the page comes into a frame again
abbrev served : List Act
served = restart ∷ activate 0 ∷ fault 0 0 ∷ page_done 0 1 ∷ []

-- ── the hurts ──
-- nothing is hurt
abbrev pub whole : Disk → Disk
whole d = d

-- the promised page is dropped from the map
abbrev pub dropped : Disk → Disk
dropped = set_maps (0 ∷ 0 ∷ 0 ∷ 0 ∷ 0 ∷ 0 ∷ [])

-- its record is listed at the next page
abbrev moved : Disk → Disk
moved = set_maps (0 ∷ 1 ∷ 0 ∷ 0 ∷ 0 ∷ 0 ∷ [])

-- its record holds the words of the older finished write, and of the newer
abbrev pub older : Disk → Disk
older = set_records (0 ∷ 9 ∷ 0 ∷ 0 ∷ 0 ∷ 0 ∷ 0 ∷ 0 ∷ [])

abbrev newer : Disk → Disk
newer = set_records (0 ∷ 5 ∷ 0 ∷ 0 ∷ 0 ∷ 0 ∷ 0 ∷ 0 ∷ [])

-- its record holds those of another page, and of another design's page
abbrev others : Disk → Disk
others = set_records (0 ∷ 4 ∷ 0 ∷ 4 ∷ 0 ∷ 3 ∷ 0 ∷ 0 ∷ [])

abbrev strangers : Disk → Disk
strangers = set_records (0 ∷ 3 ∷ 0 ∷ 4 ∷ 0 ∷ 3 ∷ 0 ∷ 0 ∷ [])

-- of several pages the second is dropped; it, or the other design's page, is exchanged with the first
abbrev second : Disk → Disk
second = set_maps (1 ∷ 0 ∷ 0 ∷ 3 ∷ 0 ∷ 0 ∷ [])

abbrev pages_changed : Disk → Disk
pages_changed = set_maps (2 ∷ 1 ∷ 0 ∷ 3 ∷ 0 ∷ 0 ∷ [])

abbrev designs_changed : Disk → Disk
designs_changed = set_maps (3 ∷ 2 ∷ 0 ∷ 1 ∷ 0 ∷ 0 ∷ [])

-- its record stands in two entries, of one design and of two
abbrev doubled : Disk → Disk
doubled = set_maps (1 ∷ 1 ∷ 0 ∷ 0 ∷ 0 ∷ 0 ∷ [])

abbrev lent : Disk → Disk
lent = set_maps (1 ∷ 0 ∷ 0 ∷ 1 ∷ 0 ∷ 0 ∷ [])

abbrev pub on_state : (State → State) → World → World
on_state f w = record { up = w.up; state = f w.state; ledger = w.ledger }

-- the ledger takes both slots for the first design
abbrev one_design : World → World
one_design w = record { up = w.up; state = w.state; ledger = set_design 1 (λ s. 1) w.ledger }

-- the world that a list reaches, its disk hurt
unfoldable pub hurt : (Disk → Disk) → List Act → World
unfolding begin
hurt d acts = on_state (on_disk d) (run small (begin small) acts)

-- ── what is computed ──
-- the sentences that say no: 1 in one place, 2 own words, 3 live listed, 4 live reads; 5 is the claim whole
unfoldable pub denied : World → List ℕ
unfolding says_no last_into last_update each_of some_of own_words live_listed live_reads demand3
denied w = says_no 1 (in_one_place_of_maps small w ∷ own_words small w ∷ live_listed small w ∷ live_reads small w ∷ demand3 small w ∷ [])

-- as the world stands; once a restart has found it; after a cut, before any restart; once a restart after that cut has found it
unfoldable pub seen : World → List (List ℕ)
unfolding denied
seen w = let lost = run small w (cut [] [] ∷ []) in denied w ∷ denied (run small w (restart ∷ [])) ∷ denied lost ∷ denied (run small lost (restart ∷ [])) ∷ []

-- a read of word 1 of page 0: its answer and result, the word of a page look, and the ledger's text
unfoldable pub heard : World → List ℕ
unfolding said
heard w = let a = (Step.step small w.state (Event.Page (Read 0 0 1))).answer in
    a.refusal ∷ a.result ∷ at (Step.look small w.state 0 0).left 1 ∷ w.ledger.pages.text (page_of small 0 0) 1 ∷ []

pub record Worlds : Type 0 where
  -- The lists are legal, each act is carried out, and the claim holds after each.
  written_right : T (holds written)
  rested_right : T (holds rested)
  restarted_right : T (holds restarted)
  landed_right : T (holds landed)
  several_right : T (holds several)
  -- Live by a finished write: unhurt, nothing is denied. A dropped or moved page is not listed, and a moved record and the older words are not the page's own; once a restart has found it so, the page reads otherwise too.
  written_whole : seen (hurt whole written) ≡ [] ∷ [] ∷ [] ∷ [] ∷ []
  written_dropped : seen (hurt dropped written) ≡ (3 ∷ 5 ∷ []) ∷ (3 ∷ 4 ∷ 5 ∷ []) ∷ (3 ∷ 5 ∷ []) ∷ (3 ∷ 4 ∷ 5 ∷ []) ∷ []
  written_moved : seen (hurt moved written) ≡ (2 ∷ 3 ∷ 5 ∷ []) ∷ (2 ∷ 3 ∷ 4 ∷ 5 ∷ []) ∷ (2 ∷ 3 ∷ 5 ∷ []) ∷ (2 ∷ 3 ∷ 4 ∷ 5 ∷ []) ∷ []
  written_older : seen (hurt older written) ≡ (2 ∷ 5 ∷ []) ∷ (2 ∷ 4 ∷ 5 ∷ []) ∷ (2 ∷ 5 ∷ []) ∷ (2 ∷ 4 ∷ 5 ∷ []) ∷ []
  -- Live by an activate, after a deactivate ..
  rested_whole : seen (hurt whole rested) ≡ [] ∷ [] ∷ [] ∷ [] ∷ []
  rested_dropped : seen (hurt dropped rested) ≡ (3 ∷ 5 ∷ []) ∷ (3 ∷ 4 ∷ 5 ∷ []) ∷ (3 ∷ 5 ∷ []) ∷ (3 ∷ 4 ∷ 5 ∷ []) ∷ []
  rested_moved : seen (hurt moved rested) ≡ (2 ∷ 3 ∷ 5 ∷ []) ∷ (2 ∷ 3 ∷ 4 ∷ 5 ∷ []) ∷ (2 ∷ 3 ∷ 5 ∷ []) ∷ (2 ∷ 3 ∷ 4 ∷ 5 ∷ []) ∷ []
  rested_older : seen (hurt older rested) ≡ (2 ∷ 5 ∷ []) ∷ (2 ∷ 4 ∷ 5 ∷ []) ∷ (2 ∷ 5 ∷ []) ∷ (2 ∷ 4 ∷ 5 ∷ []) ∷ []
  -- .. and after a restart.
  restarted_whole : seen (hurt whole restarted) ≡ [] ∷ [] ∷ [] ∷ [] ∷ []
  restarted_dropped : seen (hurt dropped restarted) ≡ (3 ∷ 5 ∷ []) ∷ (3 ∷ 4 ∷ 5 ∷ []) ∷ (3 ∷ 5 ∷ []) ∷ (3 ∷ 4 ∷ 5 ∷ []) ∷ []
  restarted_moved : seen (hurt moved restarted) ≡ (2 ∷ 3 ∷ 5 ∷ []) ∷ (2 ∷ 3 ∷ 4 ∷ 5 ∷ []) ∷ (2 ∷ 3 ∷ 5 ∷ []) ∷ (2 ∷ 3 ∷ 4 ∷ 5 ∷ []) ∷ []
  restarted_older : seen (hurt older restarted) ≡ (2 ∷ 5 ∷ []) ∷ (2 ∷ 4 ∷ 5 ∷ []) ∷ (2 ∷ 5 ∷ []) ∷ (2 ∷ 4 ∷ 5 ∷ []) ∷ []
  -- Live as the update began that lands at the cut. The older words are those of the last write finished before then, so a read may give them; but a later write into the record is finished.
  landed_whole : seen (hurt whole landed) ≡ [] ∷ [] ∷ [] ∷ [] ∷ []
  landed_dropped : seen (hurt dropped landed) ≡ (3 ∷ 5 ∷ []) ∷ (3 ∷ 4 ∷ 5 ∷ []) ∷ (3 ∷ 5 ∷ []) ∷ (3 ∷ 4 ∷ 5 ∷ []) ∷ []
  landed_moved : seen (hurt moved landed) ≡ (2 ∷ 3 ∷ 5 ∷ []) ∷ (2 ∷ 3 ∷ 4 ∷ 5 ∷ []) ∷ (2 ∷ 3 ∷ 5 ∷ []) ∷ (2 ∷ 3 ∷ 4 ∷ 5 ∷ []) ∷ []
  landed_older : seen (hurt older landed) ≡ (2 ∷ 5 ∷ []) ∷ (2 ∷ 5 ∷ []) ∷ (2 ∷ 5 ∷ []) ∷ (2 ∷ 5 ∷ []) ∷ []
  -- Of several pages the second is dropped; two pages of a design, or of two designs, change places; the first page has the words of another.
  several_whole : seen (hurt whole several) ≡ [] ∷ [] ∷ [] ∷ [] ∷ []
  several_second : seen (hurt second several) ≡ (3 ∷ 5 ∷ []) ∷ (3 ∷ 4 ∷ 5 ∷ []) ∷ (3 ∷ 5 ∷ []) ∷ (3 ∷ 4 ∷ 5 ∷ []) ∷ []
  several_pages : seen (hurt pages_changed several) ≡ (2 ∷ 5 ∷ []) ∷ (2 ∷ 4 ∷ 5 ∷ []) ∷ (2 ∷ 5 ∷ []) ∷ (2 ∷ 4 ∷ 5 ∷ []) ∷ []
  several_designs : seen (hurt designs_changed several) ≡ (2 ∷ 5 ∷ []) ∷ (2 ∷ 4 ∷ 5 ∷ []) ∷ (2 ∷ 5 ∷ []) ∷ (2 ∷ 4 ∷ 5 ∷ []) ∷ []
  several_others : seen (hurt others several) ≡ (2 ∷ 5 ∷ []) ∷ (2 ∷ 4 ∷ 5 ∷ []) ∷ (2 ∷ 5 ∷ []) ∷ (2 ∷ 4 ∷ 5 ∷ []) ∷ []
  several_strangers : seen (hurt strangers several) ≡ (2 ∷ 5 ∷ []) ∷ (2 ∷ 4 ∷ 5 ∷ []) ∷ (2 ∷ 5 ∷ []) ∷ (2 ∷ 4 ∷ 5 ∷ []) ∷ []
  -- A record in two entries; a restart is refused.
  written_doubled : seen (hurt doubled written) ≡ (1 ∷ 2 ∷ 5 ∷ []) ∷ (1 ∷ 2 ∷ 5 ∷ []) ∷ (1 ∷ 2 ∷ 5 ∷ []) ∷ (1 ∷ 2 ∷ 5 ∷ []) ∷ []
  rested_doubled : seen (hurt doubled rested) ≡ (1 ∷ 2 ∷ 5 ∷ []) ∷ (1 ∷ 2 ∷ 5 ∷ []) ∷ (1 ∷ 2 ∷ 5 ∷ []) ∷ (1 ∷ 2 ∷ 5 ∷ []) ∷ []
  -- Where the ledger takes two slots for one design, and no restart has been made, nothing else denies it.
  one_design_holds : denied (one_design (hurt lent (written ++ cut [] [] ∷ []))) ≡ 1 ∷ 5 ∷ []
  -- A restart finds the older words, and the disk holds the newer ones again: only the reads deny it.
  mended : denied (on_state (on_disk newer) (run small (hurt older written) (restart ∷ []))) ≡ 4 ∷ 5 ∷ []
  -- The promise stands while other pages are written and truncated and a design is created; it ends when the page is written, or truncated.
  beside : denied (run small (hurt older written) (restart ∷ activate 0 ∷ fault 0 1 ∷ write 0 1 0 6 ∷ truncate 0 1 ∷ create 1 0 8 ∷ [])) ≡ 2 ∷ 4 ∷ 5 ∷ []
  ended_written : denied (run small (hurt older written) (served ++ write 0 0 0 6 ∷ [])) ≡ 2 ∷ 5 ∷ []
  ended_truncated : denied (run small (hurt older written) (restart ∷ activate 0 ∷ truncate 0 0 ∷ [])) ≡ 2 ∷ 5 ∷ []
  -- The words read, and the ledger's text.
  read_whole : heard (run small (hurt whole written) served) ≡ 0 ∷ 5 ∷ 5 ∷ 5 ∷ []
  -- The older words are read as the restart found them, and the claim denies the world.
  read_older : heard (run small (hurt older written) served) ≡ 0 ∷ 9 ∷ 9 ∷ 9 ∷ []
  older_denied : denied (run small (hurt older written) served) ≡ 2 ∷ 4 ∷ 5 ∷ []
  -- The word of a written page is hurt in its frame: read and look are carried out, and differ from the text.
  read_other : heard (on_state (on_core (set_words (6 ∷ 8 ∷ 0 ∷ 0 ∷ []))) (run small (hurt whole written) (served ++ write 0 0 0 6 ∷ []))) ≡ 0 ∷ 8 ∷ 8 ∷ 5 ∷ []

pub worlds : Worlds
unfolding hurt seen heard holds
worlds = record {
  written_right = tt;
  rested_right = tt;
  restarted_right = tt;
  landed_right = tt;
  several_right = tt;
  written_whole = refl;
  written_dropped = refl;
  written_moved = refl;
  written_older = refl;
  rested_whole = refl;
  rested_dropped = refl;
  rested_moved = refl;
  rested_older = refl;
  restarted_whole = refl;
  restarted_dropped = refl;
  restarted_moved = refl;
  restarted_older = refl;
  landed_whole = refl;
  landed_dropped = refl;
  landed_moved = refl;
  landed_older = refl;
  several_whole = refl;
  several_second = refl;
  several_pages = refl;
  several_designs = refl;
  several_others = refl;
  several_strangers = refl;
  written_doubled = refl;
  rested_doubled = refl;
  one_design_holds = refl;
  mended = refl;
  beside = refl;
  ended_written = refl;
  ended_truncated = refl;
  read_whole = refl;
  read_older = refl;
  older_denied = refl;
  read_other = refl;
}
