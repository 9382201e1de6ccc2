-- Lists of acts: events, page looks, restarts, and cuts, also inside a call, with any choice of what lands and anything in memory after.
use Rattle.std.specs.Prelude.{Bool, true, false, ◌&&◌, List, [], ◌∷◌, ℕ, zero, suc, ◌%◌, eqb, ltb, length}
use Rattle.tables.specs.Base.{if}
use Rattle.tables.specs.Rule.{test}
use Rattle.model.specs.declared.sizes.Sizes.{Sizes}
use Rattle.model.specs.declared.event.Design.TheVariants.{Create, Delete, Activate, Deactivate}
use Rattle.model.specs.declared.event.Page.TheVariants.{Fault, Read, Write, Wire, Unwire}
use Rattle.model.specs.declared.event.Writeback.TheVariants.{Claim, Truncate, Update, PageDone, MapDone}
use Rattle.model.specs.declared.event.Waiting.TheVariants.{Join, Turn}
use Rattle.model.specs.declared.event.Event.{Event}
use Rattle.model.specs.State.{Disk, Memory, State, files, frames, WRITING, slot_of}
use Rattle.model.specs.Pages.{fault_frame}
use Rattle.model.specs.Writeback
use Rattle.model.specs.Writeback.{begins_write, record_in, store_frame, store_image}
use Rattle.model.specs.Questions.{Turning, nobody, serves, goes_back, faults, claims, sends_away, next_page, turning}
use Rattle.model.specs.Setters.{on_disk}
use Rattle.model.specs.Step.{Outcome, memory_lengths, step, restart}
use Rattle.model.specs.Stores as S
use Rattle.model.specs.Stores.{Call, made, first}
use Rattle.model.specs.Import.{Sheet, sheet_of, taken, has, said, import}
use Rattle.model.specs.Ledger as L

pub data Act : Type 0 where
  event : Event → Act
  -- a page look: slot, page
  looking : ℕ → ℕ → Act
  -- an import: slot, account, number, sheet; an export: slot, buffer
  importing : ℕ → ℕ → ℕ → List ℕ → Act
  exporting : ℕ → List ℕ → Act
  restarting : Act
  -- which open writes land, by frame; which open updates, by slot; what the memory holds after
  cutting : (ℕ → Bool) → (ℕ → Bool) → Memory → Act
  -- the same inside a call: how many of its stores are made
  cutting_in : Call → ℕ → (ℕ → Bool) → (ℕ → Bool) → Memory → Act

-- what a fault of a page and a claim feed the ledger
abbrev fed_fault : State → ℕ → ℕ → L.Fed
fed_fault st s p = L.faulted s p (fault_frame st)

abbrev fed_claim : Sizes → State → L.Fed
fed_claim z st = let f = (Writeback.looking z st).taken in L.claimed f (if (begins_write z st) (suc (record_in z st f)) 0)

-- a turn feeds what its fault or claim feeds
abbrev pub fed_turn : Sizes → State → Turning → L.Fed
fed_turn z st nobody = L.nothing
fed_turn z st serves = L.nothing
fed_turn z st goes_back = L.nothing
fed_turn z st faults = fed_fault st (slot_of z (next_page z st)) (next_page z st % z.pages)
fed_turn z st claims = fed_claim z st
fed_turn z st (sends_away n) = L.nothing

-- what an event that is carried out feeds the ledger
unfoldable pub fed : Sizes → State → Event → L.Fed
fed z st (Event.Design (Create s q n)) = L.created s n
fed z st (Event.Design (Delete s)) = L.deleted s
fed z st (Event.Design (Activate s)) = L.activated s st.disk
fed z st (Event.Design (Deactivate s)) = L.deactivated s
fed z st (Event.Account e) = L.nothing
fed z st (Event.Page (Fault s p)) = fed_fault st s p
fed z st (Event.Page (Read s p w)) = L.nothing
fed z st (Event.Page (Write s p w x)) = L.wrote s p w x
fed z st (Event.Page (Wire s p)) = L.nothing
fed z st (Event.Page (Unwire s p)) = L.nothing
fed z st (Event.Writeback Claim) = fed_claim z st
fed z st (Event.Writeback (Truncate s k)) = L.truncated s k
fed z st (Event.Writeback (Update s)) = L.began s
fed z st (Event.Writeback (PageDone f good)) = L.page_end f good
fed z st (Event.Writeback (MapDone s good)) = L.map_end s good
fed z st (Event.Waiting (Join s p)) = L.nothing
fed z st (Event.Waiting Turn) = fed_turn z st (turning z st)

-- what the first k records that an import stores feed, once its number is the highest; while the last store is not made
unfoldable pub partly : Sizes → State → ℕ → ℕ → Sheet → ℕ → L.Ledger → L.Ledger
partly z st s n h zero l = L.note z l (L.import_begun n)
partly z st s n h (suc k) l = L.note z (partly z st s n h k l) (L.imported_page (h.page k) (taken z st s k) (h.word k))

-- and all of them
unfoldable pub wholly : Sizes → State → ℕ → ℕ → Sheet → L.Ledger → L.Ledger
wholly z st s n h l = L.note z (partly z st s n h h.count l) (L.imported_slot s (has h) (said h))

-- what a call's stores feed before its last one: an event's nothing, an import's nothing before the first
unfoldable pub fed_part : Sizes → State → Call → ℕ → L.Ledger → L.Ledger
fed_part z st (S.event e) k l = l
fed_part z st (S.importing s q n b) zero l = l
fed_part z st (S.importing s q n b) (suc k) l = partly z st s n (sheet_of b) k l

-- ── a cut ──
-- Each open write's record and open update's map is then old or new, whole, in any mix; the rest of the disk stays.
unfoldable pub land_writes : Sizes → State → (ℕ → Bool) → ℕ → Disk → Disk
land_writes z st lands zero d = d
land_writes z st lands (suc f) d = let rest = land_writes z st lands f d in if (lands f && eqb ((frames st).frame f).transfer WRITING) (store_frame z st f rest) rest

unfoldable pub land_updates : Sizes → State → (ℕ → Bool) → ℕ → Disk → Disk
land_updates z st lands zero d = d
land_updates z st lands (suc s) d = let rest = land_updates z st lands s d in if (lands s && eqb ((files st).updating s) 1) (store_image z st s rest) rest

unfoldable pub landed : Sizes → State → (ℕ → Bool) → (ℕ → Bool) → Disk
landed z st writes updates = land_updates z st updates z.slots (land_writes z st writes z.frames st.disk)

-- ── the world along a list of acts ──
pub record World : Type 0 where
  -- restarted since the start or the last cut
  pub up : Bool
  pub state : State
  pub ledger : L.Ledger

module _ (z : Sizes) where
  -- a carried-out call is noted; a refused one leaves the ledger alone
  unfoldable pub noted : Outcome State → L.Fed → L.Ledger → L.Ledger
  noted o f l = if (eqb o.answer.refusal 0) (L.note z l f) l

  -- a cut; a second one before the restart finds nothing open
  abbrev pub cut_off : World → (ℕ → Bool) → (ℕ → Bool) → Memory → World
  cut_off w writes updates junk = record {
    up = false;
    state = record { disk = if w.up (landed z w.state writes updates) w.state.disk; memory = junk };
    ledger = L.note z w.ledger (L.cut writes updates);
  }

  -- the world once the first k of a call's stores are made
  unfoldable pub part : World → Call → ℕ → World
  part w c k = record { up = w.up; state = on_disk (first k (made z w.state c)) w.state; ledger = fed_part z w.state c k w.ledger }

  unfoldable pub act : World → Act → World
  act w (event e) = let o = step z w.state e in record { up = w.up; state = o.left; ledger = noted o (fed z w.state e) w.ledger }
  -- a page look leaves all as it was, and is no event: the ledger is fed nothing
  act w (looking s p) = w
  act w (importing s q n b) = let o = import z w.state s q n b in
      record { up = w.up; state = o.left; ledger = if (eqb o.answer.refusal 0) (wholly z w.state s n (sheet_of b) w.ledger) w.ledger }
  -- so does an export
  act w (exporting s buffer) = w
  act w restarting = let o = restart z w.state in record { up = if (eqb o.answer.refusal 0) true w.up; state = o.left; ledger = noted o (L.restarted w.state.disk) w.ledger }
  act w (cutting writes updates junk) = cut_off w writes updates junk
  -- a cut falls before or after a store
  act w (cutting_in c k writes updates junk) = cut_off (part w c k) writes updates junk

  -- Restart is the first call after a format or a cut, made again while refused. Memory keeps its lengths.
  unfoldable pub allowed : World → Act → Bool
  allowed w (event e) = w.up
  allowed w (looking s p) = w.up
  allowed w (importing s q n b) = w.up
  allowed w (exporting s buffer) = w.up
  allowed w restarting = true
  allowed w (cutting writes updates junk) = test (memory_lengths z junk)
  -- before its last store; after that one it is a cut after the call
  allowed w (cutting_in c k writes updates junk) = w.up && (ltb k (length (made z w.state c)) && test (memory_lengths z junk))

  unfoldable pub legal : World → List Act → Bool
  legal w [] = true
  legal w (a ∷ acts) = let rest = legal (act w a) acts in allowed w a && rest

  unfoldable pub run : World → List Act → World
  run w [] = w
  run w (a ∷ acts) = run (act w a) acts

  -- a pack: a finished format's disk part, a mended one, or any other; the memory holds anything
  unfoldable pub start : Disk → Memory → World
  start pack junk = record { up = false; state = record { disk = pack; memory = junk }; ledger = L.unwritten z pack }
