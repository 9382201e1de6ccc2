-- A board: the keeper's tables in memory, the journal, the device. Its firmware makes one call after another and brings each call's stores to the device before it reports.
use Rattle.std.specs.Prelude.{Bool, true, false, not, ◌&&◌, List, [], ◌∷◌, ◌++◌, ℕ, ◌-◌, eqb, ltb, length, get_or}
use Rattle.tables.specs.Base.{if}
use Rattle.model.specs.declared.sizes.Sizes.{Sizes}
use Rattle.model.specs.State.{Memory, State}
use Rattle.model.specs.Step.{restart}
use Rattle.model.specs.Stores as S
use Rattle.model.specs.Acts as K
use Rattle.model.specs.Acts.{Act, event, looking, importing, exporting, restarting}
use Rattle.journal.specs.Device.{Sectors, now}
use Rattle.journal.specs.Layout.{home_at, fits}
use Rattle.journal.specs.Journal as J
use Rattle.journal.specs.Journal.{Mode, down, refused, idle, storing, recovering, Protocol}
use Rattle.layout.specs.Laid.{room, read_disk}
use Rattle.board.specs.Calls.{Entry, written, entries_of, left_by, together}

-- calls under way, what they store, and how many stores counted when they were begun
pub record Calling : Type 0 where
  pub acts : List Act
  pub entries : List Entry
  pub before : ℕ

pub data Phase : Type 0 where
  -- nothing is under way
  ready : Phase
  calling : Calling → Phase
  -- after a cut or a kill, with the calls that were under way, if any: memory is lost, and the disk part not read yet
  lost : Phase
  lost_in : Calling → Phase

pub record Board : Type 0 where
  pub journal : J.World
  pub phase : Phase
  -- restarted since the disk part was read
  pub up : Bool
  -- the lent tables
  pub state : State
  -- What has happened, as a list of the keeper's acts: each call once it is reported, and a cut once a recovery has found how far the calls had come. Nothing looks at it.
  pub past : List Act

-- What can happen.
pub data Move : Type 0 where
  -- the firmware makes a call; its stores are to be one entry each, in order
  call : Act → Move
  -- it makes these calls, and their stores are to be one entry
  calls : List Act → Move
  -- the next step of what is under way: an operation of the journal, the next entry, the report, or the reading of the disk part
  next : Move
  -- the power fails: which of the device's open writes land, and what memory holds after
  cut : (ℕ → Bool) → Memory → Move
  -- the program ends, or the device fails, and it is started again while the device lives on
  kill : Memory → Move

-- ── what may be called ──
abbrev pub is_ready : Phase → Bool
is_ready ready = true
is_ready (calling c) = false
is_ready lost = false
is_ready (lost_in c) = false

-- restart comes first; a cut is no call
abbrev pub may_call : Bool → Act → Bool
may_call up (event e) = up
may_call up (looking s p) = up
may_call up (importing s q n b) = up
may_call up (exporting s buffer) = up
may_call up restarting = true
may_call up (K.cutting writes updates junk) = false
may_call up (K.cutting_in c k writes updates junk) = false

-- calls that may share an entry: events
abbrev pub may_join : Bool → List Act → Bool
may_join up [] = up
may_join up (event e ∷ acts) = may_join up acts
may_join up (looking s p ∷ acts) = false
may_join up (importing s q n b ∷ acts) = false
may_join up (exporting s buffer ∷ acts) = false
may_join up (restarting ∷ acts) = false
may_join up (K.cutting writes updates junk ∷ acts) = false
may_join up (K.cutting_in c k writes updates junk ∷ acts) = false

-- ── what has happened to calls that a cut fell into ──
abbrev none : ℕ → Bool
none i = false

-- the cut itself: every transfer that is not in the journal has not landed
abbrev pub cut_only : Memory → Act
cut_only junk = K.cutting none none junk

-- inside a call, after k of its stores; events that share an entry have no place inside, and a restart has one store
abbrev pub cut_in : Act → ℕ → Memory → Act
cut_in (event e) k junk = K.cutting_in (S.event e) k none none junk
cut_in (importing s q n b) k junk = K.cutting_in (S.importing s q n b) k none none junk
cut_in (looking s p) k junk = cut_only junk
cut_in (exporting s buffer) k junk = cut_only junk
cut_in restarting k junk = cut_only junk
cut_in (K.cutting writes updates m) k junk = cut_only junk
cut_in (K.cutting_in c n writes updates m) k junk = cut_only junk

abbrev pub cut_inside : List Act → ℕ → Memory → List Act
cut_inside [] k junk = cut_only junk ∷ []
cut_inside (a ∷ acts) k junk = cut_in a k junk ∷ []

-- No entry counts: as if the calls had not been made. All count: they were made, and the cut came then.
unfoldable pub interrupted : Calling → ℕ → Memory → List Act
interrupted c k junk = if (eqb k 0) (cut_only junk ∷ []) (if (ltb k (length c.entries)) (cut_inside c.acts k junk) (c.acts ++ cut_only junk ∷ []))

-- ── the tables after calls ──
unfoldable pub left_after : Sizes → State → List Act → State
left_after z st [] = st
left_after z st (a ∷ acts) = left_after z (left_by z st a) acts

-- a restart that is carried out brings the board up
abbrev risen : Sizes → State → Bool → Act → Bool
risen z st up (event e) = up
risen z st up (looking s p) = up
risen z st up (importing s q n b) = up
risen z st up (exporting s buffer) = up
risen z st up restarting = if (eqb (restart z st).answer.refusal 0) true up
risen z st up (K.cutting writes updates junk) = up
risen z st up (K.cutting_in c k writes updates junk) = up

unfoldable pub up_after : Sizes → State → Bool → List Act → Bool
up_after z st up [] = up
up_after z st up (a ∷ acts) = up_after z (left_by z st a) (risen z st up a) acts

-- what stands behind the last entry; it is never handed over
abbrev pub no_entry : Entry
no_entry = record { sectors = []; disk = record { records = []; numbers = []; accounts = []; maps = []; limits = []; parents = []; highest = [] } }

-- ── a driver: the journal's protocol, and when calls are reported: how many of their entries count, and how many there are ──
pub record Driver : Type 0 where
  pub protocol : Protocol
  pub reports : ℕ → ℕ → Bool

-- THE DRIVER: the journal of areas of `most` sectors, over the home sectors of these sizes; calls are reported once all their entries count.
unfoldable pub driver : Sizes → ℕ → Driver
driver z most = record { protocol = J.journal most (room z) 0; reports = λ k n. not (ltb k n) }

abbrev pub is_idle : Mode → Bool
is_idle (idle n) = true
is_idle (down ops) = false
is_idle refused = false
is_idle (storing n s ops) = false
is_idle (recovering n ops) = false

module _ (z : Sizes) (v : Driver) where
  -- home as a read finds it
  abbrev pub home : J.World → Sectors
  home j x = now j.device (home_at v.protocol.most x)

  abbrev pub on_journal : J.Act → Board → Board
  on_journal a b = record { journal = J.act v.protocol b.journal a; phase = b.phase; up = b.up; state = b.state; past = b.past }

  -- how many entries of the calls under way count
  abbrev pub counted : Board → Calling → ℕ
  counted b c = length b.journal.kept - c.before

  -- the calls are reported
  abbrev pub reported : Board → Calling → Board
  reported b c = record { journal = b.journal; phase = ready; up = up_after z b.state b.up c.acts; state = left_after z b.state c.acts; past = b.past ++ c.acts }

  -- the next entry is handed to the journal
  abbrev pub entry_at : Calling → ℕ → Entry
  entry_at c k = get_or c.entries k no_entry

  abbrev pub handed : Board → Calling → Board
  handed b c = let e = entry_at c (counted b c) in on_journal (J.begin (written z e.disk e.sectors)) b

  -- the disk part is read from the home sectors; memory is as the cut left it
  abbrev pub read : Board → List Act → Board
  read b happened = record { journal = b.journal; phase = ready; up = false; state = record { disk = read_disk z (home b.journal); memory = b.state.memory }; past = b.past ++ happened }

  unfoldable pub go_on : Board → Phase → Board
  go_on b ready = b
  go_on b (calling c) = if (is_idle b.journal.mode) (if (v.reports (counted b c) (length c.entries)) (reported b c) (handed b c)) (on_journal J.next b)
  go_on b lost = if (is_idle b.journal.mode) (read b (cut_only b.state.memory ∷ [])) (on_journal J.next b)
  go_on b (lost_in c) = if (is_idle b.journal.mode) (read b (interrupted c (counted b c) b.state.memory)) (on_journal J.next b)

  -- the calls under way are lost with the memory
  abbrev pub losing : Phase → Phase
  losing ready = lost
  losing (calling c) = lost_in c
  losing lost = lost
  losing (lost_in c) = lost_in c

  abbrev pub loses_at : J.Act → Memory → Board → Board
  loses_at a junk b = record { journal = J.act v.protocol b.journal a; phase = losing b.phase; up = false; state = record { disk = b.state.disk; memory = junk }; past = b.past }

  abbrev pub begun : Board → List Act → List Entry → Board
  begun b acts entries = record { journal = b.journal; phase = calling (record { acts = acts; entries = entries; before = length b.journal.kept }); up = b.up; state = b.state; past = b.past }

  -- the entry that calls share is one that the journal takes
  abbrev pub may_share : Board → List Act → Bool
  may_share b acts = let e = together z b.state acts in may_join b.up acts && fits v.protocol.most v.protocol.room (written z e.disk e.sectors)

  -- a call that may not be made is not made
  unfoldable pub move : Board → Move → Board
  move b (call a) = if (is_ready b.phase && may_call b.up a) (begun b (a ∷ []) (entries_of z b.state a)) b
  move b (calls acts) = if (is_ready b.phase && may_share b acts) (begun b acts (together z b.state acts ∷ [])) b
  move b next = go_on b b.phase
  move b (cut lands junk) = loses_at (J.cutting lands) junk b
  move b (kill junk) = loses_at J.killing junk b

  unfoldable pub runs : Board → List Move → Board
  runs b [] = b
  runs b (m ∷ moves) = runs (move b m) moves

-- A formatted device, before the first recovery; the disk part is not read yet.
unfoldable pub fresh : Sectors → State → Board
fresh f st = record { journal = J.start f; phase = lost; up = false; state = st; past = [] }
