-- Every event keeps both sets of rules and all lengths; so do restart and format, and a cut keeps the disk rules.
use mathlib.Core.Path.{◌≡◌, refl, subst}
use mathlib.Core.Bool.{Bool}
use mathlib.Core.List.{List}
use Prim.Native.Nat.{ℕ, zero, suc, ◌+◌, ◌≤◌}
use lib.Dec.{T}
use Rattle.tables.specs.Base.{at, if}
use Rattle.tables.specs.Laws.{if_elim}
use Rattle.tables.specs.Queue.{queue_of, size}
use Rattle.tables.specs.Questions.{Asked, none, ask, first_no, all_yes, yes_all}
use Rattle.tables.specs.Rule.{Holds, test, sound}
use Rattle.model.specs.declared.sizes.Sizes.{Sizes}
use Rattle.model.specs.declared.event.Writeback.TheVariants.{Claim}
use Rattle.model.specs.declared.event.Event.{Event}
use Rattle.model.specs.declared.event.Event.TheVariants as Event
use Rattle.model.specs.Sizes.{sizes_fit}
use Rattle.model.specs.State.{Memory, State, LINE, files, all_pages, Core, Chip, frames}
use Rattle.model.specs.Setters.{on_disk, raise, on_core, set_chip}
use Rattle.model.specs.Rules.{lower, disk_rules}
use Rattle.model.specs.Laws.Ruled.{OnDisk, Ruled, ruled, rules, disk_ruled, rules_disk, chip_ruled}
use Rattle.model.specs.Questions.{questions}
use Rattle.model.specs.Restart as R
use Rattle.model.specs.Step.{outcome, all_fit, asked, answer, carried, result, step, restart, all_above, is_fault, supplied, whole}
use Rattle.model.specs.Laws.Fit.{Fit, within, fit, all_fit_holds, chip_fits}
use Rattle.model.specs.Pages.{fault_frame}
use Rattle.model.specs.Chip.{found, arrives}
use Rattle.model.specs.Terms.{Good}
use Rattle.model.specs.Acts as A
use Rattle.invariant.proofs.Raised.{raise_fit}
use Rattle.invariant.proofs.Framed.{Framed}
use Rattle.invariant.proofs.FramesKept.{frames_kept}
use Rattle.invariant.proofs.FramesRestart.{restarted_frames}
use Rattle.invariant.proofs.LineKept.{line_kept, restarted_line}
use Rattle.invariant.proofs.Chip.{Sound}
use Rattle.invariant.proofs.ChipKept.{Copies, unfilled_fault, filled_sound, chip_kept, restarted_chip}
use Rattle.invariant.proofs.ChipServed.{within as inside, read_kept, by_fault_holds, unmodified}
use Rattle.invariant.proofs.Records as Records
use Rattle.invariant.proofs.RecordsKept.{kept_records}
use Rattle.invariant.proofs.RestartedRecords.{format_disk, restarted_records}
use Rattle.invariant.proofs.RecordsCut.{landed_disk}
use Rattle.invariant.proofs.Looks as Looks

-- the two halves of the rules, joined
joined : (z : Sizes) (st : State) → Records.Kept z st → Framed z st → Holds (queue_of LINE (all_pages z) st.memory.line) → Ruled z st
joined z st k f l = record { disk = k.0; records = k.1; queues = f.queues; frames = f.frames; counts = f.counts; line = l }

-- a carried-out event: its questions' rules hold
pub carried_kept : (z : Sizes) (st : State) (e : Event) → Fit z st → Ruled z st → Asked (questions z st e) → Fit z (carried z st e) × Ruled z (carried z st e)
carried_kept z st e f r a = let k = frames_kept z st f r e a in (k.lengths, joined z (carried z st e) (kept_records z st e f r a) k (line_kept z st f r e a))

-- ── what the chip does ──
-- what an event that faults leaves of the chip before copies are dropped is the chip as it was
pub faulting_sound : (z : Sizes) (st : State) (e : Event) → Fit z st → Ruled z st → Copies z st → Asked (questions z st e) → T (is_fault z st e) → Sound z (files (carried z st e)).state (at (carried z st e).disk.records) st.memory.chip
faulting_sound z st e f r c a t = subst (Sound z (files (carried z st e)).state (at (carried z st e).disk.records)) (unfilled_fault z st e t st.memory.chip) (filled_sound z st f r c e a).1

-- a fault that finds a copy
pub served_kept : (z : Sizes) (st : State) (e : Event) → Fit z st → Ruled z st → Copies z st → Asked (questions z st e) → Fit z (supplied z st e) × Ruled z (supplied z st e)
unfolding supplied arrives
served_kept z st e f r c a = let x = carried z st e in let b = carried_kept z st e f r a in let n = fault_frame st in
    if_elim (λ (y : Core). Fit z (on_core (λ o. y) x) × Ruled z (on_core (λ o. y) x)) (is_fault z st e) _ x.memory.core
    (λ t. if_elim (λ (y : Core). Fit z (on_core (λ o. y) x) × Ruled z (on_core (λ o. y) x)) (test (found z st.memory.chip x n)) _ x.memory.core
    (λ u. let h = sound (found z st.memory.chip x n) u in let s = faulting_sound z st e f r c a t in
    read_kept z x b.0 b.1 st.memory.chip c.fit s n h (unmodified z st x (by_fault_holds z st e t a) (rw f.memory.frames (inside z x b.0 b.1 st.memory.chip c.fit s n h))))
    (λ u. b)) (λ t. b)

-- the chip alone changes
pub fit_beside : (z : Sizes) (st : State) (k : Chip) → Fit z st → Fit z (set_chip k st)
fit_beside z st k f = (let m = f.memory in record {
  sizes = f.sizes;
  disk = f.disk;
  memory = record {
    frames = m.frames;
    words = m.words;
    free_queue = m.free_queue;
    removal_list = m.removal_list;
    addresses = m.addresses;
    states = m.states;
    owners = m.owners;
    free_map = m.free_map;
    active = m.active;
    updating = m.updating;
    images = m.images;
    line = m.line;
    used = m.used;
  };
})

pub ruled_beside : (z : Sizes) (st : State) (k : Chip) → Ruled z st → Ruled z (set_chip k st)
ruled_beside z st k r = record {
  disk = r.disk;
  records = r.records;
  queues = record { free_queue = r.queues.free_queue; removal_list = r.queues.removal_list };
  frames = r.frames;
  counts = record { hand = r.counts.hand; free = r.counts.free; free_map = r.counts.free_map; used = r.counts.used };
  line = r.line;
}

-- the event, what it finds in the chip and what it leaves there
pub whole_kept : (z : Sizes) (st : State) (e : Event) → Fit z st → Ruled z st → Copies z st → Asked (questions z st e) → Fit z (whole z st e) × Ruled z (whole z st e) × Copies z (whole z st e)
unfolding whole
whole_kept z st e f r c a = let b = served_kept z st e f r c a in (fit_beside z (supplied z st e) _ b.0, ruled_beside z (supplied z st e) _ b.1, chip_kept z st f r c e a)

pub asked_all : (z : Sizes) (st : State) (e : Event) → answer z st e ≡ 0 → Asked (asked z st (questions z st e))
unfolding answer
asked_all z st e h = all_yes 0 (asked z st (questions z st e)) (all_above z st e) h

-- the chip of a state that passes both
pub good_chip : (z : Sizes) (st : State) → Good z st → Copies z st
good_chip z st g = record { fit = chip_fits z st g.0; rules = chip_ruled z st g.1 }

good_whole : (z : Sizes) (st : State) (e : Event) → answer z st e ≡ 0 → Good z (whole z st e)
good_whole z st e h =
    let a = asked_all z st e h in
    let k = whole_kept z st e (fit z st a.0) (ruled z st a.1.0) (good_chip z st (a.0, a.1.0)) a.1.1 in
    (all_fit_holds z (whole z st e) k.0 k.2.fit, rules z (whole z st e) k.1 k.2.rules)

-- For every state that passes questions 1 and 2 and every event, the state after `step` passes them too.
pub kept : (z : Sizes) (st : State) (e : Event) → Good z st → Good z (step z st e).left
unfolding step
kept z st e g = go (answer z st e) refl
  where
    go : (n : ℕ) → answer z st e ≡ n → Good z (outcome n (result z st e) st (whole z st e)).left
    go zero h = good_whole z st e h
    go (suc n) h = g

-- A carried-out claim looks at least once, and at most once more than the list is long.
pub looks_bound : (z : Sizes) (st : State) → answer z st (Event.Writeback Claim) ≡ 0 → (1 ≤ result z st (Event.Writeback Claim)) × (result z st (Event.Writeback Claim) ≤ size st.memory.core.removal_list + 1)
unfolding result
looks_bound z st h = Looks.looks_bound z st (asked_all z st (Event.Writeback Claim) h).1.1.0

-- ── restart, format and cuts ──
-- Restart is carried out on every disk part that keeps the disk rules, whatever the memory holds.
pub restart_answer : (z : Sizes) (st : State) → Holds (all_fit z st) → Holds (disk_rules z st) → first_no (ask 1 (all_fit z st) (ask 2 (disk_rules z st) none)) ≡ 0
restart_answer z st f d = yes_all (ask 1 (all_fit z st) (ask 2 (disk_rules z st) none)) (f, (d, tt))

pub restarted_good : (z : Sizes) (st : State) → Fit z st → OnDisk z (files st) → Fit z (R.restarted z st.disk) × Ruled z (R.restarted z st.disk) × Copies z (R.restarted z st.disk)
restarted_good z st f d =
    let k = restarted_frames z st.disk f.sizes f.disk in
    (k.lengths, joined z (R.restarted z st.disk) (restarted_records z f.sizes st d) k (restarted_line z st.disk), restarted_chip z st.disk f.sizes)

-- .. with the highest number stored
pub raised_good : (z : Sizes) (st : State) → Fit z st → OnDisk z (files st) → Fit z (R.restarted z (R.raised z st.disk)) × Ruled z (R.restarted z (R.raised z st.disk)) × Copies z (R.restarted z (R.raised z st.disk))
unfolding R.raised
raised_good z st f d = let n = R.highest_of st.disk z.slots in restarted_good z (on_disk (raise n) st) (raise_fit z st n f) d

-- From any disk part that passes the disk rules and any memory of the right lengths, restart's state passes both sets.
pub restarted : (z : Sizes) (st : State) → Holds (all_fit z st) → Holds (disk_rules z st) → ((restart z st).answer.refusal ≡ 0) × Good z (restart z st).left
unfolding restart
restarted z st f d =
    rw (restart_answer z st f d)
    (refl, (let k = raised_good z st (fit z st f) (disk_ruled z st d) in (all_fit_holds z (R.restarted z (R.raised z st.disk)) k.0 k.2.fit, rules z (R.restarted z (R.raised z st.disk)) k.1 k.2.rules)))

-- Format's disk part passes the disk rules, whatever the memory holds.
pub formatted : (z : Sizes) (parents : List ℕ) (m : Memory) → Holds (sizes_fit z) → Holds (lower z.accounts (at parents)) → Holds (disk_rules z (record { disk = R.formatted z parents; memory = m }))
formatted z parents m h low = rules_disk z (record { disk = R.formatted z parents; memory = m }) (format_disk z (within z h) parents low m)

-- After a cut with any choice of what lands, the disk part passes the disk rules, whatever the memory holds.
pub landed : (z : Sizes) (st : State) (writes updates : ℕ → Bool) (m : Memory) → Good z st → Holds (disk_rules z (record { disk = A.landed z st writes updates; memory = m }))
landed z st writes updates m g = rules_disk z (record { disk = A.landed z st writes updates; memory = m }) (landed_disk z st (fit z st g.0) (ruled z st g.1) writes updates m)
