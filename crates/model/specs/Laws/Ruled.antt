-- Question 2 as records of statements, by subject: what proofs cite of a state that keeps the rules, and what they build to show it.
use Rattle.std.specs.Prelude.{ℕ, ◌<◌, ◌≡◌}
use Rattle.std.proofs.Common.{arith}
use Rattle.tables.specs.Base.{at}
use Rattle.tables.specs.Queue.{queue, queue_of, members}
use Rattle.tables.specs.TimesLaws.{Once}
use Rattle.tables.specs.Rule.{Holds}
use Rattle.model.specs.declared.sizes.Sizes.{Sizes}
use Rattle.model.specs.State.{State, Files, Frames, Chip, files, frames, LINE, all_pages, map_words, used_of, free_count, free_word}
use Rattle.model.specs.Rules

-- the disk rules
pub record OnDisk (z : Sizes) (v : Files) : Type 0 where
  pub empty_account_holds : Holds (Rules.empty_account z v)
  pub empty_map_holds : Holds (Rules.empty_map z v)
  pub map_fit_holds : Holds (Rules.map_fit z v)
  pub map_once_holds : Holds (Rules.map_once z v)
  pub number_once_holds : Holds (Rules.number_once z v)
  pub account_fit_holds : Holds (Rules.account_fit z v)
  pub parent_lower_holds : Holds (Rules.parent_lower z v)

-- the memory rules of pages, records and slots
pub record OfRecords (z : Sizes) (v : Files) : Type 0 where
  pub address_fit_holds : Holds (Rules.address_fit z v)
  pub image_fit_holds : Holds (Rules.image_fit z v)
  pub state_fit_holds : Holds (Rules.state_fit z v)
  pub owner_fit_holds : Holds (Rules.owner_fit z v)
  pub active_fit_holds : Holds (Rules.active_fit z v)
  pub updating_fit_holds : Holds (Rules.updating_fit z v)
  pub held_once_holds : Holds (Rules.held_once z v)
  pub held : Holds (Rules.held z v)
  pub held_by_holds : Holds (Rules.held_by z v)
  pub filed : Holds (Rules.filed z v)
  pub filed_by_holds : Holds (Rules.filed_by z v)
  pub mapped : Holds (Rules.mapped z v)
  pub imaged : Holds (Rules.imaged z v)
  pub image_once_holds : Holds (Rules.image_once z v)
  pub image_zero_holds : Holds (Rules.image_zero z v)
  pub leaving_begun_holds : Holds (Rules.leaving_begun z v)
  pub active_filled_holds : Holds (Rules.active_filled z v)
  pub address_active_holds : Holds (Rules.address_active z v)
  pub update_active_holds : Holds (Rules.update_active z v)

-- the memory rules of frames; `word` gives the records' words
pub record OfFrames (z : Sizes) (v : Files) (c : Frames) (word : ℕ → ℕ) : Type 0 where
  pub fit : Holds (Rules.frame_fit z v c)
  pub in_one_place_holds : Holds (Rules.in_one_place z v c)
  pub active : Holds (Rules.frame_active z v c)
  pub once : Holds (Rules.framed_once z v c)
  pub held : Holds (Rules.framed_held z v c)
  pub writing : Holds (Rules.writing_modified z v c)
  pub free : Holds (Rules.free_frame z v c)
  pub busy : Holds (Rules.busy_frame z v c)
  pub clean : Holds (Rules.clean z v c word)

pub record OfQueues (z : Sizes) (st : State) : Type 0 where
  pub free_queue : Holds (queue z.frames st.memory.core.free_queue)
  pub removal_list : Holds (queue z.frames st.memory.core.removal_list)

pub record OfCounts (z : Sizes) (st : State) : Type 0 where
  pub hand : st.memory.held.pool.hand < z.records
  pub free : st.memory.held.pool.free ≡ free_count z (files st).state
  pub free_map : (k : ℕ) → k < map_words z → at st.memory.held.free_map k ≡ free_word z (files st).state k
  pub used : (q : ℕ) → q < z.accounts → at st.memory.used q ≡ used_of z (files st) (frames st) q

-- the rules of the chip, apart from the others: no rule but these looks at it. state: the records' states; word: their words
pub record OfChip (z : Sizes) (state word : ℕ → ℕ) (k : Chip) : Type 0 where
  pub next : Holds (Rules.next_fit z state word k)
  pub once : Holds (Rules.copy_once z state word k)
  pub empty : Holds (Rules.copy_empty z state word k)
  pub live : Holds (Rules.copy_live z state word k)

abbrev pub ChipIn : Sizes → State → Type 0
ChipIn z st = OfChip z (files st).state (at st.disk.records) st.memory.chip

-- all rules but those of the chip
pub record Ruled (z : Sizes) (st : State) : Type 0 where
  pub disk : OnDisk z (files st)
  pub records : OfRecords z (files st)
  pub queues : OfQueues z st
  pub frames : OfFrames z (files st) (frames st) (at st.disk.records)
  pub counts : OfCounts z st
  pub line : Holds (queue_of LINE (all_pages z) st.memory.line)

-- no frame stands twice in a queue
module _ (z : Sizes) (st : State) (r : Ruled z st) where
  pub once_free : Once z.frames (members st.memory.core.free_queue)
  once_free f h = omega (arith, r.frames.in_one_place_holds f h)

  pub once_list : Once z.frames (members st.memory.core.removal_list)
  once_list f h = omega (arith, r.frames.in_one_place_holds f h)

pub disk_ruled : (z : Sizes) (st : State) → Holds (Rules.disk_rules z st) → OnDisk z (files st)
unfolding Rules.disk_rules
disk_ruled z st h = record { empty_account_holds = h.0; empty_map_holds = h.1.0; map_fit_holds = h.1.1.0; map_once_holds = h.1.1.1.0; number_once_holds = h.1.1.1.1.0; account_fit_holds = h.1.1.1.1.1.0; parent_lower_holds = h.1.1.1.1.1.1 }

pub rules_disk : (z : Sizes) (st : State) → OnDisk z (files st) → Holds (Rules.disk_rules z st)
unfolding Rules.disk_rules
rules_disk z st h = (h.empty_account_holds, (h.empty_map_holds, (h.map_fit_holds, (h.map_once_holds, (h.number_once_holds, (h.account_fit_holds, h.parent_lower_holds))))))

records_ruled : (z : Sizes) (st : State) → Holds (Rules.range_rules z st) → Holds (Rules.record_rules z st) → OfRecords z (files st)
unfolding Rules.range_rules Rules.record_rules
records_ruled z st a h =
    let (held_once_holds, (held, (held_by_holds, (filed, (filed_by_holds, (mapped, (imaged, (image_once_holds, (image_zero_holds, (leaving_begun_holds, (active_filled_holds, (address_active_holds, update_active_holds)))))))))))) = h in record {
      address_fit_holds = a.0;
      image_fit_holds = a.1.0;
      state_fit_holds = a.1.1.0;
      owner_fit_holds = a.1.1.1.0;
      active_fit_holds = a.1.1.1.1.0;
      updating_fit_holds = a.1.1.1.1.1;
      held_once_holds = held_once_holds;
      held = held;
      held_by_holds = held_by_holds;
      filed = filed;
      filed_by_holds = filed_by_holds;
      mapped = mapped;
      imaged = imaged;
      image_once_holds = image_once_holds;
      image_zero_holds = image_zero_holds;
      leaving_begun_holds = leaving_begun_holds;
      active_filled_holds = active_filled_holds;
      address_active_holds = address_active_holds;
      update_active_holds = update_active_holds;
    }

rules_ranges : (z : Sizes) (st : State) → OfRecords z (files st) → Holds (Rules.range_rules z st)
unfolding Rules.range_rules
rules_ranges z st h = (h.address_fit_holds, (h.image_fit_holds, (h.state_fit_holds, (h.owner_fit_holds, (h.active_fit_holds, h.updating_fit_holds)))))

rules_records : (z : Sizes) (st : State) → OfRecords z (files st) → Holds (Rules.record_rules z st)
unfolding Rules.record_rules
rules_records z st h =
    (h.held_once_holds, (h.held, (h.held_by_holds, (h.filed, (h.filed_by_holds, (h.mapped, (h.imaged, (h.image_once_holds, (h.image_zero_holds, (h.leaving_begun_holds, (h.active_filled_holds, (h.address_active_holds, h.update_active_holds))))))))))))

frames_ruled : (z : Sizes) (st : State) → Holds (Rules.frame_rules z st) → OfFrames z (files st) (frames st) (at st.disk.records)
unfolding Rules.frame_rules
frames_ruled z st h = record {
  fit = h.0;
  in_one_place_holds = h.1.0;
  active = h.1.1.0;
  once = h.1.1.1.0;
  held = h.1.1.1.1.0;
  writing = h.1.1.1.1.1.0;
  free = h.1.1.1.1.1.1.0;
  busy = h.1.1.1.1.1.1.1.0;
  clean = h.1.1.1.1.1.1.1.1;
}

rules_frames : (z : Sizes) (st : State) → OfFrames z (files st) (frames st) (at st.disk.records) → Holds (Rules.frame_rules z st)
unfolding Rules.frame_rules
rules_frames z st h = (h.fit, (h.in_one_place_holds, (h.active, (h.once, (h.held, (h.writing, (h.free, (h.busy, h.clean))))))))

-- all rules but those of the chip
pub tables_ruled_holds : (z : Sizes) (st : State) → OnDisk z (files st) → Holds (Rules.table_rules z st) → Ruled z st
unfolding Rules.table_rules Rules.queue_rules Rules.count_rules Rules.line_rules
tables_ruled_holds z st d h = record {
  disk = d;
  records = records_ruled z st h.0 h.1.0;
  queues = record { free_queue = h.1.1.0.0; removal_list = h.1.1.0.1 };
  frames = frames_ruled z st h.1.1.1.0;
  counts = (let k = h.1.1.1.1.0 in record { hand = k.0; free = k.1.0; free_map = k.1.1.0; used = k.1.1.1 });
  line = h.1.1.1.1.1;
}

pub rules_tables : (z : Sizes) (st : State) → Ruled z st → Holds (Rules.table_rules z st)
unfolding Rules.table_rules Rules.queue_rules Rules.count_rules Rules.line_rules
rules_tables z st r = (
  rules_ranges z st r.records,
  (
    rules_records z st r.records,
    (
      (r.queues.free_queue, r.queues.removal_list),
      (
        rules_frames z st r.frames,
        ((r.counts.hand, (r.counts.free, (r.counts.free_map, r.counts.used))), r.line),
      ),
    ),
  ),
)

pub ruled : (z : Sizes) (st : State) → Holds (Rules.all_rules z st) → Ruled z st
unfolding Rules.all_rules Rules.memory_rules
ruled z st h = tables_ruled_holds z st (disk_ruled z st h.0) h.1.0

pub chip_ruled : (z : Sizes) (st : State) → Holds (Rules.all_rules z st) → ChipIn z st
unfolding Rules.all_rules Rules.memory_rules Rules.chip_rules
chip_ruled z st h = let k = h.1.1 in record { next = k.0; once = k.1.0; empty = k.1.1.0; live = k.1.1.1 }

pub rules : (z : Sizes) (st : State) → Ruled z st → ChipIn z st → Holds (Rules.all_rules z st)
unfolding Rules.all_rules Rules.memory_rules Rules.chip_rules
rules z st r k = (rules_disk z st r.disk, (rules_tables z st r, (k.next, (k.once, (k.empty, k.live)))))
