-- The new highest number keeps lengths and rules: neither speaks of it.
use mathlib.Core.Path.{◌∙◌}
use Prim.Native.Nat.{ℕ}
use lib.ListN.{length-set}
use Rattle.model.specs.declared.sizes.Sizes.{Sizes}
use Rattle.model.specs.State.{Disk, State}
use Rattle.model.specs.Setters.{on_disk, raise}
use Rattle.model.specs.Laws.Ruled.{Ruled}
use Rattle.model.specs.Laws.Fit.{Fit, DiskFit}

pub raise_disk : (z : Sizes) (d : Disk) (n : ℕ) → DiskFit z d → DiskFit z (raise n d)
raise_disk z d n f = record { records = f.records; numbers = f.numbers; accounts = f.accounts; maps = f.maps; limits = f.limits; parents = f.parents; highest = length-set d.highest 0 n ∙ f.highest }

pub raise_fit : (z : Sizes) (st : State) (n : ℕ) → Fit z st → Fit z (on_disk (raise n) st)
raise_fit z st n f = record { sizes = f.sizes; disk = raise_disk z st.disk n f.disk; memory = f.memory }

pub raise_ruled : (z : Sizes) (st : State) (n : ℕ) → Ruled z st → Ruled z (on_disk (raise n) st)
raise_ruled z st n r = record {
  disk = r.disk;
  records = r.records;
  queues = record { free_queue = r.queues.free_queue; removal_list = r.queues.removal_list };
  frames = r.frames;
  counts = record { hand = r.counts.hand; free = r.counts.free; free_map = r.counts.free_map; used = r.counts.used };
  line = r.line;
}
