-- `put_frame` meets its contract: past the end `set` stores nothing.
use mathlib.Core.Path.{sym, ap, ◌∙◌}
use native.Mathlib.Omega.{arith}
use lib.ListN.{set}
use lib.Seq.{set_out}
use Rattle.leaves.specs.Packed.{unpacked, unpacked_set, unpacked_length}
use Rattle.leaves.proofs.packed.put_frame.Goals as goal

pub returns-then-f-frames : goal.returns-then-f-frames
returns-then-f-frames c =
    unpacked_set c.args.frames.now c.args.f c.pack.result ∙ ap (set (unpacked c.args.frames.now) c.args.f) c.pack.ensures

pub returns-else-f-frames : goal.returns-else-f-frames
returns-else-f-frames c =
    sym (set_out _ _ _ (omega (arith, unpacked_length c.args.frames.now)))
