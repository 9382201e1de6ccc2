-- `frame_at` meets its contract: past the end there is no number, so no frame.
use mathlib.Core.Path.{sym, ap, ◌∙◌}
use Rattle.leaves.specs.Packed.{unpack, unpacked_at}
use Rattle.leaves.proofs.packed.frame_at.Goals as goal

pub returns : goal.returns
returns c =
    c.unpack.ensures ∙ ap unpack c.at.ensures ∙ sym (unpacked_at c.args.frames.now c.args.f)
