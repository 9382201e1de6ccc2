-- `shift` meets its contract: by that of `copy_within`.
use Rattle.std.proofs.Common.{◌-◌, sym, ◌∙◌}
use Rattle.replay.proofs.Front.{as_paste}
use Rattle.replay.proofs.input.shift.Goals as goal

pub returns : goal.returns
returns c = c.copy_within.ensures.after ∙ sym (as_paste c.args.buffer.now c.args.from (c.args.end - c.args.from))
