-- `whole_fields`: one field more, and its line.
use Rattle.replay.proofs.Printed.{ran_more}
use Rattle.replay.proofs.whole.whole_fields.Goals as goal

pub loop-step-preserved : goal.loop-step-preserved
loop-step-preserved c = ran_more c.loop-step.invariant c.in-Ok.ensures c.carry-held.ensures c.event-size.ensures
