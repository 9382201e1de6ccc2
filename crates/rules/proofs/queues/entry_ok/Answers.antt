-- The tests are the rule's.
use Rattle.rules.proofs.FrameTests.{entry_told}
use Rattle.rules.proofs.queues.entry_ok.Goals as goal

pub returns : goal.returns
returns c = entry_told c.args.bound c.args.entry c.args.next
