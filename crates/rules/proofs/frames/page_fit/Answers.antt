-- The test is the rule's.
use Rattle.rules.proofs.FrameTests.{named_told}
use Rattle.rules.proofs.frames.page_fit.Goals as goal

pub returns : goal.returns
returns c = named_told c.args.pages c.args.page
