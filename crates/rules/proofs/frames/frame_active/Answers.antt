-- A frame with no page passes; another by its slot's switch.
use mathlib.Core.Path.{◌∙◌}
use Rattle.tables.specs.Turn.{named_none, named_one, test_same}
use Rattle.rules.proofs.FrameTests.{slot_below}
use lib.ListN.{length}
use Rattle.rules.proofs.frames.frame_active.Goals as goal

pub returns-then-page-eq0 : goal.returns-then-page-eq0
returns-then-page-eq0 c = named_none _ _ c.if-page-eq0.true

pub bounds-active-i : goal.bounds-active-i
bounds-active-i c =
    slot_below c.args.page (length c.args.active.now) c.args.pages c.requires.0 c.if-page-eq0.false c.requires.1

pub returns : goal.returns
returns c = test_same _ 1 ∙ named_one _ _ c.if-page-eq0.false
