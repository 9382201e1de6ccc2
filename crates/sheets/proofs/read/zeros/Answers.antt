-- `zeros` meets its contract: ok tells whether the bytes passed are 0.
use Rattle.std.proofs.Common.{ap, ◌∙◌}
use Rattle.std.proofs.Math.Dec.{eqb}
use Rattle.tables.specs.Turn.{each_none, each_next, test_same}
use Rattle.sheets.proofs.Numbers.{slice_at}
use Rattle.sheets.proofs.read.zeros.Goals as goal

pub loop-byte-init : goal.loop-byte-init
loop-byte-init c = each_none _

pub loop-byte-preserved : goal.loop-byte-preserved
loop-byte-preserved c = each_next _ _ _ _ c.loop-byte.invariant (ap (λ x. eqb x 0) (slice_at _ _ _ _ c.loop-byte-test.true) ∙ test_same _ _)
