-- `begins` meets its contract.
use borrow.Author.Tests.{eq-eqb}
use mathlib.Core.Path.{ap}
use mathlib.Core.Bool.{not}
use Rattle.tables.specs.Base.{all}
use Rattle.tables.specs.Rule.{test}
use Rattle.writeback.proofs.claim.begins.Goals as goal

pub returns-then-modified-eq1 : goal.returns-then-modified-eq1
unfolding all test
returns-then-modified-eq1 c = rw (eq-eqb _ _ c.if-modified-eq1.true) (ap not c.all_zero.ensures)
