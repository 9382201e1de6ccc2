-- `named_once` meets its contract: there is a mark for each record, and all are off.
use native.Mathlib.Omega.{arith}
use Rattle.tables.specs.Laws.{at_zeros}
use Rattle.chips.proofs.ruled.named_once.Goals as goal

pub mark_all-requires : goal.mark_all-requires
mark_all-requires c = (omega (arith, c.requires.records_most), λ k h. at_zeros 128 k)
