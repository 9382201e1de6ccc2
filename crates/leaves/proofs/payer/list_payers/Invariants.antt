use lib.ListN.{length}
use Rattle.tables.specs.Base.{at}
use Rattle.model.specs.Payer.{payer}
use Rattle.leaves.specs.ByEntry.{Rising}
use Rattle.leaves.proofs.payer.list_payers.Given as goal

abbrev pub invariant-loop-s : goal.invariant-loop-s
invariant-loop-s l = Rising (length l.initial.table) (λ i. payer (at l.parents) (at l.limits) (at l.accounts i)) l.s l.table
