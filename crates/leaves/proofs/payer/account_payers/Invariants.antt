use lib.ListN.{length}
use Rattle.tables.specs.Base.{at}
use Rattle.model.specs.Payer.{payer}
use Rattle.leaves.specs.ByEntry.{Begun}
use Rattle.leaves.proofs.payer.account_payers.Given as goal

abbrev pub invariant-loop-q : goal.invariant-loop-q
invariant-loop-q l = Begun (length l.initial.payers) (payer (at l.parents) (at l.limits)) l.q l.payers
