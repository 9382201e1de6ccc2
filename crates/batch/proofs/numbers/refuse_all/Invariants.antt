use Rattle.batch.proofs.Refusing.{Refused}
use Rattle.batch.proofs.numbers.refuse_all.Given as goal

abbrev pub invariant-loop-k : goal.invariant-loop-k
invariant-loop-k l = Refused l.refusal l.initial.answers l.k l.last l.answers
