use Rattle.rules.proofs.Tally.{Totals}
use Rattle.accounts.proofs.count.count_slots.Given as goal

abbrev pub invariant-loop-s : goal.invariant-loop-s
invariant-loop-s l = Totals l.pages l.payers l.active l.maps l.addresses l.states l.slots l.totals l.s
