-- `settle` meets its contract: the fault's number tells.
use mathlib.Core.Path.{refl}
use borrow.Author.Tests.{eq-eqb, ne_eqb}
use Rattle.waiting.proofs.turn.settle.Goals as goal

pub pop-requires : goal.pop-requires
pop-requires c = c.requires

pub returns-then-no-ne0 : goal.returns-then-no-ne0
returns-then-no-ne0 c =
    record {
      done = refl;
      waiting = rw (ne_eqb c.args.done.answer.refusal 0 c.if-no-ne0.true) c.pop.ensures;
    }

pub returns-else-no-ne0 : goal.returns-else-no-ne0
returns-else-no-ne0 c =
    record {
      done = refl;
      waiting = rw (eq-eqb c.args.done.answer.refusal 0 c.if-no-ne0.false) refl;
    }
