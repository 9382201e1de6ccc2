-- `meet` meets its contract: the frame's transfer tells.
use mathlib.Core.Path.{refl}
use borrow.Author.Tests.{eq-eqb, ne_eqb}
use Rattle.model.specs.State.{NONE}
use Rattle.waiting.proofs.turn.meet.Goals as goal

pub pop-requires : goal.pop-requires
pop-requires c = c.requires.0

pub returns-then-frame-eq-NONE : goal.returns-then-frame-eq-NONE
returns-then-frame-eq-NONE c =
    let e = eq-eqb c.args.frame.transfer NONE c.if-frame-eq-NONE.true in record {
      result = rw e refl;
      line = rw e c.pop.ensures;
    }

pub rotate-requires : goal.rotate-requires
rotate-requires c = c.requires

pub returns : goal.returns
returns c =
    let e = ne_eqb c.args.frame.transfer NONE c.if-frame-eq-NONE.false in record {
      result = rw e refl;
      line = rw e c.rotate.ensures;
    }
