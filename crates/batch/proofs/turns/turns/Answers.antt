-- `turns` meets its contract: what the tables hold is what the first t requests leave; lengths and rules follow from that.
use mathlib.Core.Path.{refl, ap, ◌∙◌}
use native.Mathlib.Omega.{arith}
use Rattle.model.specs.declared.frame.Pool.{Pool}
use Rattle.model.specs.Pool.{taken, deposited}
use Rattle.batch.proofs.Together.{turned_none, turned_next, turned_end, turned_long, turned_kept}
use Rattle.batch.proofs.turns.turns.Goals as goal

pub loop-k-init : goal.loop-k-init
loop-k-init c = (turned_none, refl, λ h. refl, λ h. absurd (omega (arith, h)))

pub turn-last-requires : goal.turn-last-requires
turn-last-requires c = (
  omega (arith, c.requires.0, c.loop-k-test.true),
  omega (arith, c.requires.1, c.loop-k-test.true, turned_long c.loop-k.invariant.0),
  turned_kept c.requires.2 c.loop-k.invariant.0,
)

pub loop-k-preserved : goal.loop-k-preserved
loop-k-preserved c =
    let l = c.loop-k in (
      turned_next l.invariant.0 c.turn-last.ensures.turned,
      c.turn-last.auto.frames ∙ l.invariant.1,
      λ h. absurd (omega (arith, h)),
      λ h. c.turn-last.ensures.pool ∙ ap (λ (p : Pool). deposited c.turn-last.result.deposited (taken c.args.sizes c.turn-last.result.taken p)) (l.invariant.2 (omega (arith, h))),
    )

pub returns : goal.returns
returns c =
    record {
      listed = (turned_end c.loop-k.auto.k-end c.loop-k-test.false c.loop-k.invariant.0).is;
      one = λ h. c.loop-k.invariant.3 (omega (arith, h, c.loop-k-test.false, c.loop-k.auto.k-end));
    }
