-- `refuse_all` meets its contract: the answers passed are the refusal.
use native.Mathlib.Omega.{arith}
use Rattle.batch.proofs.Refusing.{refused_none, refused_long, refused_next, refused_end}
use Rattle.batch.proofs.numbers.refuse_all.Goals as goal

pub loop-k-init : goal.loop-k-init
loop-k-init c = refused_none

pub put_answer-requires : goal.put_answer-requires
put_answer-requires c =
    omega (arith, c.requires, refused_long c.loop-k.invariant)

pub loop-k-preserved : goal.loop-k-preserved
loop-k-preserved c =
    refused_next c.loop-k.invariant c.put_answer.ensures

pub returns : goal.returns
returns c =
    let r = refused_end c.loop-k.auto.k-end c.loop-k-test.false c.loop-k.invariant in
    (r.last_is, r.all_are)
