-- The invariant: the first k entries are counted.
use mathlib.Core.List.{[]}
use Prim.Native.Nat.{◌-◌}
use native.Mathlib.Omega.{arith}
use Rattle.tables.specs.Base.{at}
use lib.ListN.{length}
use Rattle.rules.proofs.Places.{begin, below_n, one_more, stopped, ran_out}
use Rattle.rules.proofs.queues.places.Goals as goal

pub returns-then-e-eq0 : goal.returns-then-e-eq0
returns-then-e-eq0 c =
    let loop = c.loop-entry in
    stopped _ _ _ loop.invariant c.if-e-eq0.true

pub bounds-t-e : goal.bounds-t-e
bounds-t-e c =
    let args = c.args in let pre = c.requires in
    let loop = c.loop-entry in
    omega (arith, loop.invariant.sized, c.if-e-eq0.false, below_n args.entries.now [] (length args.entries.now) loop.entry-index pre.3 c.loop-entry-test.true c.if-e-eq0.false)

pub bounds-t-e-in-loop-entry : goal.bounds-t-e-in-loop-entry
bounds-t-e-in-loop-entry c =
    let args = c.args in let pre = c.requires in
    let loop = c.loop-entry in
    omega (arith, loop.invariant.sized, c.if-e-eq0.false, below_n args.entries.now [] (length args.entries.now) loop.entry-index pre.3 c.loop-entry-test.true c.if-e-eq0.false)

pub loop-entry-preserved : goal.loop-entry-preserved
loop-entry-preserved c =
    let pre = c.requires in let args = c.args in
    let loop = c.loop-entry in
    one_more _ _ _ loop.invariant c.if-e-eq0.false (omega (arith, pre.0, below_n args.entries.now [] (length args.entries.now) loop.entry-index pre.3 c.loop-entry-test.true c.if-e-eq0.false))

pub returns : goal.returns
returns c = ran_out _ _ _ c.loop-entry.invariant c.loop-entry-test.false
