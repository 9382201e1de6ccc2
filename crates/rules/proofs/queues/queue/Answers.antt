-- The invariant: ok tells whether each entry before k keeps the rule.
use mathlib.Core.Path.{ap}
use Prim.Native.Nat.{◌-◌}
use native.Mathlib.Numerals.{add-one}
use native.Mathlib.Omega.{arith}
use Rattle.tables.specs.Base.{at}
use Rattle.tables.specs.Turn.{each_none, each_next, each_end}
use Rattle.rules.proofs.Places.{next_entry, last_entry}
use Rattle.rules.proofs.queues.queue.Goals as goal

pub returns-then-count-eq0 : goal.returns-then-count-eq0
returns-then-count-eq0 c = each_end 0 _ _ _ (each_none _) (omega arith) (omega (arith, c.if-count-eq0.true))

pub loop-k-init : goal.loop-k-init
loop-k-init c = each_none _

pub loop-k-preserved : goal.loop-k-preserved
loop-k-preserved c =
    let args = c.args in
    let loop = c.loop-k in
    each_next _ _ _ _ loop.invariant (next_entry _ _ _ _ _ (ap (at args.entries.now) (add-one loop.k)) c.entry_ok-ok.ensures)

pub returns : goal.returns
returns c =
    let args = c.args in
    let loop-test = c.loop-k-test in
    let loop = c.loop-k in
    last_entry args.bound args.count args.entries.now loop.ok c.entry_ok.result c.at.result c.if-count-eq0.false
    (each_end loop.k (args.count - 1) _ loop.ok loop.invariant loop.auto.k-end loop-test.false) c.entry_ok.ensures c.at.ensures
