-- The entry at i, or it and the seven after it.
use native.Mathlib.Omega.{arith}
use Rattle.tables.specs.Base.{at}
use Rattle.rules.proofs.Marked.{run_of_one, run_of_eight}
use Rattle.rules.proofs.marks.zeros_from.Goals as goal

pub returns-then-n-i-lt8 : goal.returns-then-n-i-lt8
returns-then-n-i-lt8 c =
    let pre = c.requires in
    let args = c.args in
    (omega arith, omega (arith, pre.1), run_of_one (at args.entries.now) args.i pre.2)

pub returns-then-entries-i : goal.returns-then-entries-i
returns-then-entries-i c =
    let pre = c.requires in let args = c.args in
    let if1 = c.if-n-i-lt8 in
    let if2 = c.if-entries-i in
    (omega arith, omega (arith, if1.false, pre.1), run_of_eight (at args.entries.now) args.i pre.2 if2.true)

pub returns : goal.returns
returns c =
    let pre = c.requires in let args = c.args in
    (omega arith, omega (arith, pre.1), run_of_one (at args.entries.now) args.i pre.2)
