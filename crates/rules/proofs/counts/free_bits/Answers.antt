-- The invariant: the word tells the last n of the records.
use Prim.Native.Nat.{◌+◌, ◌-◌}
use native.Mathlib.Omega.{arith}
use Rattle.rules.proofs.Tally.{one_le, word_start, word_small, word_next, word_end}
use Rattle.rules.proofs.counts.free_bits.Invariants.{free}
use Rattle.rules.proofs.counts.free_bits.Goals as goal

pub loop-n-init : goal.loop-n-init
loop-n-init c =
    let args = c.args in
    word_start (free args.states.now) args.from args.count

pub overflow_mul-word : goal.overflow_mul-word
overflow_mul-word c =
    let args = c.args in let pre = c.requires in
    let loop = c.loop-n in
    let loop-test = c.loop-n-test in
    omega (arith, word_small (free args.states.now) args.from args.count loop.n loop.word loop-test.true loop.invariant pre.0)

pub overflow_add-word : goal.overflow_add-word
overflow_add-word c =
    let args = c.args in let pre = c.requires in
    let loop = c.loop-n in
    let loop-test = c.loop-n-test in
    let free_one = c.free_one in
    omega (arith, word_small (free args.states.now) args.from args.count loop.n loop.word loop-test.true loop.invariant pre.0, one_le (free args.states.now (args.from + (args.count - 1 - loop.n))), free_one.ensures)

pub loop-n-preserved : goal.loop-n-preserved
loop-n-preserved c =
    let args = c.args in
    let loop = c.loop-n in
    let loop-test = c.loop-n-test in
    let free_one = c.free_one in
    word_next (free args.states.now) args.from args.count loop.n loop.word loop-test.true loop.invariant _ free_one.ensures

pub returns : goal.returns
returns c =
    let args = c.args in
    let loop = c.loop-n in
    let loop-test = c.loop-n-test in
    word_end (free args.states.now) args.from args.count loop.n _ loop.auto.n-end loop-test.false loop.invariant
