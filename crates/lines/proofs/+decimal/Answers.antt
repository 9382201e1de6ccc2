-- `decimal` meets its contract: a digit alone, or what stands before the last digit and then that digit.
use native.Mathlib.Omega.{arith}
use Rattle.lines.specs.DecimalLaws.{decimal_small, decimal_large, one_digit, one_more}
use Rattle.lines.proofs.Writing.{both}
use Rattle.lines.proofs.+decimal.Goals as goal

pub put-requires : goal.put-requires
put-requires t c = omega (arith, one_digit c.args.n (omega arith))

pub returns-then-n-lt10 : goal.returns-then-n-lt10
returns-then-n-lt10 t c = rw (decimal_small c.args.n (omega arith)) c.put.ensures

pub decimal-last-requires : goal.decimal-last-requires
decimal-last-requires t c = (omega arith, omega (arith, one_more c.args.n (omega arith)))

pub put-requires-2 : goal.put-requires-2
put-requires-2 t c =
    let d = c.decimal-last.ensures in
    omega (arith, one_more c.args.n (omega arith), d.end, d.size)

pub returns : goal.returns
returns t c = rw (decimal_large c.args.n (omega arith)) (both c.decimal-last.ensures c.put-2.ensures)
