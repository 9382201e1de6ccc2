-- `answered` meets its contract: its parts stand one after the other, and together they are no longer than 22 bytes.
use Prim.Native.Nat.{◌≤◌}
use native.Mathlib.Omega.{arith}
use lib.ListN.{length}
use Rattle.lines.specs.Decimal.{decimal}
use Rattle.lines.specs.DecimalLaws.{digits_32}
use Rattle.lines.proofs.Writing.{both}
use Rattle.lines.proofs.answered.Goals as goal

pub decimal-after_answer-requires : goal.decimal-after_answer-requires
decimal-after_answer-requires c =
    let first : length (decimal c.args.answer) ≤ 10 = digits_32 c.args.answer (omega arith) in
    omega (arith, c.requires, first)

pub put-from-requires : goal.put-from-requires
put-from-requires c =
    let first : length (decimal c.args.answer) ≤ 10 = digits_32 c.args.answer (omega arith) in
    omega (arith, c.requires, first, c.decimal-after_answer.ensures)

pub decimal-after_result-requires : goal.decimal-after_result-requires
decimal-after_result-requires c =
    let first : length (decimal c.args.answer) ≤ 10 = digits_32 c.args.answer (omega arith) in
    let second : length (decimal c.args.res) ≤ 10 = digits_32 c.args.res (omega arith) in
    omega (arith, c.requires, first, second, c.decimal-after_answer.ensures, c.put-from.ensures)

pub put-requires : goal.put-requires
put-requires c =
    let first : length (decimal c.args.answer) ≤ 10 = digits_32 c.args.answer (omega arith) in
    let second : length (decimal c.args.res) ≤ 10 = digits_32 c.args.res (omega arith) in
    omega (arith, c.requires, first, second, c.decimal-after_answer.ensures, c.put-from.ensures, c.decimal-after_result.ensures)

pub returns : goal.returns
returns c =
    both (both (both c.decimal-after_answer.ensures c.put-from.ensures) c.decimal-after_result.ensures) c.put.ensures
