-- `bad_field` meets its contract: its parts stand one after the other, and together they are no longer than 34 bytes.
use Prim.Native.Nat.{◌≤◌}
use native.Mathlib.Omega.{arith}
use lib.ListN.{length}
use Rattle.lines.specs.Decimal.{decimal}
use Rattle.lines.specs.DecimalLaws.{digits_64}
use Rattle.lines.specs.Lines.{bad_field}
use Rattle.lines.proofs.Writing.{both}
use Rattle.lines.proofs.bad_field.Goals as goal

pub decimal-ended-requires : goal.decimal-ended-requires
decimal-ended-requires c =
    let counted : length (decimal c.args.offset) ≤ 20 = digits_64 c.args.offset (omega arith) in
    omega (arith, c.requires, counted, c.text-from.ensures)

pub put-requires : goal.put-requires
put-requires c =
    let counted : length (decimal c.args.offset) ≤ 20 = digits_64 c.args.offset (omega arith) in
    omega (arith, c.requires, counted, c.text-from.ensures, c.decimal-ended.ensures)

pub returns : goal.returns
unfolding bad_field
returns c =
    both c.text-from.ensures (both c.decimal-ended.ensures c.put.ensures)
