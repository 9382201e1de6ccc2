-- `event` meets its contract: its parts stand one after the other, and together they are no longer than 46 bytes.
use Prim.Native.Nat.{◌≤◌}
use native.Mathlib.Omega.{arith}
use lib.ListN.{length}
use Rattle.lines.specs.Decimal.{decimal}
use Rattle.lines.specs.DecimalLaws.{digits_64}
use Rattle.lines.specs.Lines.{line_of}
use Rattle.lines.proofs.Writing.{both}
use Rattle.lines.proofs.event.Goals as goal

pub decimal-counted-requires : goal.decimal-counted-requires
decimal-counted-requires c =
    let counted : length (decimal c.args.n) ≤ 20 = digits_64 c.args.n (omega arith) in
    omega (arith, c.requires, counted)

pub tag_between-tagged-requires : goal.tag_between-tagged-requires
tag_between-tagged-requires c =
    let counted : length (decimal c.args.n) ≤ 20 = digits_64 c.args.n (omega arith) in
    omega (arith, c.requires, counted, c.decimal-counted.ensures)

pub answered-requires : goal.answered-requires
answered-requires c =
    let counted : length (decimal c.args.n) ≤ 20 = digits_64 c.args.n (omega arith) in
    omega (arith, c.requires, counted, c.decimal-counted.ensures, c.tag_between-tagged.ensures)

pub returns : goal.returns
unfolding line_of
returns c =
    both (both c.decimal-counted.ensures c.tag_between-tagged.ensures) c.answered.ensures
