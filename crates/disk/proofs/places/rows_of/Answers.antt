-- `rows_of` meets its contract: table by table.
use native.Mathlib.Omega.{arith}
use Rattle.disk.specs.Laws.Places.{rows_records, rows_slots, rows_one}
use Rattle.disk.proofs.places.rows_of.Goals as goal

pub returns-then-t-eq0 : goal.returns-then-t-eq0
returns-then-t-eq0 c =
    rows_records c.args.sizes c.args.t (omega arith)

pub returns-then-t-eq1 : goal.returns-then-t-eq1
returns-then-t-eq1 c =
    rows_slots c.args.sizes c.args.t (omega arith)

pub returns : goal.returns
returns c =
    rows_one c.args.sizes c.args.t (omega arith) (omega arith)
