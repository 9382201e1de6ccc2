-- `cut_out` meets its contract: the numbers fit, and the piece is cut at 128 entries.
use native.Mathlib.Omega.{arith}
use Rattle.layout.specs.Rows.{per_row}
use Rattle.disk.specs.Laws.Rows.{cut_none, cut_rest, cut_full, first_below, first_fits, row_fits, start_fits}
use Rattle.disk.proofs.rows.cut_out.Goals as goal

pub returns-then-n-eq0 : goal.returns-then-n-eq0
returns-then-n-eq0 c =
    cut_none c.args.width c.args.sector (omega arith)

pub overflow_mul-first : goal.overflow_mul-first
unfolding per_row
overflow_mul-first c =
    record { fits = first_fits c.args.width c.args.sector (omega arith) (omega arith) (omega arith) }

pub overflow_mul-start : goal.overflow_mul-start
unfolding per_row
overflow_mul-start c =
    record { fits = row_fits c.args.width c.args.sector (omega arith) (omega arith) (omega arith) }

pub overflow_add-start : goal.overflow_add-start
unfolding per_row
overflow_add-start c =
    omega (arith, start_fits c.args.width c.args.sector (omega arith) (omega arith) (omega arith))

pub overflow_sub-rest : goal.overflow_sub-rest
unfolding per_row
overflow_sub-rest c =
    omega (arith, first_below c.args.width c.args.sector (omega arith))

pub returns-then-rest-lt128 : goal.returns-then-rest-lt128
unfolding per_row
returns-then-rest-lt128 c =
    cut_rest c.args.width c.args.sector (omega arith) (omega arith) (omega arith) c.if-rest-lt128.true

pub returns : goal.returns
unfolding per_row
returns c =
    cut_full c.args.width c.args.sector (omega arith) (omega arith) (omega arith) (omega arith)
