-- `word_of_u16` meets its contract: by its two tests.
use mathlib.Core.Path.{sym}
use native.Mathlib.Omega.{arith}
use lib.ListN.{get_or-eq_default}
use borrow.Author.Tests.{lt-ltb, le-ltb}
use Rattle.disk.proofs.rows.word_of_u16.Goals as goal

pub returns-then-i-table : goal.returns-then-i-table
returns-then-i-table c =
    rw (lt-ltb _ _ c.if-j-count.true)

pub returns-then-j-count : goal.returns-then-j-count
returns-then-j-count c =
    rw (lt-ltb _ _ c.if-j-count.true) (sym (get_or-eq_default c.args.table.now 0 (omega arith)))

pub returns : goal.returns
returns c =
    rw (le-ltb _ _ c.if-j-count.false)
