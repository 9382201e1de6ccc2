-- `disk_home` meets its contract: by the test of the number.
use native.Mathlib.Omega.{arith}
use borrow.Author.Tests.{lt-ltb, le-ltb}
use Rattle.journal.specs.Layout.{home_at}
use Rattle.disk.specs.Journal.{most, home_of}
use Rattle.disk.proofs.stores.disk_home.Goals as goal

pub returns-then-x-lt4294967045 : goal.returns-then-x-lt4294967045
unfolding home_of home_at
returns-then-x-lt4294967045 c =
    rw (lt-ltb (home_at most c.args.x) 4294967296 (omega arith)) c.journal_home.ensures

pub returns : goal.returns
unfolding home_of home_at
returns c =
    rw (le-ltb (home_at most c.args.x) 4294967296 (omega arith))
