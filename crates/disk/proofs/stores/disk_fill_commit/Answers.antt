-- `disk_fill_commit` meets its contract: by the test of the count.
use borrow.Author.Tests.{le-leb, lt-leb}
use Rattle.disk.specs.Journal.{commit_left}
use Rattle.disk.proofs.stores.disk_fill_commit.Goals as goal

pub returns-then-homes-le125 : goal.returns-then-homes-le125
unfolding commit_left
returns-then-homes-le125 c =
    (rw (le-leb _ _ c.if-homes-le125.true), rw (le-leb _ _ c.if-homes-le125.true) c.journal_commit.ensures)

pub returns : goal.returns
unfolding commit_left
returns c =
    (rw (lt-leb _ _ c.if-homes-le125.false), rw (lt-leb _ _ c.if-homes-le125.false))
