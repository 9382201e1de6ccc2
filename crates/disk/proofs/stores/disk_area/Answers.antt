-- `disk_area` meets its contract: by the test of the number.
use borrow.Author.Tests.{lt-ltb, le-ltb}
use Rattle.disk.specs.Journal.{area_of}
use Rattle.disk.proofs.stores.disk_area.Goals as goal

pub returns-then-i-lt-MOST : goal.returns-then-i-lt-MOST
unfolding area_of
returns-then-i-lt-MOST c =
    rw (lt-ltb _ _ c.if-i-lt-MOST.true) c.journal_area.ensures

pub returns : goal.returns
unfolding area_of
returns c =
    rw (le-ltb _ _ c.if-i-lt-MOST.false)
