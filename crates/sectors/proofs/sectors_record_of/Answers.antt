-- `sectors_record_of` meets its contract: the question, then the way back.
use mathlib.Core.Path.{refl}
use Rattle.tables.specs.Rule.{test}
use Rattle.tables.specs.Turn.{said_yes, said_no}
use Rattle.sectors.specs.Pack.{in_record, record_yes, record_no}
use Rattle.sectors.proofs.sectors_record_of.Goals as goal

pub returns-then-sector : goal.returns-then-sector
unfolding test
returns-then-sector c =
    let x = c.args.sector in
    record_yes x (said_yes (in_record x) refl c.if-sector.true)

pub returns : goal.returns
unfolding test
returns c =
    let x = c.args.sector in
    record_no x (said_no (in_record x) refl c.if-sector.false)
