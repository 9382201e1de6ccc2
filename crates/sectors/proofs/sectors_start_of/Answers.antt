-- `sectors_start_of` meets its contract: the code's table, whole, is computed to be the rule's, and a law gives its entries.
use mathlib.Core.Path.{◌∙◌}
use native.Mathlib.Omega.{arith}
use Rattle.tables.specs.Base.{tab}
use Rattle.tables.specs.Laws.{at_tab0}
use Rattle.sectors.specs.Pack.{start, start_yes, start_no}
use Rattle.sectors.proofs.sectors_start_of.Goals as goal

pub returns-then-at-lt600 : goal.returns-then-at-lt600
unfolding tab
returns-then-at-lt600 c =
    let r = c.args.record in
    start_yes r _ c.if-at-lt600.true (c.from.ensures ∙ at_tab0 600 start r 0 c.if-at-lt600.true)

pub returns : goal.returns
returns c =
    start_no c.args.record (λ h. omega (arith, h, c.if-at-lt600.false))
