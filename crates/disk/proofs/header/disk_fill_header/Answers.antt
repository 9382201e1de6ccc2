-- `disk_fill_header` meets its contract: by the test of the sizes.
use mathlib.Core.Path.{◌≡◌, sym, ◌∙◌}
use mathlib.Core.Bool.{true, false}
use borrow.Author.Rules.{rules}
use Rattle.tables.specs.Rule.{test}
use Rattle.tables.specs.Turn.{said_yes}
use Rattle.disk.specs.Header.{disk_fits}
use Rattle.disk.proofs.header.disk_fill_header.Goals as goal

pub fill-requires : goal.fill-requires
fill-requires c =
    (search rules, said_yes _ c.sizes_fit.ensures c.if-sizes_fit.true)

pub returns-then-sizes_fit : goal.returns-then-sizes_fit
returns-then-sizes_fit c =
    let e : true ≡ test (disk_fits c.args.sizes) = sym c.if-sizes_fit.true ∙ c.sizes_fit.ensures in
    (rw (← e), rw (← e) c.fill.ensures)

pub returns : goal.returns
returns c =
    let e : false ≡ test (disk_fits c.args.sizes) = sym c.if-sizes_fit.false ∙ c.sizes_fit.ensures in
    (rw (← e), rw (← e))
