-- `field_fits` meets its contract, case by case.
use mathlib.Core.Path.{sym, ◌∙◌}
use native.Mathlib.Omega.{arith}
use Rattle.sheets.proofs.Cases.{no_head, page_high, page_low, page_told}
use Rattle.sheets.proofs.read.field_fits.Goals as goal

pub returns-then-not-is_headed : goal.returns-then-not-is_headed
returns-then-not-is_headed c =
    no_head c.args.s.now c.args.w c.args.n c.args.least c.args.from (sym c.is_headed.ensures ∙ c.if-not-is_headed.true)

pub returns-then-page-n : goal.returns-then-page-n
returns-then-page-n c =
    page_high c.args.s.now c.args.w c.args.n c.args.least c.args.from (omega (arith, c.number_at-page.ensures, c.if-page-n.true))

pub returns-then-page-least : goal.returns-then-page-least
returns-then-page-least c =
    page_low c.args.s.now c.args.w c.args.n c.args.least c.args.from (omega (arith, c.number_at-page.ensures, c.if-page-least.true))

pub returns : goal.returns
returns c =
    page_told c.args.s.now c.args.w c.args.n c.args.least c.args.from (sym c.is_headed.ensures ∙ c.if-not-is_headed.false) (omega (arith, c.number_at-page.ensures, c.if-page-n.false)) (λ l. omega (arith, l, c.number_at-page.ensures, c.if-page-least.false)) _ c.is_blank.ensures
