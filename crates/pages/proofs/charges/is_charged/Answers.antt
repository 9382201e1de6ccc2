-- `is_charged` meets its contract.
use mathlib.Core.Path.{ap, sym, ◌∙◌}
use mathlib.Core.Logic.{inr}
use Rattle.std.proofs.Common.{eq-eqb}
use Rattle.tables.specs.Rule.{told}
use Rattle.pages.specs.Faults.{is_live_way}
use Rattle.pages.specs.Writes.{is_charged}
use Rattle.pages.proofs.Charging.{charged_way}
use Rattle.pages.proofs.Ways.{dead_way}
use Rattle.pages.proofs.charges.is_charged.Goals as goal

pub returns-then-modified-eq1 : goal.returns-then-modified-eq1
returns-then-modified-eq1 c = let a = c.args in
    eq-eqb a.modified 1 c.if-modified-eq1.true ∙ sym (told (is_charged a.modified a.addresses.now a.states.now a.page) (inr c.if-modified-eq1.true))

pub returns-in-Live : goal.returns-in-Live
returns-in-Live c = let a = c.args in
    sym (ap is_live_way c.in-Live.is) ∙ ap is_live_way c.way_of.ensures ∙ charged_way a.modified a.addresses.now a.states.now a.page c.if-modified-eq1.false

pub returns-in_default : goal.returns-in_default
returns-in_default c = let a = c.args in
    sym (dead_way c.way_of.result c.in_default.not-Live) ∙ ap is_live_way c.way_of.ensures ∙ charged_way a.modified a.addresses.now a.states.now a.page c.if-modified-eq1.false
