-- `way_of` meets its contract: an address names the record one below it.
use mathlib.Core.Path.{sym, ◌∙◌}
use Rattle.pages.proofs.Ways.{way_live, way_none, way_held, named_live, named_dead}
use Rattle.pages.proofs.supply.way_of.Goals as goal

pub returns-then-address-eq0 : goal.returns-then-address-eq0
returns-then-address-eq0 c = let a = c.args in
    sym (way_none a.addresses.now a.states.now a.page (sym c.at-address.ensures ∙ c.if-address-eq0.true))

pub returns-then-at-eq-LIVE : goal.returns-then-at-eq-LIVE
returns-then-at-eq-LIVE c =
    let a = c.args in
    sym (way_live a.addresses.now a.states.now a.page (named_live a.addresses.now a.states.now a.page c.at-address.result c.at.result c.at-address.ensures c.if-address-eq0.false c.at.ensures c.if-at-eq-LIVE.true))

pub returns : goal.returns
returns c =
    let a = c.args in
    sym (way_held a.addresses.now a.states.now a.page (λ e. c.if-address-eq0.false (c.at-address.ensures ∙ e)) (named_dead a.addresses.now a.states.now a.page c.at-address.result c.at.result c.at-address.ensures c.if-address-eq0.false c.at.ensures c.if-at-eq-LIVE.false))
