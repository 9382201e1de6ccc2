-- `map_zero` meets its contract: the entries passed are 0.
use mathlib.Core.Path.{sym, ◌∙◌}
use native.Mathlib.Omega.{arith}
use Rattle.tables.specs.Rule.{told, untold}
use Rattle.designs.specs.Asks.{zero_map}
use Rattle.designs.proofs.maps.map_zero.Goals as goal

pub returns-then-at-ne0 : goal.returns-then-at-ne0
returns-then-at-ne0 c =
    let a = c.args in
    sym (untold (zero_map a.maps.now a.pages a.slot) (λ h. c.if-at-ne0.true (c.at.ensures ∙ h c.loop-p.p (omega arith))))

pub returns : goal.returns
returns c =
    let a = c.args in
    sym (told (zero_map a.maps.now a.pages a.slot) (λ i h. c.loop-p.invariant i (omega arith)))
