-- `map_true` meets its contract: the entries passed are what an update would store.
use mathlib.Core.Path.{sym, ◌∙◌}
use native.Mathlib.Omega.{arith}
use Rattle.tables.specs.Rule.{told, untold}
use Rattle.designs.specs.Asks.{true_map}
use Rattle.designs.proofs.maps.map_true.Goals as goal

pub returns-then-entry-live : goal.returns-then-entry-live
returns-then-entry-live c =
    let a = c.args in
    sym (untold (true_map a.maps.now a.addresses.now a.states.now a.pages a.slot) (λ h. c.if-entry-live.true (c.at-entry.ensures ∙ h c.loop-p.p (omega arith) ∙ sym c.live_address-live.ensures)))

pub returns : goal.returns
returns c =
    let a = c.args in
    sym (told (true_map a.maps.now a.addresses.now a.states.now a.pages a.slot) (λ i h. c.loop-p.invariant i (omega arith)))
