-- `live_address` meets its contract: the address, where its record is live.
use Rattle.leaves.specs.Addresses.{live_none, live_on, live_off}
use Rattle.leaves.proofs.addresses.live_address.Goals as goal

pub returns-then-address-eq0 : goal.returns-then-address-eq0
returns-then-address-eq0 c =
    let a = c.args in live_none a.addresses.now a.states.now a.i _ c.at-address.ensures c.if-address-eq0.true

pub returns-then-at-eq-LIVE : goal.returns-then-at-eq-LIVE
returns-then-at-eq-LIVE c =
    let a = c.args in
    live_on a.addresses.now a.states.now a.i _ c.at-address.ensures c.if-address-eq0.false _ c.at.ensures c.if-at-eq-LIVE.true

pub returns : goal.returns
returns c =
    let a = c.args in
    live_off a.addresses.now a.states.now a.i _ c.at-address.ensures c.if-address-eq0.false _ c.at.ensures c.if-at-eq-LIVE.false
