-- `neighbour` meets its contract: no page passed has an address.
use mathlib.Core.Path.{sym, ◌∙◌}
use Prim.Native.Nat.{◌+◌}
use native.Mathlib.Omega.{arith}
use Rattle.tables.specs.Base.{at}
use Rattle.leaves.specs.Near.{pass, lower_found, no_lower}
use Rattle.leaves.proofs.near.neighbour.Goals as goal

pub returns-then-address-ne0 : goal.returns-then-address-ne0
returns-then-address-ne0 c =
    let e = c.at-address.ensures in
    e ∙ lower_found (at c.args.addresses.now) c.args.page c.args.sizes c.loop-k.k (omega arith) c.loop-k-test.true c.loop-k.invariant (λ h. c.if-address-ne0.true (e ∙ h))

pub loop-k-preserved : goal.loop-k-preserved
loop-k-preserved c =
    pass (at c.args.addresses.now) c.args.page c.loop-k.k c.loop-k.invariant (sym c.at-address.ensures ∙ c.if-address-ne0.false)

pub returns : goal.returns
returns c =
    no_lower (at c.args.addresses.now) c.args.page c.args.sizes c.loop-k.k (λ h. omega (arith, h, c.loop-k-test.false)) c.loop-k.invariant

pub returns-else-address-ne0 : goal.returns-else-address-ne0
returns-else-address-ne0 c =
    no_lower (at c.args.addresses.now) c.args.page c.args.sizes (c.loop-k.k + 1) (λ h. omega (arith, h)) (pass (at c.args.addresses.now) c.args.page c.loop-k.k c.loop-k.invariant (sym c.at-address.ensures ∙ c.if-address-ne0.false))
