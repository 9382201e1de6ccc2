-- By the page, then by what its address is.
use mathlib.Core.Path.{◌≡◌}
use mathlib.Core.List.{List}
use Prim.Native.Nat.{ℕ, ◌-◌, ◌/◌, ◌*◌, ◌<◌, ◌≤◌}
use native.Mathlib.Nat.{div-le_self}
use native.Mathlib.Omega.{arith}
use lib.ListN.{length}
use Rattle.tables.specs.Base.{at}
use Rattle.tables.specs.Rule.{below, each, Holds}
use Rattle.model.specs.Sizes.{most_accounts}
use Rattle.rules.proofs.Charges.{charge_none, charge_live, charge_more}
use Rattle.rules.proofs.Entries.{fit_le}
use Rattle.rules.proofs.FrameTests.{slot_below}
use Rattle.rules.proofs.frames.charge.Goals as goal

-- the account of a page has a count
counted : (page pages : ℕ) (accounts : List ℕ) → 0 < pages → ¬ (page ≡ 0) → page ≤ length accounts * pages → Holds (each (length accounts) λ s. below (at accounts s) most_accounts)
    → at accounts ((page - 1) / pages) < 16
counted page pages accounts room some inside fit = fit ((page - 1) / pages) (slot_below page (length accounts) pages room some inside)

pub returns-then-page-eq0 : goal.returns-then-page-eq0
returns-then-page-eq0 c =
    let a = c.args in
    charge_none a.pages a.page (at a.accounts.now) (at a.addresses.now) (at a.states.now) a.totals.now c.if-page-eq0.true

pub live_one-requires : goal.live_one-requires
live_one-requires c =
    fit_le _ _ (at c.args.addresses.now) c.requires.3 (c.args.page - 1) (omega (arith, c.if-page-eq0.false, c.requires.2))

pub bounds-accounts-i : goal.bounds-accounts-i
bounds-accounts-i c = slot_below c.args.page (length c.args.accounts.now) c.args.pages c.requires.0 c.if-page-eq0.false c.requires.1

pub overflow_add-totals : goal.overflow_add-totals
overflow_add-totals c =
    let a = c.args in
    omega (arith, c.requires.6 (at a.accounts.now ((a.page - 1) / a.pages)) (counted a.page a.pages a.accounts.now c.requires.0 c.if-page-eq0.false c.requires.1 c.requires.4))

pub returns-then-live_one-eq0 : goal.returns-then-live_one-eq0
returns-then-live_one-eq0 c =
    let a = c.args in
    charge_more a.pages a.page (at a.accounts.now) (at a.addresses.now) (at a.states.now) a.totals.now c.if-page-eq0.false _ c.live_one.ensures c.if-live_one-eq0.true c.requires.5 (counted a.page a.pages a.accounts.now c.requires.0 c.if-page-eq0.false c.requires.1 c.requires.4)

pub returns-else-live_one-eq0 : goal.returns-else-live_one-eq0
returns-else-live_one-eq0 c =
    let a = c.args in
    charge_live a.pages a.page (at a.accounts.now) (at a.addresses.now) (at a.states.now) a.totals.now c.if-page-eq0.false _ c.live_one.ensures c.if-live_one-eq0.false
