-- `records_settled` meets its contract: all the records passed are settled, or not; one past the end of the states is.
use mathlib.Core.Path.{◌≡◌, sym, ◌∙◌}
use mathlib.Core.Logic.{inl, inr}
use mathlib.Core.List.{List}
use native.Mathlib.Omega.{arith}
use native.Mathlib.Decide.{dec_lt}
use Prim.Native.Nat.{ℕ, ◌<◌, ◌≤◌}
use lib.ListN.{length, get_or-eq_default}
use Rattle.tables.specs.Base.{at}
use Rattle.tables.specs.Rule.{test, told, alike}
use Rattle.designs.specs.Asks.{settled_record, settled}
use Rattle.tables.specs.Turn.{each_next}
use Rattle.designs.proofs.maps.records_settled.Goals as goal

-- the records past the end of the states
rest : (states owners : List ℕ) (slot records end : ℕ) → end ≤ records → (end < records → end ≡ length states) → test (settled end states owners slot) ≡ test (settled records states owners slot)
rest states owners slot records end most short = alike (settled end states owners slot) (settled records states owners slot)
    (λ h i b. elim (dec_lt i end) [ yes l ↦ h i l | no l ↦ λ e k. let z : at states i ≡ 0 = get_or-eq_default states 0 (omega (arith, short (omega arith))) in elim k [ inl q ↦ omega (arith, z, q) | inr q ↦ omega (arith, z, q) ] ])
    (λ h i b. h i (omega arith))

pub returns-in_default : goal.returns-in_default
returns-in_default c =
    let a = c.args in
    sym (told (settled a.records a.states.now a.owners.now a.slot) (λ i h e k. omega (arith, c.type_inv.owners i, c.in_default.ensures, e)))

pub loop-r-init : goal.loop-r-init
loop-r-init c =
    let a = c.args in sym (told (settled 0 a.states.now a.owners.now c.in-Ok.own) (λ i h e k. omega arith))

pub loop-r-preserved : goal.loop-r-preserved
loop-r-preserved c =
    let a = c.args in
    each_next c.loop-r.r (λ i. settled_record (at a.states.now i) (at a.owners.now i) c.in-Ok.own) _ _ c.loop-r.invariant c.is_settled-all.ensures

pub returns : goal.returns
returns c =
    let a = c.args in
    let end = c.min-end.result in
    let e : c.loop-r.r ≡ end = omega arith in
    let own : c.in-Ok.own ≡ a.slot = omega (arith, c.in-Ok.ensures) in
    c.loop-r.invariant ∙ (λ i. test (settled (e i) a.states.now a.owners.now (own i))) ∙ rest a.states.now a.owners.now a.slot a.records end (omega arith) (λ h. omega arith)
