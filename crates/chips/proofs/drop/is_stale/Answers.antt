-- `is_stale` meets its contract.
use mathlib.Core.Path.{◌≡◌, refl, ap, ◌∙◌}
use mathlib.Core.Bool.{not}
use Prim.Native.Nat.{ℕ, ◌-◌}
use native.Mathlib.Omega.{arith}
use lib.Dec.{eqb}
use Rattle.tables.specs.Base.{at}
use Rattle.tables.specs.Rule.{Rule, same, non, names, test, alike}
use Rattle.tables.specs.Turn.{not_so}
use Rattle.model.specs.Lines.{LIVE}
use Rattle.chips.proofs.drop.is_stale.Goals as goal

test-other : (a b : ℕ) → not (eqb a b) ≡ test (non (same a b))
unfolding test
test-other a b = refl

names-one : (a : ℕ) (f : ℕ → Rule) → ¬ (a ≡ 0) → test (f (a - 1)) ≡ test (names a f)
names-one a f d = alike (f (a - 1)) (names a f) (λ h. (a - 1, omega arith, h)) (λ h. let q : h.0 ≡ a - 1 = omega (arith, h.1) in rw q at h.2)

pub returns-then-entry-ne0 : goal.returns-then-entry-ne0
returns-then-entry-ne0 c =
    ap (λ (n : ℕ). not (eqb n LIVE)) c.at.ensures ∙ test-other (at c.args.states.now (c.args.entry - 1)) LIVE ∙ names-one c.args.entry (λ r. non (same (at c.args.states.now r) LIVE)) c.if-entry-ne0.true

pub returns-else-entry-ne0 : goal.returns-else-entry-ne0
returns-else-entry-ne0 c =
    ap (λ (n : ℕ). not (eqb n 0)) c.if-entry-ne0.false ∙ not_so (names c.args.entry (λ r. non (same (at c.args.states.now r) LIVE))) (λ h. omega (arith, h.1, c.if-entry-ne0.false))
