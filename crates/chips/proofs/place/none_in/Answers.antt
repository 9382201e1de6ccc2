-- `none_in` meets its contract: ok tells whether none of the entries passed is the one wanted.
use mathlib.Core.Path.{◌≡◌, refl}
use mathlib.Core.Bool.{not}
use Prim.Native.Nat.{ℕ}
use lib.Dec.{eqb}
use Rattle.tables.specs.Rule.{same, non, test}
use Rattle.tables.specs.Turn.{each_none, each_next, each_end}
use Rattle.chips.proofs.place.none_in.Goals as goal

test-other : (a b : ℕ) → not (eqb a b) ≡ test (non (same a b))
unfolding test
test-other a b = refl

pub loop-entry-init : goal.loop-entry-init
loop-entry-init c = each_none _

pub loop-entry-preserved : goal.loop-entry-preserved
loop-entry-preserved c = each_next _ _ _ _ c.loop-entry.invariant (test-other _ _)

pub returns : goal.returns
returns c = each_end _ _ _ _ c.loop-entry.invariant c.loop-entry.auto.entry-index-end c.loop-entry-test.false
