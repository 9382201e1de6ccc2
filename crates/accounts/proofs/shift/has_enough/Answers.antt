-- The tests are the rule's.
use mathlib.Core.Path.{◌≡◌}
use mathlib.Core.Bool.{not, ◌&&◌, ◌||◌}
use Prim.Native.Nat.{ℕ}
use native.Mathlib.Omega.{arith}
use lib.Dec.{eqb, ltb, leb}
use Rattle.std.proofs.lemmas.Bool.Decides.{nat_tests}
use Rattle.tables.specs.Rule.{test}
use Rattle.accounts.proofs.shift.has_enough.Goals as goal

at_most : (a b : ℕ) → leb a b ≡ not (ltb b a)
at_most a b = grind (arith, nat_tests)

told : (w l t u x y : ℕ) → x ≡ u → y ≡ w → (eqb w l && eqb t x) || leb t y ≡ (eqb w l && eqb t u) || not (ltb w t)
told w l t u x y p q = rw (p, q, at_most t w)

pub returns : goal.returns
unfolding test
returns c = told c.args.wanted c.args.limit c.args.total c.args.used _ _ c.from.ensures c.from-2.ensures
