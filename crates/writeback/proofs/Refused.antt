-- A refusal, in the words of the laws of a refused event.
use mathlib.Core.Path.{◌≡◌}
use native.Mathlib.Omega.{arith}
use Rattle.model.specs.declared.refusals.Refusal.{Refusal}
use Rattle.model.specs.Refusals.{number, number_above}

pub number_some : (x : Refusal) → ¬ (number x ≡ 0)
number_some x e = let above = number_above x in omega (arith, above, e)
