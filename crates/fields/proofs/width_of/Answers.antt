-- `width_of` meets its contract: the code's table, whole, is that of the definition.
use mathlib.Core.Path.{refl}
use native.Mathlib.Omega.{arith}
use Rattle.tables.specs.Base.{all}
use Rattle.tables.specs.Rule.{Rule, each, below, test, sound}
use Rattle.fields.specs.Fields.{width}
use Rattle.fields.proofs.width_of.Goals as goal

-- no value is wider than four bytes
narrow : Rule
narrow = each 17 λ tag. each 4 λ k. below (width tag k) 5

pub returns : goal.returns
unfolding width narrow test all
returns c = (refl, omega (arith, sound narrow tt c.args.tag c.requires.0 c.args.k c.requires.1))
