-- `within` meets its contract: there are such sizes, and the answer of `new` is of number 0, just where the sizes fit.
use mathlib.Core.Path.{sym, ◌∙◌}
use Rattle.model.specs.Sizes.{number_by, some_by}
use Rattle.model.proofs.sizes.Sizes.within.Goals as goal

pub returns : goal.returns
returns c = let z = c.args.self in let fit = rw (← c.new-made.ensures.0) at (some_by z) in (c.is_some.ensures ∙ fit, c.is_some.ensures ∙ fit ∙ sym (number_by z))
