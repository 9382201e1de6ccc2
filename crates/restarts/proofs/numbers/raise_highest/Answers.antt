-- `raise_highest` meets its contract: the highest is found, then stored.
use mathlib.Core.Path.{◌∙◌}
use Rattle.restarts.specs.Numbers.{numbered, highest_stored}
use Rattle.restarts.proofs.numbers.raise_highest.Goals as goal

pub returns : goal.returns
returns c =
    let a = c.args in
    c.store_highest.ensures ∙ highest_stored a.sizes (numbered a.numbers.now a.highest.now) c.highest_of-top.result c.highest_of-top.ensures
