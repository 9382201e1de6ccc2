-- `image_zero` meets its contract: the row's entries are zeros.
use Rattle.leaves.proofs.Runs.{zeros_said}
use Rattle.rules.proofs.pages.image_zero.Goals as goal

pub returns : goal.returns
returns c = zeros_said _ _ c.args.images.now c.all_zeros.ensures
