-- `no_frames` meets its contract: 64 times the frame that `no_frame` returns.
use mathlib.Core.Path.{ap}
use lib.ListN.{replicate}
use Rattle.model.proofs.frame.no_frames.Goals as goal

pub returns : goal.returns
returns c = ap (replicate 64) c.no_frame-none.ensures
