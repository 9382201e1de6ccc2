-- `is_settled` meets its contract.
use Rattle.model.specs.Lines.{NULLED, RELEASED}
use Rattle.designs.proofs.Tests.{none_of}
use Rattle.designs.proofs.maps.is_settled.Goals as goal

pub returns : goal.returns
returns c = none_of c.args.owner c.args.slot c.args.state NULLED RELEASED
