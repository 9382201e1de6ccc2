-- `number_at` meets its contract: by that of `from_le_bytes`.
use Rattle.disk.specs.Bytes.{number_at}
use Rattle.disk.proofs.bytes.number_at.Goals as goal

pub returns : goal.returns
unfolding number_at
returns c = c.from_le_bytes.ensures
