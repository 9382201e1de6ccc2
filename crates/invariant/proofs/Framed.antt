-- What is to be shown of the state after an event: its queues, frames, counts and lengths keep the rules.
use Prim.Native.Nat.{◌<◌}
use Rattle.tables.specs.Base.{at}
use Rattle.model.specs.declared.sizes.Sizes.{Sizes}
use Rattle.model.specs.State.{State, files, frames}
use Rattle.model.specs.Laws.Ruled.{OfQueues, OfFrames, OfCounts}
use Rattle.model.specs.Laws.Fit.{Fit}
use Rattle.invariant.proofs.Lengths.{Long}

pub record Framed (z : Sizes) (st : State) : Type 0 where
  pub queues : OfQueues z st
  pub frames : OfFrames z (files st) (frames st) (at st.disk.records)
  pub counts : OfCounts z st
  pub lengths : Fit z st

-- the same of a state whose counts are still to be set
pub record Framing (z : Sizes) (st : State) : Type 0 where
  pub queues : OfQueues z st
  pub frames : OfFrames z (files st) (frames st) (at st.disk.records)
  pub hand : st.memory.held.pool.hand < z.records
  pub lengths : Long z st
