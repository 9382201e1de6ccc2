-- What questions 1 and 2 give that the events about a page rest on.
use Rattle.std.specs.Prelude.{List, ◌≡◌, ℕ, ◌+◌, ◌<◌, ◌≤◌, length}
use Rattle.tables.specs.Queue.{members, times, queue}
use Rattle.tables.specs.Base.{at}
use Rattle.tables.specs.Rule.{Holds}
use Rattle.model.specs.declared.sizes.Sizes.{Sizes}
use Rattle.model.specs.declared.frame.Frame.{Frame}
use Rattle.model.specs.declared.frame.Pool.{Pool}
use Rattle.model.specs.State.{frame_at, map_words, free_count, free_word}
use Rattle.model.specs.Rules.{once}
use Rattle.model.specs.Laws.Fit.{Within}

-- no page is in two frames
pub record Seats (z : Sizes) (fs : List Frame) : Type 0 where
  pub sizes : Within z
  pub seated : Holds (once z.frames (λ f. (frame_at fs f).page))

-- the removal list is a queue of frames, each in it once at most, and no wired frame
pub record RemovalList (z : Sizes) (fs : List Frame) (list : List ℕ) : Type 0 where
  pub long : length list ≡ z.frames
  pub packed : Holds (queue z.frames list)
  pub placed : (f : ℕ) → f < z.frames → times (members list) f + (frame_at fs f).wired ≤ 1

-- the free map, the hand and the count of free records agree with the states
pub record Pooled (z : Sizes) (pool : Pool) (states map : List ℕ) : Type 0 where
  pub hand : pool.hand < z.records
  pub free : pool.free ≡ free_count z (at states)
  pub long : length map ≡ map_words z
  pub bits : (k : ℕ) → k < map_words z → at map k ≡ free_word z (at states) k

-- both queues are queues of frames, and no frame is in both
pub record Queued (z : Sizes) (free list : List ℕ) : Type 0 where
  pub free_long : length free ≡ z.frames
  pub free_packed : Holds (queue z.frames free)
  pub list_long : length list ≡ z.frames
  pub list_packed : Holds (queue z.frames list)
  pub apart : (f : ℕ) → f < z.frames → times (members free) f + times (members list) f ≤ 1
