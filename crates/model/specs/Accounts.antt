-- The events about an account: the state once each is carried out. Both can change who pays, so the counts are as worked out afresh.
use Rattle.std.specs.Prelude.{List, ℕ, ◌+◌, ◌-◌, set}
use Rattle.tables.specs.Base.{at}
use Rattle.model.specs.declared.sizes.Sizes.{Sizes}
use Rattle.model.specs.State.{State}
use Rattle.model.specs.Setters.{on_disk, set_limits, counted}

-- the limits once m pages are shifted from the giver to the taker
unfoldable pub shifted : List ℕ → ℕ → ℕ → ℕ → List ℕ
shifted limits giver taker m = set (set limits giver (at limits giver - m)) taker (at limits taker + m)

module _ (z : Sizes) (st : State) where
  -- Limit sets an account's limit, also below its used count.
  unfoldable pub limit : ℕ → ℕ → State
  limit q n = counted z (on_disk (λ d. set_limits (set d.limits q n) d) st)

  -- A move shifts m pages of limit between an account and its parent, and the limits table is one disk store.
  unfoldable pub move : ℕ → ℕ → ℕ → State
  move giver taker m = counted z (on_disk (λ d. set_limits (shifted d.limits giver taker m) d) st)
