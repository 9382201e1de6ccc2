-- The lines along which these events move a record.
use lib.Dec.{T}
use Rattle.tables.specs.Base.{any}
use Rattle.tables.specs.Rule.{test}
use Rattle.model.specs.Lines.{allowed, NULLED, LIVE, RELEASED, LEAVING}

pub nulled_live : T (allowed NULLED LIVE)
unfolding allowed test any
nulled_live = tt

pub live_nulled : T (allowed LIVE NULLED)
unfolding allowed test any
live_nulled = tt

pub nulled_released : T (allowed NULLED RELEASED)
unfolding allowed test any
nulled_released = tt

pub live_released : T (allowed LIVE RELEASED)
unfolding allowed test any
live_released = tt

pub nulled_leaving : T (allowed NULLED LEAVING)
unfolding allowed test any
nulled_leaving = tt

pub released_leaving : T (allowed RELEASED LEAVING)
unfolding allowed test any
released_leaving = tt

pub leaving_released : T (allowed LEAVING RELEASED)
unfolding allowed test any
leaving_released = tt
