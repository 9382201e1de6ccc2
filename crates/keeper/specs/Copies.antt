-- The frames that the calls copy: from the lent slice to an array of 64, and back.
use Rattle.std.specs.Prelude.{ℕ, ◌-◌, List, ◌++◌, length, replicate, take, drop}
use Rattle.model.specs.declared.frame.Frame.{Frame}
use Rattle.model.specs.State.{no_frame}

-- how many of n are copied: n, and 64 at most
unfoldable pub capped : ℕ → ℕ
capped n = n - (n - 64)

-- the first i of src, over dst
abbrev pub copied : {X : Type 0} → ℕ → List X → List X → List X
copied i src dst = take i src ++ drop i dst

-- an array of 64 that has the first frames of the list, and empty ones after them
abbrev pub loaded : List Frame → List Frame
loaded ys = copied (capped (length ys)) ys (replicate 64 no_frame)

-- the list with the first frames of the array
abbrev pub saved : List Frame → List Frame → List Frame
saved ys fs = copied (capped (length ys)) fs ys
