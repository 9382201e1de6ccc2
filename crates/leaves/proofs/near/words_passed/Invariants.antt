use Prim.Native.Nat.{ℕ, ◌<◌}
use lib.Dec.{T}
use Rattle.leaves.specs.Search.{mark_around}
use Rattle.leaves.proofs.near.words_passed.Given as goal

abbrev pub invariant-loop-k : goal.invariant-loop-k
invariant-loop-k l = (j : ℕ) → j < l.k → ¬ T (mark_around l.map l.w j)
