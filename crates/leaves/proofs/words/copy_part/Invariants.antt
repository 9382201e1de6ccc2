use Prim.Native.Nat.{◌+◌, ◌*◌, ◌/◌, ◌%◌}
use Rattle.tables.specs.Base.{at}
use Rattle.tables.specs.Rule.{same}
use Rattle.tables.specs.StoreLoops.{Turned}
use Rattle.leaves.proofs.words.copy_part.Given as goal

abbrev pub invariant-loop-w : goal.invariant-loop-w
invariant-loop-w l = Turned l.initial.to (λ k. same (k / l.size) l.to_part) (λ k. at l.from (l.from_part * l.size + k % l.size)) (l.to_part * l.size + l.w) l.to
