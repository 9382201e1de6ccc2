use mathlib.Core.Path.{◌≡◌}
use Prim.Native.Nat.{◌+◌, ◌≤◌}
use lib.ListN.{length}
use Rattle.leaves.specs.Freed.{MapFits, FreedOn}
use Rattle.leaves.proofs.records.free_range.Given as goal

abbrev pub invariant-loop-r : goal.invariant-loop-r
invariant-loop-r l =
    (l.count + l.start ≤ l.r) × (length l.owners ≡ l.sizes.records) × (length l.map ≡ length l.initial.map) × MapFits l.sizes l.states l.map × FreedOn l.sizes l.owner l.start l.r l.initial.states l.initial.owners l.initial.map l.states l.owners l.map l.count
