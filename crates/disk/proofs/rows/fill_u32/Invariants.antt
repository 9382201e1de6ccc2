use Prim.Native.Nat.{◌+◌}
use lib.Dec.{ltb}
use Rattle.tables.specs.Base.{at, if}
use Rattle.disk.specs.Laws.Filling.{Filling}
use Rattle.disk.proofs.rows.fill_u32.Given as goal

abbrev pub invariant-loop-j : goal.invariant-loop-j
invariant-loop-j l = Filling 128 (λ k. if (ltb k l.count) (at l.table (l.start + k)) 0) l.j l.words
