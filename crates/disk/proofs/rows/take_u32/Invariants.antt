use Prim.Native.Nat.{◌-◌}
use Rattle.tables.specs.Base.{at}
use Rattle.tables.specs.StoreLoops.{between, Turned}
use Rattle.disk.proofs.rows.take_u32.Given as goal

abbrev pub invariant-loop-i : goal.invariant-loop-i
invariant-loop-i l = Turned l.initial.table (between l.start l.end) (λ k. at l.words (k - l.start)) l.i l.table
