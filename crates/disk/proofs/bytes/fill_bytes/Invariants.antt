use Prim.Native.Nat.{◌*◌}
use Rattle.disk.specs.Laws.Filling.{Filling}
use Rattle.disk.specs.Laws.Bytes.{byte_at}
use Rattle.disk.proofs.bytes.fill_bytes.Given as goal

abbrev pub invariant-loop-i : goal.invariant-loop-i
invariant-loop-i l = Filling 512 (byte_at l.words) (4 * l.i) l.bytes
