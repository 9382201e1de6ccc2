use Prim.Native.Nat.{◌*◌}
use Rattle.disk.specs.Bytes.{number_at}
use Rattle.disk.specs.Laws.Filling.{Filling}
use Rattle.disk.proofs.bytes.fill_words.Given as goal

abbrev pub invariant-loop-i : goal.invariant-loop-i
invariant-loop-i l = Filling 128 (λ j. number_at l.bytes (4 * j)) l.i l.words
