use mathlib.Core.Path.{◌≡◌}
use Prim.Native.Nat.{◌<◌, ◌^◌}
use Rattle.sheets.specs.Sheet.{number}
use Rattle.sheets.proofs.read.number_at.Given as goal

abbrev pub invariant-loop-byte : goal.invariant-loop-byte
invariant-loop-byte l = (l.value ≡ number l.byte-index 0 l.s l.from) × (l.value < 256 ^ l.byte-index)
