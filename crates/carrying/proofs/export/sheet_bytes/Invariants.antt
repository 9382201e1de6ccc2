use mathlib.Core.Path.{◌≡◌}
use Prim.Native.Nat.{◌+◌, ◌*◌, ◌≤◌}
use lib.ListN.{length}
use Rattle.carrying.proofs.Printed.{area}
use Rattle.carrying.proofs.export.sheet_bytes.Given as goal

-- a field takes at most 4,101 bytes
abbrev pub invariant-loop-entry : goal.invariant-loop-entry
invariant-loop-entry l = (l.bytes ≡ 17 + length (area l.pages l.w l.slot 0 l.records l.maps l.entry-index)) × (l.bytes ≤ 17 + 4101 * l.entry-index)
