use mathlib.Core.Path.{◌≡◌}
use Prim.Native.Nat.{◌+◌}
use lib.ListN.{length}
use Rattle.sheets.specs.Sheet.{laid}
use Rattle.carrying.proofs.Printed.{area}
use Rattle.carrying.proofs.export.put_sheet.Given as goal

abbrev pub invariant-loop-p : goal.invariant-loop-p
invariant-loop-p l =
    (l.from ≡ 14 + length (area l.pages l.w l.slot l.number l.records l.maps l.p)) × (l.buffer ≡ laid l.initial.buffer 14 (area l.pages l.w l.slot l.number l.records l.maps l.p))
