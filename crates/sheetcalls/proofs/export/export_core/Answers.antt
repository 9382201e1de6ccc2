-- `export_core` meets its contract: refused by question 1 or 2, or what the event leaves.
use native.Mathlib.Omega.{arith}
use mathlib.Core.Path.{◌≡◌, sym, ap, ◌∙◌}
use mathlib.Core.List.{List}
use lib.ListN.{length}
use Rattle.model.specs.declared.frame.Frame.{Frame}
use Rattle.model.specs.State.{State}
use Rattle.model.specs.Lent.{all_read}
use Rattle.model.specs.Calls.{frames_of}
use Rattle.leaves.specs.Packed.{unpacked_length}
use Rattle.sheetcalls.proofs.Asked.{of_packed, exporting, export_unfit, export_done}
use Rattle.sheetcalls.proofs.export.export_core.Goals as goal

pub common-requires : goal.common-requires
common-requires c =
    let long : length c.args.frames ≡ 64 = omega arith in
    sym (unpacked_length c.pack_all-packed.result) ∙ ap length c.pack_all-packed.ensures ∙ long

pub returns-in-Err : goal.returns-in-Err
returns-in-Err c =
    let at : List Frame → State = λ l. all_read l c.args.pool c.args.disk c.args.memory in
    let lent : State = at (frames_of c.args.frames c.args.lent) in
    let told = of_packed c.args.sizes at c.args.lent c.pack_all-packed.ensures c.in-Err.ensures in
    let a = c.args in
    rw c.from.ensures (export_unfit a.sizes lent a.slot a.sheet.now _ told)

pub export-printed-requires : goal.export-printed-requires
export-printed-requires c =
    let at : List Frame → State = λ l. all_read l c.args.pool c.args.disk c.args.memory in
    let lent : State = at (frames_of c.args.frames c.args.lent) in
    let told = of_packed c.args.sizes at c.args.lent c.pack_all-packed.ensures c.in_default.ensures in
    exporting c.args.sizes lent (sym told)

pub returns : goal.returns
returns c =
    let at : List Frame → State = λ l. all_read l c.args.pool c.args.disk c.args.memory in
    let lent : State = at (frames_of c.args.frames c.args.lent) in
    let told = of_packed c.args.sizes at c.args.lent c.pack_all-packed.ensures c.in_default.ensures in
    let a = c.args in
    rw c.from-2.ensures (export_done a.sizes lent a.slot a.sheet.now (sym told) c.export-printed.ensures)
