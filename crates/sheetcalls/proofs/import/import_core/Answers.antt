-- `import_core` meets its contract: refused by question 1 or 2, or what the event leaves.
use native.Mathlib.Omega.{arith}
use mathlib.Core.Path.{◌≡◌, sym, ap, ◌∙◌}
use mathlib.Core.List.{List}
use lib.ListN.{length}
use Rattle.model.specs.declared.frame.Frame.{Frame}
use Rattle.model.specs.State.{State}
use Rattle.model.specs.Lent.{all_of}
use Rattle.model.specs.Calls.{frames_of}
use Rattle.leaves.specs.Packed.{unpacked_length}
use Rattle.sheetcalls.proofs.Asked.{of_packed, importing, import_unfit}
use Rattle.sheetcalls.proofs.Imports.{import_done}
use Rattle.sheetcalls.proofs.import.import_core.Goals as goal

pub common-requires : goal.common-requires
common-requires c =
    let long : length c.args.frames ≡ 64 = omega arith in
    sym (unpacked_length c.pack_all-packed.result) ∙ ap length c.pack_all-packed.ensures ∙ long

pub returns-in-Err : goal.returns-in-Err
returns-in-Err c =
    let at : List Frame → State = λ l.
    let a = c.args in
    all_of l a.pool a.records.now a.numbers.now a.accounts.now a.maps.now a.limits.now a.parents.now a.highest.now a.frame_words.now a.free_queue.now a.removal_list.now
    a.addresses.now a.states.now a.owners.now a.free_map.now a.active.now a.updating.now a.images.now a.chip_words.now a.chip_records.now a.chip_next.now a.line.now a.used.now in
    let lent : State = at (frames_of c.args.frames c.args.lent) in
    let told = of_packed c.args.sizes at c.args.lent c.pack_all-packed.ensures c.in-Err.ensures in
    let a = c.args in
    rw c.from-answer.ensures (import_unfit a.sizes lent a.slot a.account a.number a.sheet.now _ told)

pub import-requires : goal.import-requires
import-requires c =
    let at : List Frame → State = λ l.
    let a = c.args in
    all_of l a.pool a.records.now a.numbers.now a.accounts.now a.maps.now a.limits.now a.parents.now a.highest.now a.frame_words.now a.free_queue.now a.removal_list.now
    a.addresses.now a.states.now a.owners.now a.free_map.now a.active.now a.updating.now a.images.now a.chip_words.now a.chip_records.now a.chip_next.now a.line.now a.used.now in
    let lent : State = at (frames_of c.args.frames c.args.lent) in
    let told = of_packed c.args.sizes at c.args.lent c.pack_all-packed.ensures c.in_default.ensures in
    importing c.args.sizes lent (sym told)

pub returns : goal.returns
returns c =
    let at : List Frame → State = λ l.
    let a = c.args in
    all_of l a.pool a.records.now a.numbers.now a.accounts.now a.maps.now a.limits.now a.parents.now a.highest.now a.frame_words.now a.free_queue.now a.removal_list.now
    a.addresses.now a.states.now a.owners.now a.free_map.now a.active.now a.updating.now a.images.now a.chip_words.now a.chip_records.now a.chip_next.now a.line.now a.used.now in
    let lent : State = at (frames_of c.args.frames c.args.lent) in
    let told = of_packed c.args.sizes at c.args.lent c.pack_all-packed.ensures c.in_default.ensures in
    let a = c.args in
    import_done a.sizes lent a.slot a.account a.number a.sheet.now (sym told) c.import.ensures
