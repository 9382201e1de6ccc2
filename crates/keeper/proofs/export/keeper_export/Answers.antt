-- `keeper_export` meets its contract: the sheet of the copied frames is that of the lent ones.
use mathlib.Core.Path.{ap, ◌∙◌}
use mathlib.Core.List.{List}
use lib.ListN.{length}
use Rattle.model.specs.declared.frame.Frame.{Frame}
use Rattle.model.specs.State.{State}
use Rattle.model.specs.Lent.{all_of}
use Rattle.model.specs.Export.{export}
use Rattle.model.specs.Calls.{frames_of}
use Rattle.carrying.specs.Exports.{handed}
use Rattle.keeper.proofs.AnyLength.{alike}
use Rattle.keeper.proofs.Refused.{export_refuses}
use Rattle.keeper.proofs.export.keeper_export.Goals as goal

pub returns : goal.returns
returns c =
    let a = c.args in
    let lent = length a.frames.now in
    let before : List Frame → State = λ f. all_of f a.pool
    a.records.now a.numbers.now a.accounts.now a.maps.now a.limits.now a.parents.now a.highest.now
    a.frame_words.now a.free_queue.now a.removal_list.now a.addresses.now a.states.now a.owners.now a.free_map.now a.active.now a.updating.now a.images.now a.chip_words.now a.chip_records.now a.chip_next.now a.line.now a.used.now in
    c.export_core.ensures
    ∙ ap (λ (l : List Frame). export a.sizes (before (frames_of l lent)) a.slot a.sheet.now) c.load-values.ensures
    ∙ alike a.sizes a.frames.now (before a.frames.now) (λ (st : State). export a.sizes st a.slot a.sheet.now) (handed (record { refusal = 1; result = 0 }) a.sheet.now) (export_refuses a.sizes a.slot a.sheet.now)
