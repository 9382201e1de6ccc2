-- `keeper_page_look` meets its contract: the part of the copied frames is that of the lent ones.
use mathlib.Core.Path.{ap, ◌∙◌}
use mathlib.Core.List.{List}
use lib.ListN.{length}
use Rattle.model.specs.declared.frame.Frame.{Frame}
use Rattle.model.specs.State.{State}
use Rattle.model.specs.Lent.{all_of}
use Rattle.model.specs.Part.{part_of}
use Rattle.model.specs.Calls.{frames_of}
use Rattle.keeper.proofs.AnyLength.{alike}
use Rattle.keeper.proofs.Refused.{no_part, part_refuses}
use Rattle.keeper.proofs.looks.keeper_page_look.Goals as goal

pub returns : goal.returns
returns c =
    let a = c.args in
    let lent = length a.frames.now in
    let before : List Frame → State = λ f. all_of f a.pool
    a.records.now a.numbers.now a.accounts.now a.maps.now a.limits.now a.parents.now a.highest.now
    a.frame_words.now a.free_queue.now a.removal_list.now a.addresses.now a.states.now a.owners.now a.free_map.now a.active.now a.updating.now a.images.now a.chip_words.now a.chip_records.now a.chip_next.now a.line.now a.used.now in
    c.place_core.ensures.0
    ∙ ap (λ (l : List Frame). part_of a.sizes (before (frames_of l lent)) a.slot a.page) c.load-values.ensures
    ∙ alike a.sizes a.frames.now (before a.frames.now) (λ (st : State). part_of a.sizes st a.slot a.page) no_part (part_refuses a.sizes a.slot a.page)
