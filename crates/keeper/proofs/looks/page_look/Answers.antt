-- `page_look` meets its contract: the words of the copied frames are those of the lent ones.
use mathlib.Core.Path.{◌≡◌, ap, ◌∙◌}
use mathlib.Core.List.{List}
use Prim.Native.Nat.{ℕ}
use lib.ListN.{length}
use Rattle.model.specs.declared.frame.Frame.{Frame}
use Rattle.model.specs.State.{State}
use Rattle.model.specs.Lent.{all_of}
use Rattle.model.specs.Step.{Outcome, look}
use Rattle.model.specs.Part.{word_at, part_of}
use Rattle.model.specs.Calls.{frames_of}
use Rattle.keeper.proofs.AnyLength.{alike}
use Rattle.keeper.proofs.Refused.{no_words, no_part, look_refuses, part_refuses}
use Rattle.model.specs.declared.applied.Part.{Part}
use Rattle.keeper.proofs.looks.page_look.Goals as goal

pub returns : goal.returns
returns c =
    let a = c.args in
    let lent = length a.frames.now in
    let before : List Frame → State = λ f. all_of f a.pool
    a.records.now a.numbers.now a.accounts.now a.maps.now a.limits.now a.parents.now a.highest.now
    a.frame_words.now a.free_queue.now a.removal_list.now a.addresses.now a.states.now a.owners.now a.free_map.now a.active.now a.updating.now a.images.now a.chip_words.now a.chip_records.now a.chip_next.now a.line.now a.used.now in
    let looked : look a.sizes (before (frames_of c.load-values.result lent)) a.slot a.page ≡ look a.sizes (before a.frames.now) a.slot a.page =
    ap (λ (l : List Frame). look a.sizes (before (frames_of l lent)) a.slot a.page) c.load-values.ensures
    ∙ alike a.sizes a.frames.now (before a.frames.now) (λ (st : State). look a.sizes st a.slot a.page) no_words (look_refuses a.sizes a.slot a.page) in
    let part : part_of a.sizes (before (frames_of c.load-values.result lent)) a.slot a.page ≡ part_of a.sizes (before a.frames.now) a.slot a.page =
    ap (λ (l : List Frame). part_of a.sizes (before (frames_of l lent)) a.slot a.page) c.load-values.ensures
    ∙ alike a.sizes a.frames.now (before a.frames.now) (λ (st : State). part_of a.sizes st a.slot a.page) no_part (part_refuses a.sizes a.slot a.page) in
    let e = c.look_core.ensures in (
      e.0 ∙ ap (λ (o : Outcome (List ℕ)). o.left) looked,
      (
        e.1.0 ∙ ap (λ (o : Outcome (List ℕ)). o.answer.refusal) looked,
        e.1.1 ∙ ap (λ (q : Part). word_at a.frame_words.ref_ptr q.start) part,
      ),
    )
