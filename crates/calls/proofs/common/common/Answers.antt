-- `common` meets its contract: question 1, then question 2, of the frames that are lent.
use mathlib.Core.Path.{◌≡◌, refl, sym, ◌∙◌}
use mathlib.Core.Bool.{true, false}
use mathlib.Core.List.{List}
use lib.ListN.{length}
use Rattle.tables.specs.Rule.{Holds}
use Rattle.tables.specs.Turn.{learn}
use Rattle.model.specs.declared.frame.Frame.{Frame}
use Rattle.model.specs.State.{State}
use Rattle.model.specs.Lent.{all_read}
use Rattle.model.specs.Step.{all_fit}
use Rattle.model.specs.Calls.{frames_of, length_frames}
use Rattle.leaves.specs.Packed.{unpacked, unpacked_length}
use Rattle.calls.specs.Frames.{fit_taken, ruled_taken}
use Rattle.calls.specs.Common.{common_unfit, common_told}
use Rattle.calls.proofs.common.common.Goals as goal

pub returns-then-not-lent_fit : goal.returns-then-not-lent_fit
returns-then-not-lent_fit c =
    let at : List Frame → State = λ l.
    let a = c.args in
    all_read l a.pool a.disk a.memory in
    let frames : List Frame = unpacked c.args.frames.now in
    let lent : State = at (frames_of frames c.args.lent) in
    let a = c.args in
    common_unfit a.sizes lent
    (sym c.if-not-lent_fit.true ∙ c.lent_fit.ensures (frames_of frames a.lent) a.pool (length_frames frames a.lent))

pub lent_rules-requires : goal.lent_rules-requires
lent_rules-requires c =
    let at : List Frame → State = λ l.
    let a = c.args in
    all_read l a.pool a.disk a.memory in
    let frames : List Frame = unpacked c.args.frames.now in
    let lent : State = at (frames_of frames c.args.lent) in
    let long : length frames ≡ 64 = unpacked_length c.args.frames.now ∙ c.requires in
    let fitted : (Holds (all_fit c.args.sizes lent)) =
    let a = c.args in
    learn (all_fit a.sizes lent)
    (sym c.if-not-lent_fit.false ∙ c.lent_fit.ensures (frames_of frames a.lent) a.pool (length_frames frames a.lent)) in
    let a = c.args in
    fit_taken a.sizes at (λ l. refl) frames a.lent fitted long

pub returns-then-not-lent_rules : goal.returns-then-not-lent_rules
returns-then-not-lent_rules c =
    let at : List Frame → State = λ l.
    let a = c.args in
    all_read l a.pool a.disk a.memory in
    let frames : List Frame = unpacked c.args.frames.now in
    let lent : State = at (frames_of frames c.args.lent) in
    let long : length frames ≡ 64 = unpacked_length c.args.frames.now ∙ c.requires in
    let fitted : (Holds (all_fit c.args.sizes lent)) =
    let a = c.args in
    learn (all_fit a.sizes lent)
    (sym c.if-not-lent_fit.false ∙ c.lent_fit.ensures (frames_of frames a.lent) a.pool (length_frames frames a.lent)) in
    let a = c.args in
    common_told a.sizes lent false fitted
    (ruled_taken a.sizes at (λ l. refl) frames a.lent fitted long false (sym c.if-not-lent_rules.true ∙ c.lent_rules.ensures))

pub returns : goal.returns
returns c =
    let at : List Frame → State = λ l.
    let a = c.args in
    all_read l a.pool a.disk a.memory in
    let frames : List Frame = unpacked c.args.frames.now in
    let lent : State = at (frames_of frames c.args.lent) in
    let long : length frames ≡ 64 = unpacked_length c.args.frames.now ∙ c.requires in
    let fitted : (Holds (all_fit c.args.sizes lent)) =
    let a = c.args in
    learn (all_fit a.sizes lent)
    (sym c.if-not-lent_fit.false ∙ c.lent_fit.ensures (frames_of frames a.lent) a.pool (length_frames frames a.lent)) in
    let a = c.args in
    common_told a.sizes lent true fitted
    (ruled_taken a.sizes at (λ l. refl) frames a.lent fitted long true (sym c.if-not-lent_rules.false ∙ c.lent_rules.ensures))
