-- `place_core` meets its contract: refused by question 1 or 2, or what the look by its own questions tells.
use mathlib.Core.Path.{◌≡◌, refl, sym, ap, ◌∙◌}
use mathlib.Core.List.{List}
use Prim.Native.Nat.{◌*◌}
use native.Mathlib.Omega.{arith}
use lib.ListN.{length, take}
use Rattle.tables.specs.Rule.{Holds}
use Rattle.model.specs.declared.frame.Frame.{Frame}
use Rattle.model.specs.State.{State}
use Rattle.model.specs.Rules.{all_rules}
use Rattle.model.specs.Lent.{all_read}
use Rattle.model.specs.Step.{all_fit}
use Rattle.model.specs.Laws.Fit.{fit}
use Rattle.model.specs.Calls.{frames_of}
use Rattle.leaves.specs.Packed.{unpacked, unpacked_length}
use Rattle.calls.specs.Frames.{lent_first}
use Rattle.model.specs.Refusals.{number, number_above}
use Rattle.calls.specs.Common.{common, common_gives, unfit_part}
use Rattle.calls.specs.Looking.{seats, placed_part}
use Rattle.calls.proofs.looks.place_core.Goals as goal

pub common-requires : goal.common-requires
common-requires c =
    let long : length c.args.frames ≡ 64 = omega arith in
    sym (unpacked_length c.pack_all-packed.result) ∙ ap length c.pack_all-packed.ensures ∙ long

pub returns-in-Err : goal.returns-in-Err
returns-in-Err c =
    let at : List Frame → State = λ l.
    let a = c.args in
    all_read l a.pool a.disk a.memory in
    let lent : State = at (frames_of c.args.frames c.args.lent) in
    let same = ap (λ (fs : List Frame). common c.args.sizes (at (frames_of fs c.args.lent))) c.pack_all-packed.ensures in
    let a = c.args in
    (rw c.number.ensures (unfit_part a.sizes lent a.slot a.page (number c.in-Err.no) (c.in-Err.ensures ∙ same) (λ e. omega (arith, number_above c.in-Err.no, e))), omega arith)

pub place-requires : goal.place-requires
place-requires c =
    let at : List Frame → State = λ l.
    let a = c.args in
    all_read l a.pool a.disk a.memory in
    let lent : State = at (frames_of c.args.frames c.args.lent) in
    let long : length c.args.frames ≡ 64 = omega arith in
    let told : (0 ≡ common c.args.sizes lent) =
    c.in_default.ensures ∙ ap (λ (fs : List Frame). common c.args.sizes (at (frames_of fs c.args.lent))) c.pack_all-packed.ensures in
    let first : Holds (all_fit c.args.sizes lent) → frames_of c.args.frames c.args.lent ≡ take c.args.sizes.frames c.args.frames = λ f. lent_first c.args.sizes at (λ l. refl) c.args.frames c.args.lent f long in
    let passed : (Holds (all_fit c.args.sizes lent) × Holds (all_rules c.args.sizes lent)) = common_gives c.args.sizes lent (sym told) in
    let same : (frames_of c.args.frames c.args.lent ≡ take c.args.sizes.frames (unpacked c.pack_all-packed.result)) =
    first passed.0 ∙ ap (take c.args.sizes.frames) (sym c.pack_all-packed.ensures) in
    let g = passed in
    seats c.args.sizes lent g.0 g.1 (take c.args.sizes.frames (unpacked c.pack_all-packed.result)) same

pub returns : goal.returns
returns c =
    let at : List Frame → State = λ l.
    let a = c.args in
    all_read l a.pool a.disk a.memory in
    let lent : State = at (frames_of c.args.frames c.args.lent) in
    let long : length c.args.frames ≡ 64 = omega arith in
    let told : (0 ≡ common c.args.sizes lent) =
    c.in_default.ensures ∙ ap (λ (fs : List Frame). common c.args.sizes (at (frames_of fs c.args.lent))) c.pack_all-packed.ensures in
    let first : Holds (all_fit c.args.sizes lent) → frames_of c.args.frames c.args.lent ≡ take c.args.sizes.frames c.args.frames = λ f. lent_first c.args.sizes at (λ l. refl) c.args.frames c.args.lent f long in
    let passed : (Holds (all_fit c.args.sizes lent) × Holds (all_rules c.args.sizes lent)) = common_gives c.args.sizes lent (sym told) in
    let same : (frames_of c.args.frames c.args.lent ≡ take c.args.sizes.frames (unpacked c.pack_all-packed.result)) =
    first passed.0 ∙ ap (take c.args.sizes.frames) (sym c.pack_all-packed.ensures) in
    let a = c.args in
    let g = passed in
    let l : length a.memory.frame_words.now ≡ a.sizes.frames * a.sizes.words = (fit a.sizes lent g.0).memory.words in (
      placed_part a.sizes lent a.slot a.page (take a.sizes.frames (unpacked c.pack_all-packed.result)) same (sym told) c.place.result c.place.ensures.part,
      omega (arith, l, c.place.ensures.within),
    )
