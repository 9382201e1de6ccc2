-- `wire` meets its contract: the questions, then the frame and the removal list.
use mathlib.Core.List.{[]}
use mathlib.Core.Path.{refl, ap, ◌∙◌}
use Rattle.std.proofs.lemmas.Result.{err_from_is_err_and}
use Rattle.model.specs.Step.{result}
use Rattle.model.specs.State.{frame_at}
use Rattle.leaves.specs.Packed.{unpacked}
use Rattle.pages.proofs.Served.{Call, no_yes}
use Rattle.pages.proofs.InFrame.{wire_no, wire_wired, wire_yes, wire_frames, wire_list, wire_needs}
use Rattle.pages.proofs.wire.wire.Goals as goal

pub returns-in_err-f : goal.returns-in_err-f
returns-in_err-f c =
    let call : Call = let a = c.args in record { sizes = a.sizes; frames = unpacked a.frames.now; numbers = a.numbers.now; words = []; list = a.removal_list.now; active = a.active.now; slot = a.slot; page = a.page } in
    let o = wire_no call _ c.in_err-f.ensures.answer (no_yes _) in
    let p = err_from_is_err_and c.from_residual.result c.from_residual.ensures.1 in
    record {
      answer = rw (p.1, p.2) (λ i. (o i).answer);
      frames = (λ i. (o i).left.memory.core.frames);
      list = (λ i. (o i).left.memory.core.removal_list);
    }

pub returns-then-frame-eq1 : goal.returns-then-frame-eq1
returns-then-frame-eq1 c =
    let call : Call = let a = c.args in record { sizes = a.sizes; frames = unpacked a.frames.now; numbers = a.numbers.now; words = []; list = a.removal_list.now; active = a.active.now; slot = a.slot; page = a.page } in
    let y = c.in_ok-f.ensures.given in
    let h = y.2 in
    let o = wire_wired call _ c.in_ok-f.ensures.answer refl h c.requires.0 c.frame_at-frame.result (c.frame_at-frame.ensures ∙ ap (frame_at (unpacked c.args.frames.now)) y.1) c.if-frame-eq1.true in
    record {
      answer = (λ i. (o i).answer);
      frames = (λ i. (o i).left.memory.core.frames);
      list = (λ i. (o i).left.memory.core.removal_list);
    }

pub remove-requires : goal.remove-requires
remove-requires c =
    let call : Call = let a = c.args in record { sizes = a.sizes; frames = unpacked a.frames.now; numbers = a.numbers.now; words = []; list = a.removal_list.now; active = a.active.now; slot = a.slot; page = a.page } in
    let y = c.in_ok-f.ensures.given in
    wire_needs call y.2 c.in_ok-f.f y.1 c.requires.0 c.requires.1

pub returns : goal.returns
unfolding result
returns c =
    let call : Call = let a = c.args in record { sizes = a.sizes; frames = unpacked a.frames.now; numbers = a.numbers.now; words = []; list = a.removal_list.now; active = a.active.now; slot = a.slot; page = a.page } in
    let y = c.in_ok-f.ensures.given in
    let h = y.2 in
    let o = wire_yes call _ c.in_ok-f.ensures.answer refl h c.requires.0 c.frame_at-frame.result (c.frame_at-frame.ensures ∙ ap (frame_at (unpacked c.args.frames.now)) y.1) c.if-frame-eq1.false in record {
      answer = (λ i. (o i).answer);
      frames = wire_frames call h c.in_ok-f.f y.1 c.frame_at-frame.result _ c.frame_at-frame.ensures c.put_frame.ensures ∙ (λ i. (o i).left.memory.core.frames);
      list = wire_list call h c.in_ok-f.f y.1 _ c.remove.ensures ∙ (λ i. (o i).left.memory.core.removal_list);
    }
