-- `read` meets its contract: the questions, then the page's frame and its word.
use mathlib.Core.Path.{refl, ◌∙◌}
use Rattle.std.proofs.lemmas.Result.{err_from_is_err_and}
use mathlib.Core.Bool.{true}
use mathlib.Core.List.{[]}
use Rattle.model.specs.declared.event.Event.{Event}
use Rattle.model.specs.declared.event.Page.TheVariants as Page
use Rattle.model.specs.Laws.OwnLaws.{own_no, own_yes}
use Rattle.leaves.specs.Packed.{unpacked}
use Rattle.pages.proofs.Served.{Call, state, no_yes}
use Rattle.pages.proofs.InFrame.{word_answer, read_answer, read_frames}
use Rattle.pages.proofs.read.read.Goals as goal

pub returns-in_err-f : goal.returns-in_err-f
returns-in_err-f c =
    let call : Call = let a = c.args in record { sizes = a.sizes; frames = unpacked a.frames.now; numbers = a.numbers.now; words = a.words.now; list = []; active = a.active.now; slot = a.slot; page = a.page } in
    let event : Event = let a = c.args in Event.Page (Page.Read a.slot a.page a.word) in
    let a = c.args in
    let q = word_answer call a.word true _ c.in_err-f.ensures.answer in
    let o = own_no a.sizes (state call) event _ q (no_yes _) in
    let p = err_from_is_err_and c.from_residual.result c.from_residual.ensures.1 in
    record {
      answer = rw (p.1, p.2) (λ i. (o i).answer);
      frames = λ i. (o i).left.memory.core.frames;
    }

pub returns : goal.returns
returns c =
    let call : Call = let a = c.args in record { sizes = a.sizes; frames = unpacked a.frames.now; numbers = a.numbers.now; words = a.words.now; list = []; active = a.active.now; slot = a.slot; page = a.page } in
    let event : Event = let a = c.args in Event.Page (Page.Read a.slot a.page a.word) in
    let a = c.args in
    let q = word_answer call a.word true _ c.in_ok-f.ensures.answer in
    let y = c.in_ok-f.ensures.given in
    let h = y.2 in
    let o = own_yes a.sizes (state call) event _ q refl in record {
      answer = read_answer call a.word h c.in_ok-f.f c.frame_at-frame.result y.1 c.frame_at-frame.ensures c.word_of-k.result c.at.result c.word_of-k.ensures c.at.ensures ∙ (λ i. (o i).answer);
      frames = read_frames call a.word h c.in_ok-f.f c.frame_at-frame.result y.1 c.frame_at-frame.ensures _ c.put_frame.ensures ∙ (λ i. (o i).left.memory.core.frames);
    }
