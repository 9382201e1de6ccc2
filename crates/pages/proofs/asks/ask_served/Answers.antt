-- `ask_served` meets its contract: the slot's questions, then the frame's.
use Rattle.std.specs.Result.{result_from_control_flow}
use Rattle.std.proofs.lemmas.Result.{err_from_is_err_and}
use mathlib.Core.Path.{◌≡◌, ap, sym, ◌∙◌}
use Prim.Native.Nat.{ℕ}
use Rattle.tables.specs.Laws.{T→true}
use Rattle.tables.specs.Questions.{first_no, all_yes}
use Rattle.model.specs.Refusals.{said, no_also, yes_also}
use Rattle.model.specs.State.{page_of}
use Rattle.model.specs.Laws.Bounds.{page_most}
use Rattle.leaves.specs.Asks.{slot_asked}
use Rattle.leaves.specs.FrameLaws.{frame_in}
use Rattle.leaves.specs.Packed.{unpacked, frames_given}
use Rattle.pages.specs.Asks.{frame_asked}
use Rattle.pages.proofs.ItsFrame.{its_in}
use Rattle.pages.proofs.asks.ask_served.Goals as goal

pub returns-in_err-ask_slot : goal.returns-in_err-ask_slot
returns-in_err-ask_slot c =
    let a = c.args in
    let p = err_from_is_err_and c.from_residual.result c.from_residual.ensures.1 in
    record {
      answer = rw (p.1, p.2) (no_also _ (slot_asked a.in_range a.slot a.numbers.now a.active.now) (frame_asked a.reads a.sizes (frames_given a.sizes a.frames) (page_of a.sizes a.slot a.page)) c.in_err-ask_slot.ensures);
      given = rw p.1 tt;
    }

pub page_of-i-requires : goal.page_of-i-requires
page_of-i-requires c =
    let t = all_yes 0 (slot_asked c.args.in_range c.args.slot c.args.numbers.now c.args.active.now) tt (sym c.in_ok-ask_slot.ensures) in
    let r = c.requires.1 (T→true _ t.0) in
    (c.requires.0.sizes, r.0, r.1)

pub ask_frame-seat-requires : goal.ask_frame-seat-requires
ask_frame-seat-requires c =
    let t = all_yes 0 (slot_asked c.args.in_range c.args.slot c.args.numbers.now c.args.active.now) tt (sym c.in_ok-ask_slot.ensures) in
    let r = c.requires.1 (T→true _ t.0) in
    (c.requires.0, rw c.page_of-i.ensures (page_most c.args.sizes c.requires.0.sizes c.args.slot c.args.page r.0 r.1))

pub returns-in_err-seat : goal.returns-in_err-seat
returns-in_err-seat c =
    let a = c.args in
    let p = err_from_is_err_and c.from_residual-in_err-seat.result c.from_residual-in_err-seat.ensures.1 in
    let e = c.ask_frame-seat.ensures.answer ∙ ap (λ (j : ℕ). first_no (frame_asked a.reads a.sizes (frames_given a.sizes a.frames) j)) c.page_of-i.ensures in
    record {
      answer = rw (p.1, p.2) (sym (ap said (c.branch-seat.ensures ∙ ap result_from_control_flow c.in_err-seat.is)) ∙ e ∙ yes_also (slot_asked a.in_range a.slot a.numbers.now a.active.now) (frame_asked a.reads a.sizes (frames_given a.sizes a.frames) (page_of a.sizes a.slot a.page)) tt c.in_ok-ask_slot.ensures);
      given = rw p.1 tt;
    }

pub returns : goal.returns
returns c =
    let a = c.args in
    let slot = slot_asked a.in_range a.slot a.numbers.now a.active.now in
    let framed = frame_asked a.reads a.sizes (frames_given a.sizes a.frames) (page_of a.sizes a.slot a.page) in
    let e : 0 ≡ first_no framed = sym (ap said (c.branch-seat.ensures ∙ ap result_from_control_flow c.in_ok-seat.is)) ∙ c.ask_frame-seat.ensures.answer ∙ ap (λ (j : ℕ). first_no (frame_asked a.reads a.sizes (frames_given a.sizes a.frames) j)) c.page_of-i.ensures in
    record {
      answer = e ∙ yes_also slot framed tt c.in_ok-ask_slot.ensures;
      given = (T→true _ (all_yes 0 slot tt (sym c.in_ok-ask_slot.ensures)).0, c.ask_frame-seat.ensures.frame ∙ ap (frame_in a.sizes.frames (unpacked a.frames.now)) c.page_of-i.ensures, its_in a.sizes (unpacked a.frames.now) (page_of a.sizes a.slot a.page) (all_yes 0 framed tt (sym e)).0);
    }
