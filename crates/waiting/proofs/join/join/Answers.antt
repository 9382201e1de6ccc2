-- `join` meets its contract: the questions, then the request behind the last one.
use mathlib.Core.Path.{refl, ap, sym, ◌∙◌}
use Prim.Native.Nat.{◌<◌}
use native.Mathlib.Omega.{arith}
use Rattle.tables.specs.Questions.{yes_all}
use Rattle.tables.specs.Queue.{push_back}
use Rattle.tables.specs.Turn.{said_no}
use Rattle.model.specs.declared.event.Event.{Event}
use Rattle.model.specs.declared.event.Waiting.TheVariants as Waiting
use Rattle.model.specs.State.{State, all_pages}
use Rattle.model.specs.Laws.Bounds.{page_most}
use Rattle.model.specs.Line.{join}
use Rattle.model.specs.Step.{carried, result}
use Rattle.model.specs.Laws.Own.{first_yes, first_no_holds}
use Rattle.model.specs.Laws.OwnLaws.{own_no, own_yes}
use Rattle.pages.proofs.Served.{page_range, page_test_holds, page_range_holds}
use Rattle.waiting.specs.Seen.{seen_line}
use Rattle.waiting.proofs.join.join.Goals as goal

pub returns-then-not-in_range : goal.returns-then-not-in_range
returns-then-not-in_range c =
    let state : State = seen_line c.args.line.now in
    let event : Event = Event.Waiting (Waiting.Join c.args.slot c.args.page) in
    let a = c.args in
    let o = own_no a.sizes state event 3 (sym (first_no_holds 3 _ _ (said_no (page_range a.sizes a.slot a.page) (page_test_holds a.sizes a.slot a.page) c.if-not-in_range.true))) (λ h. omega (arith, h)) in
    record {
      answer = λ i. (o i).answer;
      line = λ i. (o i).left.memory.line;
    }

pub returns-then-size-ge-LINE : goal.returns-then-size-ge-LINE
returns-then-size-ge-LINE c =
    let state : State = seen_line c.args.line.now in
    let event : Event = Event.Waiting (Waiting.Join c.args.slot c.args.page) in
    let in-range : (let a = c.args in (a.slot < a.sizes.slots) × (a.page < a.sizes.pages)) = let a = c.args in page_range_holds a.sizes a.slot a.page c.if-not-in_range.false in
    let o = own_no c.args.sizes state event 27 (sym (first_yes 3 _ _ in-range ∙ first_no_holds 27 _ _ (λ h. omega (arith, h, c.size.ensures, c.if-size-ge-LINE.true)))) (λ h. omega (arith, h)) in
    record {
      answer = λ i. (o i).answer;
      line = λ i. (o i).left.memory.line;
    }

pub page_of-i-requires : goal.page_of-i-requires
page_of-i-requires c =
    let in-range : (let a = c.args in (a.slot < a.sizes.slots) × (a.page < a.sizes.pages)) = let a = c.args in page_range_holds a.sizes a.slot a.page c.if-not-in_range.false in
    (c.requires.0, in-range.0, in-range.1)

pub push_back-requires : goal.push_back-requires
push_back-requires c =
    let in-range : (let a = c.args in (a.slot < a.sizes.slots) × (a.page < a.sizes.pages)) = let a = c.args in page_range_holds a.sizes a.slot a.page c.if-not-in_range.false in
    let a = c.args in (
      rw c.page_of-i.ensures (page_most a.sizes c.requires.0 a.slot a.page in-range.0 in-range.1),
      (all_pages a.sizes, rw c.requires.1 c.requires.2),
      omega (arith, c.requires.1, c.size.ensures, c.if-size-ge-LINE.false),
    )

pub returns : goal.returns
unfolding carried result join
returns c =
    let state : State = seen_line c.args.line.now in
    let event : Event = Event.Waiting (Waiting.Join c.args.slot c.args.page) in
    let in-range : (let a = c.args in (a.slot < a.sizes.slots) × (a.page < a.sizes.pages)) = let a = c.args in page_range_holds a.sizes a.slot a.page c.if-not-in_range.false in
    let a = c.args in
    let o = own_yes a.sizes state event 0 (sym (yes_all _ (in-range, (omega (arith, c.size.ensures, c.if-size-ge-LINE.false), tt)))) refl in
    record {
      answer = λ i. (o i).answer;
      line = c.push_back.ensures ∙ ap (push_back a.line.now) c.page_of-i.ensures ∙ (λ i. (o i).left.memory.line);
    }
