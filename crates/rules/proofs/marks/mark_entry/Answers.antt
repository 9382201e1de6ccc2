-- By the entry, then by its mark.
use mathlib.Core.Path.{sym, ◌∙◌}
use native.Mathlib.Omega.{arith}
use borrow.Author.Tests.{eqb-true, eqb-false}
use Rattle.tables.specs.Turn.{yes_so, not_so, named_none}
use Rattle.rules.specs.Passes.{unmarked}
use Rattle.rules.proofs.Marked.{noted_none, noted_one, too_wide, is_on, is_off, off, not_true}
use Rattle.rules.proofs.marks.mark_entry.Goals as goal

pub returns-then-entry-eq0 : goal.returns-then-entry-eq0
returns-then-entry-eq0 c =
    let if1 = c.if-entry-eq0 in
    (named_none _ _ if1.true, λ e. sym (noted_none _ _ if1.true))

pub returns-then-most-e : goal.returns-then-most-e
returns-then-most-e c =
    let args = c.args in
    let if2 = c.if-most-e in
    (not_so (unmarked args.most args.marks.now args.entry) (too_wide args.most args.marks.now args.entry if2.true), not_true)

pub returns-then-is_marked : goal.returns-then-is_marked
returns-then-is_marked c =
    let args = c.args in
    let if1 = c.if-entry-eq0 in
    let is-marked = c.is_marked in
    let if3 = c.if-is_marked in
    (not_so (unmarked args.most args.marks.now args.entry) (is_on args.most args.marks.now args.entry if1.false (eqb-true _ _ (sym is-marked.ensures ∙ if3.true))), not_true)

pub set_mark-requires : goal.set_mark-requires
set_mark-requires c =
    let pre = c.requires in let args = c.args in
    let if2 = c.if-most-e in
    let if1 = c.if-entry-eq0 in
    let is-marked = c.is_marked in
    let if3 = c.if-is_marked in
    (omega (arith, pre, if1.false, if2.false), off args.marks.now _ (eqb-false _ _ (sym is-marked.ensures ∙ if3.false)))

pub returns : goal.returns
returns c =
    let args = c.args in
    let if3 = c.if-is_marked in
    let is-marked = c.is_marked in
    let if2 = c.if-most-e in
    let if1 = c.if-entry-eq0 in
    let set-mark = c.set_mark in
    (yes_so (unmarked args.most args.marks.now args.entry) (is_off args.most args.marks.now args.entry if1.false (omega (arith, if2.false)) (off args.marks.now _ (eqb-false _ _ (sym is-marked.ensures ∙ if3.false)))), λ e. set-mark.ensures ∙ sym (noted_one args.marks.now args.entry if1.false))
