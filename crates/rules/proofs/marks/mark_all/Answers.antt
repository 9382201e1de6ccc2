-- The invariant: what the first i entries name is marked, each once, and nothing else is.
use mathlib.Core.Path.{refl, sym, ◌∙◌}
use native.Mathlib.Omega.{arith}
use Rattle.tables.specs.Turn.{learn, unlearn, yes_so, not_so}
use Rattle.rules.proofs.Marked.{start, step, stuck, skip_run, ended, not_true}
use Rattle.rules.proofs.marks.mark_all.Goals as goal

pub loop-i-init : goal.loop-i-init
loop-i-init c =
    let pre = c.requires in
    start _ _ _ _ _ refl pre.0 pre.1

pub loop-i-preserved-then-e-eq0 : goal.loop-i-preserved-then-e-eq0
loop-i-preserved-then-e-eq0 c =
    let loop = c.loop-i in
    let zeros-from = c.zeros_from-i in
    skip_run _ _ _ _ _ _ loop.invariant _ zeros-from.ensures.1 zeros-from.ensures.2

pub returns-then-not-mark_entry : goal.returns-then-not-mark_entry
returns-then-not-mark_entry c =
    let mark-entry = c.mark_entry in
    let loop-test = c.loop-i-test in
    let loop = c.loop-i in
    (not_so _ (stuck _ _ _ _ _ _ loop.invariant loop-test.true (unlearn _ (sym c.if-not-mark_entry.true ∙ mark-entry.ensures.0))), not_true)

pub loop-i-preserved : goal.loop-i-preserved
loop-i-preserved c =
    let mark-entry = c.mark_entry in
    let loop-test = c.loop-i-test in
    let loop = c.loop-i in
    rw (mark-entry.ensures.1 c.if-not-mark_entry.false) (step _ _ _ _ _ _ loop.invariant loop-test.true (learn _ (sym c.if-not-mark_entry.false ∙ mark-entry.ensures.0)))

pub returns : goal.returns
returns c =
    let loop = c.loop-i in
    let loop-test = c.loop-i-test in
    let w = ended _ _ _ _ _ _ loop.invariant loop-test.false in (yes_so _ w.0, λ e. w.1)
