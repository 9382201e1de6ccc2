-- The invariant: the first p entries of the image keep their rules, and what they list is marked.
use mathlib.Core.Path.{sym, ◌∙◌}
use Prim.Native.Nat.{◌+◌, ◌*◌}
use native.Mathlib.Omega.{arith}
use Rattle.tables.specs.Base.{at}
use Rattle.tables.specs.Turn.{none, again, fails, done, learn, unlearn, not_so, first_no_holds}
use Rattle.rules.proofs.Entries.{updating_told}
use Rattle.rules.proofs.Marked.{among, stuck, not_true}
use Rattle.rules.proofs.ByRow.{at_start, next_page_holds, last_page_holds, passed_le, row_so}
use Rattle.rules.proofs.rows.image_row.Goals as goal

pub loop-p-init : goal.loop-p-init
loop-p-init c =
    let pre = c.requires in
    (none _, at_start _ _ _ _ _ _ _ pre.3)

pub returns-then-not-mark_entry : goal.returns-then-not-mark_entry
returns-then-not-mark_entry c =
    let mark-entry = c.mark_entry in
    let loop-test = c.loop-p-test in
    let loop = c.loop-p in
    (not_so _ (λ h. stuck _ _ _ _ _ _ loop.invariant.1 (omega (arith, loop-test.true)) (unlearn _ (sym c.if-not-mark_entry.true ∙ mark-entry.ensures.0)) h.1), not_true)

pub imaged-requires : goal.imaged-requires
imaged-requires c =
    let args = c.args in let pre = c.requires in
    let mark-entry = c.mark_entry in
    let loop = c.loop-p in
    let e = passed_le args.records loop.marks (at args.images.now (args.s * args.pages + loop.p)) c.if-not-mark_entry.false mark-entry.ensures.0 in
    (omega (arith, e, pre.2.states_long), omega (arith, e, pre.2.owners_long))

pub returns-then-not-imaged : goal.returns-then-not-imaged
returns-then-not-imaged c =
    let pre = c.requires in
    let loop-test = c.loop-p-test in
    let loop = c.loop-p in
    let imaged = c.imaged in
    (first_no_holds _ _ (fails loop.p _ _ loop-test.true (sym c.if-not-imaged.true ∙ updating_told _ _ _ _ _ _ pre.0 _ imaged.ensures)), not_true)

pub loop-p-preserved : goal.loop-p-preserved
loop-p-preserved c =
    let pre = c.requires in let args = c.args in
    let mark-entry = c.mark_entry in
    let loop-test = c.loop-p-test in
    let loop = c.loop-p in (
      again _ _ loop.invariant.0 (sym c.if-not-imaged.false ∙ updating_told _ _ _ _ _ _ pre.0 _ c.imaged.ensures),
      rw (mark-entry.ensures.1 c.if-not-mark_entry.false) (next_page_holds _ _ _ _ (args.s * args.pages) loop.p _ loop.invariant.1 loop-test.true (learn _ (sym c.if-not-mark_entry.false ∙ mark-entry.ensures.0))),
    )

pub returns : goal.returns
returns c =
    let args = c.args in let pre = c.requires in
    let loop = c.loop-p in
    let loop-test = c.loop-p-test in
    let w = last_page_holds _ _ _ _ (args.s * args.pages) loop.p args.pages loop.invariant.1 loop-test.false loop.auto.p-end in
    (row_so _ (done _ _ _ loop.invariant.0 loop-test.false) w, λ e. among _ _ _ _ _ _ w _ pre.1)
