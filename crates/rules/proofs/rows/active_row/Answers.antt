-- The invariant: the first p pages of the row keep their rules, what they hold is marked, and those with a live address are counted.
use mathlib.Core.Path.{sym, ◌∙◌}
use Prim.Native.Nat.{◌+◌, ◌*◌}
use native.Mathlib.Omega.{arith}
use Rattle.tables.specs.Base.{at}
use Rattle.tables.specs.Rule.{test}
use Rattle.tables.specs.Turn.{none, again, fails, done, learn, unlearn, not_so, first_no_holds}
use Rattle.rules.specs.Passes.{live_page}
use Rattle.rules.proofs.Entries.{fit_le, active_told}
use Rattle.rules.proofs.Marked.{among, stuck}
use Rattle.rules.proofs.ByRow.{at_start, next_page_holds, last_page_holds, passed_le, row_so}
use Rattle.rules.proofs.Tally.{one_le, count_start, count_next, count_end, count_few}
use Rattle.rules.proofs.rows.active_row.Goals as goal

pub loop-p-init : goal.loop-p-init
loop-p-init c =
    let pre = c.requires in
    (none _, at_start _ _ _ _ _ _ _ pre.3, count_start _)

pub returns-then-not-mark_entry-clause-told : goal.returns-then-not-mark_entry-clause-told
returns-then-not-mark_entry-clause-told c =
    let mark-entry = c.mark_entry in
    let loop-test = c.loop-p-test in
    let loop = c.loop-p in
    not_so _ (λ h. stuck _ _ _ _ _ _ loop.invariant.1 (omega (arith, loop-test.true)) (unlearn _ (sym c.if-not-mark_entry.true ∙ mark-entry.ensures.0)) h.1)

pub held-requires : goal.held-requires
held-requires c =
    let args = c.args in let pre = c.requires in
    let mark-entry = c.mark_entry in
    let loop = c.loop-p in
    let e = passed_le args.records loop.marks (at args.addresses.now (args.s * args.pages + loop.p)) c.if-not-mark_entry.false mark-entry.ensures.0 in
    (omega (arith, e, pre.2.states_long), omega (arith, e, pre.2.owners_long))

pub mapped-requires : goal.mapped-requires
mapped-requires c =
    let args = c.args in let pre = c.requires in
    let loop-test = c.loop-p-test in
    let loop = c.loop-p in
    let e = fit_le _ _ (at args.maps.now) pre.2.maps_fit (args.s * args.pages + loop.p) (omega (arith, loop-test.true, pre.1)) in
    (omega (arith, e, pre.2.states_long), omega (arith, e, pre.2.owners_long))

pub returns-then-not-held-mapped-clause-told : goal.returns-then-not-held-mapped-clause-told
returns-then-not-held-mapped-clause-told c =
    let pre = c.requires in
    let held = c.held in
    let loop-test = c.loop-p-test in
    let loop = c.loop-p in
    let mapped = c.mapped in
    first_no_holds _ _ (fails loop.p _ _ loop-test.true (sym c.if-not-held-mapped.true ∙ active_told _ _ _ _ _ _ pre.0 _ _ held.ensures mapped.ensures))

pub live_one-used-requires : goal.live_one-used-requires
live_one-used-requires c =
    let args = c.args in let pre = c.requires in
    let mark-entry = c.mark_entry in
    let loop = c.loop-p in
    let e = passed_le args.records loop.marks (at args.addresses.now (args.s * args.pages + loop.p)) c.if-not-mark_entry.false mark-entry.ensures.0 in
    omega (arith, e, pre.2.states_long)

pub overflow_add-used : goal.overflow_add-used
overflow_add-used c =
    let args = c.args in let pre = c.requires in
    let loop-test = c.loop-p-test in
    let loop = c.loop-p in
    let live-one = c.live_one-used in
    let l = one_le (test (live_page (at args.addresses.now (args.s * args.pages + loop.p)) (at args.states.now))) in
    omega (arith, count_few _ _ _ loop.invariant.2, l, live-one.ensures, loop-test.true, pre.1, pre.2.few)

pub loop-p-preserved : goal.loop-p-preserved
loop-p-preserved c =
    let pre = c.requires in let args = c.args in
    let held = c.held in
    let mark-entry = c.mark_entry in
    let loop-test = c.loop-p-test in
    let loop = c.loop-p in
    let mapped = c.mapped in (
      again _ _ loop.invariant.0 (sym c.if-not-held-mapped.false ∙ active_told _ _ _ _ _ _ pre.0 _ _ held.ensures mapped.ensures),
      rw (mark-entry.ensures.1 c.if-not-mark_entry.false) (next_page_holds _ _ _ _ (args.s * args.pages) loop.p _ loop.invariant.1 loop-test.true (learn _ (sym c.if-not-mark_entry.false ∙ mark-entry.ensures.0))),
      count_next _ _ _ _ loop.invariant.2 c.live_one-used.ensures,
    )

pub returns : goal.returns
returns c =
    let args = c.args in let pre = c.requires in
    let loop = c.loop-p in
    let loop-test = c.loop-p-test in
    let w = last_page_holds _ _ _ _ (args.s * args.pages) loop.p args.pages loop.invariant.1 loop-test.false loop.auto.p-end in
    record { told = row_so _ (done _ _ _ loop.invariant.0 loop-test.false) w; marked = among _ _ _ _ _ _ w _ pre.1; counted = count_end _ _ _ _ loop.invariant.2 loop.auto.p-end loop-test.false }
