-- The invariant: each frame before f keeps its rules and is clean, their pages are there, their records are marked, each once, and the pages that count as used by their frames are counted.
use mathlib.Core.Path.{refl, sym, ap, ◌∙◌}
use native.Mathlib.Nat.{le_trans, mul-le-mul_right}
use native.Mathlib.Omega.{arith}
use lib.ListN.{length}
use Rattle.tables.specs.Base.{at}
use Rattle.tables.specs.Turn.{none, again, done, learn, unlearn, yes_so, not_so, both}
use Rattle.model.specs.declared.frame.Frame.{Frame}
use Rattle.model.specs.Laws.Woven.{woven_least}
use Rattle.rules.specs.Passes.{address_of}
use Rattle.rules.proofs.Entries.{part, named_le}
use Rattle.rules.proofs.Marked.{start, step, stuck, ended, not_true}
use Rattle.rules.proofs.Charges.{tallied_none, tallied_next, tallied_few, tallied_all}
use Rattle.rules.proofs.frames.frames_ok.Goals as goal

pub loop-f-init : goal.loop-f-init
loop-f-init c =
    let pre = c.requires in
    (none _, start _ _ _ _ _ refl pre.1 pre.2, tallied_none _ _ _ _ _ _ pre.3, none _)

pub returns-then-not-page_fit : goal.returns-then-not-page_fit
returns-then-not-page_fit c =
    let is = c.frame_at-x.ensures in
    let loop = c.loop-f in
    (not_so _ (λ h. unlearn _ (sym c.if-not-page_fit.true ∙ rw (is) at c.page_fit.ensures) (h.0 loop.f c.loop-f-test.true)), not_true)

pub address_of-requires : goal.address_of-requires
address_of-requires c = named_le (length c.args.addresses.now) c.frame_at-x.result.page c.if-not-page_fit.false c.page_fit.ensures

pub returns-then-not-mark_entry : goal.returns-then-not-mark_entry
returns-then-not-mark_entry c =
    let loop = c.loop-f in
    (not_so _ (λ h. stuck _ _ _ _ _ _ loop.invariant.1 c.loop-f-test.true (unlearn _ (sym c.if-not-mark_entry.true ∙ rw (c.address_of.ensures ∙ ap (λ (x : Frame). address_of (at c.args.addresses.now) x.page) c.frame_at-x.ensures) at c.mark_entry.ensures.0)) h.1.0), not_true)

pub frame_ok-requires : goal.frame_ok-requires
frame_ok-requires c =
    let pre = c.requires in
    let fits = named_le (length c.args.addresses.now) c.frame_at-x.result.page c.if-not-page_fit.false c.page_fit.ensures in
    (pre.0.pages, omega (arith, fits, pre.0.addresses_long), fits, pre.0.addresses_fit)

pub clean-requires : goal.clean-requires
clean-requires c =
    let args = c.args in let pre = c.requires in
    (part c.loop-f.f args.z.frames args.z.words (length args.words.now) c.loop-f-test.true pre.0.words_long, pre.0.records_long, named_le (length c.args.addresses.now) c.frame_at-x.result.page c.if-not-page_fit.false c.page_fit.ensures, pre.0.addresses_fit)

pub returns-then-not-frame_ok-clean : goal.returns-then-not-frame_ok-clean
returns-then-not-frame_ok-clean c =
    let is = c.frame_at-x.ensures in
    let loop = c.loop-f in
    (not_so _ (λ h. unlearn _ (sym c.if-not-frame_ok-clean.true ∙ both _ _ _ _ (rw (is) at c.frame_ok.ensures) (rw (is) at c.clean.ensures)) (h.1.1 loop.f c.loop-f-test.true)), not_true)

pub charge-requires : goal.charge-requires
charge-requires c =
    let loop = c.loop-f in
    let pre = c.requires in
    let less = woven_least c.frame_at-x.result (named_le (length c.args.addresses.now) c.frame_at-x.result.page c.if-not-page_fit.false c.page_fit.ensures) in
    (pre.0.pages, le_trans (omega (arith, c.woven_page.ensures, less, pre.0.addresses_long)) (mul-le-mul_right c.args.z.pages pre.0.accounts_long), omega (arith, c.woven_page.ensures, less), pre.0.addresses_fit, pre.0.accounts_fit, loop.invariant.2.sized, tallied_few _ _ _ _ _ _ _ _ loop.invariant.2 (omega (arith, c.loop-f-test.true, c.requires.0.few)) pre.4)

pub loop-f-preserved : goal.loop-f-preserved
loop-f-preserved c =
    let is = c.frame_at-x.ensures in
    let found = c.address_of.ensures ∙ ap (λ (x : Frame). address_of (at c.args.addresses.now) x.page) is in
    let loop = c.loop-f in (
      again _ _ loop.invariant.0 (sym c.if-not-frame_ok-clean.false ∙ both _ _ _ _ (rw (is) at c.frame_ok.ensures) (rw (is) at c.clean.ensures)),
      rw (rw found at c.mark_entry.ensures.1 c.if-not-mark_entry.false) (step _ _ _ _ _ _ loop.invariant.1 c.loop-f-test.true (learn _ (sym c.if-not-mark_entry.false ∙ rw found at c.mark_entry.ensures.0))),
      tallied_next _ _ _ _ _ _ _ _ loop.invariant.2 _ c.charge.auto.totals (rw (is) at (rw c.woven_page.ensures at c.charge.ensures)),
      again _ _ loop.invariant.3 (sym c.if-not-page_fit.false ∙ rw (is) at c.page_fit.ensures),
    )

pub returns : goal.returns
returns c =
    let loop = c.loop-f in
    let w = ended _ _ _ _ _ _ loop.invariant.1 c.loop-f-test.false in
    (yes_so _ (learn _ (done _ _ _ loop.invariant.3 c.loop-f-test.false), (w.0, learn _ (done _ _ _ loop.invariant.0 c.loop-f-test.false))), λ e. (w.1, tallied_all _ _ _ _ _ _ _ _ loop.invariant.2 _ loop.invariant.1.room c.loop-f-test.false))
