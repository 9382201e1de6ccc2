-- `carry_pages` meets its contract: page after page.
use native.Mathlib.Omega.{arith}
use Rattle.carrying.proofs.Going.{going_none, page_ready, going_next}
use Rattle.carrying.proofs.pages.carry_pages.Goals as goal

pub loop-k-init : goal.loop-k-init
loop-k-init c =
    let a = c.args in
    (going_none a.sizes a.slot a.hand a.sheet.now a.count a.records.now a.states.now a.owners.now a.map.now a.entries.now c.requires.1)

pub carry_page-last-requires : goal.carry_page-last-requires
carry_page-last-requires c =
    let a = c.args in
    let g = c.loop-k.invariant in
    (c.requires.0, page_ready a.sizes a.slot a.hand a.sheet.now a.count a.records.now a.states.now a.owners.now a.map.now a.entries.now c.requires.1 c.loop-k.k (omega arith) g)

pub loop-k-preserved : goal.loop-k-preserved
loop-k-preserved c =
    let a = c.args in
    let e = c.carry_page-last.ensures in
    let h = c.loop-k-test.true in
    (going_next a.sizes a.slot a.hand a.sheet.now a.count a.records.now a.states.now a.owners.now a.map.now a.entries.now c.requires.1 c.loop-k.k h c.loop-k.invariant e.taken e.states e.owners e.map e.entries e.records)
