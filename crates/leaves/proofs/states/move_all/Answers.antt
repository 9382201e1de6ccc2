-- `move_all` meets its contract: the turns of its loop are those of the store, each along the line required; no record has an owner past 255.
use borrow.Author.Tests.{eqb-true, eq-eqb}
use mathlib.Core.Path.{ap, sym, ◌∙◌}
use native.Mathlib.Omega.{arith}
use mathlib.Core.Logic.{⊎_elim}
use lib.ListN.{set}
use lib.Seq.{set-get_or}
use Rattle.tables.specs.StoreLoops.{turned_none, turned_by, turn_on, turn_off, turned_all, turned_at}
use Rattle.leaves.proofs.states.move_all.Goals as goal

pub returns-then-slot-gt255 : goal.returns-then-slot-gt255
returns-then-slot-gt255 c = turned_all 0 (turned_none _ _ _ 0 (λ i h. omega arith)) (λ i b h. omega (arith, c.shared_slice_known-1.given i, c.if-slot-gt255.true, h.1))

pub loop-r-init : goal.loop-r-init
loop-r-init c = turned_none _ _ _ _ (λ i h. omega arith)

pub moved-requires : goal.moved-requires
moved-requires c =
    c.requires.1

pub loop-r-preserved : goal.loop-r-preserved
loop-r-preserved c =
    let l = c.loop-r in
    let old = turned_at l.r l.invariant l.r (omega arith) in
    ⊎_elim
    (λ w. turn_on l.r l.invariant (omega arith) (sym old ∙ w.0.1, eqb-true _ _ w.0.0) _ w.1)
    (λ w. turned_by _ (ap (set l.states l.r) w.1 ∙ set-get_or l.states l.r 0) (turn_off l.r l.invariant (λ h. w.0 (eq-eqb _ _ h.1, old ∙ h.0))))
    c.moved.ensures

pub returns : goal.returns
returns c = turned_all _ c.loop-r.invariant (λ i h k. omega arith)
