-- The invariant: the pages of the first s slots that count are counted, each for who pays.
use Prim.Native.Nat.{◌+◌, ◌*◌}
use native.Mathlib.Omega.{arith}
use Rattle.tables.specs.Base.{at}
use Rattle.tables.specs.Laws.{count_bound}
use Rattle.tables.specs.StoreLoops.{part_fits}
use Rattle.rules.specs.Passes.{used_page}
use Rattle.rules.proofs.Tally.{totals_start, totals_few, totals_next, totals_end}
use Rattle.accounts.proofs.count.count_slots.Goals as goal

pub loop-s-init : goal.loop-s-init
loop-s-init c = totals_start _ _ _ _ _ _ _ _ c.requires.8 c.requires.9

pub count_row-used-requires : goal.count_row-used-requires
count_row-used-requires c =
    (omega (arith, part_fits c.args.slots c.args.pages c.loop-s.s c.loop-s-test.true, c.requires.3), c.requires.4, c.requires.5, c.requires.6)

pub overflow_add-totals : goal.overflow_add-totals
overflow_add-totals c =
    let a = c.args in let k = c.loop-s.s in
    omega (
      arith,
      totals_few _ _ _ _ _ _ _ _ _ c.loop-s.invariant (at a.payers.now k) (c.requires.7 c.loop-s.s c.loop-s-test.true),
      c.count_row-used.ensures,
      count_bound a.pages (λ p. used_page (at a.active.now k) (at a.maps.now (k * a.pages + p)) (at a.addresses.now (k * a.pages + p)) (at a.states.now)),
      part_fits a.slots a.pages k c.loop-s-test.true,
      c.requires.3,
      c.requires.5,
    )

pub loop-s-preserved : goal.loop-s-preserved
loop-s-preserved c =
    totals_next _ _ _ _ _ _ c.requires.0 _ _ _ c.loop-s.invariant c.loop-s-test.true _ (c.requires.7 c.loop-s.s c.loop-s-test.true) c.count_row-used.ensures

pub returns : goal.returns
returns c = totals_end _ _ _ _ _ _ _ _ _ c.loop-s.invariant c.loop-s-test.false
