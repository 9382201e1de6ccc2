-- `turn` meets its contract: the rest of the looks from each turn on is what the looks from the start give.
use mathlib.Core.Path.{sym, ◌∙◌}
use native.Mathlib.Omega.{arith}
use lib.ListN.{length}
use Rattle.tables.specs.QueueLaws.{size_le}
use Rattle.leaves.specs.Packed.{unpacked}
use Rattle.writeback.proofs.Looks.{round_starts, looks_most, more, round_again, round_ends}
use Rattle.writeback.proofs.claim.turn.Goals as goal

pub loop-g-init : goal.loop-g-init
loop-g-init c =
    let a = c.args in
    round_starts (unpacked a.frames.now) a.list.now c.requires.0 c.requires.1 c.first-f.ensures c.frame_at-g.ensures

pub rotate-requires : goal.rotate-requires
rotate-requires c =
    ((length c.args.list.now, rw c.loop-g.invariant.long c.loop-g.invariant.ruled), c.loop-g.invariant.entries)

pub overflow_add-looks : goal.overflow_add-looks
overflow_add-looks c =
    omega (arith, looks_most c.loop-g.invariant, size_le c.args.list.now, c.requires.2)

pub loop-g-smaller : goal.loop-g-smaller
loop-g-smaller c =
    omega (arith, more c.loop-g.invariant (sym c.is_warm.ensures ∙ c.loop-g-test.true))

pub loop-g-preserved : goal.loop-g-preserved
loop-g-preserved c =
    round_again c.loop-g.invariant (sym c.is_warm.ensures ∙ c.loop-g-test.true) c.cool.ensures c.put_frame.ensures c.rotate.ensures c.first-f-in-loop-g.ensures c.frame_at-g-in-loop-g.ensures

pub returns : goal.returns
returns c = round_ends c.loop-g.invariant (sym c.is_warm.ensures ∙ c.loop-g-test.false)
