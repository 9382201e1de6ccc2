-- `save` meets its contract: after i turns the first i frames are copied over the first of the slice.
use native.Mathlib.Omega.{arith}
use native.Mathlib.Numerals.{add-one}
use mathlib.Core.Path.{◌≡◌}
use lib.ListN.{length}
use Rattle.keeper.specs.Copies.{capped}
use Rattle.keeper.proofs.Copied.{capped_le, capped_64, copied_next}
use Rattle.keeper.proofs.frames.save.Goals as goal

pub offset_bounds-values-i : goal.offset_bounds-values-i
offset_bounds-values-i c = omega (arith, c.loop-i-test.true, c.capped-n.ensures, capped_64 (length c.args.frames.now))

pub bounds-values-i : goal.bounds-values-i
bounds-values-i c = omega (arith, c.loop-i-test.true, c.capped-n.ensures, capped_64 (length c.args.frames.now))

pub offset_bounds-frames-i : goal.offset_bounds-frames-i
offset_bounds-frames-i c = omega (arith, c.loop-i-test.true, c.capped-n.ensures, capped_64 (length c.args.frames.now))

pub bounds-frames-i : goal.bounds-frames-i
bounds-frames-i c = omega (arith, c.loop-i-test.true, c.capped-n.ensures, capped_le (length c.args.frames.now), c.loop-i.auto.frames)

pub loop-i-preserved : goal.loop-i-preserved
loop-i-preserved c =
    let n = length c.args.frames.now in
    let long : length c.args.values ≡ 64 = omega arith in
    rw (c.loop-i.invariant, add-one c.loop-i.i)
    (copied_next c.args.values c.args.frames.now c.loop-i.i _ (omega (arith, long, c.loop-i-test.true, c.capped-n.ensures, capped_64 n)) (omega (arith, c.loop-i-test.true, c.capped-n.ensures, capped_le n)))

pub returns : goal.returns
returns c =
    let i : c.loop-i.i ≡ capped (length c.args.frames.now) = omega (arith, c.loop-i-test.false, c.capped-n.ensures) in
    rw (c.loop-i.invariant, i)
