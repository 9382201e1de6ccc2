-- `load` meets its contract: after i turns the first i frames are copied over the empty ones.
use native.Mathlib.Omega.{arith}
use mathlib.Core.Path.{◌≡◌, ap, ◌∙◌}
use native.Mathlib.Numerals.{add-one}
use Rattle.model.specs.State.{no_frame}
use lib.ListN.{length, length-replicate}
use Rattle.keeper.specs.Copies.{capped}
use Rattle.keeper.proofs.Copied.{capped_le, capped_64, copied_next}
use Rattle.keeper.proofs.frames.load.Goals as goal

pub offset_bounds-frames-i : goal.offset_bounds-frames-i
offset_bounds-frames-i c = omega (arith, c.loop-i-test.true, c.capped-n.ensures, capped_64 (length c.args.frames.now))

pub bounds-frames-i : goal.bounds-frames-i
bounds-frames-i c = omega (arith, c.loop-i-test.true, c.capped-n.ensures, capped_le (length c.args.frames.now))

pub offset_bounds-a-i : goal.offset_bounds-a-i
offset_bounds-a-i c = omega (arith, c.loop-i-test.true, c.capped-n.ensures, capped_64 (length c.args.frames.now))

pub bounds-a-i : goal.bounds-a-i
bounds-a-i c = omega (arith, c.loop-i-test.true, c.capped-n.ensures, capped_64 (length c.args.frames.now))

pub loop-i-preserved : goal.loop-i-preserved
loop-i-preserved c =
    let n = length c.args.frames.now in
    let long : length c.no_frames-a.result ≡ 64 = ap length c.no_frames-a.ensures ∙ length-replicate 64 no_frame in
    rw (c.loop-i.invariant, add-one c.loop-i.i)
    (copied_next c.args.frames.now c.no_frames-a.result c.loop-i.i _ (omega (arith, c.loop-i-test.true, c.capped-n.ensures, capped_le n)) (omega (arith, long, c.loop-i-test.true, c.capped-n.ensures, capped_64 n)))

pub returns : goal.returns
returns c =
    let i : c.loop-i.i ≡ capped (length c.args.frames.now) = omega (arith, c.loop-i-test.false, c.capped-n.ensures) in
    rw (c.loop-i.invariant, i, c.no_frames-a.ensures)
