-- `unpack_all` meets its contract: the frames so far are those packed.
use mathlib.Core.Path.{◌≡◌, refl, ◌∙◌}
use Prim.Native.Nat.{ℕ, ◌<◌}
use native.Mathlib.Omega.{arith}
use lib.ListN.{set, length-set}
use lib.Seq.{ext_get_or, get_or-set_same, get_or-set_other}
use borrow.Author.Count.{below_more}
use Rattle.model.specs.State.{frame_at, no_frame}
use Rattle.leaves.specs.Packed.{unpacked, unpacked_length}
use Rattle.calls.proofs.packing.unpack_all.Goals as goal

pub loop-f-init : goal.loop-f-init
loop-f-init c = (refl, λ k h. absurd (omega (arith, h)))

pub loop-f-preserved : goal.loop-f-preserved
loop-f-preserved c =
    let fs = c.loop-f.frames in let f = c.loop-f.f in let g = c.frame_at.result in
    let there = get_or-set_same fs f g no_frame (omega (arith, c.loop-f.invariant.0)) in
    let others : (k : ℕ) → k < f → frame_at (set fs f g) k ≡ frame_at (unpacked c.args.packed) k = λ k h. get_or-set_other fs f k g no_frame (λ d. omega (arith, h, d)) ∙ c.loop-f.invariant.1 k h in
    (length-set fs f g ∙ c.loop-f.invariant.0, below_more _ _ others (there ∙ c.frame_at.ensures))

pub returns : goal.returns
returns c =
    let fs = c.loop-f.frames in let gs = unpacked c.args.packed in
    ext_get_or no_frame fs gs (omega (arith, unpacked_length c.args.packed, c.loop-f.invariant.0)) (λ k h. c.loop-f.invariant.1 k (omega (arith, h, c.loop-f.invariant.0)))
