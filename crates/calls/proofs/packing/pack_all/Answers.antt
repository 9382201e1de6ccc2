-- `pack_all` meets its contract: the frames so far are packed.
use mathlib.Core.Path.{◌≡◌, refl, sym, ap, ◌∙◌}
use mathlib.Core.List.{List}
use Prim.Native.Nat.{ℕ, ◌<◌}
use native.Mathlib.Omega.{arith}
use lib.ListN.{set}
use lib.Seq.{ext_get_or, get_or-set_same, get_or-set_other}
use borrow.Author.Count.{below_more}
use Rattle.model.specs.declared.frame.Frame.{Frame}
use Rattle.model.specs.State.{frame_at, no_frame}
use Rattle.leaves.specs.Packed.{unpacked, unpacked_length}
use Rattle.calls.proofs.packing.pack_all.Goals as goal

pub loop-f-init : goal.loop-f-init
loop-f-init c = (refl, λ k h. absurd (omega (arith, h)))

pub slice_bounds-put_frame-end : goal.slice_bounds-put_frame-end
slice_bounds-put_frame-end c = sym c.loop-f.invariant.0

pub loop-f-preserved : goal.loop-f-preserved
loop-f-preserved c =
    let fs = unpacked c.loop-f.packed in let f = c.loop-f.f in let g = frame_at c.args.frames f in
    let e = c.put_frame.ensures in
    let there = get_or-set_same fs f g no_frame (omega (arith, c.loop-f.invariant.0, unpacked_length c.loop-f.packed)) in
    let others : (k : ℕ) → k < f → frame_at (set fs f g) k ≡ frame_at c.args.frames k = λ k h. get_or-set_other fs f k g no_frame (λ d. omega (arith, h, d)) ∙ c.loop-f.invariant.1 k h in
    (c.put_frame.auto.frames ∙ c.loop-f.invariant.0, below_more _ _ (λ k h. ap (λ (gs : List Frame). frame_at gs k) e ∙ others k h) (ap (λ (gs : List Frame). frame_at gs f) e ∙ there))

pub returns : goal.returns
returns c =
    let fs = unpacked c.loop-f.packed in let gs = c.args.frames in
    ext_get_or no_frame fs gs (omega (arith, unpacked_length c.loop-f.packed, c.loop-f.invariant.0)) (λ k h. c.loop-f.invariant.1 k (omega (arith, h, unpacked_length c.loop-f.packed, c.loop-f.invariant.0)))
