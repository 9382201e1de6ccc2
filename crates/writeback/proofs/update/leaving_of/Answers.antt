-- `leaving_of` meets its contract.
use mathlib.Core.Path.{refl, sym, ◌∙◌}
use mathlib.Core.Logic.{inl, inr}
use Prim.Native.Nat.{◌-◌}
use native.Mathlib.Omega.{arith}
use Rattle.leaves.specs.Packed.{unpacked}
use Rattle.writeback.proofs.Leaves.{in_frame, in_none}
use Rattle.writeback.proofs.update.leaving_of.Goals as goal

pub returns-then-frame_of-count : goal.returns-then-frame_of-count
returns-then-frame_of-count c =
    let a = c.args in
    inr (λ h. h.1 (in_frame a.count (unpacked a.frames.now) a.i c.frame_of.ensures c.if-frame_of-count.true), refl)

pub returns : goal.returns
returns c =
    let a = c.args in
    inl (
      (
        (c.at-address.result - 1, omega (arith, c.at-address.ensures, c.if-address-eq0.false), sym c.at.ensures ∙ c.if-at-ne-NULLED.false),
        in_none a.count (unpacked a.frames.now) a.i c.frame_of.ensures (λ h. omega (arith, h, c.if-frame_of-count.false)),
      ),
      c.at-address.ensures,
    )
