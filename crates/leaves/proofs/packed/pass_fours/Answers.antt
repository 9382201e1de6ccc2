-- `pass_fours` meets its contract: none of the fours passed has a frame with the page.
use mathlib.Core.Path.{◌≡◌, ap, ◌∙◌}
use mathlib.Core.List.{List}
use Prim.Native.Nat.{ℕ, ◌+◌, ◌-◌, ◌%◌, ◌<◌}
use native.Mathlib.Omega.{arith}
use native.Mathlib.Decide.{dec_lt}
use Rattle.tables.specs.Base.{at}
use Rattle.tables.specs.Rule.{Holds}
use Rattle.tables.specs.Turn.{said_no}
use Rattle.leaves.specs.Packed.{in_four}
use Rattle.leaves.proofs.packed.pass_fours.Goals as goal

-- four more are passed
four-more : (ws : List ℕ) (e f : ℕ) → ((k : ℕ) → k < f → at ws k % 65536 ≡ e → ⊥) → ¬ Holds (in_four ws e f) → (k : ℕ) → k < f + 4 → at ws k % 65536 ≡ e → ⊥
four-more ws e f before none k h here = elim (dec_lt k f) [
  | yes l ↦ before k l here
  | no l ↦ let q : f + (k - f) ≡ k = omega arith in none (k - f, omega arith, ap (λ (i : ℕ). at ws i % 65536) q ∙ here)
]

pub loop-f-preserved : goal.loop-f-preserved
loop-f-preserved c =
    let a = c.args in
    (omega arith, four-more a.frames.now a.entry c.loop-f.f c.loop-f.invariant.1 (said_no (in_four a.frames.now a.entry c.loop-f.f) c.in_four.ensures c.if-in_four.false))
