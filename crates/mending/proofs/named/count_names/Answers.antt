-- `count_names` meets its contract: the invariant is `Tally`, of the entries passed.
use mathlib.Core.Path.{◌≡◌}
use Prim.Native.Nat.{ℕ, suc, ◌-◌}
use native.Mathlib.Omega.{arith}
use Rattle.tables.specs.Base.{at}
use Rattle.mending.specs.Names.{tally_pass, tally_one, tally_full, tally_by}
use Rattle.mending.proofs.named.count_names.Goals as goal
use Rattle.mending.proofs.named.count_names.Goals.{then-e-ne0+then-named-e-lt2, else-e-ne0, else-e-ne0-via-then-e-ne0+else-named-e-lt2, else-e-ne0-via-else-e-ne0}

pub bounds-named-e : goal.bounds-named-e
bounds-named-e c =
    omega (arith, c.loop-entry.invariant.long, c.from-e.ensures, c.requires.0 c.loop-entry.entry-index c.loop-entry-test.true (c.from-e.result - 1) (omega (arith, c.from-e.ensures, c.if-e-ne0.true)))

pub bounds-named-e-then-named-e-lt2 : goal.bounds-named-e-then-named-e-lt2
bounds-named-e-then-named-e-lt2 c =
    omega (arith, c.loop-entry.invariant.long, c.from-e.ensures, c.requires.0 c.loop-entry.entry-index c.loop-entry-test.true (c.from-e.result - 1) (omega (arith, c.from-e.ensures, c.if-e-ne0.true)))

pub bounds-named-e-then-named-e-lt2-2 : goal.bounds-named-e-then-named-e-lt2-2
bounds-named-e-then-named-e-lt2-2 c =
    omega (arith, c.loop-entry.invariant.long, c.from-e.ensures, c.requires.0 c.loop-entry.entry-index c.loop-entry-test.true (c.from-e.result - 1) (omega (arith, c.from-e.ensures, c.if-e-ne0.true)))

pub loop-entry-preserved : goal.loop-entry-preserved
loop-entry-preserved c =
    let k = c.loop-entry.entry-index in
    let r : ℕ = c.from-e.result - 1 in
    let t = c.loop-entry.invariant in
    elim c.if-e-ne0.branch [
      | then-e-ne0+then-named-e-lt2 w ↦
          let m : at c.args.maps.now k ≡ suc r = omega (arith, c.from-e.ensures, w.if-e-ne0.true) in
          tally_by (tally_one t r m (c.requires.0 k c.loop-entry-test.true r m) w.if-named-e-lt2.true) w.named-is
      | else-e-ne0 w ↦ elim w.else-e-ne0.branch [
        | else-e-ne0-via-then-e-ne0+else-named-e-lt2 v ↦
            let m : at c.args.maps.now k ≡ suc r = omega (arith, c.from-e.ensures, v.if-e-ne0.true) in
            tally_by (tally_full t r m (c.requires.0 k c.loop-entry-test.true r m) (λ h. omega (arith, h, v.if-named-e-lt2.false))) w.named-is
        | else-e-ne0-via-else-e-ne0 v ↦ tally_by (tally_pass t (omega (arith, c.from-e.ensures, v.if-e-ne0.false))) w.named-is
      ]
    ]
