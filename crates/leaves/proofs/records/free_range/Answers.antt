-- `free_range` meets its contract: after each turn the records below r are done, whatever was done below the first.
use mathlib.Core.Path.{◌≡◌, refl, ap, sym, ◌∙◌}
use mathlib.Core.List.{List}
use Prim.Native.Nat.{ℕ, ◌+◌}
use native.Mathlib.Omega.{arith}
use lib.ListN.{length, length-set}
use Rattle.tables.specs.Base.{at}
use Rattle.leaves.specs.FreeMap.{free_map_table}
use Rattle.leaves.proofs.Freeing.{fits_freed, fits_same, freed, passed}
use Rattle.leaves.proofs.records.free_range.Goals as goal
use Rattle.leaves.proofs.records.free_range.Goals.{then-states-r-eq-LEAVING+then-owners-r, else-states-r-eq-LEAVING, else-states-r-eq-LEAVING-via-then-states-r-eq-LEAVING+else-owners-r, else-states-r-eq-LEAVING-via-else-states-r-eq-LEAVING}

pub loop-r-init : goal.loop-r-init
loop-r-init c = (omega arith, c.requires.0, refl, c.requires.2, λ s₀ o₀ m d. let e : m ≡ m + 0 = omega arith in rw (← e) d)

pub bounds-states-r : goal.bounds-states-r
bounds-states-r c =
    omega (arith, c.loop-r.invariant.3.states_long, c.requires.4)

pub bounds-owners-r : goal.bounds-owners-r
bounds-owners-r c =
    omega (arith, c.loop-r.invariant.1, c.requires.4)

pub free_record-requires : goal.free_record-requires
free_record-requires c =
    (omega (arith, c.requires.4), c.if-states-r-eq-LEAVING.true, c.loop-r.invariant.3)

pub overflow_add-count : goal.overflow_add-count
overflow_add-count c = omega (arith, c.loop-r.invariant.0, c.requires.1, c.requires.4)

pub loop-r-preserved : goal.loop-r-preserved
loop-r-preserved c =
    let i = c.loop-r.invariant in
    let z = c.args.sizes in
    let r = c.loop-r.r in
    elim c.if-states-r-eq-LEAVING.branch [
      | then-states-r-eq-LEAVING+then-owners-r w ↦
          let es = w.states-is ∙ w.free_record.ensures.0 in
          let eo = w.owners-is ∙ w.free_record.ensures.1 in
          let em = w.map-is ∙ w.free_record.ensures.2 ∙ ap (λ (m : List ℕ). free_map_table z (at m)) (sym w.states-is) in (
            omega (arith, i.0, w.count-is),
            ap length eo ∙ length-set c.loop-r.owners r 0 ∙ i.1,
            c.if-states-r-eq-LEAVING.auto.map ∙ c.loop-r.auto.map,
            fits_freed c.loop-r.states r i.3 es em,
            λ s₀ o₀ m d. let f = i.4 s₀ o₀ m d in freed r f (omega (arith, c.requires.4)) (sym f.the_owners.long ∙ i.1) w.if-states-r-eq-LEAVING.true w.if-owners-r.true es eo em (omega (arith, w.count-is)),
          )
      | else-states-r-eq-LEAVING w ↦ (
        omega (arith, i.0, w.count-is),
        ap length w.owners-is ∙ i.1,
        ap length w.map-is ∙ i.2,
        fits_same i.3 w.states-is w.map-is,
        λ s₀ o₀ m d. passed r (i.4 s₀ o₀ m d) (λ a b. elim w.else-states-r-eq-LEAVING.branch [
          | else-states-r-eq-LEAVING-via-then-states-r-eq-LEAVING+else-owners-r v ↦ v.if-owners-r.false b
          | else-states-r-eq-LEAVING-via-else-states-r-eq-LEAVING v ↦ v.if-states-r-eq-LEAVING.false a
        ]) w.states-is w.owners-is w.map-is (omega (arith, w.count-is)),
      )
    ]

pub returns : goal.returns
returns c =
    let e : c.loop-r.r ≡ c.args.end = omega (arith, c.requires.3) in
    λ s₀ o₀ m d. rw e at (c.loop-r.invariant.4 s₀ o₀ m d)
