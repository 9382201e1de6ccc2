-- `free_leaving` meets its contract: after each block the tables below r are those of the stores, and the map and the count are those of the states.
use mathlib.Core.Path.{◌≡◌, refl, ◌∙◌}
use Prim.Native.Nat.{◌+◌, ◌<◌, ◌≤◌}
use native.Mathlib.Omega.{arith}
use lib.ListN.{length}
use Rattle.tables.specs.Base.{at}
use Rattle.tables.specs.Rule.{some}
use Rattle.tables.specs.Turn.{said_no}
use Rattle.model.specs.State.{free_count}
use Rattle.leaves.specs.Counts.{free_most}
use Rattle.leaves.specs.Freed.{Freeing, leaver_from}
use Rattle.leaves.proofs.Freeing.{begun, passed_to, ended}
use Rattle.leaves.proofs.records.free_leaving.Goals as goal

-- no record is of a slot past 255
pub returns-then-slot-gt255 : goal.returns-then-slot-gt255
returns-then-slot-gt255 c =
    let at_first : let a = c.args in Freeing a.sizes a.slot a.states.now a.owners.now 0 a.states.now a.owners.now a.map.now (free_count a.sizes (at a.states.now) + 0) = let a = c.args in begun a.sizes a.slot a.states.now a.owners.now a.map.now (free_count a.sizes (at a.states.now) + 0) c.requires.2 (omega arith) in
    let a = c.args in
    let n = length a.states.now in
    ended n (passed_to 0 n (omega arith) at_first (λ k h l x o. omega (arith, c.slice_known-2-1.given k, c.if-slot-gt255.true, o))) (omega arith) (omega (arith, c.requires.0, c.requires.2.states_long))

pub loop-r-init : goal.loop-r-init
loop-r-init c =
    let at_first : let a = c.args in Freeing a.sizes a.slot a.states.now a.owners.now 0 a.states.now a.owners.now a.map.now (free_count a.sizes (at a.states.now) + 0) = let a = c.args in begun a.sizes a.slot a.states.now a.owners.now a.map.now (free_count a.sizes (at a.states.now) + 0) c.requires.2 (omega arith) in
    (refl, omega arith, at_first)

pub overflow_add-r : goal.overflow_add-r
overflow_add-r c = omega (arith, c.requires.1, c.requires.2.states_long)

pub any_leaving-requires : goal.any_leaving-requires
any_leaving-requires c =
    let block : (c.loop-r.r < c.min-end.result) × (c.min-end.result ≤ length c.args.states.now) =
    let r = c.loop-r.r in
    let n = length c.args.states.now in
    (omega arith, omega arith) in
    let b = block in
    let i = c.loop-r.invariant.2 in
    let in-states : c.min-end.result ≤ length c.loop-r.states = omega (arith, b.1, i.the_states.long) in
    let in_owners : c.min-end.result ≤ length c.loop-r.owners = omega (arith, b.1, i.the_owners.long, c.requires.0, c.requires.2.states_long) in
    (omega (arith, b.0), in-states, in_owners)

pub free_range-count-requires : goal.free_range-count-requires
free_range-count-requires c =
    let block : (c.loop-r.r < c.min-end.result) × (c.min-end.result ≤ length c.args.states.now) =
    let r = c.loop-r.r in
    let n = length c.args.states.now in
    (omega arith, omega arith) in
    let b = block in
    let i = c.loop-r.invariant.2 in
    (i.the_owners.long ∙ c.requires.0, c.requires.1, i.fits, omega (arith, b.0), omega (arith, b.1, c.requires.2.states_long))

pub overflow_add-count : goal.overflow_add-count
overflow_add-count c =
    let d = c.free_range-count.ensures c.args.states.now c.args.owners.now _ c.loop-r.invariant.2 in
    omega (arith, d.the_count, free_most c.args.sizes (at c.free_range-count.new.states), c.requires.1)

pub loop-r-smaller-then-any_leaving : goal.loop-r-smaller-then-any_leaving
loop-r-smaller-then-any_leaving c =
    let block : (c.loop-r.r < c.min-end.result) × (c.min-end.result ≤ length c.args.states.now) =
    let r = c.loop-r.r in
    let n = length c.args.states.now in
    (omega arith, omega arith) in
    omega (arith, block)

pub loop-r-preserved-then-any_leaving : goal.loop-r-preserved-then-any_leaving
loop-r-preserved-then-any_leaving c =
    let block : (c.loop-r.r < c.min-end.result) × (c.min-end.result ≤ length c.args.states.now) =
    let r = c.loop-r.r in
    let n = length c.args.states.now in
    (omega arith, omega arith) in
    let b = block in
    let n = free_count c.args.sizes (at c.args.states.now) in
    let q : n + c.loop-r.count + c.free_range-count.result ≡ n + (c.loop-r.count + c.free_range-count.result) = omega arith in
    (c.free_range-count.auto.map ∙ c.loop-r.invariant.0, b.1, rw q at (c.free_range-count.ensures c.args.states.now c.args.owners.now _ c.loop-r.invariant.2))

pub loop-r-smaller : goal.loop-r-smaller
loop-r-smaller c =
    let block : (c.loop-r.r < c.min-end.result) × (c.min-end.result ≤ length c.args.states.now) =
    let r = c.loop-r.r in
    let n = length c.args.states.now in
    (omega arith, omega arith) in
    omega (arith, block)

pub loop-r-preserved : goal.loop-r-preserved
loop-r-preserved c =
    let block : (c.loop-r.r < c.min-end.result) × (c.min-end.result ≤ length c.args.states.now) =
    let r = c.loop-r.r in
    let n = length c.args.states.now in
    (omega arith, omega arith) in
    let b = block in
    let none = said_no (some c.min-end.result (leaver_from c.loop-r.states c.loop-r.owners c.args.slot c.loop-r.r)) c.any_leaving.ensures c.if-any_leaving.false in
    (c.loop-r.invariant.0, b.1, passed_to c.loop-r.r c.min-end.result (omega (arith, b.0)) c.loop-r.invariant.2 (λ k h m x o. none (k, m, (λ y. omega (arith, h, y), (x, o)))))

pub returns : goal.returns
returns c = let i = c.loop-r.invariant.2 in
    ended c.loop-r.r i (omega (arith, i.the_states.long)) (omega (arith, i.the_states.long, i.fits.states_long, c.requires.0))
