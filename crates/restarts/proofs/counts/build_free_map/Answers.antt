-- `build_free_map` meets its contract: after r records the map and the count tell of those below r, as if the rest were not free.
use mathlib.Core.Path.{◌≡◌, ap, ◌∙◌}
use mathlib.Core.List.{List}
use Prim.Native.Nat.{ℕ, ◌+◌, ◌/◌, ◌%◌, ◌^◌, ◌<◌}
use native.Mathlib.Omega.{arith}
use lib.Dec.{eqb}
use lib.ListN.{length, replicate, set}
use Rattle.tables.specs.Base.{at, count}
use Rattle.tables.specs.Laws.{count_bound, length_tab}
use Rattle.model.specs.Lines.{FREE}
use Rattle.model.specs.State.{free_count, free_word, map_words}
use Rattle.tables.specs.Marks.{bit_of}
use Rattle.leaves.specs.FreeMap.{free_map_table}
use Rattle.restarts.specs.Counts.{passed, free_none, free_more, free_less, free_start, free_end, bit_ahead, free_on, free_off}
use Rattle.restarts.proofs.counts.build_free_map.Goals.{then-state-eq-FREE, else-state-eq-FREE}
use Rattle.restarts.proofs.counts.build_free_map.Goals as goal

pub loop-r-init : goal.loop-r-init
loop-r-init c =
    let state = at c.args.states.now in
    (free_none state, c.fill.ensures.after (λ y h. h) ∙ ap (λ (n : ℕ). replicate {A = ℕ} n 0) c.requires.1 ∙ free_start c.args.sizes state)

pub set_mark-requires : goal.set_mark-requires
set_mark-requires c =
    let l = c.loop-r in
    let z = c.args.sizes in
    let state = at c.args.states.now in
    let long : length l.map ≡ map_words z = ap length l.invariant.1 ∙ length_tab (map_words z) (free_word z (passed l.r state)) 0 in
    let inside : l.r < z.records = omega arith in
    (omega (arith, long, inside), ap (λ (m : List ℕ). bit_of m l.r) l.invariant.1 ∙ bit_ahead z state l.r inside)

pub overflow_add-free : goal.overflow_add-free
overflow_add-free c =
    let l = c.loop-r in
    omega (arith, l.invariant.0, count_bound l.r (λ x. eqb (at c.args.states.now x) FREE))

pub loop-r-preserved : goal.loop-r-preserved
loop-r-preserved c =
    let l = c.loop-r in
    let z = c.args.sizes in
    let state = at c.args.states.now in
    let k = l.r in
    let inside : l.r < z.records = omega arith in
    elim c.if-state-eq-FREE.branch [
      | then-state-eq-FREE w ↦ (
        w.free-is ∙ ap (λ (n : ℕ). n + 1) l.invariant.0 ∙ free_more state k w.if-state-eq-FREE.true,
        w.map-is ∙ w.set_mark.ensures ∙ ap (λ (m : List ℕ). set m (k / 32) (at m (k / 32) + 2 ^ (k % 32))) l.invariant.1 ∙ free_on z state k inside w.if-state-eq-FREE.true,
      )
      | else-state-eq-FREE w ↦ (w.free-is ∙ l.invariant.0 ∙ free_less state k w.if-state-eq-FREE.false, w.map-is ∙ l.invariant.1 ∙ free_off z state k inside w.if-state-eq-FREE.false)
    ]

pub returns : goal.returns
unfolding free_count
returns c =
    let l = c.loop-r in
    let z = c.args.sizes in
    let state = at c.args.states.now in
    let n : l.r ≡ z.records = omega arith in
    record {
      count = l.invariant.0 ∙ ap (λ (k : ℕ). count k (λ x. eqb (at c.args.states.now x) FREE)) n;
      map = l.invariant.1 ∙ ap (λ (k : ℕ). free_map_table z (passed k (at c.args.states.now))) n ∙ free_end z state;
    }
