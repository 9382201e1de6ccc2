-- `store_record` meets its contract: eight words a turn, then those that are left.
use mathlib.Core.Path.{◌≡◌}
use Prim.Native.Nat.{ℕ, ◌+◌, ◌-◌, ◌*◌, ◌/◌, ◌%◌, ◌≤◌}
use native.Mathlib.Omega.{arith}
use Rattle.tables.specs.Rule.{same}
use Rattle.tables.specs.StoreLoops.{Turned, turned_none, turn_run, turned_by, turned_all, part_inside, inside_part}
use Rattle.sheets.specs.Sheet.{word_in}
use Rattle.carrying.proofs.steps.store_record.Goals as goal

pub loop-j-init : goal.loop-j-init
loop-j-init c = let a = c.args in (omega arith, turned_none _ _ _ _ (λ i h. omega (arith, part_inside a.w a.target c.requires.0 i h)))

pub loop-j-preserved : goal.loop-j-preserved
loop-j-preserved c =
    let a = c.args in
    let left : c.loop-j.j + 8 ≤ a.w = omega (arith, c.loop-j.invariant.0, c.loop-j-test.true) in
    let from : ℕ = a.target * a.w + c.loop-j.j in
    let e : from + 8 ≡ a.target * a.w + (c.loop-j.j + 8) = omega arith in (
      left,
      rw e at (turned_by (from + 8) c.store_words.ensures (turn_run from 8 c.loop-j.invariant.1 (λ k h. inside_part a.w a.target c.requires.0 k (λ b. h.0 (omega (arith, b)), omega (arith, h.1, left))))),
    )

pub returns : goal.returns
returns c =
    let whole : (let a = c.args in Turned a.records.now (λ i. same (i / a.w) a.target) (λ i. word_in a.sheet.now a.k (i % a.w)) (a.target * a.w + c.loop-j.j + (a.w - c.loop-j.j)) c.store_words-2.new.records) =
    let a = c.args in
    let from : ℕ = a.target * a.w + c.loop-j.j in
    let n : ℕ = a.w - c.loop-j.j in
    turned_by (from + n) c.store_words-2.ensures (turn_run from n c.loop-j.invariant.1 (λ k h. inside_part a.w a.target c.requires.0 k (λ b. h.0 (omega (arith, b)), omega (arith, h.1, c.loop-j.invariant.0)))) in
    turned_all _ whole (λ i h k. omega (arith, c.loop-j.invariant.0, part_inside c.args.w c.args.target c.requires.0 i k))
