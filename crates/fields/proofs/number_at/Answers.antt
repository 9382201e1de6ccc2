-- `number_at` meets its contract: after k bytes the value is the number of those k bytes.
use mathlib.Core.Path.{◌≡◌, refl}
use mathlib.Core.List.{List}
use native.Mathlib.Omega.{arith}
use Prim.Native.Nat.{ℕ, ◌+◌, ◌^◌, ◌<◌, ◌≤◌}
use lib.ListN.{length}
use Rattle.std.specs.List.{between}
use Rattle.std.proofs.lemmas.List.Edits.{length-between, get_or-between}
use Rattle.fields.specs.Fields.{number}
use Rattle.fields.proofs.Numbers.{number_next, four, next}
use Rattle.fields.proofs.number_at.Goals as goal

-- of at most four bytes
bound : (s : List ℕ) (from n k : ℕ) → (n ≤ 4) × (from + n ≤ length s) → k ≤ length (between from (from + n) s) → 256 ^ k ≤ 4294967296
bound s from n k r h = four k (omega (arith, r, h, length-between s from (from + n) r.1))

pub loop-byte-init : goal.loop-byte-init
unfolding number
loop-byte-init c = (refl, omega arith)

pub overflow_mul-value : goal.overflow_mul-value
overflow_mul-value c =
    omega (arith, bound _ _ _ _ c.requires c.loop-byte.auto.byte-index-end, c.loop-byte.invariant.1)

pub overflow_add-value : goal.overflow_add-value
overflow_add-value c =
    omega (arith, bound _ _ _ _ c.requires c.loop-byte.auto.byte-index-end, c.loop-byte.invariant.1)

pub loop-byte-preserved : goal.loop-byte-preserved
loop-byte-preserved c =
    let l = c.loop-byte in
    let end = c.args.from + c.args.n in
    let inside : c.args.from + l.byte-index < end = omega (arith, length-between c.args.s.now c.args.from end c.requires.1) in
    let here = get_or-between c.args.s.now c.args.from end l.byte-index 0 inside in
    (rw here (number_next _ _ _ _ l.invariant.0), next _ _ _ l.invariant.1 (omega arith))

pub overflow_cast-result : goal.overflow_cast-result
overflow_cast-result c =
    omega (arith, bound _ _ _ _ c.requires c.loop-byte.auto.byte-index-end, c.loop-byte.invariant.1)

pub returns : goal.returns
returns c =
    let e : c.loop-byte.byte-index ≡ c.args.n = omega (arith, length-between c.args.s.now c.args.from (c.args.from + c.args.n) c.requires.1) in
    rw (← e) c.loop-byte.invariant.0
