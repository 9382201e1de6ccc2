-- `number_at` meets its contract: after k bytes the value is the number of those k bytes.
use Rattle.std.proofs.Common.{◌≡◌, ℕ, ◌+◌, refl, ◌∙◌, arith}
use Rattle.tables.specs.Base.{at}
use Rattle.sheets.specs.Sheet.{number}
use Rattle.sheets.proofs.Numbers.{slice_at, slice_end, number_next, next, next_fits}
use Rattle.sheets.proofs.read.number_at.Goals as goal

pub loop-byte-init : goal.loop-byte-init
unfolding number
loop-byte-init c = (refl, omega arith)

pub overflow_mul-value : goal.overflow_mul-value
overflow_mul-value c =
    omega (arith, next_fits c.loop-byte.byte-index c.loop-byte.value 0 (omega (arith, slice_end c.args.s.now c.args.from c.args.n)) c.loop-byte.invariant.1 (omega arith))

pub overflow_add-value : goal.overflow_add-value
overflow_add-value c =
    let byte : c.from.result ≡ at c.args.s.now (c.args.from + c.loop-byte.byte-index) = c.from.ensures ∙ slice_at _ _ _ _ c.loop-byte-test.true in
    omega (arith, next_fits c.loop-byte.byte-index c.loop-byte.value c.from.result (omega (arith, slice_end c.args.s.now c.args.from c.args.n)) c.loop-byte.invariant.1 (omega (arith, c.type_inv.s (c.args.from + c.loop-byte.byte-index))))

pub loop-byte-preserved : goal.loop-byte-preserved
loop-byte-preserved c =
    let k : ℕ = c.loop-byte.byte-index in
    let byte : c.from.result ≡ at c.args.s.now (c.args.from + k) = c.from.ensures ∙ slice_at _ _ _ _ c.loop-byte-test.true in
    let i = c.loop-byte.invariant in
    rw byte (number_next _ _ _ _ i.0, next k _ _ i.1 (omega (arith, c.type_inv.s (c.args.from + k))))
