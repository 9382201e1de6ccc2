-- The pool: what taking a record out of it and depositing records in it leave. Both are defined for every pool and every number.
use Rattle.std.specs.Prelude.{◌≡◌, refl, Bool, true, false, ℕ, zero, suc, ◌+◌, ◌-◌, ◌%◌, ◌<◌}
use Rattle.std.proofs.Common.{ap, arith}
use Rattle.tables.specs.Base.{if}
use Rattle.model.specs.declared.sizes.Sizes.{Sizes}
use Rattle.model.specs.declared.frame.Pool.{Pool}

-- "The hand then stands just past the record taken" (after R−1 comes 0): the record is told as record + 1, and 0 tells that none was.
-- One is free less; an empty pool stays empty, which question 2 and question 19 shut out.
unfoldable pub taken : Sizes → ℕ → Pool → Pool
taken z zero p = p
taken z (suc r) p = record { hand = suc r % z.records; free = p.free - 1 }

-- Deposit of records: so many are free more; the hand stays. The count stands still at the most that 32 bits hold, which question 2 shuts out: it is at most R (`deposited_counts`).
unfoldable pub deposited : ℕ → Pool → Pool
deposited zero p = p
deposited (suc n) p = record { hand = p.hand; free = p.free + suc n - (p.free + suc n - 4294967295) }

-- ── laws ──
-- by their parts
pub taken_made : (z : Sizes) (n : ℕ) (p : Pool) {hand free : ℕ} → ¬ (n ≡ 0) → hand ≡ n % z.records → free ≡ p.free - 1 → ◌≡◌ {A = Pool} (record { hand = hand; free = free }) (taken z n p)
unfolding taken
taken_made z zero p h a b = absurd (h refl)
taken_made z (suc r) p h a b = λ x. record { hand = a x; free = b x }

pub deposited_made : (n : ℕ) (p : Pool) {free : ℕ} → ¬ (n ≡ 0) → free ≡ p.free + n - (p.free + n - 4294967295) → ◌≡◌ {A = Pool} (record { hand = p.hand; free = free }) (deposited n p)
unfolding deposited
deposited_made zero p h a = absurd (h refl)
deposited_made (suc n) p h a = λ x. record { hand = p.hand; free = a x }

-- a record, or none, by a test
pub taken_by : (z : Sizes) (r : ℕ) (p : Pool) (b : Bool) → taken z (if b (suc r) 0) p ≡ if b (record { hand = suc r % z.records; free = p.free - 1 }) p
unfolding taken
taken_by z r p true = refl
taken_by z r p false = refl

-- within 32 bits each one counts
pub deposited_counts : (n : ℕ) (p : Pool) → p.free + n < 4294967296 → deposited n p ≡ record { hand = p.hand; free = p.free + n }
unfolding deposited
deposited_counts zero p h = let same : p.free ≡ p.free + 0 = omega arith in ap (λ (k : ℕ). record { hand = p.hand; free = k }) same
deposited_counts (suc n) p h =
    let same : p.free + suc n - (p.free + suc n - 4294967295) ≡ p.free + suc n = omega (arith, h) in
    ap (λ (k : ℕ). record { hand = p.hand; free = k }) same
