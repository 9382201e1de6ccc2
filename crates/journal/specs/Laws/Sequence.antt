-- Laws of the sequence number: the next store has the other area, and another number.
use Rattle.std.specs.Prelude.{◌≡◌, ℕ, zero, suc, ◌+◌, ◌%◌, Bool, true, false, not, ◌==◌, nat_eq, refl}
use Rattle.std.proofs.Common.{ap, sym, ◌∙◌, arith, eq-eqb, ne_eqb}
use Rattle.std.proofs.Math.Decide.{ℕ_discrete}
use Rattle.journal.specs.Layout.{odd, next_sequence, area_at}

two_more : (n : ℕ) → odd (suc (suc n)) ≡ odd n
unfolding odd
two_more n = go (odd n)
  where
    go : (b : Bool) → not (not b) ≡ b
    go true = refl
    go false = refl

odd_is : (n : ℕ) → odd n ≡ (n % 2 == 1)
unfolding odd
odd_is zero = refl
odd_is (suc zero) = refl
odd_is (suc (suc n)) = let e : suc (suc n) % 2 ≡ n % 2 = omega arith in two_more n ∙ odd_is n ∙ ap (λ (k : ℕ). nat_eq k 1) (sym e)

-- odd and even take turns, also where the number begins again
pub odd_next : (n : ℕ) → odd (next_sequence n) ≡ not (odd n)
unfolding next_sequence
odd_next n = rw (odd_is ((n + 1) % 4294967296), odd_is n) (go (ℕ_discrete (n % 2) 1))
  where
    go : Dec (n % 2 ≡ 1) → ((n + 1) % 4294967296 % 2 == 1) ≡ not (n % 2 == 1)
    go (yes e) = rw (eq-eqb (n % 2) 1 e, ne_eqb ((n + 1) % 4294967296 % 2) 1 (omega arith))
    go (no e) = rw (ne_eqb (n % 2) 1 e, eq-eqb ((n + 1) % 4294967296 % 2) 1 (omega arith))

pub next_other : (n : ℕ) → ¬ (next_sequence n ≡ n)
unfolding next_sequence
next_other n = omega arith

-- ── the area of a store, by the remainder that code computes ──
pub area_odd : (most n i : ℕ) → n % 2 ≡ 1 → 1 + most + i ≡ area_at most n i
unfolding area_at
area_odd most n i e = rw (odd_is n, eq-eqb (n % 2) 1 e)

pub area_even : (most n i : ℕ) → ¬ (n % 2 ≡ 1) → 1 + i ≡ area_at most n i
unfolding area_at
area_even most n i e = rw (odd_is n, ne_eqb (n % 2) 1 e)
