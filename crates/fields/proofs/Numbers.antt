-- Laws of numbers read high byte first.
use mathlib.Core.Path.{◌≡◌, ap, ◌∙◌}
use mathlib.Core.List.{List}
use Prim.Native.Nat.{ℕ, zero, suc, ◌+◌, ◌*◌, ◌^◌, ◌<◌, ◌≤◌}
use native.Mathlib.Nat.{pow-suc, pow-le-pow_right}
use native.Mathlib.Numerals.{add-one}
use native.Mathlib.Omega.{arith}
use Rattle.tables.specs.Base.{at}
use Rattle.fields.specs.Fields.{number}

-- one byte more
number_suc : (n value : ℕ) (s : List ℕ) (i : ℕ) → number (suc n) value s i ≡ number n value s i * 256 + at s (i + n)
unfolding number
number_suc zero value s i = ap (λ (k : ℕ). value * 256 + at s k) (omega arith)
number_suc (suc n) value s i = number_suc n (value * 256 + at s i) s (suc i) ∙ ap (λ (k : ℕ). number n (value * 256 + at s i) s (suc i) * 256 + at s k) (omega arith)

pub number_next : (n : ℕ) (s : List ℕ) (i value : ℕ) → value ≡ number n 0 s i → value * 256 + at s (i + n) ≡ number (n + 1) 0 s i
number_next n s i value e = rw (add-one n, number_suc n 0 s i, e)

-- a number of at most four bytes is below 2 ^ 32
pub four : (k : ℕ) → k ≤ 4 → 256 ^ k ≤ 4294967296
four k h = pow-le-pow_right {n = 256} (omega arith) {i = k} {j = 4} h

-- the next byte
pub next : (k value byte : ℕ) → value < 256 ^ k → byte < 256 → value * 256 + byte < 256 ^ (k + 1)
next k value byte h l = rw (add-one k, pow-suc 256 k) (omega arith)
