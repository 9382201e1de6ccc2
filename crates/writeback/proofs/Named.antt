-- A bound on the numbers of pages.
use Prim.Native.Nat.{ℕ, ◌*◌, ◌<◌, ◌≤◌}
use native.Mathlib.Nat.{mul-le-mul}
use native.Mathlib.Omega.{arith}

-- every page's number is small
pub fits : (a b : ℕ) → a < 65 → b < 257 → a * b ≤ 64 * 256
fits a b h k = mul-le-mul {n₂ = 64} {m₂ = 256} (omega arith) (omega arith)
