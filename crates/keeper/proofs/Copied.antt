-- A loop that copies a list over another from the front, one store a turn: after i turns the list is `copied i src dst`.
--     copied_next              a store of src[i] at i makes it the same at i + 1
--     copied_length            its length is dst's
--     capped_le, capped_64     the number of frames that are copied
-- Assumes nothing.
use mathlib.Core.Path.{◌≡◌, refl, ap}
use mathlib.Core.List.{List, [], ◌∷◌}
use Prim.Native.Nat.{ℕ, zero, suc, ◌≤◌, ◌<◌}
use native.Mathlib.Nat.{not-suc-le-zero, le_of_suc-le-suc}
use native.Mathlib.Omega.{arith}
use lib.ListN.{length, get_or, set}
use Rattle.keeper.specs.Copies.{capped, copied}

pub capped_le : (n : ℕ) → capped n ≤ n
unfolding capped
capped_le n = omega arith

pub capped_64 : (n : ℕ) → capped n ≤ 64
unfolding capped
capped_64 n = omega arith

module _ {X : Type 0} where
  pub copied_next : (src dst : List X) (i : ℕ) (d : X) → i < length src → i < length dst → set (copied i src dst) i (get_or src i d) ≡ copied (suc i) src dst
  copied_next [] dst i d h k = absurd (not-suc-le-zero h)
  copied_next (x ∷ xs) [] i d h k = absurd (not-suc-le-zero k)
  copied_next (x ∷ xs) (y ∷ ys) zero d h k = refl
  copied_next (x ∷ xs) (y ∷ ys) (suc i) d h k = ap (λ (l : List X). x ∷ l) (copied_next xs ys i d (le_of_suc-le-suc h) (le_of_suc-le-suc k))

  pub copied_length : (src dst : List X) (i : ℕ) → i ≤ length src → i ≤ length dst → length (copied i src dst) ≡ length dst
  copied_length src dst zero h k = refl
  copied_length [] dst (suc i) h k = absurd (not-suc-le-zero h)
  copied_length (x ∷ xs) [] (suc i) h k = absurd (not-suc-le-zero k)
  copied_length (x ∷ xs) (y ∷ ys) (suc i) h k = ap suc (copied_length xs ys i (le_of_suc-le-suc h) (le_of_suc-le-suc k))
