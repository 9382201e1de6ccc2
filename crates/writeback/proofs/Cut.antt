-- The pages of a slot from page k up, counted one at a time.
use mathlib.Core.Path.{◌≡◌, subst}
use mathlib.Core.Bool.{Bool, true, false, ◌&&◌}
use Prim.Native.Nat.{ℕ, ◌+◌, ◌<◌, ◌≤◌}
use native.Mathlib.Omega.{arith}
use native.Mathlib.Numerals.{add-one}
use lib.Dec.{T, leb, leb→le, le→leb}
use Rattle.tables.specs.Base.{count}
use Rattle.tables.specs.CountLaws.{count_none}
use Rattle.tables.specs.Laws.{and_left, T→true, ¬T→false}

pub not_false : {A : Type 0} → true ≡ false → A
not_false e = absurd (subst (λ (b : Bool). T b) e tt)

-- page p is from k up
pub from_up_holds : (k p : ℕ) → k ≤ p → leb k p ≡ true
from_up_holds k p h = T→true (leb k p) (le→leb k p h)

pub not_up : (k p : ℕ) → p < k → leb k p ≡ false
not_up k p h = ¬T→false (leb k p) (λ t. omega (arith, leb→le k p t))

module _ (k : ℕ) (t : ℕ → Bool) where
  abbrev up : ℕ → Bool
  up p = leb k p && t p

  pub none_below : count k up ≡ 0
  none_below = count_none k up (λ p h x. omega (arith, leb→le k p (and_left (leb k p) (t p) x)))

  module _ {p n : ℕ} (h : k ≤ p) (e : n ≡ count p up) {b : Bool} (q : b ≡ t p) where
    pub one_more : b ≡ true → n + 1 ≡ count (p + 1) up
    unfolding count
    one_more y = rw (add-one p, from_up_holds k p h, ← q, y) (omega (arith, e))

    pub one_not : b ≡ false → n ≡ count (p + 1) up
    unfolding count
    one_not y = rw (add-one p, from_up_holds k p h, ← q, y) (omega (arith, e))
