-- Membership: in a table given by a function, and in two lists one behind the other.
use mathlib.Core.Path.{◌≡◌, ap}
use mathlib.Core.Logic.{◌⊎◌, inl, inr}
use mathlib.Core.List.{List, [], ◌∷◌, ◌++◌}
use Prim.Native.Nat.{ℕ, zero, suc, ◌+◌, ◌<◌, ◌≤◌}
use native.Mathlib.Omega.{arith}
use native.Mathlib.Decide.{ℕ_discrete}
use Rattle.tables.specs.Base.{tab}
use Rattle.layout.specs.Claims.{In}

-- every entry of a table is in it
pub in_tab : (n : ℕ) (f : ℕ → ℕ) (i j : ℕ) → i ≤ j → j < i + n → In (f j) (tab n f i)
unfolding tab
in_tab zero f i j h l = absurd (omega arith)
in_tab (suc n) f i j h l = elim (ℕ_discrete j i) [ yes e ↦ inl (ap f e) | no e ↦ inr (in_tab n f (suc i) j (omega arith) (omega arith)) ]

-- and what is in it is one
pub of_tab : (n : ℕ) (f : ℕ → ℕ) (i x : ℕ) → In x (tab n f i) → (j : ℕ) × (i ≤ j) × (j < i + n) × (x ≡ f j)
unfolding tab
of_tab zero f i x h = absurd h
of_tab (suc n) f i x (inl e) = (i, omega arith, omega arith, e)
of_tab (suc n) f i x (inr h) = let r = of_tab n f (suc i) x h in (r.0, omega (arith, r.1), omega (arith, r.2), r.3)

pub in_front : (xs ys : List ℕ) (x : ℕ) → In x xs → In x (xs ++ ys)
in_front [] ys x h = absurd h
in_front (a ∷ xs) ys x (inl e) = inl e
in_front (a ∷ xs) ys x (inr h) = inr (in_front xs ys x h)

pub in_behind : (xs ys : List ℕ) (x : ℕ) → In x ys → In x (xs ++ ys)
in_behind [] ys x h = h
in_behind (a ∷ xs) ys x h = inr (in_behind xs ys x h)

pub in_either : (xs ys : List ℕ) (x : ℕ) → In x (xs ++ ys) → In x xs ⊎ In x ys
in_either [] ys x h = inr h
in_either (a ∷ xs) ys x (inl e) = inl (inl e)
in_either (a ∷ xs) ys x (inr h) = elim (in_either xs ys x h) [ inl k ↦ inl (inr k) | inr k ↦ inr k ]
