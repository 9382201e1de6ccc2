-- How many numbers pass a test, by which do.
use Rattle.std.specs.Prelude.{◌≡◌, refl, Bool, true, false, ℕ, zero, suc, ◌+◌, ◌<◌, ◌≤◌, T}
use Rattle.std.proofs.Common.{arith}
use Rattle.std.proofs.Math.Decide.{ℕ_discrete}
use Rattle.tables.specs.Base.{if, count}
use Rattle.tables.specs.Laws.{¬T→false}

pub count_mono : (p : ℕ → Bool) (a b : ℕ) → a ≤ b → count a p ≤ count b p
unfolding count
count_mono p a zero h = let e : a ≡ 0 = omega (arith, h) in rw e (omega arith)
count_mono p a (suc b) h = elim (ℕ_discrete a (suc b)) [ yes e ↦ rw e (omega arith) | no e ↦ omega (arith, count_mono p a b (omega (arith, h, e))) ]

pub count_on : (p : ℕ → Bool) (i : ℕ) → T (p i) → count (suc i) p ≡ suc (count i p)
unfolding count
count_on p i t = go (p i) t
  where
    go : (b : Bool) → T b → count i p + if b 1 0 ≡ suc (count i p)
    go true t = omega arith
    go false t = absurd t

-- the number that has k that pass below it, and passes
pub nth : (n : ℕ) (p : ℕ → Bool) (k : ℕ) → k < count n p → (i : ℕ) × (i < n) × T (p i) × (count i p ≡ k)
unfolding count
nth zero p k h = absurd (omega (arith, h))
nth (suc n) p k h = go (p n) refl h (nth n p k)
  where
    go : (b : Bool) → p n ≡ b → k < count n p + if b 1 0 → (k < count n p → (i : ℕ) × (i < n) × T (p i) × (count i p ≡ k)) → (i : ℕ) × (i < suc n) × T (p i) × (count i p ≡ k)
    go true e h f = elim (ℕ_discrete (count n p) k) [
      | yes g ↦ (n, omega arith, rw e tt, g)
      | no g ↦ (let r = f (omega (arith, h, g)) in (r.0, omega (arith, r.1), r.2, r.3))
    ]
    go false e h f = let r = f (omega (arith, h)) in (r.0, omega (arith, r.1), r.2, r.3)

-- none from a up to b passes
pub count_gap : (p : ℕ → Bool) (a b : ℕ) → a ≤ b → ((i : ℕ) → a ≤ i → i < b → ¬ (T (p i))) → count b p ≡ count a p
unfolding count
count_gap p a zero h f = let e : a ≡ 0 = omega (arith, h) in rw e
count_gap p a (suc b) h f = elim (ℕ_discrete a (suc b)) [
  | yes e ↦ rw e
  | no e ↦ rw (¬T→false (p b) (f b (omega (arith, h, e)) (omega arith))) (omega (arith, count_gap p a b (omega (arith, h, e)) (λ i l g. f i l (omega (arith, g)))))
]
