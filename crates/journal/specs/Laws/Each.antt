-- A rule tested of each number of a slice, by a chain.
use Rattle.std.specs.Prelude.{◌≡◌, ℕ, ◌+◌, ◌<◌, ◌≤◌, ◌↔◌, Bool, true, List, length, IsTrue, EachIndex, slice_index}
use Rattle.std.specs.List.{between}
use Rattle.std.proofs.Common.{arith, sym}
use Rattle.std.proofs.Math.Path.{subst}
use Rattle.std.proofs.lemmas.List.Edits.{length-between, get_or-between}
use Rattle.tables.specs.Base.{at}
use Rattle.tables.specs.Laws.{T→true}
use Rattle.tables.specs.Rule.{Rule, is, each, Holds, test, alike}

-- .. that lies from place a up to place e
module _ (g : ℕ → Rule) (xs : List ℕ) (a n e : ℕ) (b : Bool) (q : e ≡ a + n) (l : e ≤ length xs) where
  here : (i : ℕ) → i < n → slice_index (between a e xs) i ≡ at xs (a + i)
  here i h = get_or-between xs a e i 0 (omega arith)

  pub each_between : (IsTrue b ↔ EachIndex (between a e xs) (λ k. Holds (g (slice_index (between a e xs) k)))) → b ≡ test (each n (λ k. g (at xs (a + k))))
  unfolding test
  each_between f = alike (is b) (each n (λ k. g (at xs (a + k))))
      (λ t i h. subst (λ (x : ℕ). Holds (g x)) (here i h) (f.0 (T→true b t) i (omega (arith, length-between xs a e l))))
      (λ h. let s : b ≡ true = f.1 (λ i k. let m : i < n = omega (arith, length-between xs a e l) in subst (λ (x : ℕ). Holds (g x)) (sym (here i m)) (h i m)) in rw s tt)

-- .. that is whole
pub each_of : (g : ℕ → Rule) (xs : List ℕ) (n : ℕ) (b : Bool) → length xs ≡ n
    → (IsTrue b ↔ EachIndex xs (λ k. Holds (g (slice_index xs k)))) → b ≡ test (each n (λ k. g (at xs k)))
unfolding test
each_of g xs n b e f = alike (is b) (each n (λ k. g (at xs k)))
    (λ t i h. f.0 (T→true b t) i (omega arith))
    (λ h. let s : b ≡ true = f.1 (λ i k. h i (omega arith)) in rw s tt)
