-- What `all` of a range of numbers answers: the test of each.
use mathlib.Core.Path.{◌≡◌, ◌∙◌}
use mathlib.Core.Bool.{Bool, true, false}
use mathlib.Core.List.{List}
use Prim.Native.Nat.{ℕ, ◌<◌}
use native.Mathlib.Omega.{arith}
use lib.ListN.{length, get_or}
use denote.Param.Members.{Mut}
use Rattle.std.proofs.Common.{Option}
use Rattle.std.proofs.iter.Yields.{nat_range_steps}
use Rattle.std.proofs.lemmas.Iterator.{YieldsList-from_range, cases_from_all}
use Rattle.std.proofs.lemmas.List.FromFn.{length-range_with_len, get_or-range_with_len}
use Rattle.std.specs.Bool.{MatchBool}
use Rattle.std.specs.Fn.{Called}
use Rattle.std.specs.Iterator.{YieldsThen}
use Rattle.std.specs.List.{FoldsTo, range_with_len, AllWithin, HoldsAt}
use Rattle.std.specs.Option.{MatchOption}
use Rattle.std.specs.declared.ops.Range.{Range}
use Rattle.tables.specs.Rule.{Rule, each, test}
use Rattle.tables.specs.Turn.{yes_so, not_so, learn, unlearn}

-- number k of the range is k
number : (n k : ℕ) → k < n → get_or (range_with_len 0 n) k 0 ≡ k
number n k l = get_or-range_with_len 0 n k 0 l ∙ omega arith

-- by the numbers of the range
told : (r : Bool) (n : ℕ) (f : ℕ → Rule)
    → MatchBool r (AllWithin (λ x. true ≡ test (f x)) (range_with_len 0 n) 0 (length (range_with_len 0 n))) ((k : ℕ) × (k < length (range_with_len 0 n)) × HoldsAt (λ x. false ≡ test (f x)) (range_with_len 0 n) k)
    → r ≡ test (each n f)
told true n f h = yes_so (each n f) (λ k l. learn (f k) (rw (number n k l) at (h k 0 (omega arith) (rw (length-range_with_len 0 n) l))))
told false n f h = let l : h.0 < n = rw (length-range_with_len 0 n) at h.1 in
    not_so (each n f) (λ all. unlearn (f h.0) (rw (number n h.0 l) at (h.2 0)) (all h.0 l))

pub all_told : {F : Type 0} {g : Mut F (ℕ × Unit {0}) Bool} {s : Range ℕ} (u : Range ℕ) (p : F) (r : Bool) (n : ℕ) (f : ℕ → Rule) → s ≡ record { start = 0; end = n }
    → (xs : List ℕ) × (o : Option ℕ) × (j : F) × YieldsThen nat_range_steps s xs o u × FoldsTo (λ p x q. Called g p (x, tt) true q) p xs j × MatchOption o (r ≡ true) (λ x. (r ≡ false) × ((h : F) × Called g j (x, tt) false h))
    → ((x : ℕ) (q : F) → Called g p (x, tt) true q → (q ≡ p) × (true ≡ test (f x)))
    → ((x : ℕ) (q : F) → Called g p (x, tt) false q → false ≡ test (f x))
    → r ≡ test (each n f)
all_told u p r n f e ran so never = told r n f (cases_from_all u p r (λ x. true ≡ test (f x)) (λ x. false ≡ test (f x)) ran (YieldsList-from_range 0 n n e (omega arith)) so never)
