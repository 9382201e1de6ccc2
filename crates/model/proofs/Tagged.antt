-- A tag that is none of some kinds' is looked for among the rest.
use mathlib.Core.Path.{◌≡◌, refl}
use mathlib.Core.List.{List, [], ◌∷◌, ◌++◌}
use Prim.Native.Nat.{ℕ}
use borrow.Author.Tests.{ne_eqb}
use Rattle.model.specs.Requests.{Kind, tagged}

-- what a `match` knows at its default, besides N: the tag is none of these kinds'
abbrev pub Past : ℕ → Type 0 → List Kind → Type 0
Past t N [] = N
Past t N (k ∷ ks) = Past t (N × ¬ (t ≡ k.tag)) ks

before : (t : ℕ) (N : Type 0) (ks : List Kind) → Past t N ks → N
before t N [] p = p
before t N (k ∷ ks) p = (before t (N × ¬ (t ≡ k.tag)) ks p).0

pub passed : (t : ℕ) (N : Type 0) (ks rest : List Kind) → Past t N ks → tagged t rest ≡ tagged t (ks ++ rest)
passed t N [] rest p = refl
passed t N (k ∷ ks) rest p = let M = N × ¬ (t ≡ k.tag) in rw (ne_eqb t k.tag (before t M ks p).1) (passed t M ks rest p)
