-- `in_four` meets its contract: the four tests in two pairs are those of the four in a row.
use mathlib.Core.Bool.{◌||◌}
use mathlib.Core.Path.{◌≡◌, refl, ap, ◌∙◌}
use mathlib.Core.Bool.{Bool, true, false}
use Prim.Native.Nat.{ℕ, ◌+◌, ◌%◌}
use native.Mathlib.Omega.{arith}
use Rattle.tables.specs.Base.{at, any}
use Rattle.tables.specs.Rule.{Rule, same, some, test}
use Rattle.leaves.proofs.packed.in_four.Goals as goal

in_a_row : (a b c d : Bool) → (a || b) || (c || d) ≡ (((false || a) || b) || c) || d
in_a_row true b c d = refl
in_a_row false true c d = refl
in_a_row false false c d = refl

in_pairs : (f : ℕ → Rule) (a b c d : Bool) → a ≡ test (f 0) → b ≡ test (f 1) → c ≡ test (f 2) → d ≡ test (f 3) → (a || b) || (c || d) ≡ test (some 4 f)
unfolding test any
in_pairs f a b c d p q r s = rw (p, q, r, s) (in_a_row (test (f 0)) (test (f 1)) (test (f 2)) (test (f 3)))

pub returns : goal.returns
returns c =
    let g = c.args in
    let first : g.f ≡ g.f + 0 = omega arith in
    in_pairs (λ k. same (at g.frames.now (g.f + k) % 65536) g.entry) _ _ _ _
    (c.has_page.ensures ∙ ap (λ (k : ℕ). test (same (at g.frames.now k % 65536) g.entry)) first)
    c.has_page-2.ensures
    c.has_page-3.ensures
    c.has_page-4.ensures
