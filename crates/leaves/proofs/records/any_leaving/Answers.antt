-- `any_leaving` meets its contract: `any` tells whether one of the records passed leaves.
use mathlib.Core.Bool.{◌||◌}
use mathlib.Core.Path.{◌≡◌, sym, ap, ◌∙◌}
use mathlib.Core.Bool.{Bool}
use Prim.Native.Nat.{ℕ, ◌+◌}
use native.Mathlib.Numerals.{add-one}
use native.Mathlib.Omega.{arith}
use Rattle.tables.specs.Base.{at, any}
use Rattle.tables.specs.Rule.{Rule, same, below, non, some, test}
use Rattle.tables.specs.Turn.{not_so, both, second_told, test_same}
use Rattle.model.specs.Lines.{LEAVING}
use Rattle.leaves.specs.Freed.{leaver_of, leaver_from}
use Rattle.leaves.proofs.records.any_leaving.Goals as goal

-- one more number is asked
some_next : (k : ℕ) (f : ℕ → Rule) (b x : Bool) → b ≡ test (some k f) → x ≡ test (f k) → b || x ≡ test (some (k + 1) f)
unfolding test any
some_next k f b x p q = ap (λ (c : Bool). c || x) p ∙ ap (λ (c : Bool). test (some k f) || c) q ∙ ap (λ (n : ℕ). test (some n f)) (sym (add-one k))

pub loop-r-init : goal.loop-r-init
loop-r-init c =
    let a = c.args in
    not_so (some a.start (leaver_from a.states.now a.owners.now a.owner a.start)) (λ h. h.2.0 h.1)

pub loop-r-preserved : goal.loop-r-preserved
loop-r-preserved c =
    let a = c.args in
    let r = c.loop-r.r in
    let states = a.states.now in
    let owners = a.owners.now in
    some_next r (leaver_from states owners a.owner a.start) _ _ c.loop-r.invariant
    (second_told (non (below r a.start)) (leaver_of states owners a.owner r) _ (λ h. omega (arith, h))
    (both (same (at states r) LEAVING) (same (at owners r) a.owner) _ _ (test_same _ _) (test_same _ _)))

pub returns : goal.returns
returns c =
    let a = c.args in
    let e : c.loop-r.r ≡ a.end = omega arith in
    c.loop-r.invariant ∙ ap (λ (n : ℕ). test (some n (leaver_from a.states.now a.owners.now a.owner a.start))) e
