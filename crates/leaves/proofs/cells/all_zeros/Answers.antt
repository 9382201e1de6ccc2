-- `all_zeros` meets its contract: ok tells whether the entries passed are zeros.
use Rattle.std.proofs.Common.{arith, Bool, ◌≡◌, ◌+◌, ◌<◌, ◌∙◌, ap, ℕ, List, length, take, drop, length-drop, length-take, slice_index_or}
use Rattle.std.proofs.lemmas.List.{get_or-drop, get_or-take, get_or_default}
use Rattle.tables.specs.Rule.{is, test}
use Rattle.tables.specs.Turn.{each_none, each_next}
use Rattle.leaves.proofs.cells.all_zeros.Goals as goal

-- entry k of a part is one of the whole
nth : {A : Type 0} (s : List A) (from n k : ℕ) (x d : A) → k < length (take n (drop from s)) → x ≡ slice_index_or (take n (drop from s)) k x → x ≡ slice_index_or s (from + k) d
nth s from n k x d h e =
    let inside : (k < n) = omega (arith, h, length-take n (drop from s)) in
    let below : (from + k < length s) = omega (arith, h, length-take n (drop from s), length-drop from s) in
    e ∙ get_or-take n (drop from s) k x inside ∙ get_or-drop from s k x ∙ get_or_default s (from + k) x d below

test_is : {a b : Bool} → a ≡ b → a ≡ test (is b)
unfolding test
test_is e = e

pub loop-x-init : goal.loop-x-init
loop-x-init g c = each_none _

pub loop-x-preserved : goal.loop-x-preserved
loop-x-preserved g c =
    each_next _ _ _ _ c.loop-x.invariant
    (test_is (c.is_zero-ok.ensures ∙ ap g.T.Entry.is_zero (nth c.args.s.now c.args.from _ c.loop-x.x-index c.x-item.result g.T.Entry.zero c.loop-x-test.true c.x-item.is)))
