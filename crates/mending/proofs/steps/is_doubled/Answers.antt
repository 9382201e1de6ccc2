-- `is_doubled` meets its contract: the numbers below slot s are asked for its own.
use Rattle.std.proofs.Common.{◌≡◌, ℕ, ◌<◌, List, length, take, sym, ◌∙◌, arith, length-take, slice_index_or}
use Rattle.std.proofs.lemmas.List.{get_or-take, get_or_default}
use Rattle.tables.specs.Base.{at}
use Rattle.tables.specs.Turn.{yes_so, not_so}
use Rattle.mending.specs.Names.{doubled_in}
use Rattle.mending.proofs.steps.is_doubled.Goals as goal

-- an entry of the first n is one of the table
nth : (s : List ℕ) (n k d : ℕ) → k < length (take n s) → slice_index_or (take n s) k d ≡ at s k
nth s n k d h =
    let inside : k < n = omega (arith, h, length-take n s) in
    let below : k < length s = omega (arith, h, length-take n s) in
    get_or-take n s k d inside ∙ get_or_default s k d 0 below

pub returns-then-number-eq0 : goal.returns-then-number-eq0
returns-then-number-eq0 c =
    not_so (doubled_in c.args.numbers.now c.args.s) (λ h. h.0 c.if-number-eq0.true)

pub returns-then-other-number : goal.returns-then-other-number
returns-then-other-number c =
    let a = c.args in
    let k = c.loop-other.other-index in
    let inside : k < a.s = omega (arith, c.loop-other-test.true, length-take a.s a.numbers.now) in
    yes_so (doubled_in a.numbers.now a.s) (c.if-number-eq0.false, (k, inside, sym (nth a.numbers.now a.s k _ c.loop-other-test.true) ∙ c.if-other-number.true))

pub returns : goal.returns
returns c =
    let a = c.args in
    not_so (doubled_in a.numbers.now a.s) (λ (nz, (k, l, e)). c.loop-other.invariant k (omega (arith, l, c.loop-other-test.false, length-take a.s a.numbers.now)) e)
