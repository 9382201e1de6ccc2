-- `number_new` meets its contract: no slot passed has the number, and past the table each is 0.
use Rattle.std.proofs.Common.{◌≡◌, ℕ, ◌<◌, ◌≤◌, List, length, take, leb, not, ap, sym, ◌∙◌, arith, ne_eqb, length-take, slice_index_or}
use native.Mathlib.Decide.{dec_lt}
use Rattle.std.proofs.Math.ListN.{get_or-eq_default}
use Rattle.std.proofs.Math.Dec.{leb→le, le→leb}
use Rattle.std.proofs.lemmas.List.{get_or-take, get_or_default}
use Rattle.tables.specs.Base.{at}
use Rattle.tables.specs.Rule.{is, test, alike, told, untold}
use Rattle.designs.specs.Asks.{new_number}
use Rattle.designs.proofs.asks.number_new.Goals as goal

-- an entry of the first n is one of the table
nth : (s : List ℕ) (n k d : ℕ) → k < length (take n s) → slice_index_or (take n s) k d ≡ at s k
nth s n k d h =
    let inside : k < n = omega (arith, h, length-take n s) in
    let below : k < length s = omega (arith, h, length-take n s) in
    get_or-take n s k d inside ∙ get_or_default s k d 0 below

pub returns-then-other-number : goal.returns-then-other-number
returns-then-other-number c =
    let a = c.args in
    let k = c.loop-other.other-index in
    let inside : k < a.slots = omega (arith, c.loop-other-test.true, length-take c.min.result a.numbers.now, c.min.ensures) in
    sym (untold (new_number a.slots a.numbers.now a.number) (λ h. h k inside (sym (nth a.numbers.now c.min.result k _ c.loop-other-test.true) ∙ c.if-other-number.true)))

pub returns-then-number-ne0 : goal.returns-then-number-ne0
returns-then-number-ne0 c =
    let a = c.args in
    ap not (ne_eqb a.number 0 c.if-number-ne0.true) ∙ sym (told (new_number a.slots a.numbers.now a.number) (λ i h. elim (dec_lt i (length a.numbers.now)) [
      | yes l ↦ c.loop-other.invariant i (omega (arith, h, l, c.loop-other-test.false, length-take c.min.result a.numbers.now, c.min.ensures))
      | no l ↦ λ e. c.if-number-ne0.true (sym e ∙ get_or-eq_default a.numbers.now 0 (omega (arith, l)))
    ]))

pub returns-else-number-ne0 : goal.returns-else-number-ne0
unfolding test
returns-else-number-ne0 c =
    let a = c.args in
    alike (is (leb a.slots (length a.numbers.now))) (new_number a.slots a.numbers.now a.number)
    (λ t i h. let l : a.slots ≤ length a.numbers.now = leb→le a.slots (length a.numbers.now) t in
    c.loop-other.invariant i (omega (arith, h, l, c.loop-other-test.false, length-take c.min.result a.numbers.now, c.min.ensures)))
    (λ h. elim (dec_lt (length a.numbers.now) a.slots) [
      | yes l ↦ absurd (h (length a.numbers.now) l (get_or-eq_default a.numbers.now 0 (omega arith) ∙ sym c.if-number-ne0.false))
      | no l ↦ le→leb a.slots (length a.numbers.now) (omega (arith, l))
    ])
