-- The copy, then two stores in it.
use mathlib.Core.Path.{◌≡◌, ap, ◌∙◌}
use mathlib.Core.List.{List}
use Prim.Native.Nat.{ℕ, ◌+◌, ◌-◌}
use native.Mathlib.Omega.{arith}
use lib.ListN.{length, set}
use Rattle.tables.specs.Base.{at}
use Rattle.model.specs.Accounts.{shifted}
use Rattle.accounts.proofs.Carried.{at_copy}
use Rattle.accounts.proofs.shift.shift_limits.Goals as goal

pub overflow_sub-less : goal.overflow_sub-less
overflow_sub-less c =
    let alike : (i : ℕ) → at c.copy16.new.table i ≡ at c.args.limits.now i = λ i. ap (λ (l : List ℕ). at l i) c.copy16.ensures ∙ at_copy c.args.limits.now (length c.args.wanted.now) c.requires.0 i in
    let giver-is : (c.from.result ≡ at c.copy16.new.table c.args.giver) = c.from.ensures ∙ c.at.ensures in
    omega (arith, giver-is, alike c.args.giver, c.requires.1)

pub overflow_add-more : goal.overflow_add-more
overflow_add-more c =
    let alike : (i : ℕ) → at c.copy16.new.table i ≡ at c.args.limits.now i = λ i. ap (λ (l : List ℕ). at l i) c.copy16.ensures ∙ at_copy c.args.limits.now (length c.args.wanted.now) c.requires.0 i in
    let taker-is : (c.from-2.result ≡ at c.copy16.new.table c.args.taker) = c.from-2.ensures ∙ c.at-2.ensures in
    omega (arith, taker-is, alike c.args.taker, c.requires.2)

pub overflow_cast-less : goal.overflow_cast-less
overflow_cast-less c =
    let alike : (i : ℕ) → at c.copy16.new.table i ≡ at c.args.limits.now i = λ i. ap (λ (l : List ℕ). at l i) c.copy16.ensures ∙ at_copy c.args.limits.now (length c.args.wanted.now) c.requires.0 i in
    let giver-is : (c.from.result ≡ at c.copy16.new.table c.args.giver) = c.from.ensures ∙ c.at.ensures in
    omega (arith, giver-is, alike c.args.giver)

pub overflow_cast-more : goal.overflow_cast-more
overflow_cast-more c =
    let alike : (i : ℕ) → at c.copy16.new.table i ≡ at c.args.limits.now i = λ i. ap (λ (l : List ℕ). at l i) c.copy16.ensures ∙ at_copy c.args.limits.now (length c.args.wanted.now) c.requires.0 i in
    let taker-is : (c.from-2.result ≡ at c.copy16.new.table c.args.taker) = c.from-2.ensures ∙ c.at-2.ensures in
    omega (arith, taker-is, alike c.args.taker, c.requires.2)

pub returns : goal.returns
unfolding shifted
returns c =
    let giver-is : (c.from.result ≡ at c.copy16.new.table c.args.giver) = c.from.ensures ∙ c.at.ensures in
    let taker-is : (c.from-2.result ≡ at c.copy16.new.table c.args.taker) = c.from-2.ensures ∙ c.at-2.ensures in
    let a = c.args in
    let g = giver-is in let t = taker-is in
    c.put-2.ensures ∙ (λ x. set (c.put.ensures x) a.taker (t x + a.pages)) ∙ (λ x. set (set c.copy16.new.table a.giver (g x - a.pages)) a.taker (at c.copy16.new.table a.taker + a.pages))
    ∙ (λ x. shifted (c.copy16.ensures x) a.giver a.taker a.pages)
