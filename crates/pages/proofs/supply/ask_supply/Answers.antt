-- `ask_supply` meets its contract: the first test that fails gives its number.
use mathlib.Core.Path.{◌≡◌, ap, sym, ◌∙◌}
use native.Mathlib.Omega.{arith}
use mathlib.Core.Bool.{true}
use Prim.Native.Nat.{ℕ}
use lib.Dec.{eqb, ltb}
use Rattle.tables.specs.Base.{if, at}
use Rattle.tables.specs.Questions.{yes_all}
use Rattle.tables.specs.QueueEntries.{size_zero, size_more}
use Rattle.tables.specs.Rule.{same, below, non, ◌or◌, test, sound, complete}
use Rattle.model.specs.Laws.Own.{first_yes, first_no_holds}
use Rattle.pages.proofs.Ways.{supplied_told}
use Rattle.pages.proofs.supply.ask_supply.Goals as goal

pub returns-then-not-supplied : goal.returns-then-not-supplied
returns-then-not-supplied c =
    let tells : (let a = c.args in test (non (same (at a.addresses.now a.page) 0) or below 0 a.free) ≡ c.supplied.result) = let a = c.args in
    sym (supplied_told (at a.addresses.now a.page) a.free) ∙ ap (λ (n : ℕ). if (eqb n 0) (ltb 0 a.free) true) (sym c.at-address.ensures) ∙ sym c.supplied.ensures in
    let a = c.args in
    let t = tells ∙ c.if-not-supplied.true in
    sym (first_no_holds 19 _ _ (λ h. rw t at (complete (non (same (at a.addresses.now a.page) 0) or below 0 a.free) h)))

pub returns-then-at-eq0 : goal.returns-then-at-eq0
returns-then-at-eq0 c =
    let tells : (let a = c.args in test (non (same (at a.addresses.now a.page) 0) or below 0 a.free) ≡ c.supplied.result) = let a = c.args in
    sym (supplied_told (at a.addresses.now a.page) a.free) ∙ ap (λ (n : ℕ). if (eqb n 0) (ltb 0 a.free) true) (sym c.at-address.ensures) ∙ sym c.supplied.ensures in
    let a = c.args in
    let t = tells ∙ c.if-not-supplied.false in
    sym (first_yes 19 _ _ (sound (non (same (at a.addresses.now a.page) 0) or below 0 a.free) (rw t tt))
    ∙ first_no_holds 20 _ _ (λ h. omega (arith, size_zero a.free_queue.now (sym c.at.ensures ∙ c.if-at-eq0.true))))

pub returns : goal.returns
returns c =
    let tells : (let a = c.args in test (non (same (at a.addresses.now a.page) 0) or below 0 a.free) ≡ c.supplied.result) = let a = c.args in
    sym (supplied_told (at a.addresses.now a.page) a.free) ∙ ap (λ (n : ℕ). if (eqb n 0) (ltb 0 a.free) true) (sym c.at-address.ensures) ∙ sym c.supplied.ensures in
    let a = c.args in
    let t = tells ∙ c.if-not-supplied.false in
    sym (yes_all _ (
      sound (non (same (at a.addresses.now a.page) 0) or below 0 a.free) (rw t tt),
      (size_more a.free_queue.now 0 (omega arith) (λ e. c.if-at-eq0.false (c.at.ensures ∙ e)), tt),
    ))
