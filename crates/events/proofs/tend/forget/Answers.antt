-- `forget` meets its contract: a record is told, or none.
use mathlib.Core.Path.{◌≡◌, ap, sym, ◌∙◌}
use Prim.Native.Nat.{ℕ, suc, ◌-◌}
use native.Mathlib.Omega.{arith}
use Rattle.model.specs.Lent.{chip_of}
use Rattle.events.specs.Chores.{forgotten}
use Rattle.events.proofs.tend.forget.Goals as goal

pub returns-then-told-ne0 : goal.returns-then-told-ne0
returns-then-told-ne0 c =
    let a = c.args in
    let e : suc (a.told - 1) ≡ a.told = omega (arith, c.if-told-ne0.true) in
    λ next. c.drop_one.ensures next ∙ ap (λ (n : ℕ). forgotten a.sizes n (chip_of a.chip_words.now a.chip_records.now next)) e

pub returns-else-told-ne0 : goal.returns-else-told-ne0
returns-else-told-ne0 c =
    let a = c.args in
    λ next. ap (λ (n : ℕ). forgotten a.sizes n (chip_of a.chip_words.now a.chip_records.now next)) (sym c.if-told-ne0.false)
