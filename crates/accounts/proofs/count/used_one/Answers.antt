-- By the slot's switch.
use mathlib.Core.Path.{ap, sym, ◌∙◌}
use mathlib.Core.Bool.{Bool}
use lib.Dec.{ltb}
use Rattle.tables.specs.Base.{at, if}
use Rattle.tables.specs.Laws.{if_yes, if_no}
use Rattle.tables.specs.Rule.{test}
use Rattle.rules.specs.Passes.{live_page}
use Rattle.accounts.proofs.count.used_one.Goals as goal

pub returns-then-active-eq1 : goal.returns-then-active-eq1
returns-then-active-eq1 c =
    let a = c.args in
    c.live_one.ensures ∙ ap (λ (b : Bool). if b 1 0) (sym (if_yes a.active 1 (test (live_page a.address (at a.states.now))) (ltb 0 a.map) c.if-active-eq1.true))

pub returns : goal.returns
returns c =
    let a = c.args in
    c.listed_one.ensures ∙ ap (λ (b : Bool). if b 1 0) (sym (if_no a.active 1 (test (live_page a.address (at a.states.now))) (ltb 0 a.map) c.if-active-eq1.false))
