-- `moved` meets its contract.
use mathlib.Core.Path.{refl}
use mathlib.Core.Logic.{inl, inr}
use lib.Dec.{eqb, eqb→eq}
use Rattle.tables.specs.Laws.{and_left, and_right, and_intro, eq→T, T→true}
use Rattle.leaves.proofs.states.moved.Goals as goal

pub returns-then-own-state : goal.returns-then-own-state
returns-then-own-state c =
    let a = c.args in
    let e = eqb a.state a.from in
    inl ((T→true a.own (and_left a.own e (rw c.if-own-state.true tt)), eqb→eq a.state a.from (and_right a.own e (rw c.if-own-state.true tt))), refl)

pub returns-else-own-state : goal.returns-else-own-state
returns-else-own-state c =
    let a = c.args in
    inr (λ h. rw c.if-own-state.false at (and_intro a.own (eqb a.state a.from) (rw h.0 tt) (eq→T h.1)), refl)
