-- An event over all tables by the tables that it sees: the same questions and result, and what it leaves where it is carried out and where it is refused.
use mathlib.Core.Path.{◌≡◌, refl, sym, ◌∙◌}
use native.Mathlib.Decide.{ℕ_discrete}
use Rattle.tables.specs.Questions.{Asked, first_no, all_yes}
use Rattle.model.specs.declared.sizes.Sizes.{Sizes}
use Rattle.model.specs.declared.event.Answer.{Answer}
use Rattle.model.specs.declared.event.Event.{Event}
use Rattle.model.specs.State.{State}
use Rattle.model.specs.Questions.{questions}
use Rattle.model.specs.Step.{carried, result, own_above}
use Rattle.model.specs.Laws.Own.{own, refusal, leaves}
use Rattle.model.specs.Laws.OwnLaws.{done, own_no, own_yes}

-- t is the tables that the event sees
pub own_by : (z : Sizes) (st t : State) (e : Event) {a : Answer} {left : State} → first_no (questions z t e) ≡ first_no (questions z st e) → result z t e ≡ result z st e → a ≡ (own z t e).answer
    → (own z t e ≡ done z t e → Asked (questions z st e) → left ≡ carried z st e)
    → (¬ (first_no (questions z st e) ≡ 0) → own z t e ≡ refusal (first_no (questions z st e)) t → left ≡ st)
    → leaves a left ≡ own z st e
own_by z st t e same result_same answered goes stays = elim (ℕ_discrete (first_no (questions z st e)) 0) [
  | yes h ↦
      let o : own z t e ≡ done z t e = sym (own_yes z t e (first_no (questions z st e)) (sym same) h) in
      let s = goes o (all_yes 2 (questions z st e) (own_above z st e) h) in
      (λ x. leaves ((answered ∙ (λ y. (o y).answer) ∙ (λ y. record { refusal = 0; result = result_same y })) x) (s x)) ∙ own_yes z st e (first_no (questions z st e)) refl h
  | no h ↦
      let o : own z t e ≡ refusal (first_no (questions z st e)) t = sym (own_no z t e (first_no (questions z st e)) (sym same) h) in
      let s = stays h o in
      (λ x. leaves ((answered ∙ (λ y. (o y).answer)) x) (s x)) ∙ own_no z st e (first_no (questions z st e)) refl h
]
