-- An event by its own questions, refused or carried out: what code cites.
use Rattle.std.specs.Prelude.{◌≡◌, refl, ℕ, zero, suc}
use Rattle.std.proofs.Math.Path.{ap, sym}
use Rattle.std.proofs.Common.{◌∙◌}
use Rattle.tables.specs.Questions.{first_no}
use Rattle.model.specs.declared.sizes.Sizes.{Sizes}
use Rattle.model.specs.declared.event.Event.{Event}
use Rattle.model.specs.State.{State}
use Rattle.model.specs.Questions.{questions}
use Rattle.model.specs.Step.{Outcome, outcome, carried, whole, result}
use Rattle.model.specs.Laws.Own.{own, own_whole, refusal, completed}

pub outcome_no : {A : Type 0} (n result : ℕ) (old new : A) → ¬ (n ≡ 0) → outcome n result old new ≡ record { answer = record { refusal = n; result = 0 }; left = old }
outcome_no zero result old new h = absurd (h refl)
outcome_no (suc n) result old new h = refl

module _ (z : Sizes) (st : State) (e : Event) where
  -- carried out
  abbrev pub done : Outcome State
  done = completed (result z st e) (carried z st e)

  -- n is what the code answers
  pub own_no : (n : ℕ) → n ≡ first_no (questions z st e) → ¬ (n ≡ 0) → refusal n st ≡ own z st e
  unfolding own
  own_no n q h = sym (outcome_no n (result z st e) st (carried z st e) h) ∙ ap (λ (m : ℕ). outcome m (result z st e) st (carried z st e)) q

  pub own_yes : (n : ℕ) → n ≡ first_no (questions z st e) → n ≡ 0 → done ≡ own z st e
  unfolding own
  own_yes n q h = ap (λ (m : ℕ). outcome m (result z st e) st (carried z st e)) (sym h ∙ q)

  -- with what the chip does
  pub whole_no : (n : ℕ) → n ≡ first_no (questions z st e) → ¬ (n ≡ 0) → refusal n st ≡ own_whole z st e
  unfolding own_whole
  whole_no n q h = sym (outcome_no n (result z st e) st (whole z st e) h) ∙ ap (λ (m : ℕ). outcome m (result z st e) st (whole z st e)) q

  pub whole_yes : (n : ℕ) → n ≡ first_no (questions z st e) → n ≡ 0 → completed (result z st e) (whole z st e) ≡ own_whole z st e
  unfolding own_whole
  whole_yes n q h = ap (λ (m : ℕ). outcome m (result z st e) st (whole z st e)) (sym h ∙ q)
