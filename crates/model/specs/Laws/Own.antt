-- An event by its own questions, once 1 and 2 are asked; and what `step` is where both say yes, and where 1 says no. For code that asks them apart.
use Rattle.std.specs.Prelude.{◌≡◌, ℕ}
use Rattle.std.proofs.Math.Path.{ap}
use Rattle.std.proofs.Common.{◌∙◌}
use Rattle.tables.specs.Questions.{Questions, ask, first_no}
use Rattle.tables.specs.Rule.{Rule, Holds, told, untold}
use Rattle.model.specs.declared.sizes.Sizes.{Sizes}
use Rattle.model.specs.declared.event.Answer.{Answer}
use Rattle.model.specs.declared.event.Event.{Event}
use Rattle.model.specs.State.{State}
use Rattle.model.specs.Rules.{all_rules}
use Rattle.model.specs.Questions.{questions}
use Rattle.model.specs.Step.{Outcome, outcome, all_fit, answer, carried, whole, result, step}

-- but for what the chip does: what the families of events in code do
unfoldable pub own : Sizes → State → Event → Outcome State
own z st e = outcome (first_no (questions z st e)) (result z st e) st (carried z st e)

-- all of it
unfoldable pub own_whole : Sizes → State → Event → Outcome State
own_whole z st e = outcome (first_no (questions z st e)) (result z st e) st (whole z st e)

-- the answer, and the state left
abbrev pub leaves : Answer → State → Outcome State
leaves answer left = record { answer = answer; left = left }

-- refused by question n
abbrev pub refusal : ℕ → State → Outcome State
refusal n st = record { answer = record { refusal = n; result = 0 }; left = st }

-- carried out, with a result
abbrev pub completed : ℕ → State → Outcome State
completed n st = record { answer = record { refusal = 0; result = n }; left = st }

-- the first question answered
pub first_yes : (n : ℕ) (r : Rule) (q : Questions) → Holds r → first_no (ask n r q) ≡ first_no q
unfolding first_no
first_yes n r q h = rw (told r h)

pub first_no_holds : (n : ℕ) (r : Rule) (q : Questions) → ¬ Holds r → first_no (ask n r q) ≡ n
unfolding first_no
first_no_holds n r q h = rw (untold r h)

module _ (z : Sizes) (st : State) (e : Event) where
  abbrev by : ℕ → Outcome State
  by n = outcome n (result z st e) st (whole z st e)

  pub step_own : Holds (all_fit z st) → Holds (all_rules z st) → step z st e ≡ own_whole z st e
  unfolding step own_whole answer
  step_own f r = ap by (first_yes 1 (all_fit z st) (ask 2 (all_rules z st) (questions z st e)) f ∙ first_yes 2 (all_rules z st) (questions z st e) r)

  pub step_unfit : ¬ Holds (all_fit z st) → step z st e ≡ refusal 1 st
  unfolding step answer
  step_unfit f = ap by (first_no_holds 1 (all_fit z st) (ask 2 (all_rules z st) (questions z st e)) f)
