-- What two boards answer, every design by its number.
use mathlib.Core.Path.{◌≡◌, refl, sym, ◌∙◌}
use mathlib.Core.List.{List, []}
use Prim.Native.Nat.{ℕ, zero, suc, ◌<◌}
use native.Mathlib.Decide.{dec_lt}
use lib.ListN.{length}
use Rattle.tables.specs.Base.{at}
use Rattle.tables.specs.Questions.{first_no, all_yes}
use Rattle.tables.specs.Rule.{Holds}
use Rattle.sheets.specs.Sheet.{laid}
use Rattle.model.specs.declared.sizes.Sizes.{Sizes}
use Rattle.model.specs.declared.event.Page.TheVariants.{Fault, Read, Write, Wire, Unwire}
use Rattle.model.specs.declared.event.Event.{Event}
use Rattle.model.specs.declared.event.Event.TheVariants as Event
use Rattle.model.specs.State.{State}
use Rattle.model.specs.Questions.{export_questions}
use Rattle.model.specs.Step.{outcome, asked, step, look}
use Rattle.model.specs.Export.{exported, export}
use Rattle.model.specs.Acts.{Act, event, looking, importing, exporting, restarting, cutting, cutting_in, World}
use Rattle.model.specs.OneNumber.{by_number}
use Rattle.crash.proofs.Steps.{Good}
use Rattle.crash.proofs.Births.{Born}
use Rattle.crash.proofs.Given.{Given, view}
use Rattle.isolation.specs.Twins.{Twin, both, written, cut, cut_in}
use Rattle.isolation.specs.Answers.{event_results, Answers}
use Rattle.isolation.proofs.Told.{same_like}
use Rattle.isolation.proofs.Handed.{no_result, no_part, look_asked, read_asked}
use Rattle.isolation.proofs.ByNumber.{like_by, Names, by_slot}

-- ── of a slot that there is not, nothing is read ──
module _ (z : Sizes) (x : State) (s : ℕ) (n : ¬ (s < z.slots)) where
  read_none : (p k : ℕ) → (step z x (Event.Page (Read s p k))).answer.result ≡ 0
  read_none p k = go (step z x (Event.Page (Read s p k))).answer.refusal refl
    where
      go : (m : ℕ) → (step z x (Event.Page (Read s p k))).answer.refusal ≡ m → (step z x (Event.Page (Read s p k))).answer.result ≡ 0
      go zero e = let ((slot, rest), own) = read_asked z x s p k e in absurd (n slot)
      go (suc m) e = no_result z x (Event.Page (Read s p k)) m e

  look_none : (p : ℕ) → (look z x s p).left ≡ []
  look_none p = go (look z x s p).answer.refusal refl
    where
      go : (m : ℕ) → (look z x s p).answer.refusal ≡ m → (look z x s p).left ≡ []
      go zero e = let ((slot, rest), own) = look_asked z x s p e in absurd (n slot)
      go (suc m) e = no_part z x s p m e

  export_none : (buffer : List ℕ) → (export z x s buffer).left ≡ buffer
  unfolding export
  export_none buffer = go (first_no (asked z x (export_questions z x s (length (exported z x s)) (length buffer)))) refl
    where
      go : (m : ℕ) → first_no (asked z x (export_questions z x s (length (exported z x s)) (length buffer))) ≡ m → (outcome m (length (exported z x s)) buffer (laid buffer 0 (exported z x s))).left ≡ buffer
      go zero e = absurd (n (all_yes 0 (asked z x (export_questions z x s (length (exported z x s)) (length buffer))) tt e).1.1.0)
      go (suc m) e = refl

module _ (z : Sizes) (hidden n : ℕ) (w : World) (good : Good z w) (born : Born w) (given : Given z w.up (view w)) (names : Names hidden n w) (w' : World) where
  result_by : (e : Event) → (let x = (step z w.state e).answer.result in let y = (step z w'.state e).answer.result in
      Holds (event_results hidden w.ledger.design e x y) → Holds (event_results n (at w.state.disk.numbers) e x y))
  result_by (Event.Design e) r = r
  result_by (Event.Account e) r = r
  result_by (Event.Page (Fault s p)) r = r
  result_by (Event.Page (Read s p k)) r = elim (dec_lt s z.slots) [
    | yes l ↦ like_by hidden n _ _ _ _ (by_slot z hidden n w good born given names s l) r
    | no l ↦ rw (read_none z w.state s l p k, read_none z w'.state s l p k) (same_like n (at w.state.disk.numbers s) 0)
  ]
  result_by (Event.Page (Write s p k x)) r = r
  result_by (Event.Page (Wire s p)) r = r
  result_by (Event.Page (Unwire s p)) r = r
  result_by (Event.Writeback e) r = r
  result_by (Event.Waiting e) r = r

  -- a slot that has another number has another design
  other : (s : ℕ) → s < z.slots → ¬ (at w.state.disk.numbers s ≡ n) → ¬ (w.ledger.design s ≡ hidden)
  other s l m e = m ((by_slot z hidden n w good born given names s l).1 e)

  both_by : (x : Act) → Answers z hidden w w' x x → Answers z n (by_number w) (by_number w') x x
  unfolding by_number
  both_by (event e) a = record { refusal = a.refusal; result = result_by e a.result; handed = tt }
  both_by (looking s p) a = record {
    refusal = a.refusal;
    result = a.result;
    handed = λ m. elim (dec_lt s z.slots) [ yes l ↦ a.handed (other s l m) | no l ↦ look_none z w.state s l p ∙ sym (look_none z w'.state s l p) ];
  }
  both_by (importing s q m b) a = record { refusal = a.refusal; result = a.result; handed = tt }
  both_by (exporting s buffer) a = record {
    refusal = a.refusal;
    result = a.result;
    handed = λ m. elim (dec_lt s z.slots) [ yes l ↦ a.handed (other s l m) | no l ↦ export_none z w.state s l buffer ∙ sym (export_none z w'.state s l buffer) ];
  }
  both_by restarting a = record { refusal = a.refusal; result = a.result; handed = tt }
  both_by (cutting writes updates m) a = record { refusal = refl; result = refl; handed = tt }
  both_by (cutting_in c k writes updates m) a = record { refusal = refl; result = refl; handed = tt }

  pub answers_by : {x y : Act} → Twin hidden w.ledger.design x y → Answers z hidden w w' x y → Answers z n (by_number w) (by_number w') x y
  unfolding by_number
  answers_by (both x) a = both_by x a
  answers_by (written s p k x y e f g) a = record { refusal = a.refusal; result = a.result; handed = tt }
  answers_by (cut writes updates m m') a = record { refusal = refl; result = refl; handed = tt }
  answers_by (cut_in c k writes updates m m') a = record { refusal = refl; result = refl; handed = tt }
