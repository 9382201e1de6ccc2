-- Each call asks question 1 first.
use Rattle.model.specs.declared.event.Event.{Event}
use Rattle.std.specs.Prelude.{Option, Some, None}
use mathlib.Core.Path.{◌≡◌, ap}
use mathlib.Core.List.{List, []}
use Prim.Native.Nat.{ℕ}
use lib.ListN.{length, take, drop}
use Rattle.tables.specs.Questions.{none, ask}
use Rattle.tables.specs.Rule.{Holds, same}
use Rattle.sheets.specs.Sheet.{number_in, laid}
use Rattle.model.specs.declared.sizes.Sizes.{Sizes}
use Rattle.model.specs.declared.request.Request.{Request}
use Rattle.model.specs.declared.applied.Part.{Part}
use Rattle.model.specs.Requests.{decoded}
use Rattle.model.specs.State.{State}
use Rattle.model.specs.Rules.{disk_rules, all_rules}
use Rattle.model.specs.Questions.{look_questions, import_questions, export_questions}
use Rattle.model.specs.Pages
use Rattle.model.specs.Restart.{raised, restarted}
use Rattle.model.specs.Step.{Outcome, outcome, all_fit, restart, look}
use Rattle.model.specs.Laws.Own.{refusal, first_no_holds, step_unfit}
use Rattle.model.specs.Calls.{unknown, step_of, apply}
use Rattle.model.specs.Part.{part, part_of}
use Rattle.model.specs.Import.{sheet_of, imported, import, import_answer}
use Rattle.model.specs.Export.{exported, export}
use Rattle.carrying.specs.Exports.{handed}
use Rattle.keeper.proofs.AnyLength.{Refuses}

pub apply_refuses : (z : Sizes) (request : Request) → Refuses z (λ (st : State). apply z st request)
unfolding apply step_of unknown
apply_refuses z request st h = go (decoded request)
  where
    go : (d : Option Event) → step_of z st d ≡ refusal 1 st
    go (Some e) = step_unfit z st e h
    go None = ap (λ (k : ℕ). outcome k 0 st st) (first_no_holds 1 (all_fit z st) (ask 2 (all_rules z st) (ask 3 (same 0 1) none)) h)

pub restart_refuses : (z : Sizes) → Refuses z (λ (st : State). restart z st)
unfolding restart
restart_refuses z st h = ap (λ (k : ℕ). outcome k 0 st (restarted z (raised z st.disk))) (first_no_holds 1 (all_fit z st) (ask 2 (disk_rules z st) none) h)

-- what a refused look answers
abbrev pub no_words : Outcome (List ℕ)
no_words = record { answer = record { refusal = 1; result = 0 }; left = [] }

abbrev pub no_part : Part
no_part = record { refusal = 1; start = 0; count = 0 }

pub look_refuses : (z : Sizes) (s p : ℕ) (st : State) → ¬ Holds (all_fit z st) → look z st s p ≡ no_words
unfolding look
look_refuses z s p st h = ap (λ (k : ℕ). outcome k 0 [] (take z.words (drop (Pages.look_start z st s p) st.memory.core.words))) (first_no_holds 1 (all_fit z st) (ask 2 (all_rules z st) (look_questions z st s p)) h)

pub part_refuses : (z : Sizes) (s p : ℕ) (st : State) → ¬ Holds (all_fit z st) → part_of z st s p ≡ no_part
unfolding part_of
part_refuses z s p st h = ap (λ (k : ℕ). part k (Pages.look_start z st s p) z.words) (first_no_holds 1 (all_fit z st) (ask 2 (all_rules z st) (look_questions z st s p)) h)

pub import_refuses : (z : Sizes) (s q n : ℕ) (b : List ℕ) → Refuses z (λ (st : State). import z st s q n b)
unfolding import import_answer
import_refuses z s q n b st h = ap (λ (k : ℕ). outcome k (number_in b) st (imported z st s q n (sheet_of b))) (first_no_holds 1 (all_fit z st) (ask 2 (all_rules z st) (import_questions z st s q n b)) h)

pub export_refuses : (z : Sizes) (s : ℕ) (buffer : List ℕ) (st : State) → ¬ Holds (all_fit z st) → export z st s buffer ≡ handed (record { refusal = 1; result = 0 }) buffer
unfolding export
export_refuses z s buffer st h = let sheet = exported z st s in
    ap (λ (k : ℕ). outcome k (length sheet) buffer (laid buffer 0 sheet)) (first_no_holds 1 (all_fit z st) (ask 2 (all_rules z st) (export_questions z st s (length sheet) (length buffer))) h)
