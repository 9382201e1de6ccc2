-- The calls as one (step, apply, restart, format, look): what each asks, and demand 1's refusal, which leaves everything lent as it was.
use Rattle.std.specs.Prelude.{◌≡◌, refl, List, [], ℕ, zero, suc, T, length, Option, Some, None}
use Rattle.std.proofs.Common.{arith}
use Rattle.tables.specs.Base.{at}
use Rattle.tables.specs.Questions.{Questions, none, ask, above, rising, rising_above, first_no}
use Rattle.tables.specs.Rule.{Rule, same, ◌and◌}
use Rattle.model.specs.declared.sizes.Sizes.{Sizes}
use Rattle.model.specs.declared.event.Event.{Event}
use Rattle.model.specs.declared.request.Request.{Request}
use Rattle.model.specs.Sizes.{sizes_fit}
use Rattle.model.specs.Requests.{decoded, decoded_number}
use Rattle.model.specs.State.{Disk, State}
use Rattle.model.specs.Rules.{lower, disk_rules, all_rules}
use Rattle.model.specs.Questions.{rank, questions, look_questions, import_questions, export_questions}
use Rattle.model.specs.Import.{import_answer, import}
use Rattle.model.specs.Export.{exported, export}
use Rattle.model.specs.Step.{Outcome, outcome, disk_lengths, format_lengths, memory_lengths, all_fit, answer, step, format, restart, look, in_order, rank_above}
use Rattle.model.specs.Calls.{apply, step_of, unknown}

pub data Call : Type 0 where
  stepping : Sizes → State → Event → Call
  -- an event, asked for by a request
  applying : Sizes → State → Request → Call
  restarting : Sizes → State → Call
  -- with the wanted parents
  formatting : Sizes → List ℕ → Disk → Call
  -- a page look: slot, page
  looking : Sizes → State → ℕ → ℕ → Call
  -- an import: slot, account, number, sheet; an export: slot, buffer
  importing : Sizes → State → ℕ → ℕ → ℕ → List ℕ → Call
  exporting : Sizes → State → ℕ → List ℕ → Call

abbrev pub sizes_in : Call → Sizes
sizes_in (stepping z st e) = z
sizes_in (applying z st r) = z
sizes_in (restarting z st) = z
sizes_in (formatting z w d) = z
sizes_in (looking z st s p) = z
sizes_in (importing z st s q n b) = z
sizes_in (exporting z st s buffer) = z

-- what a call leaves: all that it is lent and may change; a look changes nothing, and hands back a part, an export its buffer
abbrev pub Left : Call → Type 0
Left (stepping z st e) = State
Left (applying z st r) = State
Left (restarting z st) = State
Left (formatting z w d) = Disk
Left (looking z st s p) = List ℕ
Left (importing z st s q n b) = State
Left (exporting z st s buffer) = List ℕ

abbrev pub outcome_of : (c : Call) → Outcome (Left c)
outcome_of (stepping z st e) = step z st e
outcome_of (applying z st r) = apply z st r
outcome_of (restarting z st) = restart z st
outcome_of (formatting z w d) = format z w d
outcome_of (looking z st s p) = look z st s p
outcome_of (importing z st s q n b) = import z st s q n b
outcome_of (exporting z st s buffer) = export z st s buffer

-- what a refusal leaves: everything lent as it was; of a look, an empty part
abbrev pub unchanged : (c : Call) → Left c
unchanged (stepping z st e) = st
unchanged (applying z st r) = st
unchanged (restarting z st) = st
unchanged (formatting z w d) = d
unchanged (looking z st s p) = []
unchanged (importing z st s q n b) = st
unchanged (exporting z st s buffer) = buffer

-- ── what each call asks ──
-- every slice of its exact length
abbrev pub lengths : Call → Rule
lengths (stepping z st e) = disk_lengths z st.disk and memory_lengths z st.memory
lengths (applying z st r) = disk_lengths z st.disk and memory_lengths z st.memory
lengths (restarting z st) = disk_lengths z st.disk and memory_lengths z st.memory
lengths (formatting z w d) = format_lengths z w d
lengths (looking z st s p) = disk_lengths z st.disk and memory_lengths z st.memory
lengths (importing z st s q n b) = disk_lengths z st.disk and memory_lengths z st.memory
lengths (exporting z st s buffer) = disk_lengths z st.disk and memory_lengths z st.memory

-- the questions of a request's event; a kind that is no event fails 3
abbrev pub decoded_questions : Sizes → State → Option Event → Questions
decoded_questions z st (Some e) = questions z st e
decoded_questions z st None = ask (decoded_number None) (same 0 1) none

-- the questions after 1
abbrev pub later : Call → Questions
later (stepping z st e) = ask 2 (all_rules z st) (questions z st e)
later (applying z st r) = ask 2 (all_rules z st) (decoded_questions z st (decoded r))
later (restarting z st) = ask 2 (disk_rules z st) none
later (formatting z w d) = ask 3 (lower z.accounts (at w)) none
later (looking z st s p) = ask 2 (all_rules z st) (look_questions z st s p)
later (importing z st s q n b) = ask 2 (all_rules z st) (import_questions z st s q n b)
later (exporting z st s buffer) = ask 2 (all_rules z st) (export_questions z st s (length (exported z st s)) (length buffer))

abbrev pub asks : Call → Questions
asks c = ask 1 (sizes_fit (sizes_in c) and lengths c) (later c)

-- in the order of their places
decoded_order : (z : Sizes) (st : State) (d : Option Event) → T (rising rank 20 (decoded_questions z st d))
unfolding rank
decoded_order z st (Some e) = in_order z st e
decoded_order z st None = tt

pub later_order : (c : Call) → T (rising rank 10 (later c))
unfolding rank
later_order (stepping z st e) = in_order z st e
later_order (applying z st r) = decoded_order z st (decoded r)
later_order (restarting z st) = tt
later_order (formatting z w d) = tt
later_order (looking z st s p) = tt
later_order (exporting z st s buffer) = tt
later_order (importing z st s q n b) = tt

-- so 1 is the first question's number alone
pub later_above : (c : Call) → T (above 1 (later c))
later_above c = rising_above rank 1 10 (λ m h. rank_above 1 m (omega arith) (omega (arith, h))) (later c) (later_order c)

-- ── the answer, and a refusal ──
-- the refusal is the number of the first question that fails, or 0; where it is not 0, the result is 0 and nothing has changed
pub record Answers {A : Type 0} (q : Questions) (old : A) (o : Outcome A) : Type 0 where
  pub first : o.answer.refusal ≡ first_no q
  pub result : ¬ (o.answer.refusal ≡ 0) → o.answer.result ≡ 0
  pub left : ¬ (o.answer.refusal ≡ 0) → o.left ≡ old

by_outcome : {A : Type 0} (q : Questions) (n r : ℕ) (old new : A) → n ≡ first_no q → Answers q old (outcome n r old new)
by_outcome q zero r old new e = record { first = e; result = λ h. absurd (h refl); left = λ h. absurd (h refl) }
by_outcome q (suc n) r old new e = record { first = e; result = λ h. refl; left = λ h. refl }

by_decoded : (z : Sizes) (st : State) (d : Option Event) → Answers (ask 1 (all_fit z st) (ask 2 (all_rules z st) (decoded_questions z st d))) st (step_of z st d)
unfolding step_of unknown step answer
by_decoded z st (Some e) = by_outcome _ _ _ _ _ refl
by_decoded z st None = by_outcome _ _ _ _ _ refl

pub refused_unchanged : (c : Call) → Answers (asks c) (unchanged c) (outcome_of c)
unfolding all_fit step answer apply restart format look import_answer import export
refused_unchanged (stepping z st e) = by_outcome _ _ _ _ _ refl
refused_unchanged (applying z st r) = by_decoded z st (decoded r)
refused_unchanged (restarting z st) = by_outcome _ _ _ _ _ refl
refused_unchanged (formatting z w d) = by_outcome _ _ _ _ _ refl
refused_unchanged (looking z st s p) = by_outcome _ _ _ _ _ refl
refused_unchanged (importing z st s q n b) = by_outcome _ _ _ _ _ refl
refused_unchanged (exporting z st s buffer) = by_outcome _ _ _ _ _ refl
