-- The answer to questions 1 and 2 alone, which every event and a page look are asked first; and what a call is by that answer.
use Rattle.model.specs.declared.event.Event.{Event}
use Rattle.std.specs.Prelude.{◌≡◌, Bool, false, ℕ, Option, Some, None}
use Rattle.std.proofs.Math.Path.{ap, sym}
use Rattle.std.proofs.Common.{◌∙◌}
use Rattle.std.proofs.Math.Bool.{true}
use Rattle.tables.specs.Base.{if}
use Rattle.tables.specs.Rule.{Holds, test, told, same}
use Rattle.tables.specs.Questions.{Questions, none, ask, first_no, all_yes}
use Rattle.tables.specs.Also.{also_yes, also_no}
use Rattle.model.specs.declared.sizes.Sizes.{Sizes}
use Rattle.model.specs.declared.request.Request.{Request}
use Rattle.model.specs.declared.applied.Part.{Part}
use Rattle.model.specs.State.{State}
use Rattle.model.specs.Rules.{all_rules}
use Rattle.model.specs.Questions.{questions, look_questions}
use Rattle.model.specs.Requests.{decoded}
use Rattle.model.specs.Pages.{look_start}
use Rattle.model.specs.Step.{outcome, all_fit, asked, answer, step, result, whole}
use Rattle.model.specs.Laws.Own.{own_whole, refusal, step_own}
use Rattle.model.specs.Calls.{unknown, step_of, apply}
use Rattle.model.specs.Laws.OwnLaws.{outcome_no}
use Rattle.model.specs.Part.{part, part_of, no_part}

-- 0, or 1 or 2 where that question says no
unfoldable pub common : Sizes → State → ℕ
common z st = first_no (asked z st none)

module _ (z : Sizes) (st : State) where
  abbrev by : Bool → Bool → ℕ
  by a b = if a (if b 0 2) 1

  pub common_unfit : false ≡ test (all_fit z st) → 1 ≡ common z st
  unfolding common first_no
  common_unfit e = ap (λ (a : Bool). by a (test (all_rules z st))) e

  pub common_told : (b : Bool) → Holds (all_fit z st) → b ≡ test (all_rules z st) → if b 0 2 ≡ common z st
  unfolding common first_no
  common_told b f r = ap (λ (b : Bool). by true b) r ∙ ap (λ (a : Bool). by a (test (all_rules z st))) (sym (told (all_fit z st) f))

  -- both said yes
  pub common_gives : common z st ≡ 0 → Holds (all_fit z st) × Holds (all_rules z st)
  unfolding common
  common_gives e = let a = all_yes 0 (asked z st none) tt e in (a.0, a.1.0)

  -- .. and then the call's own questions answer
  pub common_passes : (q : Questions) → common z st ≡ 0 → first_no (asked z st q) ≡ first_no q
  unfolding common
  common_passes q e = also_yes 0 (asked z st none) q tt e

  -- one said no: that is the answer
  pub common_refuses : (q : Questions) (n : ℕ) → n ≡ common z st → ¬ (n ≡ 0) → n ≡ first_no (asked z st q)
  unfolding common
  common_refuses q n e d = e ∙ sym (also_no (asked z st none) q (λ h. d (e ∙ h)))

  -- ── every event ──
  pub unfit_apply : (request : Request) (n : ℕ) → n ≡ common z st → ¬ (n ≡ 0) → refusal n st ≡ apply z st request
  unfolding apply step_of step answer unknown
  unfit_apply request n e d = go (decoded request)
    where
      go : (k : Option Event) → refusal n st ≡ step_of z st k
      go (Some event) = sym (outcome_no n (result z st event) st (whole z st event) d) ∙ ap (λ (m : ℕ). outcome m (result z st event) st (whole z st event)) (common_refuses (questions z st event) n e d)
      go None = sym (outcome_no n 0 st st d) ∙ ap (λ (m : ℕ). outcome m 0 st st) (common_refuses (ask 3 (same 0 1) none) n e d)

  pub unknown_apply : (request : Request) → common z st ≡ 0 → None ≡ decoded request → refusal 3 st ≡ apply z st request
  unfolding apply step_of unknown first_no test
  unknown_apply request e k = ap (λ (m : ℕ). outcome m 0 st st) (sym (common_passes (ask 3 (same 0 1) none) e)) ∙ ap (step_of z st) k

  pub known_apply : (request : Request) (event : _) → common z st ≡ 0 → Some event ≡ decoded request → own_whole z st event ≡ apply z st request
  unfolding apply step_of
  known_apply request event e k = let h = common_gives e in sym (step_own z st event h.0 h.1) ∙ ap (step_of z st) k

  -- ── a page look ──
  pub unfit_part : (s p n : ℕ) → n ≡ common z st → ¬ (n ≡ 0) → ◌≡◌ {A = Part} (record { refusal = n; start = 0; count = 0 }) (part_of z st s p)
  unfolding part_of
  unfit_part s p n e d = no_part n (look_start z st s p) z.words d ∙ ap (λ (m : ℕ). part m (look_start z st s p) z.words) (common_refuses (look_questions z st s p) n e d)
