-- A list of requests keeps both sets of rules and all lengths; so after one yes to questions 1 and 2 each request is answered by its own questions alone.
use Rattle.model.specs.declared.event.Event.{Event}
use Rattle.std.specs.Prelude.{Option, Some, None}
use mathlib.Core.Path.{◌≡◌, refl, ap, ◌∙◌}
use mathlib.Core.List.{List}
use Prim.Native.Nat.{ℕ, zero, suc}
use Rattle.tables.specs.Questions.{none, ask, first_no}
use Rattle.tables.specs.Rule.{same, test}
use Rattle.model.specs.declared.sizes.Sizes.{Sizes}
use Rattle.model.specs.declared.event.Answer.{Answer}
use Rattle.model.specs.declared.request.Request.{Request}
use Rattle.model.specs.State.{State}
use Rattle.model.specs.Rules.{all_rules}
use Rattle.model.specs.Requests.{decoded}
use Rattle.model.specs.Step.{Outcome, outcome, all_fit, asked}
use Rattle.model.specs.Laws.Own.{own_whole, refusal, first_yes, step_own}
use Rattle.model.specs.Calls.{unknown, step_of, apply}
use Rattle.model.specs.ApplyAll.{Listed, request_at, put_answer, turned, after}
use Rattle.model.specs.Terms.{Good}
use Rattle.invariant.proofs.Kept.{kept}

-- ── one request ──
-- by its own questions; a kind that is no event fails 3
abbrev pub owned : Sizes → State → Option Event → Outcome State
owned z st (Some e) = own_whole z st e
owned z st None = refusal 3 st

module _ (z : Sizes) (st : State) (g : Good z st) where
  by_own : (d : Option Event) → step_of z st d ≡ owned z st d
  unfolding step_of unknown first_no test
  by_own (Some e) = step_own z st e g.0 g.1
  by_own None = ap (λ (n : ℕ). outcome n 0 st st) (first_yes 1 (all_fit z st) (ask 2 (all_rules z st) (ask 3 (same 0 1) none)) g.0 ∙ first_yes 2 (all_rules z st) (ask 3 (same 0 1) none) g.1)

  pub apply_own : (r : Request) → apply z st r ≡ owned z st (decoded r)
  unfolding apply
  apply_own r = by_own (decoded r)

  kept_step : (d : Option Event) → Good z (step_of z st d).left
  unfolding step_of unknown
  kept_step (Some e) = kept z st e g
  kept_step None = go (first_no (asked z st (ask 3 (same 0 1) none)))
    where
      go : (n : ℕ) → Good z (outcome n 0 st st).left
      go zero = g
      go (suc n) = g

  pub apply_kept : (r : Request) → Good z (apply z st r).left
  unfolding apply
  apply_kept r = kept_step (decoded r)

-- ── a list of them ──
module _ (z : Sizes) (requests answers : List ℕ) (st : State) (g : Good z st) where
  -- what the first k leave passes questions 1 and 2
  pub after_kept : (k : ℕ) → Good z (after z requests answers st k).left
  unfolding after turned
  after_kept zero = g
  after_kept (suc k) = apply_kept z (after z requests answers st k).left (after_kept k) (request_at requests k)

  -- request k is answered by its own questions alone
  pub after_own : (k : ℕ) → (let d = after z requests answers st k in let o = owned z d.left (decoded (request_at requests k)) in
      after z requests answers st (suc k) ≡ record { answer = o.answer; answers = put_answer k o.answer d.answers; left = o.left })
  unfolding after turned
  after_own k =
      let d = after z requests answers st k in
      ap (λ (o : Outcome State). record { answer = o.answer; answers = put_answer k o.answer d.answers; left = o.left }) (apply_own z d.left (after_kept k) (request_at requests k))
