-- An event once questions 1 and 2 are asked: its outcome over the first F frames is the call's over the frames that are lent.
use Rattle.std.specs.Prelude.{◌≡◌, List, Some}
use Rattle.std.proofs.Common.{ap, sym, ◌∙◌}
use Rattle.model.specs.declared.sizes.Sizes.{Sizes}
use Rattle.model.specs.declared.frame.Frame.{Frame}
use Rattle.model.specs.declared.event.Answer.{Answer}
use Rattle.model.specs.declared.event.Event.{Event}
use Rattle.model.specs.declared.request.Request.{Request}
use Rattle.model.specs.State.{State}
use Rattle.model.specs.Requests.{decoded}
use Rattle.model.specs.Step.{Outcome}
use Rattle.model.specs.Laws.Own.{own_whole}
use Rattle.model.specs.Calls.{apply}
use Rattle.calls.specs.Common.{common, known_apply}

-- before and after are states by their frames; a and b the frames that are lent, x and y the first F of the arrays
pub applied : (z : Sizes) (before after : List Frame → State) {a b x y : List Frame} (answer : Answer) (event : Event) (request : Request)
    → a ≡ x → b ≡ y → common z (before a) ≡ 0 → Some event ≡ decoded request
    → ◌≡◌ {A = Outcome State} (record { answer = answer; left = after y }) (own_whole z (before x) event)
    → ◌≡◌ {A = Outcome State} (record { answer = answer; left = after b }) (apply z (before a) request)
applied z before after {a} answer event request p q c k e =
    ap (λ (l : List Frame). record { answer = answer; left = after l }) q ∙ e ∙ ap (λ (l : List Frame). own_whole z (before l) event) (sym p) ∙ known_apply z (before a) request event c k
