-- Edges of a list of requests in one call, for all sizes and tables: a last request that is not whole, and one whose answer has no room, are not carried out.
use Rattle.std.specs.Prelude.{◌≡◌, refl, List, [], ◌∷◌, ℕ}
use Rattle.model.specs.declared.sizes.Sizes.{Sizes}
use Rattle.model.specs.declared.request.Request.{Request}
use Rattle.model.specs.State.{State}
use Rattle.model.specs.Calls.{apply}
use Rattle.model.specs.ApplyAll.{turned, after, apply_all}

-- four numbers of a second request, or fewer: it is not carried out, and the numbers past the first answer stay
pub not_whole : (z : Sizes) (r : Request) (x a b c d : ℕ) (st : State)
    → (let o = apply z st r in
    apply_all z (r.kind ∷ r.first ∷ r.second ∷ r.third ∷ r.fourth ∷ x ∷ []) (a ∷ b ∷ c ∷ d ∷ []) st
    ≡ record { answer = o.answer; answers = o.answer.refusal ∷ o.answer.result ∷ c ∷ d ∷ []; left = o.left })
unfolding apply_all after turned
not_whole z r x a b c d st = refl

-- two requests and room for one answer
pub no_room : (z : Sizes) (r : Request) (k p q s t a b c : ℕ) (st : State)
    → (let o = apply z st r in
    apply_all z (r.kind ∷ r.first ∷ r.second ∷ r.third ∷ r.fourth ∷ k ∷ p ∷ q ∷ s ∷ t ∷ []) (a ∷ b ∷ c ∷ []) st
    ≡ record { answer = o.answer; answers = o.answer.refusal ∷ o.answer.result ∷ c ∷ []; left = o.left })
unfolding apply_all after turned
no_room z r k p q s t a b c st = refl
