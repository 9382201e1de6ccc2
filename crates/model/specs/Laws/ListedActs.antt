-- A list of requests in one call is a list of acts: what it leaves is what its events leave one after the other, so that whatever is said of every list of acts is said of it.
use Rattle.model.specs.declared.event.Event.{Event}
use Rattle.std.specs.Prelude.{◌≡◌, refl, true, List, [], ◌∷◌, ◌++◌, ℕ, zero, suc, T, length, Option, Some, None}
use Rattle.std.proofs.Common.{ap, ◌∙◌}
use Rattle.tables.specs.Laws.{and_intro, and_left, and_right}
use Rattle.tables.specs.Questions.{none, ask, first_no}
use Rattle.tables.specs.Rule.{same}
use Rattle.model.specs.declared.sizes.Sizes.{Sizes}
use Rattle.model.specs.Requests.{decoded, decoded_number}
use Rattle.model.specs.State.{State}
use Rattle.model.specs.Step.{outcome, asked}
use Rattle.model.specs.Calls.{apply, step_of, unknown}
use Rattle.model.specs.ApplyAll.{request_at, request_count, turned, after, apply_all}
use Rattle.model.specs.Acts.{Act, World, act, run, legal, allowed}
use Rattle.model.specs.Terms.{acts_of, acts_to}

-- a list after a list
pub run_on : (z : Sizes) (w : World) (xs ys : List Act) → run z w (xs ++ ys) ≡ run z (run z w xs) ys
unfolding run
run_on z w [] ys = refl
run_on z w (x ∷ xs) ys = run_on z (act z w x) xs ys

-- one request
by_request : (z : Sizes) (w : World) (d : Option Event) → (run z w (acts_of d)).state ≡ (step_of z w.state d).left
unfolding run act step_of unknown
by_request z w (Some e) = refl
by_request z w None = go (first_no (asked z w.state (ask (decoded_number None) (same 0 1) none)))
  where
    go : (n : ℕ) → w.state ≡ (outcome n 0 w.state w.state).left
    go zero = refl
    go (suc n) = refl

-- the first k
pub listed_acts : (z : Sizes) (w : World) (requests answers : List ℕ) (k : ℕ) → (run z w (acts_to requests k)).state ≡ (after z requests answers w.state k).left
unfolding run acts_to after turned apply
listed_acts z w requests answers zero = refl
listed_acts z w requests answers (suc k) =
    let d = decoded (request_at requests k) in
    ap (λ (x : World). x.state) (run_on z w (acts_to requests k) (acts_of d)) ∙ by_request z (run z w (acts_to requests k)) d
    ∙ ap (λ (st : State). (step_of z st d).left) (listed_acts z w requests answers k)

-- the call
pub call_acts : (z : Sizes) (w : World) (requests answers : List ℕ) → (run z w (acts_to requests (request_count (length requests) (length answers)))).state ≡ (apply_all z requests answers w.state).left
unfolding apply_all
call_acts z w requests answers = listed_acts z w requests answers (request_count (length requests) (length answers))

-- events leave the keeper up, so the acts of a list of requests are legal once it is restarted
up_on : (z : Sizes) (w : World) (d : Option Event) → (run z w (acts_of d)).up ≡ w.up
unfolding run act
up_on z w (Some e) = refl
up_on z w None = refl

up_all : (z : Sizes) (w : World) (requests : List ℕ) (k : ℕ) → (run z w (acts_to requests k)).up ≡ w.up
unfolding run acts_to
up_all z w requests zero = refl
up_all z w requests (suc k) =
    let d = decoded (request_at requests k) in
    ap (λ (x : World). x.up) (run_on z w (acts_to requests k) (acts_of d)) ∙ up_on z (run z w (acts_to requests k)) d ∙ up_all z w requests k

pub legal_on : (z : Sizes) (w : World) (xs ys : List Act) → T (legal z w xs) → T (legal z (run z w xs) ys) → T (legal z w (xs ++ ys))
unfolding legal run
legal_on z w [] ys a b = b
legal_on z w (x ∷ xs) ys a b = and_intro (allowed z w x) (legal z (act z w x) (xs ++ ys)) (and_left (allowed z w x) (legal z (act z w x) xs) a)
    (legal_on z (act z w x) xs ys (and_right (allowed z w x) (legal z (act z w x) xs) a) b)

legal_one : (z : Sizes) (w : World) (d : Option Event) → T w.up → T (legal z w (acts_of d))
unfolding legal allowed
legal_one z w (Some e) u = and_intro w.up true u tt
legal_one z w None u = tt

pub legal_acts : (z : Sizes) (w : World) (requests : List ℕ) (k : ℕ) → T w.up → T (legal z w (acts_to requests k))
unfolding legal acts_to
legal_acts z w requests zero u = tt
legal_acts z w requests (suc k) u = legal_on z w (acts_to requests k) (acts_of (decoded (request_at requests k))) (legal_acts z w requests k u)
    (legal_one z (run z w (acts_to requests k)) (decoded (request_at requests k)) (rw (up_all z w requests k) u))
