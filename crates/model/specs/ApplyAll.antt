-- A list of requests in one call: they are carried out in order, each with its answer, up to the shorter of the two lists.
-- A request is five numbers of the list of requests, an answer two of the list of answers.
use Rattle.std.specs.Prelude.{◌≡◌, List, [], ◌∷◌, length, set}
use Rattle.std.proofs.Math.Path.{refl, ap}
use Rattle.std.proofs.Common.{◌∙◌, arith}
use Prim.Native.Nat.{ℕ, zero, suc, ◌+◌, ◌*◌, ◌/◌, ◌<◌, ◌≤◌, min}
use Rattle.std.proofs.Math.Nat.{zero-min}
use Rattle.std.proofs.Math.Decide.{ℕ_discrete}
use Rattle.std.proofs.Math.ListN.{length-set}
use Rattle.std.proofs.Math.Seq.{get_or-set_same, get_or-set_other}
use Rattle.tables.specs.Base.{at}
use Rattle.model.specs.declared.sizes.Sizes.{Sizes}
use Rattle.model.specs.declared.event.Answer.{Answer}
use Rattle.model.specs.declared.request.Request.{Request}
use Rattle.model.specs.State.{State}
use Rattle.model.specs.Laws.Own.{refusal}
use Rattle.model.specs.Step.{Outcome}
use Rattle.model.specs.Calls.{apply}
use Rattle.model.specs.Laws.EveryCall.{applying, refused_unchanged}

-- request k of a list of numbers
abbrev pub request_at : List ℕ → ℕ → Request
request_at ns k = record { kind = at ns (5 * k); first = at ns (5 * k + 1); second = at ns (5 * k + 2); third = at ns (5 * k + 3); fourth = at ns (5 * k + 4) }

-- answer k put into a list of numbers
abbrev pub put_answer : ℕ → Answer → List ℕ → List ℕ
put_answer k a ns = set (set ns (2 * k) a.refusal) (2 * k + 1) a.result

-- so many requests have room for their answers
abbrev pub request_count : ℕ → ℕ → ℕ
request_count requests answers = min (requests / 5) (answers / 2)

-- what requests leave: the last answer, all answers, and everything lent
pub record Listed : Type 0 where
  pub answer : Answer
  pub answers : List ℕ
  pub left : State

-- before the first request
abbrev pub no_answer : Answer
no_answer = record { refusal = 0; result = 0 }

-- Request k is applied to what those before it left, refused or not, and its answer is put.
unfoldable pub turned : Sizes → List ℕ → ℕ → Listed → Listed
turned z requests k d = let o = apply z d.left (request_at requests k) in record { answer = o.answer; answers = put_answer k o.answer d.answers; left = o.left }

-- what the first k requests leave
unfoldable pub after : Sizes → List ℕ → List ℕ → State → ℕ → Listed
after z requests answers st zero = record { answer = no_answer; answers = answers; left = st }
after z requests answers st (suc k) = turned z requests k (after z requests answers st k)

-- the call
unfoldable pub apply_all : Sizes → List ℕ → List ℕ → State → Listed
apply_all z requests answers st = after z requests answers st (request_count (length requests) (length answers))

-- the first k answers where question n says no to the tables: n each, with result 0
unfoldable pub refusals : ℕ → List ℕ → ℕ → List ℕ
refusals n answers zero = answers
refusals n answers (suc k) = put_answer k (record { refusal = n; result = 0 }) (refusals n answers k)

-- .. and the last of them
abbrev pub last_refusal : ℕ → ℕ → Answer
last_refusal n zero = no_answer
last_refusal n (suc k) = record { refusal = n; result = 0 }

-- ── laws ──
-- a list of one request is one `apply`
pub one : (z : Sizes) (request : Request) (a b : ℕ) (st : State)
    → (let o = apply z st request in
    apply_all z (request.kind ∷ request.first ∷ request.second ∷ request.third ∷ request.fourth ∷ []) (a ∷ b ∷ []) st
    ≡ record { answer = o.answer; answers = o.answer.refusal ∷ o.answer.result ∷ []; left = o.left })
unfolding apply_all after turned
one z request a b st = refl

-- an empty list leaves all as it was
pub none : (z : Sizes) (answers : List ℕ) (st : State) → apply_all z [] answers st ≡ record { answer = no_answer; answers = answers; left = st }
unfolding apply_all after
none z answers st = ap (after z [] answers st) (zero-min (length answers / 2))

-- ── of one list ──
module _ (z : Sizes) (requests answers : List ℕ) (st : State) where
  abbrev first : ℕ → Listed
  first k = after z requests answers st k

  -- the answer of request k by itself, on what those before it left
  abbrev pub answer_of : ℕ → Answer
  answer_of k = (apply z (first k).left (request_at requests k)).answer

  pub after_length : (k : ℕ) → length (first k).answers ≡ length answers
  unfolding after turned
  after_length zero = refl
  after_length (suc k) = length-set (set (first k).answers _ _) _ _ ∙ length-set (first k).answers _ _ ∙ after_length k

  -- numbers past the answers given are untouched
  pub after_past : (k i : ℕ) → 2 * k ≤ i → at (first k).answers i ≡ at answers i
  unfolding after turned
  after_past zero i h = refl
  after_past (suc k) i h =
      get_or-set_other (set (first k).answers (2 * k) _) (2 * k + 1) i _ 0 (λ e. omega (arith, e, h))
      ∙ get_or-set_other (first k).answers (2 * k) i _ 0 (λ e. omega (arith, e, h))
      ∙ after_past k i (omega (arith, h))

  -- each answer stands in its place
  pub after_told : (k i : ℕ) → i < k → 2 * k ≤ length answers → (at (first k).answers (2 * i) ≡ (answer_of i).refusal) × (at (first k).answers (2 * i + 1) ≡ (answer_of i).result)
  unfolding after turned
  after_told zero i h l = absurd (omega (arith, h))
  after_told (suc k) i h l = elim (ℕ_discrete i k) [
    | yes e ↦ rw e (
      get_or-set_other (set (first k).answers (2 * k) _) (2 * k + 1) (2 * k) _ 0 (λ c. omega (arith, c)) ∙ get_or-set_same (first k).answers (2 * k) _ 0 (omega (arith, after_length k, l)),
      get_or-set_same (set (first k).answers (2 * k) _) (2 * k + 1) _ 0 (omega (arith, length-set (first k).answers (2 * k) (answer_of k).refusal, after_length k, l)),
    )
    | no e ↦ (let t = after_told k i (omega (arith, h, e)) (omega (arith, l)) in (
      get_or-set_other (set (first k).answers (2 * k) _) (2 * k + 1) (2 * i) _ 0 (λ c. omega (arith, c)) ∙ get_or-set_other (first k).answers (2 * k) (2 * i) _ 0 (λ c. omega (arith, c, e)) ∙ t.0,
      get_or-set_other (set (first k).answers (2 * k) _) (2 * k + 1) (2 * i + 1) _ 0 (λ c. omega (arith, c, e)) ∙ get_or-set_other (first k).answers (2 * k) (2 * i + 1) _ 0 (λ c. omega (arith, c)) ∙ t.1,
    ))
  ]

  -- a refused request leaves all as it was, and the next one follows
  pub refused_on : (k : ℕ) → ¬ ((answer_of k).refusal ≡ 0) → (first (suc k)).left ≡ (first k).left
  unfolding after turned
  refused_on k n = (refused_unchanged (applying z (first k).left (request_at requests k))).left n

  -- where question 1 or 2 says no, that number is every answer, and nothing else changes
  pub refused_all : (n : ℕ) → ((r : Request) → refusal n st ≡ apply z st r) → (k : ℕ) → record { answer = last_refusal n k; answers = refusals n answers k; left = st } ≡ first k
  unfolding after turned refusals
  refused_all n h zero = refl
  refused_all n h (suc k) =
      ap (λ (o : Outcome State). record { answer = o.answer; answers = put_answer k o.answer (refusals n answers k); left = o.left }) (h (request_at requests k))
      ∙ ap (turned z requests k) (refused_all n h k)
