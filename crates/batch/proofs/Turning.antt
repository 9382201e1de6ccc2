-- One request of a list on tables that questions 1 and 2 say yes to: what its own questions answer is its turn.
use Rattle.std.specs.Prelude.{Option, Some, None}
use mathlib.Core.Path.{◌≡◌, ap, sym, ◌∙◌}
use mathlib.Core.List.{List}
use Prim.Native.Nat.{ℕ}
use Rattle.model.specs.declared.sizes.Sizes.{Sizes}
use Rattle.model.specs.declared.frame.Pool.{Pool}
use Rattle.model.specs.declared.event.Answer.{Answer}
use Rattle.model.specs.declared.event.Event.{Event}
use Rattle.model.specs.declared.request.Request.{Request}
use Rattle.model.specs.State.{Held, State}
use Rattle.model.specs.Setters.{on_held}
use Rattle.model.specs.Requests.{decoded}
use Rattle.model.specs.Laws.Ruled.{rules}
use Rattle.model.specs.Laws.Fit.{all_fit_holds}
use Rattle.model.specs.Step.{Outcome}
use Rattle.model.specs.Laws.Own.{own_whole}
use Rattle.model.specs.ApplyAll.{Listed, request_at, put_answer, turned}
use Rattle.model.specs.Terms.{Good}
use Rattle.invariant.proofs.AfterKept.{owned, apply_own}
use Rattle.events.specs.Kept.{KeptWhole}

pub good : (z : Sizes) (st : State) → KeptWhole z st → Good z st
good z st k = (all_fit_holds z st k.fits k.chip, rules z st k.rules k.copies)

abbrev pub set_pool : Pool → Held → Held
set_pool p h = record { addresses = h.addresses; states = h.states; owners = h.owners; free_map = h.free_map; pool = p }

module _ (z : Sizes) (requests answers : List ℕ) (k : ℕ) (last : Answer) (st : State) (g : KeptWhole z st) where
  -- what is left by an outcome
  abbrev put : Outcome State → Listed
  put o = record { answer = o.answer; answers = put_answer k o.answer answers; left = o.left }

  abbrev before : Listed
  before = record { answer = last; answers = answers; left = st }

  by_own : (d : Option Event) (r : Request) → d ≡ decoded r → r ≡ request_at requests k → put (owned z st d) ≡ turned z requests k before
  unfolding turned
  by_own d r e q = ap (λ (x : Option Event). put (owned z st x)) (e ∙ ap decoded q) ∙ ap put (sym (apply_own z st (good z st g) (request_at requests k)))

  -- a kind that is no event
  pub turned_unknown : (r : Request) {now : List ℕ} → r ≡ request_at requests k → None ≡ decoded r → now ≡ put_answer k (record { refusal = 3; result = 0 }) answers
      → ◌≡◌ {A = Listed} (record { answer = record { refusal = 3; result = 0 }; answers = now; left = st }) (turned z requests k before)
  turned_unknown r q e a = ap (λ (ns : List ℕ). record { answer = record { refusal = 3; result = 0 }; answers = ns; left = st }) a ∙ by_own None r e q

  -- an event; its pool is put together after the work
  pub turned_known : (r : Request) (event : Event) (o : Outcome State) {p : Pool} {now : List ℕ} → r ≡ request_at requests k → Some event ≡ decoded r
      → o ≡ own_whole z st event → p ≡ o.left.memory.held.pool → now ≡ put_answer k o.answer answers
      → ◌≡◌ {A = Listed} (record { answer = o.answer; answers = now; left = on_held (set_pool p) o.left }) (turned z requests k before)
  turned_known r event o q e h pool a =
      (λ x. record { answer = o.answer; answers = a x; left = on_held (set_pool (pool x)) o.left }) ∙ ap put h ∙ by_own (Some event) r e q
