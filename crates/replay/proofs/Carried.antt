-- A request carried out, by what the calls' contracts say.
use Rattle.std.proofs.Common.{◌≡◌, ap, ◌∙◌, eq-eqb, ne_eqb}
use Rattle.model.specs.declared.sizes.Sizes.{Sizes}
use Rattle.model.specs.declared.event.Answer.{Answer}
use Rattle.model.specs.declared.frame.Pool.{Pool}
use Rattle.model.specs.declared.request.Request.{Request}
use Rattle.model.specs.State.{Disk, Held, State}
use Rattle.model.specs.Setters.{on_held}
use Rattle.model.specs.Step.{Outcome, restart, format}
use Rattle.model.specs.Calls.{apply}
use Rattle.fields.specs.Fields.{CUT}
use Rattle.replay.specs.Input.{cut}
use Rattle.replay.specs.Output.{sizes, zeros, carried, started_from}

abbrev set_pool : Pool → Held → Held
set_pool p h = record { addresses = h.addresses; states = h.states; owners = h.owners; free_map = h.free_map; pool = p }

module _ {o : Outcome State} {z : Sizes} (st : State) (request : Request) (e : z ≡ sizes) where
  pub by_restart : request.kind ≡ CUT → o ≡ restart z st → o ≡ carried st request
  unfolding carried
  by_restart k h = rw (eq-eqb request.kind CUT k, ← e) h

  pub by_apply : ¬ (request.kind ≡ CUT) → o ≡ apply z st request → o ≡ carried st request
  unfolding carried
  by_apply k h = rw (ne_eqb request.kind CUT k, ← e) h

-- the outcome with its pool told by an equation
pub by_pool : (o : Outcome State) {r : Outcome State} {p : Pool} → o ≡ r → p ≡ o.left.memory.held.pool → record { answer = o.answer; left = on_held (set_pool p) o.left } ≡ r
by_pool o h e = (λ t. record { answer = o.answer; left = on_held (set_pool (e t)) o.left }) ∙ h

pub by_start : {o : Outcome State} {z : Sizes} {request : Request} {a : Answer} (st : State) (d : Disk) → z ≡ sizes → record { answer = a; left = d } ≡ format z (zeros 1) st.disk → request ≡ cut
    → o ≡ carried (record { disk = d; memory = st.memory }) request → o ≡ started_from st
unfolding carried started_from
by_start {o} {z} {request} {a} st d e f k h = h ∙ (rw (k, ← e) (ap (λ (x : Outcome Disk). restart z (record { disk = x.left; memory = st.memory })) f))
