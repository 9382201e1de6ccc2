-- What an event's lemma is given and what it shows, and what a list of acts keeps.
use mathlib.Core.Path.{◌≡◌, ap, sym, ◌∙◌, subst₂}
use Prim.Native.Nat.{ℕ}
use lib.Dec.{T}
use Rattle.tables.specs.Questions.{Asked, all_yes}
use Rattle.model.specs.declared.sizes.Sizes.{Sizes}
use Rattle.model.specs.declared.event.Event.{Event}
use Rattle.model.specs.State.{State, files}
use Rattle.model.specs.Laws.Ruled.{Ruled, ruled}
use Rattle.model.specs.Laws.Ruled as R
use Rattle.model.specs.Questions.{questions}
use Rattle.model.specs.Step.{answer, asked, carried, all_above}
use Rattle.model.specs.Laws.Fit.{Fit, fit}
use Rattle.model.specs.Ledger.{Ledger, note}
use Rattle.model.specs.Acts.{World, fed}
use Rattle.invariant.proofs.ChipKept.{Copies}
use Rattle.crash.proofs.Link.{OnDisk, InMemory, Tied, Closed}

-- ── one event ──
pub record Before (z : Sizes) (st : State) (l : Ledger) (e : Event) : Type 0 where
  pub fit : Fit z st
  pub ruled : Ruled z st
  pub asked : Asked (questions z st e)
  pub tied : Tied z st l

-- the event, carried out and noted, keeps the invariant
abbrev pub Step : Sizes → Event → Type 0
Step z e = (st : State) (l : Ledger) → Before z st l e → Tied z (carried z st e) (note z l (fed z st e))

-- the same where state and ledger after are known by an equation
pub tied_at : {z : Sizes} {st st' : State} {l l' : Ledger} → st ≡ st' → l ≡ l' → Tied z st' l' → Tied z st l
tied_at {z} p q k = subst₂ (λ (a : State) (b : Ledger). Tied z a b) (sym p) (sym q) k

-- an event that is carried out has its questions' rules
pub before : (z : Sizes) (st : State) (l : Ledger) (e : Event) → answer z st e ≡ 0 → Tied z st l → Before z st l e
unfolding answer
before z st l e a t = let q = all_yes 0 (asked z st (questions z st e)) (all_above z st e) a in record { fit = fit z st q.0; ruled = ruled z st q.1.0; asked = q.1.1; tied = t }

-- ── lists of acts ──
pub record Good (z : Sizes) (w : World) : Type 0 where
  pub fit : Fit z w.state
  pub rules : R.OnDisk z (files w.state)
  pub disk : OnDisk z w.state w.ledger
  pub ruled : T w.up → Ruled z w.state
  pub copies : T w.up → Copies z w.state
  pub memory : T w.up → InMemory z w.state w.ledger
  pub closed : ¬ (T w.up) → Closed z w.ledger
