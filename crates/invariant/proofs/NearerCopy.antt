-- A fault that finds a copy brings its page no further off: it is in service, no frame is wired, the line stays.
use mathlib.Core.Path.{refl, sym, subst}
use Prim.Native.Nat.{ℕ}
use native.Mathlib.Omega.{arith}
use Rattle.tables.specs.Laws.{if_elim}
use Rattle.tables.specs.Questions.{Asked}
use Rattle.tables.specs.Rule.{test, sound}
use Rattle.model.specs.declared.sizes.Sizes.{Sizes}
use Rattle.model.specs.declared.event.Page.TheVariants.{Fault}
use Rattle.model.specs.declared.event.Event.{Event}
use Rattle.model.specs.declared.event.Event.TheVariants as Event
use Rattle.model.specs.State.{State, Core, Chip}
use Rattle.model.specs.Setters.{on_core, set_chip, counted}
use Rattle.model.specs.Chip.{found, arrives}
use Rattle.model.specs.Pages as P
use Rattle.model.specs.Pages.{fault_frame}
use Rattle.model.specs.Questions.{questions}
use Rattle.model.specs.Step.{carried, is_fault}
use Rattle.model.specs.Laws.Ruled.{ruled}
use Rattle.model.specs.Laws.Fit.{fit}
use Rattle.model.specs.Terms.{Good}
use Rattle.invariant.proofs.ChipServed.{within as inside, as_read}
use Rattle.invariant.proofs.Kept.{carried_kept, faulting_sound, good_chip}
use Rattle.invariant.proofs.Nearer.{Onward, read_done}

uncounted : (z : Sizes) (x y : State) → Onward z x (counted z y) → Onward z x y
unfolding counted
uncounted z x y o = record { here' = o.here'; room' = o.room'; unwired' = o.unwired'; line' = o.line' }

pub served_on : (z : Sizes) (st : State) → Good z st → (s p : ℕ) → Asked (questions z st (Event.Page (Fault s p)))
    → (let x = P.fault z st s p in (k : Chip) → Onward z x (set_chip k (on_core (arrives z st.memory.chip x (fault_frame st)) x)))
unfolding arrives carried is_fault
served_on z st g s p a k =
    let x = P.fault z st s p in let e : Event = Event.Page (Fault s p) in let f = fault_frame st in
    let c = good_chip z st g in let b = carried_kept z st e (fit z st g.0) (ruled z st g.1) a in
    beside x _ k (if_elim (λ (y : Core). Onward z x (on_core (λ o. y) x)) (test (found z st.memory.chip x f)) _ x.memory.core
    (λ u. let h = sound (found z st.memory.chip x f) u in let q = faulting_sound z st e (fit z st g.0) (ruled z st g.1) c a tt in
    subst (Onward z x) (sym (as_read z x b.0 b.1 st.memory.chip c.fit q f h))
    (uncounted z x _ (read_done z x b.0 b.1 f (inside z x b.0 b.1 st.memory.chip c.fit q f h) (λ d. omega (arith, d, h.0)) h.0)))
    (λ u. record { here' = λ i t. t; room' = λ t. t; unwired' = λ t. t; line' = refl }))
  where
    beside : (x y : State) (k : Chip) → Onward z x y → Onward z x (set_chip k y)
    beside x y k o = record { here' = o.here'; room' = o.room'; unwired' = o.unwired'; line' = o.line' }
