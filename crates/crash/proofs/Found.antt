-- What the chip does keeps the invariant of demand 3: a fault that finds a copy is a fault and the good done of its read; what goes in and what is dropped is nothing that the ledger tells of.
use mathlib.Core.Path.{sym, subst}
use Rattle.tables.specs.Laws.{if_elim}
use Rattle.tables.specs.Rule.{test, sound}
use Rattle.tables.specs.Questions.{Asked}
use Rattle.model.specs.declared.sizes.Sizes.{Sizes}
use Rattle.model.specs.declared.event.Event.{Event}
use Rattle.model.specs.State.{Core, Chip, State}
use Rattle.model.specs.Setters.{on_core, set_chip, counted}
use Rattle.model.specs.Questions.{questions}
use Rattle.model.specs.Chip.{found, arrives}
use Rattle.model.specs.Pages.{fault_frame}
use Rattle.model.specs.Step.{carried, is_fault, supplied, whole}
use Rattle.model.specs.Laws.Ruled.{Ruled}
use Rattle.model.specs.Laws.Fit.{Fit}
use Rattle.model.specs.Ledger.{Ledger}
use Rattle.invariant.proofs.ChipKept.{Copies}
use Rattle.invariant.proofs.ChipServed.{within, as_read}
use Rattle.invariant.proofs.Kept.{carried_kept, faulting_sound}
use Rattle.crash.proofs.Link.{Tied}
use Rattle.crash.proofs.PageDone.{good_read}

-- neither the counts nor the chip are tables that the ledger tells of
uncounted : (z : Sizes) (st : State) (l : Ledger) → Tied z (counted z st) l → Tied z st l
unfolding counted
uncounted z st l k = record {
  disk = record { designs = k.disk.designs; listing = k.disk.listing };
  memory = let m = k.memory in record { named = m.named; begun = m.begun; lives = m.lives; alive = m.alive; framed = m.framed; away = m.away; filed = m.filed; kept = m.kept };
}

pub tied_beside : (z : Sizes) (st : State) (l : Ledger) (c : Chip) → Tied z st l → Tied z (set_chip c st) l
tied_beside z st l c k = record {
  disk = record { designs = k.disk.designs; listing = k.disk.listing };
  memory = let m = k.memory in record { named = m.named; begun = m.begun; lives = m.lives; alive = m.alive; framed = m.framed; away = m.away; filed = m.filed; kept = m.kept };
}

pub whole_tied : (z : Sizes) (st : State) (e : Event) → Fit z st → Ruled z st → Copies z st → Asked (questions z st e) → (l : Ledger) → Tied z (carried z st e) l → Tied z (whole z st e) l
unfolding whole supplied arrives
whole_tied z st e f r c a l k =
    let x = carried z st e in let n = fault_frame st in let b = carried_kept z st e f r a in
    tied_beside z _ l _ (if_elim (λ (y : Core). Tied z (on_core (λ o. y) x) l) (is_fault z st e) _ x.memory.core
    (λ t. if_elim (λ (y : Core). Tied z (on_core (λ o. y) x) l) (test (found z st.memory.chip x n)) _ x.memory.core
    (λ u. let h = sound (found z st.memory.chip x n) u in let s = faulting_sound z st e f r c a t in
    subst (λ (y : State). Tied z y l) (sym (as_read z x b.0 b.1 st.memory.chip c.fit s n h))
    (uncounted z _ l (good_read z x l b.0 b.1 k n (within z x b.0 b.1 st.memory.chip c.fit s n h) h.0)))
    (λ u. k)) (λ t. k))
