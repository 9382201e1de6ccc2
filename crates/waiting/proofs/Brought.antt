-- A turn whose page is in no frame, by what its fault and its claim ensure of the tables that they see.
use mathlib.Core.Path.{◌≡◌, refl, ap, sym, ◌∙◌, subst}
use mathlib.Core.List.{List}
use Prim.Native.Nat.{ℕ, ◌%◌}
use lib.Dec.{eqb}
use Rattle.tables.specs.Base.{if}
use Rattle.tables.specs.Queue.{pop}
use Rattle.model.specs.declared.sizes.Sizes.{Sizes}
use Rattle.model.specs.declared.frame.Frame.{Frame}
use Rattle.model.specs.declared.frame.Pool.{Pool}
use Rattle.model.specs.declared.event.Answer.{Answer}
use Rattle.model.specs.declared.event.Event.TheVariants as Event
use Rattle.model.specs.declared.event.Page.TheVariants.{Fault}
use Rattle.model.specs.declared.event.Waiting.TheVariants.{Turn}
use Rattle.model.specs.State.{Disk, Core, Held, Slots, State, slot_of}
use Rattle.model.specs.Setters.{on_held, set_hand, set_free}
use Rattle.model.specs.Questions.{next_page, next_fault}
use Rattle.model.specs.Laws.LineLaws.{Waiting, InFrame}
use Rattle.model.specs.Lent.{state_in}
use Rattle.model.specs.Laws.Own.{own, leaves}
use Rattle.pages.specs.Seen.{seen_fault}
use Rattle.pages.specs.Faults.{FaultLeft}
use Rattle.writeback.specs.Needs.{Queues, Claimable}
use Rattle.writeback.specs.Seen.{claim, seen_claim}
use Rattle.writeback.proofs.ClaimWork.{Said}
use Rattle.writeback.proofs.ClaimLaws.{claim_ready}
use Rattle.dispatch.specs.Kept.{Kept}
use Rattle.dispatch.proofs.FaultLaws.{fault_own}
use Rattle.dispatch.proofs.WritebackLaws.{claim_own, claim_nulls_holds}
use Rattle.model.specs.Laws.Nulled.{nulled_by}
use Rattle.waiting.proofs.Turned.{as_it_was, claimed_own, settled_own, claimed_nulls, settled_nulls}

module _ (z : Sizes) (st : State) (k : Kept z st) (w : Waiting z st) (away : ¬ InFrame z st) (i : ℕ) (its : i ≡ next_page z st) where
  abbrev disk : Disk
  disk = st.disk

  abbrev core : Core
  core = st.memory.core

  abbrev held : Held
  held = st.memory.held

  abbrev slots : Slots
  slots = st.memory.slots

  -- what the fault sees
  abbrev sees : State
  sees = seen_fault core.frames held.pool disk.numbers core.words core.free_queue core.removal_list held.addresses held.states held.owners held.free_map slots.active

  -- all tables, with those new that a turn changes
  abbrev after : List ℕ → List Frame → Pool → List ℕ → List ℕ → List ℕ → List ℕ → List ℕ → List ℕ → List ℕ → List ℕ → State
  after line fs pool ws fq rl ads ss os fm us =
      state_in st.memory.chip line fs pool disk.records disk.numbers disk.accounts disk.maps disk.limits disk.parents disk.highest ws fq rl ads ss os fm slots.active slots.updating slots.images us

  module _ {fs : List Frame} (pool : Pool) {ws fq rl ads ss os fm : List ℕ} {a : Answer} (l : FaultLeft z sees (slot_of z i) (i % z.pages) fs pool ws fq rl ads ss os fm)
      (e : a ≡ (own z sees (Event.Page (Fault (slot_of z i) (i % z.pages)))).answer) where
    faulted : leaves a (after st.memory.line fs pool ws fq rl ads ss os fm st.memory.used) ≡ own z st (Event.Page (next_fault z st))
    faulted = fault_own z st k (slot_of z i) (i % z.pages) pool l e ∙ ap (λ (j : ℕ). own z st (Event.Page (Fault (slot_of z j) (j % z.pages)))) its

    -- accepted, or sent away
    pub brought : ¬ (a.refusal ≡ 20) → {line : List ℕ} → line ≡ if (eqb a.refusal 0) st.memory.line (pop st.memory.line)
        → leaves (record { refusal = 0; result = a.refusal }) (after line fs pool ws fq rl ads ss os fm st.memory.used) ≡ own z st (Event.Waiting Turn)
    brought h {line} q = settled_own z st w away faulted h refl line q

    pub brought_nulls : ¬ (a.refusal ≡ 20) → 0 ≡ nulled_by z st (Event.Waiting Turn)
    brought_nulls h = settled_nulls z st w away faulted h

    -- no frame is free: all is as it was, and the claim's outcome is the turn's
    module _ (h : a.refusal ≡ 20) where
      abbrev again : State
      again = after st.memory.line fs held.pool ws fq rl ads ss os fm st.memory.used

      same : again ≡ st
      same = λ x. on_held (λ o. set_hand held.pool.hand (set_free held.pool.free o)) (as_it_was z st w away faulted h x)

      kept_again : Kept z again
      kept_again = subst (Kept z) (sym same) k

      pub claim_asked : Queues z.frames fq rl × Claimable z fs disk.accounts disk.limits disk.parents ws fq rl ads ss st.memory.used
      claim_asked = claim_ready z again kept_again.fits kept_again.rules

      pub brought_by_claim : {gs : List Frame} {b : Answer} {fq' rl' ss' us' : List ℕ} → Said z (seen_claim fs disk.accounts disk.limits disk.parents ws fq rl ads ss st.memory.used) gs b fq' rl' ss' us'
          → leaves (record { refusal = b.refusal; result = 0 }) (after st.memory.line gs held.pool ws fq' rl' ads ss' os fm us') ≡ own z st (Event.Waiting Turn)
      brought_by_claim d = claimed_own z st w away faulted h _ (claim_own z again kept_again d ∙ ap (λ (x : State). own z x claim) same)

      pub brought_nulls_by_claim : {n : ℕ} → n ≡ nulled_by z (seen_claim fs disk.accounts disk.limits disk.parents ws fq rl ads ss st.memory.used) claim → n ≡ nulled_by z st (Event.Waiting Turn)
      brought_nulls_by_claim e = claimed_nulls z st w away faulted h (claim_nulls_holds z again kept_again e ∙ ap (λ (x : State). nulled_by z x claim) same)
