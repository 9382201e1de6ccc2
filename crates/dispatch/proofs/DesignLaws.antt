-- The events about a design over all tables: what each requires once questions 1 and 2 said yes, and its outcome by what it ensures of the tables that it sees.
use mathlib.Core.Path.{◌≡◌, refl, sym, ◌∙◌}
use mathlib.Core.List.{List, []}
use Prim.Native.Nat.{ℕ}
use native.Mathlib.Omega.{arith}
use Rattle.model.specs.declared.sizes.Sizes.{Sizes}
use Rattle.model.specs.declared.event.Answer.{Answer}
use Rattle.model.specs.declared.event.Event.{Event}
use Rattle.model.specs.declared.event.Design.TheVariants as Design
use Rattle.model.specs.State.{State}
use Rattle.model.specs.Setters.{counted}
use Rattle.model.specs.Questions.{would_store}
use Rattle.model.specs.Designs as Designs
use Rattle.model.specs.Laws.Fit.{Within}
use Rattle.model.specs.Step.{carried, result}
use Rattle.model.specs.Laws.Own.{own, leaves}
use Rattle.designs.specs.Seen.{seen_create, seen_files, seen_turns}
use Rattle.designs.specs.Needs.{Turning}
use Rattle.designs.proofs.Kept.{after}
use Rattle.designs.proofs.Filed.{create_left, delete_left}
use Rattle.designs.proofs.Turned.{activate_left, deactivate_left}
use Rattle.dispatch.specs.Kept.{Kept}
use Rattle.dispatch.proofs.Outcomes.{own_by}

module _ (z : Sizes) (st : State) (k : Kept z st) where
  pub filed_ready : Within z
  filed_ready = k.fits.sizes

  pub turned_ready : Turning z st.disk.maps st.memory.held.addresses st.memory.held.states st.memory.held.owners
  turned_ready = record { sizes = k.fits.sizes; maps_long = k.fits.disk.maps; addresses_long = k.fits.memory.addresses; owners_long = omega (arith, k.fits.memory.states, k.fits.memory.owners) }

  module _ (s q n : ℕ) where
    abbrev creates : Event
    creates = Event.Design (Design.Create s q n)

    abbrev create_sees : State
    create_sees = seen_create st.disk.numbers st.disk.accounts st.disk.highest

    pub create_own : {a : Answer} {ns cs hs : List ℕ} → a ≡ (own z create_sees creates).answer → ns ≡ (own z create_sees creates).left.disk.numbers → cs ≡ (own z create_sees creates).left.disk.accounts
        → hs ≡ (own z create_sees creates).left.disk.highest → leaves a (after st ns cs hs st.memory.held.addresses st.memory.held.states st.memory.slots.active) ≡ own z st creates
    unfolding carried result Designs.create counted
    create_own ea ens ecs ehs = own_by z st create_sees creates refl refl ea
        (λ o ok. (λ x. after st ((ens ∙ (λ y. (o y).left.disk.numbers)) x) ((ecs ∙ (λ y. (o y).left.disk.accounts)) x) ((ehs ∙ (λ y. (o y).left.disk.highest)) x) st.memory.held.addresses st.memory.held.states st.memory.slots.active)
        ∙ sym (create_left z st k.fits k.rules s q n ok))
        (λ n o. λ x. after st ((ens ∙ (λ y. (o y).left.disk.numbers)) x) ((ecs ∙ (λ y. (o y).left.disk.accounts)) x) ((ehs ∙ (λ y. (o y).left.disk.highest)) x) st.memory.held.addresses st.memory.held.states st.memory.slots.active)

  module _ (s : ℕ) where
    abbrev deletes : Event
    deletes = Event.Design (Design.Delete s)

    abbrev delete_sees : State
    delete_sees = seen_files st.disk.numbers st.disk.accounts st.disk.maps st.memory.slots.active

    pub delete_own : {a : Answer} {ns cs : List ℕ} → a ≡ (own z delete_sees deletes).answer → ns ≡ (own z delete_sees deletes).left.disk.numbers → cs ≡ (own z delete_sees deletes).left.disk.accounts → leaves a (after st ns cs st.disk.highest st.memory.held.addresses st.memory.held.states st.memory.slots.active) ≡ own z st deletes
    unfolding carried result Designs.delete counted
    delete_own ea ens ecs = own_by z st delete_sees deletes refl refl ea
        (λ o ok. (λ x. after st ((ens ∙ (λ y. (o y).left.disk.numbers)) x) ((ecs ∙ (λ y. (o y).left.disk.accounts)) x) st.disk.highest st.memory.held.addresses st.memory.held.states st.memory.slots.active) ∙ sym (delete_left z st k.fits k.rules s ok))
        (λ n o. λ x. after st ((ens ∙ (λ y. (o y).left.disk.numbers)) x) ((ecs ∙ (λ y. (o y).left.disk.accounts)) x) st.disk.highest st.memory.held.addresses st.memory.held.states st.memory.slots.active)

  module _ (s : ℕ) where
    abbrev activates : Event
    activates = Event.Design (Design.Activate s)

    abbrev activate_sees : State
    activate_sees = seen_turns [] st.disk.numbers st.disk.maps st.memory.held.addresses st.memory.held.states st.memory.held.owners st.memory.slots.active []

    pub activate_own : {a : Answer} {ads ss ac : List ℕ} → a ≡ (own z activate_sees activates).answer → ads ≡ (own z activate_sees activates).left.memory.held.addresses → ss ≡
        (own z activate_sees activates).left.memory.held.states → ac ≡ (own z activate_sees activates).left.memory.slots.active → leaves a (after st st.disk.numbers st.disk.accounts
        st.disk.highest ads ss ac) ≡ own z st activates
    unfolding carried result Designs.activate counted
    activate_own ea eads ess eac = own_by z st activate_sees activates refl refl ea
        (λ o ok. (λ x. after st st.disk.numbers st.disk.accounts st.disk.highest ((eads ∙ (λ y. (o y).left.memory.held.addresses)) x) ((ess ∙ (λ y. (o y).left.memory.held.states)) x) ((eac ∙ (λ y. (o y).left.memory.slots.active)) x)) ∙ sym (activate_left z st k.fits k.rules s ok))
        (λ n o. λ x. after st st.disk.numbers st.disk.accounts st.disk.highest ((eads ∙ (λ y. (o y).left.memory.held.addresses)) x) ((ess ∙ (λ y. (o y).left.memory.held.states)) x) ((eac ∙ (λ y. (o y).left.memory.slots.active)) x))

  module _ (s : ℕ) where
    abbrev deactivates : Event
    deactivates = Event.Design (Design.Deactivate s)

    abbrev deactivate_sees : State
    deactivate_sees = seen_turns st.memory.core.frames st.disk.numbers st.disk.maps st.memory.held.addresses st.memory.held.states st.memory.held.owners st.memory.slots.active st.memory.slots.updating

    pub deactivate_own : {a : Answer} {ads ss ac : List ℕ} → a ≡ (own z deactivate_sees deactivates).answer → ads ≡ (own z deactivate_sees deactivates).left.memory.held.addresses → ss ≡
        (own z deactivate_sees deactivates).left.memory.held.states → ac ≡ (own z deactivate_sees deactivates).left.memory.slots.active → leaves a (after st st.disk.numbers
        st.disk.accounts st.disk.highest ads ss ac) ≡ own z st deactivates
    unfolding carried result Designs.deactivate counted would_store
    deactivate_own ea eads ess eac = own_by z st deactivate_sees deactivates refl refl ea
        (λ o ok. (λ x. after st st.disk.numbers st.disk.accounts st.disk.highest ((eads ∙ (λ y. (o y).left.memory.held.addresses)) x) ((ess ∙ (λ y. (o y).left.memory.held.states)) x) ((eac ∙ (λ y. (o y).left.memory.slots.active)) x)) ∙ sym (deactivate_left z st k.fits k.rules s ok))
        (λ n o. λ x. after st st.disk.numbers st.disk.accounts st.disk.highest ((eads ∙ (λ y. (o y).left.memory.held.addresses)) x) ((ess ∙ (λ y. (o y).left.memory.held.states)) x) ((eac ∙ (λ y. (o y).left.memory.slots.active)) x))
