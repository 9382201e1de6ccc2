-- The events about an account over all tables: what each requires once questions 1 and 2 said yes, and its outcome by what it ensures of the tables that it sees.
use mathlib.Core.Path.{◌≡◌, refl, sym, ◌∙◌}
use mathlib.Core.List.{List}
use Prim.Native.Nat.{ℕ}
use Rattle.model.specs.declared.sizes.Sizes.{Sizes}
use Rattle.model.specs.declared.event.Answer.{Answer}
use Rattle.model.specs.declared.event.Event.{Event}
use Rattle.model.specs.declared.event.Account.TheVariants as Account
use Rattle.model.specs.State.{State, files, frames, payer, charged, used_of}
use Rattle.model.specs.Setters.{counted}
use Rattle.model.specs.Accounts as Accounts
use Rattle.model.specs.Step.{carried, result}
use Rattle.model.specs.Laws.Own.{own, leaves}
use Rattle.rules.proofs.Used.{seated_by}
use Rattle.tables.specs.Base.{at}
use Rattle.accounts.specs.Seen.{seen}
use Rattle.accounts.specs.Promises.{Ready, LimitReady}
use Rattle.accounts.proofs.Left.{after, limit_left, move_left}
use Rattle.dispatch.specs.Kept.{Kept}
use Rattle.dispatch.proofs.Outcomes.{own_by}

module _ (z : Sizes) (st : State) (k : Kept z st) where
  pub account_ready : Ready z st.memory.core.frames st.disk.accounts st.disk.maps st.disk.limits st.memory.held.addresses st.memory.held.states st.memory.slots.active st.memory.used
  account_ready = record {
    countable = record {
      within = k.fits.sizes;
      frames_long = k.fits.memory.frames;
      accounts_long = k.fits.disk.accounts;
      maps_long = k.fits.disk.maps;
      addresses_long = k.fits.memory.addresses;
      states_long = k.fits.memory.states;
      active_long = k.fits.memory.active;
      account_fit_holds = k.rules.disk.account_fit_holds;
      address_fit_holds = k.rules.records.address_fit_holds;
      seated = (let s = seated_by z (files st) (frames st) (at st.disk.records) k.rules.frames in record { fit = s.fit; on = s.on; once = s.once });
    };
    limits_long = k.fits.disk.limits;
    used_long = k.fits.memory.used;
  }

  -- .. and a limit: the used counts are as defined
  pub limit_ready : LimitReady z st.memory.core.frames st.disk.accounts st.disk.maps st.disk.limits st.disk.parents st.memory.held.addresses st.memory.held.states st.memory.slots.active st.memory.used
  unfolding used_of payer charged
  limit_ready = record { ready = account_ready; counted = k.rules.counts.used }

  abbrev sees : State
  sees = seen st.memory.core.frames st.disk.accounts st.disk.maps st.disk.limits st.disk.parents st.memory.held.addresses st.memory.held.states st.memory.slots.active st.memory.used

  module _ (q n : ℕ) where
    abbrev limits : Event
    limits = Event.Account (Account.Limit q n)

    pub limit_own : {a : Answer} {ls us : List ℕ} → a ≡ (own z sees limits).answer → ls ≡ (own z sees limits).left.disk.limits → us ≡ (own z sees limits).left.memory.used → leaves a (after st ls us) ≡ own z st limits
    unfolding carried result Accounts.limit counted used_of payer charged
    limit_own ea els eus = own_by z st sees limits refl refl ea
        (λ o ok. (λ x. after st ((els ∙ (λ y. (o y).left.disk.limits)) x) ((eus ∙ (λ y. (o y).left.memory.used)) x)) ∙ sym (limit_left z st k.fits k.rules.counts q n))
        (λ h o. λ x. after st ((els ∙ (λ y. (o y).left.disk.limits)) x) ((eus ∙ (λ y. (o y).left.memory.used)) x))

  module _ (g t m : ℕ) where
    abbrev moves : Event
    moves = Event.Account (Account.Move g t m)

    pub move_own : {a : Answer} {ls us : List ℕ} → a ≡ (own z sees moves).answer → ls ≡ (own z sees moves).left.disk.limits → us ≡ (own z sees moves).left.memory.used → leaves a (after st ls us) ≡ own z st moves
    unfolding carried result Accounts.move counted used_of payer charged
    move_own ea els eus = own_by z st sees moves refl refl ea
        (λ o ok. (λ x. after st ((els ∙ (λ y. (o y).left.disk.limits)) x) ((eus ∙ (λ y. (o y).left.memory.used)) x)) ∙ sym (move_left z st k.fits k.rules.counts g t m))
        (λ h o. λ x. after st ((els ∙ (λ y. (o y).left.disk.limits)) x) ((eus ∙ (λ y. (o y).left.memory.used)) x))
