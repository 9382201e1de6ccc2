-- A cut: what lands on the disk and is finished in the ledger is what good dones would leave, one after another.
use mathlib.Core.Path.{◌≡◌, refl, ap, sym, ◌∙◌, subst}
use mathlib.Core.Bool.{Bool, true, false, ◌&&◌}
use mathlib.Core.Logic.{inl, inr}
use Prim.Native.Nat.{ℕ, zero, suc, ◌<◌, ◌≤◌}
use native.Mathlib.Omega.{arith}
use native.Mathlib.Decide.{ℕ_discrete}
use lib.Dec.{eqb}
use lib.ListN.{length}
use lib.Seq.{get_or-set_other}
use borrow.Author.Tests.{eq-eqb, ne_eqb}
use Rattle.tables.specs.Base.{at, if}
use Rattle.tables.specs.Rule.{Rule, Holds}
use Rattle.tables.specs.Questions.{Asked}
use Rattle.tables.specs.Store.{store, choose, at_choose, length_choose, choose_ext, at_store}
use mathlib.Core.List.{List}
use Rattle.model.specs.declared.sizes.Sizes.{Sizes}
use Rattle.model.specs.declared.frame.Frame.{Frame}
use Rattle.model.specs.declared.event.Writeback.TheVariants.{PageDone, MapDone}
use Rattle.model.specs.declared.event.Event.{Event}
use Rattle.model.specs.declared.event.Event.TheVariants as Event
use Rattle.model.specs.State.{Disk, State, files, frames, no_frame, READING, WRITING, all_pages, slot_of}
use Rattle.model.specs.Laws.Ruled.{Ruled}
use Rattle.model.specs.Setters.{counted}
use Rattle.model.specs.Parts.{of_slot}
use Rattle.model.specs.Questions.{questions}
use Rattle.model.specs.Writeback as Writeback
use Rattle.model.specs.Step.{carried}
use Rattle.model.specs.Laws.Fit.{Fit}
use Rattle.model.specs.Ledger.{Ledger, note, finish_write, finish_update, finish_writes, finish_updates}
use Rattle.model.specs.Acts.{fed, land_writes, land_updates}
use Rattle.invariant.proofs.Kept.{carried_kept}
use Rattle.crash.proofs.Writes.{no_write_holds, no_update_holds}
use Rattle.crash.proofs.Link.{Tied}
use Rattle.crash.proofs.Events.{steps}

-- one table stored with new entries that agree where the rule holds
store_same : (xs : List ℕ) (t : ℕ → Rule) (g h : ℕ → ℕ) → ((i : ℕ) → i < length xs → Holds (t i) → g i ≡ h i) → store xs t g ≡ store xs t h
unfolding store
store_same xs t g h e = choose_ext (choose (length xs) t g (at xs)) (length xs) t h (at xs) (length_choose (length xs) t g (at xs))
    (λ i l. elim (at_choose (length xs) t g (at xs) i l) [ inl x ↦ inl (x.0, x.1 ∙ e i l x.0) | inr x ↦ inr x ])

-- a good done of a write under way
write_good_holds : (z : Sizes) (st : State) (f : ℕ) → ((frames st).frame f).transfer ≡ WRITING → carried z st (Event.Writeback (PageDone f 1)) ≡ counted z (Writeback.write_good z st f)
unfolding carried Writeback.page_done
write_good_holds z st f e = rw (ne_eqb ((frames st).frame f).transfer READING (λ x. omega (arith, x, e)))

module _ (z : Sizes) (st₀ : State) where
  -- a state that dones lead to
  pub record Led (st : State) (l : Ledger) : Type 0 where
    pub fit : Fit z st
    pub ruled : Ruled z st
    pub tied : Tied z st l

  led : (st : State) (l : Ledger) (e : Event) → Asked (questions z st e) → Led st l → Led (carried z st e) (note z l (fed z st e))
  led st l e q k = let b = carried_kept z st e k.fit k.ruled q in record { fit = b.0; ruled = b.1; tied = steps z e st l (record { fit = k.fit; ruled = k.ruled; asked = q; tied = k.tied }) }

  -- ── the writes of the first n frames have landed ──
  record Wrote (n : ℕ) (d : Disk) (l : Ledger) : Type 0 where
    pub state : State
    pub led : Led state l
    pub disk : state.disk ≡ d
    pub words : state.memory.core.words ≡ st₀.memory.core.words
    pub addresses : state.memory.held.addresses ≡ st₀.memory.held.addresses
    pub slots : state.memory.slots ≡ st₀.memory.slots
    pub frame : (g : ℕ) → n ≤ g → (frames state).frame g ≡ (frames st₀).frame g

  more : {n : ℕ} {d : Disk} {l : Ledger} → Wrote n d l → Wrote (suc n) d l
  more k = record { state = k.state; led = k.led; disk = k.disk; words = k.words; addresses = k.addresses; slots = k.slots; frame = λ g h. k.frame g (omega arith) }

  one_write : (f : ℕ) → f < z.frames → (d : Disk) (l : Ledger) → ((frames st₀).frame f).transfer ≡ WRITING → Wrote f d l → Wrote (suc f) (Writeback.store_frame z st₀ f d) (finish_write f l)
  unfolding counted Writeback.write_good Writeback.free_frame Writeback.store_frame fed note
  one_write f h d l e k =
      let e' : ((frames k.state).frame f).transfer ≡ WRITING = ap (λ (g : Frame). g.transfer) (k.frame f (omega arith)) ∙ e in
      record {
        state = counted z (Writeback.write_good z k.state f);
        led = subst (λ (s : State). Led s (finish_write f l)) (write_good_holds z k.state f e') (led k.state l (Event.Writeback (PageDone f 1)) ((h, omega arith), (λ x. omega (arith, x, e'), tt)) k.led);
        disk = rw (k.disk, k.words, k.addresses, k.frame f (omega arith));
        words = k.words;
        addresses = k.addresses;
        slots = k.slots;
        frame = λ g n. get_or-set_other k.state.memory.core.frames f g no_frame no_frame (λ x. omega (arith, x, n)) ∙ k.frame g (omega arith);
      }

  wrote : (lands : ℕ → Bool) (l : Ledger) → Led st₀ l → (n : ℕ) → n ≤ z.frames → Wrote n (land_writes z st₀ lands n st₀.disk) (finish_writes n lands l)
  unfolding land_writes finish_writes
  wrote lands l k zero h = record { state = st₀; led = k; disk = refl; words = refl; addresses = refl; slots = refl; frame = λ g n. refl }
  wrote lands l k (suc f) h = go (lands f) (ℕ_discrete ((frames st₀).frame f).transfer WRITING) (wrote lands l k f (omega arith))
    where
      go : (b : Bool) → Dec (((frames st₀).frame f).transfer ≡ WRITING) → Wrote f (land_writes z st₀ lands f st₀.disk) (finish_writes f lands l)
          → Wrote (suc f) (if (b && eqb ((frames st₀).frame f).transfer WRITING) (Writeback.store_frame z st₀ f (land_writes z st₀ lands f st₀.disk)) (land_writes z st₀ lands f st₀.disk)) (if b (finish_write f (finish_writes f lands l)) (finish_writes f lands l))
      go true (yes e) r = rw (eq-eqb ((frames st₀).frame f).transfer WRITING e) (one_write f h _ _ e r)
      go true (no e) r = rw (ne_eqb ((frames st₀).frame f).transfer WRITING e) (subst (λ (x : Ledger). Wrote (suc f) (land_writes z st₀ lands f st₀.disk) x) (sym (no_write_holds f (finish_writes f lands l) (λ t. e (sym (ap (λ (g : Frame). g.transfer) (r.frame f (omega arith))) ∙ (r.led.tied.memory.framed f h).only t)))) (more r))
      go false e r = more r

  -- ── and the updates of the first n slots ──
  record Stored (n : ℕ) (d : Disk) (l : Ledger) : Type 0 where
    pub state : State
    pub led : Led state l
    pub disk : state.disk ≡ d
    pub updating : (s : ℕ) → n ≤ s → (files state).updating s ≡ (files st₀).updating s
    pub image : (i : ℕ) → i < all_pages z → n ≤ slot_of z i → (files state).image i ≡ (files st₀).image i

  more_slots : {n : ℕ} {d : Disk} {l : Ledger} → Stored n d l → Stored (suc n) d l
  more_slots k = record { state = k.state; led = k.led; disk = k.disk; updating = λ s h. k.updating s (omega arith); image = λ i l h. k.image i l (omega arith) }

  -- a good done of an update under way is not refused
  may_end : (s : ℕ) → s < z.slots → (st : State) (l : Ledger) → Led st l → (files st).updating s ≡ 1 → Asked (questions z st (Event.Writeback (MapDone s 1)))
  may_end s h st l k e = let r = k.ruled.records in let on = r.update_active_holds s h e in ((h, omega arith), (λ x. omega (arith, x, r.active_filled_holds s h on), (on, (e, tt))))

  one_update : (s : ℕ) → s < z.slots → (d : Disk) (l : Ledger) → (files st₀).updating s ≡ 1 → Stored s d l → Stored (suc s) (Writeback.store_image z st₀ s d) (finish_update s l)
  unfolding carried counted Writeback.map_done Writeback.store_image Writeback.update_over fed note
  one_update s h d l e k =
      let e' : (files k.state).updating s ≡ 1 = k.updating s (omega arith) ∙ e in
      record {
        state = carried z k.state (Event.Writeback (MapDone s 1));
        led = led k.state l (Event.Writeback (MapDone s 1)) (may_end s h k.state l k.led e') k.led;
        disk = subst (λ (x : Disk). Writeback.store_image z k.state s k.state.disk ≡ Writeback.store_image z st₀ s x) k.disk (ap (λ (x : List ℕ). record { records = k.state.disk.records; numbers = k.state.disk.numbers; accounts = k.state.disk.accounts; maps = x; limits = k.state.disk.limits; parents = k.state.disk.parents; highest = k.state.disk.highest })
            (store_same k.state.disk.maps (of_slot z s) (files k.state).image (files st₀).image (λ i g o. k.image i (rw (← k.led.fit.disk.maps) g) (omega (arith, o)))));
        updating = λ t g. get_or-set_other k.state.memory.slots.updating s t 0 0 (λ x. omega (arith, x, g)) ∙ k.updating t (omega arith);
        image = λ i g n. elim (at_store k.state.memory.slots.images (of_slot z s) (λ j. 0) i (rw k.led.fit.memory.images g)) [ inl x ↦ absurd (omega (arith, x.0, n)) | inr x ↦ x.1 ∙ k.image i g (omega arith) ];
      }

  stored : (lands : ℕ → Bool) (d : Disk) (l : Ledger) → Stored 0 d l → (n : ℕ) → n ≤ z.slots → Stored n (land_updates z st₀ lands n d) (finish_updates n lands l)
  unfolding land_updates finish_updates
  stored lands d l k zero h = k
  stored lands d l k (suc s) h = go (lands s) (ℕ_discrete ((files st₀).updating s) 1) (stored lands d l k s (omega arith))
    where
      go : (b : Bool) → Dec ((files st₀).updating s ≡ 1) → Stored s (land_updates z st₀ lands s d) (finish_updates s lands l)
          → Stored (suc s) (if (b && eqb ((files st₀).updating s) 1) (Writeback.store_image z st₀ s (land_updates z st₀ lands s d)) (land_updates z st₀ lands s d)) (if b (finish_update s (finish_updates s lands l)) (finish_updates s lands l))
      go true (yes e) r = rw (eq-eqb ((files st₀).updating s) 1 e) (one_update s h _ _ e r)
      go true (no e) r = rw (ne_eqb ((files st₀).updating s) 1 e) (subst (λ (x : Ledger). Stored (suc s) (land_updates z st₀ lands s d) x) (sym (no_update_holds s (finish_updates s lands l) (λ t. e (sym (r.updating s (omega arith)) ∙ r.led.tied.memory.begun.only s h t)))) (more_slots r))
      go false e r = more_slots r

  -- ── all that lands ──
  pub all_landed : (writes updates : ℕ → Bool) (l : Ledger) → Led st₀ l
      → (st : State) × Led st (finish_updates z.slots updates (finish_writes z.frames writes l)) × (st.disk ≡ land_updates z st₀ updates z.slots (land_writes z st₀ writes z.frames st₀.disk))
  all_landed writes updates l k =
      let a = wrote writes l k z.frames (omega arith) in
      let b = stored updates (land_writes z st₀ writes z.frames st₀.disk) (finish_writes z.frames writes l)
      (record { state = a.state; led = a.led; disk = a.disk; updating = λ s h. rw a.slots; image = λ i h g. rw a.slots }) z.slots (omega arith) in
      (b.state, b.led, b.disk)
