-- Map done: the image is stored and the ledger finishes the update, or the update is struck.
use mathlib.Core.Path.{◌≡◌, refl, ap, sym, ◌∙◌, subst}
use mathlib.Core.Bool.{false}
use mathlib.Core.List.{List, ◌∷◌}
use mathlib.Core.Logic.{◌⊎◌, inl, inr}
use Prim.Native.Nat.{ℕ, zero, suc, ◌%◌, ◌<◌}
use native.Mathlib.Omega.{arith}
use lib.Dec.{T}
use lib.ListN.{set}
use Rattle.tables.specs.Base.{at}
use Rattle.tables.specs.Laws.{if_true}
use Rattle.tables.specs.Store.{Split, store, at_store}
use Rattle.model.specs.declared.sizes.Sizes.{Sizes}
use Rattle.model.specs.declared.event.Writeback.TheVariants.{MapDone}
use Rattle.model.specs.declared.event.Event.TheVariants as Event
use Rattle.model.specs.Lines.{FREE, LIVE, RELEASED, LEAVING}
use Rattle.model.specs.State.{State, all_pages, slot_of}
use Rattle.model.specs.Setters.{on_disk, on_held, on_slots, set_maps, set_states, set_owners, counted}
use Rattle.model.specs.Parts.{of_slot}
use Rattle.model.specs.Writeback as Writeback
use Rattle.model.specs.Step.{carried}
use Rattle.model.specs.Ledger.{Ledger, Update, note, put, finish_update, strike_update, set_stored, set_update}
use Rattle.model.specs.Acts.{fed}
use Rattle.model.specs.Demand3.{last_into, last_update}
use Rattle.model.specs.Laws.Index.{split_set, slot_below}
use Rattle.crash.proofs.Writes.{split_put, split_update, put_other}
use Rattle.crash.proofs.Link.{Newest, OnDisk, InMemory, Tied}
use Rattle.crash.proofs.Steps.{Step, Before}

module _ (z : Sizes) (s good : ℕ) (st : State) (l : Ledger) (b : Before z st l (Event.Writeback (MapDone s good))) where
  abbrev image : ℕ → ℕ
  image = at st.memory.slots.images

  abbrev map : ℕ → ℕ
  map = at st.disk.maps

  abbrev state : ℕ → ℕ
  state = at st.memory.held.states

  abbrev of : ℕ → ℕ
  of = l.design

  abbrev open_s : Update
  open_s = l.pending.update s

  hs : s < z.slots
  hs = b.asked.0.0

  on : at st.memory.slots.active s ≡ 1
  on = b.asked.1.1.0

  under_way : at st.memory.slots.updating s ≡ 1
  under_way = b.asked.1.1.1.0

  of_s : open_s.design ≡ of s
  of_s = b.tied.memory.begun.design s hs under_way

  image_split : (i : ℕ) → i < all_pages z → Split (slot_of z i ≡ s) (at (store st.memory.slots.images (of_slot z s) (λ j. 0)) i) 0 (image i)
  image_split i h = at_store st.memory.slots.images (of_slot z s) (λ j. 0) i (rw b.fit.memory.images h)

  updating_split : (t : ℕ) → Split (t ≡ s) (at (set st.memory.slots.updating s 0) t) 0 (at st.memory.slots.updating t)
  updating_split t = split_set st.memory.slots.updating s 0 t (rw b.fit.memory.updating hs)

  -- an update that is still under way is another slot's
  other_slot : (t : ℕ) → at (set st.memory.slots.updating s 0) t ≡ 1 → (¬ (t ≡ s)) × (at st.memory.slots.updating t ≡ 1)
  other_slot t e = elim (updating_split t) [ inl x ↦ absurd (omega (arith, x.1, e)) | inr x ↦ (x.0, sym x.1 ∙ e) ]

  -- ── the memory ──
  module _ (maps' states' owners' : List ℕ) (stored' : List Update) (other-map : (i : ℕ) → i < all_pages z → ¬ (slot_of z i ≡ s) → at maps' i ≡ map i)
      (mapped : (i : ℕ) → i < all_pages z → (r : ℕ) → at maps' i ≡ suc r → (map i ≡ suc r) ⊎ (image i ≡ suc r)) (was : (r : ℕ) → r < z.records → at states' r ≡ LIVE → state r ≡ LIVE) (stays : (r : ℕ) → r < z.records → state r ≡ LIVE → at states' r ≡ LIVE) where
    ended : InMemory z (counted z (on_disk (λ d. set_maps maps' d) (on_slots (Writeback.update_over z st s) (on_held (λ h. set_states states' (set_owners owners' h)) st)))) (set_stored stored' (set_update (put l.pending.updating s false) l.pending.update l))
    unfolding counted Writeback.update_over
    ended = let m = b.tied.memory in let fit = b.ruled.records.address_fit_holds in record {
      named = record {
        imaged = λ i h r p. m.named.imaged i h r (elsewhere i h r p);
        live = λ i h r p e. m.named.live i h r p (was r (fit i h r p) e);
        latest = λ i h r p e. m.named.latest i h r p (was r (fit i h r p) e);
        rested = λ i h a r p. m.named.rested i h a r (sym (other-map i h (λ e. a (rw e on))) ∙ p);
      };
      begun = let u = m.begun in record {
        only = λ t h e. elim (split_put l.pending.updating s false t) [ inl x ↦ absurd (rw x.1 at e) | inr x ↦ elim (updating_split t) [ inl y ↦ absurd (x.0 y.0) | inr y ↦ y.1 ∙ u.only t h (rw x.1 at e) ] ];
        opened = λ t h e. let x = other_slot t e in rw (put_other l.pending.updating s false t x.0) (u.opened t h x.1);
        design = λ t h e. u.design t h (other_slot t e).1;
        ahead = λ t h e. u.ahead t h (other_slot t e).1;
        listed = λ i h e p. let x = other_slot (slot_of z i) e in let y = u.listed i h x.1 p in (y.0, elim (image_split i h) [ inl c ↦ absurd (x.0 c.0) | inr c ↦ c.1 ∙ y.1 ], y.2);
        promised = λ i h e r p. u.promised i h (other_slot (slot_of z i) e).1 r (elsewhere i h r p);
      };
      lives = λ i h e. let y = m.lives i h e in (y.0, y.1, stays y.0 (fit i h y.0 y.1) y.2);
      alive = λ i h r p e. m.alive i h r p (was r (fit i h r p) e);
      framed = m.framed;
      away = record { paged = λ i h a r p e. m.away.paged i h a r p (was r (fit i h r p) e); void = λ i h o a d. m.away.void i h o a (λ r p e. d r p (stays r (fit i h r p) e)) };
      filed = λ i h a n c. let e = other-map i h (λ e. a (rw e on)) in let o = m.filed i h a n c in (λ p. o.0 (sym e ∙ p), λ r p. o.1 r (sym e ∙ p));
      kept = λ i h e r n. m.kept i h e r (elim n [
        | inl p ↦ elim (mapped i h r p) [ inl x ↦ inl x | inr x ↦ inr (inl x) ]
        | inr o ↦ elim o [ inl p ↦ inr (inl (elsewhere i h r p)) | inr p ↦ inr (inr (p.0, was r (fit i h r p.0) p.1)) ]
      ]);
    }
      where
        elsewhere : (i : ℕ) → i < all_pages z → (r : ℕ) → at (store st.memory.slots.images (of_slot z s) (λ j. 0)) i ≡ suc r → image i ≡ suc r
        elsewhere i h r p = elim (image_split i h) [ inl x ↦ absurd (omega (arith, x.1, p)) | inr x ↦ sym x.1 ∙ p ]

  -- ── good ──
  abbrev maps' : List ℕ
  maps' = store st.disk.maps (of_slot z s) image

  map_split : (i : ℕ) → i < all_pages z → Split (slot_of z i ≡ s) (at maps' i) (image i) (map i)
  map_split i h = at_store st.disk.maps (of_slot z s) image i (rw b.fit.disk.maps h)

  -- the update that is stored is the slot's last; another design's last is as before
  which : (d : ℕ) → Split (d ≡ of s) (last_update d (open_s ∷ l.stored)) open_s (last_update d l.stored)
  which d = elim (split_update open_s l.stored d) [ inl x ↦ inl (sym x.0 ∙ of_s, x.1) | inr x ↦ inr (λ e. x.0 (of_s ∙ sym e), x.1) ]

  born : 0 < of s
  born = b.tied.disk.designs.born s hs b.asked.1.0

  one_slot : (t : ℕ) → t < z.slots → of t ≡ of s → t ≡ s
  one_slot t h = go (of s) refl
    where
      go : (n : ℕ) → of s ≡ n → of t ≡ of s → t ≡ s
      go zero e p = absurd (omega (arith, born, e))
      go (suc n) e p = b.tied.disk.designs.distinct t h s hs n (p ∙ e) e

  states_good : (r : ℕ) → r < z.records → Split ((state r ≡ LEAVING) × (at st.memory.held.owners r ≡ s)) (at (store st.memory.held.states (Writeback.leaver z st s) (λ r. FREE)) r) FREE (state r)
  states_good r h = at_store st.memory.held.states (Writeback.leaver z st s) (λ r. FREE) r (rw b.fit.memory.states h)

  good_disk : OnDisk z (counted z (on_disk (Writeback.store_image z st s) st)) (set_stored (open_s ∷ l.stored) (set_update (put l.pending.updating s false) l.pending.update l))
  unfolding counted Writeback.store_image
  good_disk = let k = b.tied.disk in let u = b.tied.memory.begun in record {
    designs = record {
      born = k.designs.born;
      distinct = k.designs.distinct;
      young = k.designs.young;
      elder = k.designs.elder;
      known = λ d p h. elim (which d) [
        | inl x ↦ elim h [ inl e ↦ absurd (omega (arith, born, x.0, e)) | inr e ↦ absurd (omega (arith, k.designs.young s hs, x.0, e)) ]
        | inr x ↦ rw x.1 (k.designs.known d p h)
      ];
    };
    listing = record {
      owned = λ i h r p. elim (map_split i h) [ inl x ↦ b.tied.memory.named.imaged i h r (sym x.1 ∙ p) | inr x ↦ k.listing.owned i h r (sym x.1 ∙ p) ];
      numbered = k.listing.numbered;
      after = λ d. elim (which d) [ inl x ↦ rw x.1 (u.ahead s hs under_way) | inr x ↦ rw x.1 (k.listing.after d) ];
      listed = λ i h p. elim (which (of (slot_of z i))) [
        | inl y ↦ let e = one_slot (slot_of z i) (slot_below z b.fit.sizes.pages i h) y.0 in let a = y.1 ∙ ap l.pending.update (sym e) in
            let c = u.listed i h (rw e under_way) (subst (λ (x : Update). T (x.live (i % z.pages))) a p) in
            (c.0, elim (map_split i h) [ inl x ↦ x.1 ∙ c.1 | inr x ↦ absurd (x.0 e) ], subst (λ (x : Update). Newest z of l.finished i x.after (last_into c.0 l.finished)) (sym a) c.2)
        | inr y ↦ let c = k.listing.listed i h (subst (λ (x : Update). T (x.live (i % z.pages))) y.1 p) in
            (c.0, elim (map_split i h) [ inl x ↦ absurd (y.0 (ap of x.0)) | inr x ↦ x.1 ∙ c.1 ], subst (λ (x : Update). Newest z of l.finished i x.after (last_into c.0 l.finished)) (sym y.1) c.2)
      ];
      newborn = λ i h v. elim (which (of (slot_of z i))) [
        | inl y ↦ absurd (v (ap (λ (x : Update). x.design) y.1 ∙ of_s ∙ sym y.0))
        | inr y ↦ let o = k.listing.newborn i h (subst (λ (x : Update). ¬ (x.design ≡ of (slot_of z i))) y.1 v) in
            let same : at maps' i ≡ map i = elim (map_split i h) [ inl x ↦ absurd (y.0 (ap of x.0)) | inr x ↦ x.1 ] in record { old = λ e. same ∙ o.old e; young = λ e. same ∙ o.young e }
      ];
      promised = λ i h r p e. elim (which (of (slot_of z i))) [
        | inl y ↦ let a = one_slot (slot_of z i) (slot_below z b.fit.sizes.pages i h) y.0 in
            let c = u.promised i h (rw a under_way) r (elim (map_split i h) [ inl x ↦ sym x.1 ∙ p | inr x ↦ absurd (x.0 a) ]) in
            subst (λ (x : Update). T (x.live (i % z.pages))) (sym (y.1 ∙ ap l.pending.update (sym a))) c
        | inr y ↦ let c = k.listing.promised i h r (elim (map_split i h) [ inl x ↦ absurd (y.0 (ap of x.0)) | inr x ↦ sym x.1 ∙ p ]) (subst (λ (x : Update). x.design ≡ of (slot_of z i)) y.1 e) in
            subst (λ (x : Update). T (x.live (i % z.pages))) (sym y.1) c
      ];
    };
  }

  states_failed : (r : ℕ) → r < z.records → Split ((state r ≡ LEAVING) × (at st.memory.held.owners r ≡ s)) (at (store st.memory.held.states (Writeback.leaver z st s) (λ r. RELEASED)) r) RELEASED (state r)
  states_failed r h = at_store st.memory.held.states (Writeback.leaver z st s) (λ r. RELEASED) r (rw b.fit.memory.states h)

-- by the two cases
pub map_done : (z : Sizes) (s good : ℕ) → Step z (Event.Writeback (MapDone s good))
unfolding carried fed note counted Writeback.map_done Writeback.store_image Writeback.update_over finish_update strike_update
map_done z s good st l b = go good b
  where
    go : (good : ℕ) → (b : Before z st l (Event.Writeback (MapDone s good))) → Tied z (carried z st (Event.Writeback (MapDone s good))) (note z l (fed z st (Event.Writeback (MapDone s good))))
    go zero b = record {
      disk = record { designs = b.tied.disk.designs; listing = b.tied.disk.listing };
      memory = ended z s 0 st l b st.disk.maps (store st.memory.held.states (Writeback.leaver z st s) (λ r. RELEASED)) st.memory.held.owners l.stored (λ i h e. refl) (λ i h r p. inl p)
          (λ r h e. elim (states_failed z s 0 st l b r h) [ inl x ↦ absurd (omega (arith, x.1, e)) | inr x ↦ sym x.1 ∙ e ]) (λ r h e. elim (states_failed z s 0 st l b r h) [ inl x ↦ absurd (omega (arith, x.0.0, e)) | inr x ↦ x.1 ∙ e ]);
    }
    go (suc zero) b = subst (λ (x : Ledger). Tied z (carried z st (Event.Writeback (MapDone s 1))) x) (sym (if_true (l.pending.updating s) _ l (b.tied.memory.begun.opened s b.asked.0.0 b.asked.1.1.1.0))) (record {
      disk = (let d = good_disk z s 1 st l b in record { designs = d.designs; listing = d.listing });
      memory = ended z s 1 st l b (maps' z s 1 st l b) (store st.memory.held.states (Writeback.leaver z st s) (λ r. FREE)) (store st.memory.held.owners (Writeback.leaver z st s) (λ r. 0)) (l.pending.update s ∷ l.stored)
          (λ i h e. elim (map_split z s 1 st l b i h) [ inl x ↦ absurd (e x.0) | inr x ↦ x.1 ]) (λ i h r p. elim (map_split z s 1 st l b i h) [ inl x ↦ inr (sym x.1 ∙ p) | inr x ↦ inl (sym x.1 ∙ p) ])
          (λ r h e. elim (states_good z s 1 st l b r h) [ inl x ↦ absurd (omega (arith, x.1, e)) | inr x ↦ sym x.1 ∙ e ]) (λ r h e. elim (states_good z s 1 st l b r h) [ inl x ↦ absurd (omega (arith, x.0.0, e)) | inr x ↦ x.1 ∙ e ]);
    })
    go (suc (suc n)) b = absurd (omega (arith, b.asked.0.1))
