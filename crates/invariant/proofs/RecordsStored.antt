-- Map done: an update ends, good or failed. It keeps the rules of disk, pages, records and slots.
use mathlib.Core.Path.{◌≡◌, refl, sym, ◌∙◌, subst}
use mathlib.Core.Logic.{◌⊎◌, inl, inr}
use Prim.Native.Nat.{ℕ, suc, ◌<◌}
use native.Mathlib.Omega.{arith}
use lib.Dec.{eqb}
use Rattle.tables.specs.Base.{if}
use Rattle.tables.specs.Laws.{if_elim}
use Rattle.tables.specs.Questions.{Asked}
use Rattle.tables.specs.Rule.{Holds}
use Rattle.tables.specs.Store.{Split, store, at_store}
use Rattle.model.specs.declared.sizes.Sizes.{Sizes}
use Rattle.model.specs.declared.event.Event.TheVariants as Event
use Rattle.model.specs.declared.event.Writeback.TheVariants.{MapDone}
use Rattle.model.specs.Lines.{FREE, FILED, NULLED, LIVE, RELEASED, LEAVING}
use Rattle.model.specs.State.{State, Files, files, all_pages, slot_of}
use Rattle.model.specs.Setters.{on_disk, on_slots, on_held, set_states, set_owners}
use Rattle.model.specs.Questions.{questions}
use Rattle.model.specs.Rules
use Rattle.model.specs.Laws.Ruled.{OnDisk, OfRecords, Ruled}
use Rattle.model.specs.Laws.Fit.{Fit}
use Rattle.model.specs.Writeback
use Rattle.model.specs.Laws.Index.{slot_below, split_set}
use Rattle.invariant.proofs.Records.{Kept, Done, Moves, Tidy, counted_done, along_line, was, turns, stays}
use Rattle.invariant.proofs.RecordsLanded.{landed_keeps}

-- The slot's image goes, its leaving records become x. Good (L s): the image is stored and they become free. Failed: they become released.
-- What the event leaves alone is the same function.
pub record Stored (z : Sizes) (s x : ℕ) (L : ℕ → Type 0) (v : Files) (map' state' owner' updating' image' : ℕ → ℕ) : Type 0 where
  pub on : v.active s ≡ 1
  pub kind : ((x ≡ FREE) × L s) ⊎ (x ≡ RELEASED)
  pub only : (t : ℕ) → L t → t ≡ s
  pub map : (i : ℕ) → i < all_pages z → Split (L (slot_of z i)) (map' i) (v.image i) (v.map i)
  pub image : (i : ℕ) → i < all_pages z → Split (slot_of z i ≡ s) (image' i) 0 (v.image i)
  pub state : (r : ℕ) → r < z.records → Split ((v.state r ≡ LEAVING) × (v.owner r ≡ s)) (state' r) x (v.state r)
  pub owner : (r : ℕ) → r < z.records → Split (((v.state r ≡ LEAVING) × (v.owner r ≡ s)) × (x ≡ FREE)) (owner' r) 0 (v.owner r)
  pub updating : (t : ℕ) → t < z.slots → Split (t ≡ s) (updating' t) 0 (v.updating t)

module _ (z : Sizes) (pos : 0 < z.pages) (s x : ℕ) (hs : s < z.slots) (L : ℕ → Type 0) (v : Files) (d : OnDisk z v) (k : OfRecords z v) (map' state' owner' updating' image' : ℕ → ℕ)
    (c : Stored z s x L v map' state' owner' updating' image') where
  abbrev after : Files
  after = record { number = v.number; account = v.account; limit = v.limit; parent = v.parent; map = map'; address = v.address; state = state'; owner = owner'; active = v.active; updating = updating'; image = image' }

  -- what is neither free nor released had its state before
  old : (r y : ℕ) → r < z.records → state' r ≡ y → ¬ (y ≡ FREE) → ¬ (y ≡ RELEASED) → (¬ ((v.state r ≡ LEAVING) × (v.owner r ≡ s))) × (v.state r ≡ y)
  old r y h e a b = was (c.state r h) e (λ f. elim c.kind [ inl g ↦ a (f ∙ g.0) | inr g ↦ b (f ∙ g) ])

  -- what is not leaving keeps its state
  keeps : (r y : ℕ) → r < z.records → v.state r ≡ y → ¬ (y ≡ LEAVING) → state' r ≡ y
  keeps r y h e n = stays (c.state r h) (λ t. n (sym e ∙ t.0)) ∙ e

  -- what is not free keeps its slot
  owns : (r y : ℕ) → r < z.records → state' r ≡ y → ¬ (y ≡ FREE) → owner' r ≡ v.owner r
  owns r y h e n = stays (c.owner r h) (λ t. n (sym e ∙ turns (c.state r h) t.0 ∙ t.1))

  -- an image that lists a record is another slot's, and is as before
  elsewhere : (i : ℕ) → i < all_pages z → (r : ℕ) → image' i ≡ suc r → (¬ (slot_of z i ≡ s)) × (v.image i ≡ suc r)
  elsewhere i h r p = was (c.image i h) p (λ e. omega (arith, e))

  -- an inactive slot's map is as before
  unmoved : (i : ℕ) → i < all_pages z → ¬ (v.active (slot_of z i) ≡ 1) → map' i ≡ v.map i
  unmoved i h a = stays (c.map i h) (λ l. a (subst (λ (t : ℕ). v.active t ≡ 1) (sym (c.only (slot_of z i) l)) c.on))

  stored_mapped : Holds (Rules.mapped z after)
  stored_mapped i h r p a = elim (c.map i h) [
    | inl t ↦ let q : v.image i ≡ suc r = sym t.1 ∙ p in elim (k.imaged i h r q) [
      | inl e ↦ inl e
      | inr e ↦ let lt = k.image_fit_holds i h r q in let n : state' r ≡ RELEASED = keeps r RELEASED lt e.1 (omega arith) in inr (owns r RELEASED lt n (omega arith) ∙ e.0, inl n)
    ]
    | inr t ↦ let q : v.map i ≡ suc r = sym t.1 ∙ p in elim (k.mapped i h r q a) [
      | inl e ↦ inl e
      | inr e ↦ let lt = d.map_fit_holds i h r q in elim e.1 [
        | inl b ↦ let n : state' r ≡ RELEASED = keeps r RELEASED lt b (omega arith) in inr (owns r RELEASED lt n (omega arith) ∙ e.0, inl n)
        | inr b ↦ elim (c.state r lt) [
          | inl u ↦ elim c.kind [
            | inl g ↦ absurd (t.0 (subst L (sym u.0.1 ∙ e.0) g.1))
            | inr g ↦ let n : state' r ≡ RELEASED = u.1 ∙ g in inr (owns r RELEASED lt n (omega arith) ∙ e.0, inl n)
          ]
          | inr u ↦ let n : state' r ≡ LEAVING = u.1 ∙ b in inr (owns r LEAVING lt n (omega arith) ∙ e.0, inr n)
        ]
      ]
    ]
  ]

  stored_keeps : OnDisk z after × OfRecords z after
  stored_keeps = (
    landed_keeps z pos L v d k map' (record { on = λ t l. subst (λ (u : ℕ). v.active u ≡ 1) (sym (c.only t l)) c.on; map = c.map }) v.limit v.address state' owner' v.active updating' image',
    record {
      address_fit_holds = k.address_fit_holds;
      image_fit_holds = λ i h r p. k.image_fit_holds i h r (elsewhere i h r p).1;
      state_fit_holds = λ r h. elim (c.state r h) [
        | inl t ↦ elim c.kind [ inl g ↦ omega (arith, t.1, g.0) | inr g ↦ omega (arith, t.1, g) ]
        | inr t ↦ omega (arith, t.1, k.state_fit_holds r h)
      ];
      owner_fit_holds = λ r h. elim (c.owner r h) [ inl t ↦ omega (arith, t.1, hs) | inr t ↦ omega (arith, t.1, k.owner_fit_holds r h) ];
      active_fit_holds = k.active_fit_holds;
      updating_fit_holds = λ t h. elim (c.updating t h) [ inl u ↦ omega (arith, u.1) | inr u ↦ omega (arith, u.1, k.updating_fit_holds t h) ];
      held_once_holds = k.held_once_holds;
      held = λ i h r p. let o = k.held i h r p in let lt = k.address_fit_holds i h r p in elim o.1 [
        | inl e ↦ let n : state' r ≡ NULLED = keeps r NULLED lt e (omega arith) in (owns r NULLED lt n (omega arith) ∙ o.0, inl n)
        | inr e ↦ let n : state' r ≡ LIVE = keeps r LIVE lt e (omega arith) in (owns r LIVE lt n (omega arith) ∙ o.0, inr n)
      ];
      held_by_holds = λ r h e. k.held_by_holds r h (elim e [ inl n ↦ inl (old r NULLED h n (omega arith) (omega arith)).1 | inr n ↦ inr (old r LIVE h n (omega arith) (omega arith)).1 ]);
      filed = λ i h r p a. let q : v.map i ≡ suc r = sym (unmoved i h a) ∙ p in let f = k.filed i h r q a in let lt = d.map_fit_holds i h r q in
          let n : state' r ≡ FILED = keeps r FILED lt f.1 (omega arith) in (owns r FILED lt n (omega arith) ∙ f.0, n);
      filed_by_holds = λ r h e. let t = k.filed_by_holds r h (old r FILED h e (omega arith) (omega arith)).1 in (t.0, t.1, (unmoved t.0 t.1 t.2.1 ∙ t.2.0, t.2.1));
      mapped = stored_mapped;
      imaged = λ i h r p. let q = (elsewhere i h r p).1 in elim (k.imaged i h r q) [
        | inl e ↦ inl e
        | inr e ↦ let lt = k.image_fit_holds i h r q in let n : state' r ≡ RELEASED = keeps r RELEASED lt e.1 (omega arith) in inr (owns r RELEASED lt n (omega arith) ∙ e.0, n)
      ];
      image_once_holds = λ i hi j hj r p q. k.image_once_holds i hi j hj r (elsewhere i hi r p).1 (elsewhere j hj r q).1;
      image_zero_holds = λ i h r p. let e = elsewhere i h r p in stays (c.updating (slot_of z i) (slot_below z pos i h)) e.0 ∙ k.image_zero_holds i h r e.1;
      leaving_begun_holds = λ r h e. let o = old r LEAVING h e (omega arith) (omega arith) in
          subst (λ (t : ℕ). updating' t ≡ 1) (sym (owns r LEAVING h e (omega arith))) (stays (c.updating (v.owner r) (k.owner_fit_holds r h)) (λ t. o.0 (o.1, t)) ∙ k.leaving_begun_holds r h o.1);
      active_filled_holds = k.active_filled_holds;
      address_active_holds = k.address_active_holds;
      update_active_holds = λ t h e. k.update_active_holds t h (was (c.updating t h) e (λ f. omega (arith, f))).1;
    },
  )

  -- leaving to free; leaving to released
  stored_moves : Moves z v.state state'
  stored_moves r h = elim (c.state r h) [
    | inl t ↦ elim c.kind [ inl g ↦ inr (along_line 8 (omega arith) t.0.0 (t.1 ∙ g.0)) | inr g ↦ inr (along_line 9 (omega arith) t.0.0 (t.1 ∙ g)) ]
    | inr t ↦ inl t.1
  ]

  -- what becomes free is of slot 0 then; what becomes released is of the slot, which is active
  stored_tidy : Tidy z v.state v.owner v.active → Tidy z state' owner' v.active
  stored_tidy t = record {
    free = λ r h e. elim (c.state r h) [
      | inl u ↦ turns (c.owner r h) (u.0, sym u.1 ∙ e)
      | inr u ↦ elim (c.owner r h) [ inl w ↦ w.1 | inr w ↦ w.1 ∙ t.free r h (sym u.1 ∙ e) ]
    ];
    released = λ r h e. subst (λ (m : ℕ). v.active m ≡ 1) (sym (owns r RELEASED h e (omega arith))) (elim (c.state r h) [
      | inl u ↦ subst (λ (m : ℕ). v.active m ≡ 1) (sym u.0.1) c.on
      | inr u ↦ t.released r h (sym u.1 ∙ e)
    ]);
  }

  pub stored_done : (OnDisk z after × OfRecords z after) × Moves z v.state state' × (Tidy z v.state v.owner v.active → Tidy z state' owner' v.active)
  stored_done = (stored_keeps, stored_moves, stored_tidy)

module _ (z : Sizes) (st : State) (f : Fit z st) (r : Ruled z st) (s : ℕ) where
  -- the two ends
  abbrev good_end : State
  good_end = on_disk (Writeback.store_image z st s) (on_slots (Writeback.update_over z st s) (on_held (λ h. set_states (store h.states (Writeback.leaver z st s) (λ r. FREE)) (set_owners (store h.owners (Writeback.leaver z st s) (λ r. 0)) h)) st))

  abbrev failed_end : State
  failed_end = on_slots (Writeback.update_over z st s) (on_held (λ h. set_states (store h.states (Writeback.leaver z st s) (λ r. RELEASED)) h) st)

  module _ (hs : s < z.slots) (on : (files st).active s ≡ 1) where
    image_split : (i : ℕ) → i < all_pages z → Split (slot_of z i ≡ s) ((files failed_end).image i) 0 ((files st).image i)
    unfolding Writeback.update_over
    image_split i h = at_store st.memory.slots.images _ _ i (rw f.memory.images h)

    updating_split : (t : ℕ) → t < z.slots → Split (t ≡ s) ((files failed_end).updating t) 0 ((files st).updating t)
    unfolding Writeback.update_over
    updating_split t h = split_set st.memory.slots.updating s 0 t (rw f.memory.updating hs)

    pub good_stored : (let w = files good_end in Stored z s FREE (λ t. t ≡ s) (files st) w.map w.state w.owner w.updating w.image)
    unfolding Writeback.store_image
    good_stored = record {
      on = on;
      kind = inl (refl, refl);
      only = λ t e. e;
      map = λ i h. at_store st.disk.maps _ _ i (rw f.disk.maps h);
      image = image_split;
      state = λ q h. at_store st.memory.held.states (Writeback.leaver z st s) (λ r. FREE) q (rw f.memory.states h);
      owner = λ q h. elim (at_store st.memory.held.owners (Writeback.leaver z st s) (λ r. 0) q (rw f.memory.owners h)) [ inl t ↦ inl ((t.0, refl), t.1) | inr t ↦ inr (λ u. t.0 u.0, t.1) ];
      updating = updating_split;
    }

    pub failed_stored : (let w = files failed_end in Stored z s RELEASED (λ t. ⊥) (files st) w.map w.state w.owner w.updating w.image)
    failed_stored = record {
      on = on;
      kind = inr refl;
      only = λ t e. absurd e;
      map = λ i h. inr (λ e. e, refl);
      image = image_split;
      state = λ q h. at_store st.memory.held.states (Writeback.leaver z st s) (λ r. RELEASED) q (rw f.memory.states h);
      owner = λ q h. inr (λ u. omega (arith, u.1), refl);
      updating = updating_split;
    }

    good_kept : Done z st good_end
    unfolding Writeback.store_image Writeback.update_over
    good_kept = stored_done z f.sizes.pages s FREE hs (λ t. t ≡ s) (files st) r.disk r.records _ _ _ _ _ good_stored

    failed_kept : Done z st failed_end
    unfolding Writeback.update_over
    failed_kept = stored_done z f.sizes.pages s RELEASED hs (λ t. ⊥) (files st) r.disk r.records _ _ _ _ _ failed_stored

  pub map_done_done : (good : ℕ) → Asked (questions z st (Event.Writeback (MapDone s good))) → Done z st (Writeback.map_done z st s good)
  unfolding Writeback.map_done
  map_done_done good a = counted_done z st (if (eqb good 1) good_end failed_end) (if_elim (Done z st) (eqb good 1) good_end failed_end (λ t. good_kept a.0.0 a.1.1.0) (λ t. failed_kept a.0.0 a.1.1.0))

  pub map_done_records : (good : ℕ) → Asked (questions z st (Event.Writeback (MapDone s good))) → Kept z (Writeback.map_done z st s good)
  map_done_records good a = (map_done_done good a).0
