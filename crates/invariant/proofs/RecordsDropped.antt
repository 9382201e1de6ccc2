-- Truncate and update: records of the slot are dropped. Both keep the rules of disk, pages, records and slots.
use mathlib.Core.Path.{◌≡◌, refl, sym, ◌∙◌, subst}
use mathlib.Core.Logic.{◌⊎◌, inl, inr}
use Prim.Native.Nat.{ℕ, zero, suc, ◌<◌}
use native.Mathlib.Omega.{arith}
use lib.Dec.{T}
use Rattle.tables.specs.Questions.{Asked}
use Rattle.tables.specs.Rule.{Holds, same, some, ◌and◌}
use Rattle.tables.specs.Store.{Split, at_store}
use Rattle.model.specs.declared.sizes.Sizes.{Sizes}
use Rattle.model.specs.declared.event.Event.TheVariants as Event
use Rattle.model.specs.declared.event.Writeback.TheVariants.{Truncate, Update}
use Rattle.model.specs.Lines.{FREE, FILED, NULLED, LIVE, RELEASED, LEAVING, by_event}
use Rattle.model.specs.State.{State, Files, files, all_pages, slot_of}
use Rattle.model.specs.Setters.{counted}
use Rattle.model.specs.Parts.{of_slot, from_page}
use Rattle.model.specs.Questions.{questions, would_store}
use Rattle.model.specs.Rules
use Rattle.model.specs.Laws.Ruled.{OnDisk, OfRecords, Ruled}
use Rattle.model.specs.Laws.Fit.{Fit}
use Rattle.model.specs.Writeback
use Rattle.model.specs.Laws.Index.{slot_below, split_set}
use Rattle.invariant.proofs.Records.{disk_alone, Kept, Moves, Tidy, along_line, was, turns, stays, would_live}

-- The records D, all of the slot, become x, and their pages lose the address. Where B s, an update begins: its image lists what its pages still hold.
pub record Dropped (z : Sizes) (s x : ℕ) (D B : ℕ → Type 0) (v : Files) (address' state' updating' image' : ℕ → ℕ) : Type 0 where
  pub on : v.active s ≡ 1
  pub kind : (x ≡ RELEASED) ⊎ ((x ≡ LEAVING) × B s)
  pub only : (t : ℕ) → B t → t ≡ s
  pub own : (r : ℕ) → D r → v.owner r ≡ s
  pub line : (r : ℕ) → D r → T (by_event (v.state r) x)
  pub address : (i : ℕ) → i < all_pages z → (r : ℕ) → v.address i ≡ suc r → Split (D r) (address' i) 0 (suc r)
  pub none : (i : ℕ) → i < all_pages z → v.address i ≡ 0 → address' i ≡ 0
  pub state : (r : ℕ) → r < z.records → Split (D r) (state' r) x (v.state r)
  pub updating : (t : ℕ) → t < z.slots → Split (B t) (updating' t) 1 (v.updating t)
  pub image : (i : ℕ) → i < all_pages z → (r : ℕ) → image' i ≡ suc r → (B (slot_of z i) × ((v.address i ≡ suc r) × (address' i ≡ suc r))) ⊎ ((¬ (B (slot_of z i))) × (v.image i ≡ suc r))

module _ (z : Sizes) (pos : 0 < z.pages) (s x : ℕ) (D B : ℕ → Type 0) (v : Files) (d : OnDisk z v) (k : OfRecords z v) (address' state' updating' image' : ℕ → ℕ)
    (c : Dropped z s x D B v address' state' updating' image') where
  abbrev after : Files
  after = record { number = v.number; account = v.account; limit = v.limit; parent = v.parent; map = v.map; address = address'; state = state'; owner = v.owner; active = v.active; updating = updating'; image = image' }

  -- a page that has an address had it before, and its record is not dropped
  still : (i : ℕ) → i < all_pages z → (r : ℕ) → address' i ≡ suc r → (v.address i ≡ suc r) × (state' r ≡ v.state r)
  still i h r p = go (v.address i) refl
    where
      go : (a : ℕ) → v.address i ≡ a → (v.address i ≡ suc r) × (state' r ≡ v.state r)
      go zero e = absurd (omega (arith, c.none i h e, p))
      go (suc t) e = elim (c.address i h t e) [
        | inl y ↦ absurd (omega (arith, y.1, p))
        | inr y ↦ let w : v.address i ≡ suc r = e ∙ sym y.1 ∙ p in
            (w, stays (c.state r (k.address_fit_holds i h r w)) (λ u. y.0 (subst D (omega (arith, y.1, p)) u)))
      ]

  -- what is neither released nor leaving is not dropped, and had its state before
  old : (r y : ℕ) → r < z.records → state' r ≡ y → ¬ (y ≡ RELEASED) → ¬ (y ≡ LEAVING) → (¬ (D r)) × (v.state r ≡ y)
  old r y h e a b = was (c.state r h) e (λ f. elim c.kind [ inl g ↦ a (f ∙ g) | inr g ↦ b (f ∙ g.0) ])

  -- a record of an active slot's map or image: held, or of the slot and released or leaving
  dropped_mapped : Holds (Rules.mapped z after)
  dropped_mapped i h r p a = let lt = d.map_fit_holds i h r p in elim (k.mapped i h r p a) [
    | inl e ↦ elim (c.address i h r e) [ inl y ↦ inr ((k.held i h r e).0, cut (turns (c.state r lt) y.0)) | inr y ↦ inl y.1 ]
    | inr e ↦ elim (c.state r lt) [ inl u ↦ inr (e.0, cut u.1) | inr u ↦ inr (e.0, elim e.1 [ inl b ↦ inl (u.1 ∙ b) | inr b ↦ inr (u.1 ∙ b) ]) ]
  ]
    where
      cut : state' r ≡ x → (state' r ≡ RELEASED) ⊎ (state' r ≡ LEAVING)
      cut e = elim c.kind [ inl f ↦ inl (e ∙ f) | inr f ↦ inr (e ∙ f.0) ]

  dropped_imaged : Holds (Rules.imaged z after)
  dropped_imaged i h r p = elim (c.image i h r p) [
    | inl t ↦ inl t.1.1
    | inr t ↦ let lt = k.image_fit_holds i h r t.1 in elim (k.imaged i h r t.1) [
      | inl e ↦ elim (c.address i h r e) [ inl y ↦ let o = (k.held i h r e).0 in inr (o, cut t.0 o y.0 (turns (c.state r lt) y.0)) | inr y ↦ inl y.1 ]
      | inr e ↦ elim (c.state r lt) [ inl u ↦ inr (e.0, cut t.0 e.0 u.0 u.1) | inr u ↦ inr (e.0, u.1 ∙ e.1) ]
    ]
  ]
    where
      cut : ¬ (B (slot_of z i)) → v.owner r ≡ slot_of z i → D r → state' r ≡ x → state' r ≡ RELEASED
      cut n o b e = elim c.kind [ inl f ↦ e ∙ f | inr f ↦ absurd (n (subst B (sym (c.own r b) ∙ o) f.1)) ]

  dropped_image_once : Holds (Rules.image_once z after)
  dropped_image_once i hi j hj r p q e = elim (c.image i hi r p) [
    | inl t ↦ elim (c.image j hj r q) [ inl u ↦ k.held_once_holds i hi j hj r t.1.0 u.1.0 | inr u ↦ absurd (u.0 (subst B e t.0)) ]
    | inr t ↦ elim (c.image j hj r q) [ inl u ↦ absurd (t.0 (subst B (sym e) u.0)) | inr u ↦ k.image_once_holds i hi j hj r t.1 u.1 e ]
  ]

  dropped_leaving : Holds (Rules.leaving_begun z after)
  dropped_leaving r h e = let u = c.updating (v.owner r) (k.owner_fit_holds r h) in elim (c.state r h) [
    | inl t ↦ elim c.kind [ inl f ↦ absurd (omega (arith, e, t.1, f)) | inr f ↦ turns u (subst B (sym (c.own r t.0)) f.1) ]
    | inr t ↦ elim u [ inl b ↦ b.1 | inr b ↦ b.1 ∙ k.leaving_begun_holds r h (sym t.1 ∙ e) ]
  ]

  pub dropped_keeps : OnDisk z after × OfRecords z after
  dropped_keeps = (
    disk_alone z v d _ _ _ _ _ _ _,
    record {
      address_fit_holds = λ i h r p. k.address_fit_holds i h r (still i h r p).0;
      image_fit_holds = λ i h r p. elim (c.image i h r p) [ inl t ↦ k.address_fit_holds i h r t.1.0 | inr t ↦ k.image_fit_holds i h r t.1 ];
      state_fit_holds = λ r h. elim (c.state r h) [
        | inl t ↦ elim c.kind [ inl g ↦ omega (arith, t.1, g) | inr g ↦ omega (arith, t.1, g.0) ]
        | inr t ↦ omega (arith, t.1, k.state_fit_holds r h)
      ];
      owner_fit_holds = k.owner_fit_holds;
      active_fit_holds = k.active_fit_holds;
      updating_fit_holds = λ t h. elim (c.updating t h) [ inl u ↦ omega (arith, u.1) | inr u ↦ omega (arith, u.1, k.updating_fit_holds t h) ];
      held_once_holds = λ i hi j hj r p q. k.held_once_holds i hi j hj r (still i hi r p).0 (still j hj r q).0;
      held = λ i h r p. let t = still i h r p in let w = k.held i h r t.0 in (w.0, elim w.1 [ inl e ↦ inl (t.1 ∙ e) | inr e ↦ inr (t.1 ∙ e) ]);
      held_by_holds = λ r h e. let o : (¬ (D r)) × ((v.state r ≡ NULLED) ⊎ (v.state r ≡ LIVE)) = elim e [
        | inl n ↦ (let t = old r NULLED h n (omega arith) (omega arith) in (t.0, inl t.1))
        | inr n ↦ (let t = old r LIVE h n (omega arith) (omega arith) in (t.0, inr t.1))
      ] in let b = k.held_by_holds r h o.1 in (b.0, b.1, stays (c.address b.0 b.1 r b.2) o.0);
      filed = λ i h r p a. let g = k.filed i h r p a in
          (g.0, stays (c.state r (d.map_fit_holds i h r p)) (λ u. a (subst (λ (t : ℕ). v.active t ≡ 1) (sym (c.own r u) ∙ g.0) c.on)) ∙ g.1);
      filed_by_holds = λ r h e. k.filed_by_holds r h (old r FILED h e (omega arith) (omega arith)).1;
      mapped = dropped_mapped;
      imaged = dropped_imaged;
      image_once_holds = dropped_image_once;
      image_zero_holds = λ i h r p. let u = c.updating (slot_of z i) (slot_below z pos i h) in elim (c.image i h r p) [ inl t ↦ turns u t.0 | inr t ↦ stays u t.0 ∙ k.image_zero_holds i h r t.1 ];
      leaving_begun_holds = dropped_leaving;
      active_filled_holds = k.active_filled_holds;
      address_active_holds = λ i h r p. k.address_active_holds i h r (still i h r p).0;
      update_active_holds = λ t h e. elim (c.updating t h) [ inl u ↦ subst (λ (n : ℕ). v.active n ≡ 1) (sym (c.only t u.0)) c.on | inr u ↦ k.update_active_holds t h (sym u.1 ∙ e) ];
    },
  )

  pub dropped_moves : Moves z v.state state'
  dropped_moves r h = elim (c.state r h) [ inl t ↦ inr (subst (λ (y : ℕ). T (by_event (v.state r) y)) (sym t.1) (c.line r t.0)) | inr t ↦ inl t.1 ]

  -- what is released is of the slot, which is active
  pub dropped_tidy : Tidy z v.state v.owner v.active → Tidy z state' v.owner v.active
  dropped_tidy t = record {
    free = λ r h e. t.free r h (old r FREE h e (omega arith) (omega arith)).1;
    released = λ r h e. elim (c.state r h) [ inl u ↦ subst (λ (m : ℕ). v.active m ≡ 1) (sym (c.own r u.0)) c.on | inr u ↦ t.released r h (sym u.1 ∙ e) ];
  }

module _ (z : Sizes) (st : State) (f : Fit z st) (r : Ruled z st) (s : ℕ) (on : (files st).active s ≡ 1) where
  abbrev v : Files
  v = files st

  pub truncate_dropped : (k : ℕ) → (let w = files (Writeback.truncate z st s k) in Dropped z s RELEASED (λ q. Holds (Writeback.cut_record z st s k q)) (λ t. ⊥) v w.address w.state w.updating w.image)
  unfolding Writeback.truncate counted
  truncate_dropped k = record {
    on = on;
    kind = inl refl;
    only = λ t e. absurd e;
    own = λ q c. (r.records.held c.0 c.1 q c.2.1).0 ∙ c.2.0.0;
    line = λ q c. elim (r.records.held c.0 c.1 q c.2.1).1 [ inl e ↦ along_line 2 (omega arith) e refl | inr e ↦ along_line 5 (omega arith) e refl ];
    address = λ i h q e. elim (at_store st.memory.held.addresses (from_page z s k) (λ i. 0) i (rw f.memory.addresses h)) [
      | inl t ↦ inl ((i, h, (t.0, e)), t.1)
      | inr t ↦ inr (λ c. t.0 (subst (λ (j : ℕ). Holds (from_page z s k j)) (r.records.held_once_holds c.0 c.1 i h q c.2.1 e) c.2.0), t.1 ∙ e)
    ];
    none = λ i h e. elim (at_store st.memory.held.addresses (from_page z s k) (λ i. 0) i (rw f.memory.addresses h)) [ inl t ↦ t.1 | inr t ↦ t.1 ∙ e ];
    state = λ q h. at_store st.memory.held.states (Writeback.cut_record z st s k) (λ r. RELEASED) q (rw f.memory.states h);
    updating = λ t h. inr (λ e. e, refl);
    image = λ i h q p. inr (λ e. e, p);
  }

  pub update_dropped : s < z.slots → (let w = files (Writeback.update z st s) in Dropped z s LEAVING (λ q. Holds (Writeback.leaving_record z st s q)) (λ t. t ≡ s) v w.address w.state w.updating w.image)
  unfolding Writeback.update counted
  update_dropped hs = record {
    on = on;
    kind = inr (refl, refl);
    only = λ t e. e;
    line = λ q c. elim c [ inl b ↦ along_line 3 (omega arith) (nulled q b) refl | inr b ↦ along_line 7 (omega arith) b.1 refl ];
    own = λ q c. elim c [ inl b ↦ (r.records.held b.0 b.1 q b.2.1).0 ∙ b.2.0.0 | inr b ↦ b.0 ];
    address = address;
    none = λ i h e. elim (at_store st.memory.held.addresses (Writeback.leaving_page z st s) (λ i. 0) i (rw f.memory.addresses h)) [ inl t ↦ t.1 | inr t ↦ t.1 ∙ e ];
    state = λ q h. at_store st.memory.held.states (Writeback.leaving_record z st s) (λ r. LEAVING) q (rw f.memory.states h);
    updating = λ t h. split_set st.memory.slots.updating s 1 t (rw f.memory.updating hs);
    image = λ i h q p. elim (at_store st.memory.slots.images (of_slot z s) (would_store z st) i (rw f.memory.images h)) [
      | inl t ↦ let w = would_live z st i q (sym t.1 ∙ p) in inl (t.0, (w.0, stays (address i h q w.0) (alive q w.1)))
      | inr t ↦ inr (t.0, sym t.1 ∙ p)
    ];
  }
    where
      -- the record of a page that leaves is nulled
      nulled : (q : ℕ) → Holds (some (all_pages z) (λ i. Writeback.leaving_page z st s i and same (v.address i) (suc q))) → v.state q ≡ NULLED
      nulled q b = subst (λ (m : ℕ). v.state m ≡ NULLED) (omega (arith, b.2.0.1.0.1, b.2.1)) b.2.0.1.0.2

      -- a live record does not leave
      alive : (q : ℕ) → v.state q ≡ LIVE → ¬ (Holds (Writeback.leaving_record z st s q))
      alive q e (inl b) = omega (arith, e, nulled q b)
      alive q e (inr b) = omega (arith, e, b.1)

      address : (i : ℕ) → i < all_pages z → (q : ℕ) → v.address i ≡ suc q → Split (Holds (Writeback.leaving_record z st s q)) ((files (Writeback.update z st s)).address i) 0 (suc q)
      address i h q e = elim (at_store st.memory.held.addresses (Writeback.leaving_page z st s) (λ i. 0) i (rw f.memory.addresses h)) [
        | inl t ↦ inl (inl (i, h, (t.0, e)), t.1)
        | inr t ↦ inr (
          λ c. elim c [
            | inl b ↦ t.0 (subst (λ (j : ℕ). Holds (Writeback.leaving_page z st s j)) (r.records.held_once_holds b.0 b.1 i h q b.2.1 e) b.2.0)
            | inr b ↦ elim (r.records.held i h q e).1 [ inl u ↦ omega (arith, u, b.1) | inr u ↦ omega (arith, u, b.1) ]
          ],
          t.1 ∙ e,
        )
      ]

module _ (z : Sizes) (st : State) (f : Fit z st) (r : Ruled z st) where
  pub truncate_records : (s k : ℕ) → Asked (questions z st (Event.Writeback (Truncate s k))) → Kept z (Writeback.truncate z st s k)
  unfolding Writeback.truncate counted
  truncate_records s k a = dropped_keeps z f.sizes.pages s RELEASED _ _ (files st) r.disk r.records _ _ _ _ (truncate_dropped z st f r s a.1.1.0 k)

  pub update_records : (s : ℕ) → Asked (questions z st (Event.Writeback (Update s))) → Kept z (Writeback.update z st s)
  unfolding Writeback.update counted
  update_records s a = dropped_keeps z f.sizes.pages s LEAVING _ _ (files st) r.disk r.records _ _ _ _ (update_dropped z st f r s a.1.1.0 a.0)
