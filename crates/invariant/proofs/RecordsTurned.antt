-- Activate and deactivate: a slot is turned on or off, and its listed records turn live or filed. Both keep the rules of disk, pages, records and slots.
use mathlib.Core.Path.{◌≡◌, refl, sym, ◌∙◌, subst}
use mathlib.Core.Logic.{◌⊎◌, inl, inr}
use Prim.Native.Nat.{ℕ, suc, ◌<◌}
use native.Mathlib.Omega.{arith}
use Rattle.tables.specs.Questions.{Asked}
use Rattle.tables.specs.Rule.{Holds, same, ◌and◌}
use Rattle.tables.specs.Store.{Split, at_store}
use Rattle.model.specs.declared.sizes.Sizes.{Sizes}
use Rattle.model.specs.declared.event.Event.TheVariants as Event
use Rattle.model.specs.declared.event.Design.TheVariants.{Activate, Deactivate}
use Rattle.model.specs.Lines.{FREE, FILED, LIVE, RELEASED, LEAVING}
use Rattle.model.specs.State.{State, Files, files, all_pages, slot_of}
use Rattle.model.specs.Setters.{counted}
use Rattle.model.specs.Parts.{of_slot}
use Rattle.model.specs.Questions.{questions, would_store}
use Rattle.model.specs.Rules
use Rattle.model.specs.Laws.Ruled.{OnDisk, OfRecords, Ruled}
use Rattle.model.specs.Laws.Fit.{Fit}
use Rattle.model.specs.Designs
use Rattle.model.specs.Laws.Index.{slot_below, split_set, of_pages}
use Rattle.invariant.proofs.Records.{disk_alone, Kept, Moves, Tidy, along_line, was, turns, stays, would_live, live_would}

-- the two ways: on, filed to live, addresses from the map; off, live to filed, no address
pub record On (v : Files) (s x y b : ℕ) (new : ℕ → ℕ) : Type 0 where
  pub from : x ≡ FILED
  pub to : y ≡ LIVE
  pub switch : b ≡ 1
  pub address : (i : ℕ) → new i ≡ v.map i
  pub filled : 0 < v.number s

pub record Off (x y b : ℕ) (new : ℕ → ℕ) : Type 0 where
  pub from : x ≡ LIVE
  pub to : y ≡ FILED
  pub switch : b ≡ 0
  pub address : (i : ℕ) → new i ≡ 0

-- Slot s, in no update, takes the switch b, and its records in state x become y. These are the ones its map lists, and its pages hold no others.
pub record Turned (z : Sizes) (s x y b : ℕ) (new : ℕ → ℕ) (v : Files) (address' state' active' : ℕ → ℕ) : Type 0 where
  pub way : On v s x y b new ⊎ Off x y b new
  pub quiet : ¬ (v.updating s ≡ 1)
  pub address : (i : ℕ) → i < all_pages z → Split (slot_of z i ≡ s) (address' i) (new i) (v.address i)
  pub state : (r : ℕ) → r < z.records → Split ((v.state r ≡ x) × (v.owner r ≡ s)) (state' r) y (v.state r)
  pub active : (t : ℕ) → t < z.slots → Split (t ≡ s) (active' t) b (v.active t)
  pub listed : (i : ℕ) → i < all_pages z → slot_of z i ≡ s → (r : ℕ) → v.map i ≡ suc r → (v.state r ≡ x) × (v.owner r ≡ s)
  pub listing : (r : ℕ) → r < z.records → v.state r ≡ x → v.owner r ≡ s → (i : ℕ) × (i < all_pages z) × (slot_of z i ≡ s) × (v.map i ≡ suc r)
  pub holds : (i : ℕ) → i < all_pages z → slot_of z i ≡ s → (r : ℕ) → v.address i ≡ suc r → v.state r ≡ x

module _ (z : Sizes) (pos : 0 < z.pages) (s x y b : ℕ) (new : ℕ → ℕ) (v : Files) (d : OnDisk z v) (k : OfRecords z v) (address' state' active' : ℕ → ℕ)
    (c : Turned z s x y b new v address' state' active') where
  abbrev after : Files
  after = record { number = v.number; account = v.account; limit = v.limit; parent = v.parent; map = v.map; address = address'; state = state'; owner = v.owner; active = active'; updating = v.updating; image = v.image }

  -- filed and live apart, states stay
  keeps : (r w : ℕ) → r < z.records → v.state r ≡ w → ¬ (w ≡ FILED) → ¬ (w ≡ LIVE) → state' r ≡ w
  keeps r w h e m n = stays (c.state r h) (λ t. elim c.way [ inl u ↦ m (sym e ∙ t.0 ∙ u.from) | inr u ↦ n (sym e ∙ t.0 ∙ u.from) ]) ∙ e

  old : (r w : ℕ) → r < z.records → state' r ≡ w → ¬ (w ≡ FILED) → ¬ (w ≡ LIVE) → v.state r ≡ w
  old r w h e m n = (was (c.state r h) e (λ t. elim c.way [ inl u ↦ n (t ∙ u.to) | inr u ↦ m (t ∙ u.to) ])).1

  -- so do those of other slots
  foreign : (r : ℕ) → r < z.records → (i : ℕ) → v.owner r ≡ slot_of z i → ¬ (slot_of z i ≡ s) → state' r ≡ v.state r
  foreign r h i e n = stays (c.state r h) (λ t. n (sym e ∙ t.1))

  -- an address that the slot has now
  given : (i : ℕ) → i < all_pages z → slot_of z i ≡ s → (r : ℕ) → new i ≡ suc r → On v s x y b new × (v.map i ≡ suc r)
  given i h e r p = elim c.way [ inl u ↦ (u, sym (u.address i) ∙ p) | inr u ↦ absurd (omega (arith, u.address i, p)) ]

  -- the switch of a page's slot
  switch : (i : ℕ) → i < all_pages z → Split (slot_of z i ≡ s) (active' (slot_of z i)) b (v.active (slot_of z i))
  switch i h = c.active (slot_of z i) (slot_below z pos i h)

  turned_held : Holds (Rules.held z after)
  turned_held i h r p = elim (c.address i h) [
    | inl t ↦ let g = given i h t.0 r (sym t.1 ∙ p) in let l = c.listed i h t.0 r g.1 in (l.1 ∙ sym t.0, inr (turns (c.state r (d.map_fit_holds i h r g.1)) l ∙ g.0.to))
    | inr t ↦ let q : v.address i ≡ suc r = sym t.1 ∙ p in let o = k.held i h r q in
        let e = foreign r (k.address_fit_holds i h r q) i o.0 t.0 in (o.0, elim o.1 [ inl w ↦ inl (e ∙ w) | inr w ↦ inr (e ∙ w) ])
  ]

  turned_held_once : Holds (Rules.held_once z after)
  turned_held_once i hi j hj r p q = let same : slot_of z i ≡ slot_of z j = sym (turned_held i hi r p).0 ∙ (turned_held j hj r q).0 in elim (c.address i hi) [
    | inl t ↦ let e : slot_of z j ≡ s = sym same ∙ t.0 in
        d.map_once_holds i hi j hj r (given i hi t.0 r (sym t.1 ∙ p)).1 (given j hj e r (sym (turns (c.address j hj) e) ∙ q)).1
    | inr t ↦ k.held_once_holds i hi j hj r (sym t.1 ∙ p) (sym (stays (c.address j hj) (λ e. t.0 (same ∙ e))) ∙ q)
  ]

  turned_held_by : Holds (Rules.held_by z after)
  turned_held_by r h e = elim (c.state r h) [
    | inl t ↦ elim c.way [
      | inl u ↦ let l = c.listing r h t.0.0 t.0.1 in (l.0, l.1, turns (c.address l.0 l.1) l.2 ∙ u.address l.0 ∙ l.3)
      | inr u ↦ elim e [ inl w ↦ absurd (omega (arith, w, t.1, u.to)) | inr w ↦ absurd (omega (arith, w, t.1, u.to)) ]
    ]
    | inr t ↦ let m = k.held_by_holds r h (elim e [ inl w ↦ inl (sym t.1 ∙ w) | inr w ↦ inr (sym t.1 ∙ w) ]) in
        (m.0, m.1, stays (c.address m.0 m.1) (λ n. t.0 (c.holds m.0 m.1 n r m.2, (k.held m.0 m.1 r m.2).0 ∙ n)) ∙ m.2)
  ]

  turned_filed : Holds (Rules.filed z after)
  turned_filed i h r p a = elim (switch i h) [
    | inl t ↦ elim c.way [
      | inl u ↦ absurd (a (t.1 ∙ u.switch))
      | inr u ↦ let l = c.listed i h t.0 r p in (l.1 ∙ sym t.0, turns (c.state r (d.map_fit_holds i h r p)) l ∙ u.to)
    ]
    | inr t ↦ let o = k.filed i h r p (λ e. a (t.1 ∙ e)) in (o.0, foreign r (d.map_fit_holds i h r p) i o.0 t.0 ∙ o.1)
  ]

  turned_filed_by : Holds (Rules.filed_by z after)
  turned_filed_by r h e = elim (c.state r h) [
    | inl t ↦ elim c.way [
      | inl u ↦ absurd (omega (arith, e, t.1, u.to))
      | inr u ↦ let l = c.listing r h t.0.0 t.0.1 in (l.0, l.1, (l.3, λ a. omega (arith, a, turns (switch l.0 l.1) l.2, u.switch)))
    ]
    | inr t ↦ let m = k.filed_by_holds r h (sym t.1 ∙ e) in
        (m.0, m.1, (m.2.0, λ a. m.2.1 (sym (stays (switch m.0 m.1) (λ n. t.0 (c.listed m.0 m.1 n r m.2.0))) ∙ a)))
  ]

  turned_mapped : Holds (Rules.mapped z after)
  turned_mapped i h r p a = elim (switch i h) [
    | inl t ↦ elim c.way [
      | inl u ↦ inl (turns (c.address i h) t.0 ∙ u.address i ∙ p)
      | inr u ↦ absurd (omega (arith, a, t.1, u.switch))
    ]
    | inr t ↦ let lt = d.map_fit_holds i h r p in elim (k.mapped i h r p (sym t.1 ∙ a)) [
      | inl e ↦ inl (stays (c.address i h) t.0 ∙ e)
      | inr e ↦ inr (e.0, elim e.1 [ inl w ↦ inl (keeps r RELEASED lt w (omega arith) (omega arith)) | inr w ↦ inr (keeps r LEAVING lt w (omega arith) (omega arith)) ])
    ]
  ]

  -- an image is another slot's
  away : (i : ℕ) → i < all_pages z → (r : ℕ) → v.image i ≡ suc r → ¬ (slot_of z i ≡ s)
  away i h r p e = c.quiet (subst (λ (t : ℕ). v.updating t ≡ 1) e (k.image_zero_holds i h r p))

  pub turned_keeps : OnDisk z after × OfRecords z after
  turned_keeps = (
    disk_alone z v d _ _ _ _ _ _ _,
    record {
      address_fit_holds = λ i h r p. elim (c.address i h) [ inl t ↦ d.map_fit_holds i h r (given i h t.0 r (sym t.1 ∙ p)).1 | inr t ↦ k.address_fit_holds i h r (sym t.1 ∙ p) ];
      image_fit_holds = k.image_fit_holds;
      state_fit_holds = λ r h. elim (c.state r h) [
        | inl t ↦ elim c.way [ inl u ↦ omega (arith, t.1, u.to) | inr u ↦ omega (arith, t.1, u.to) ]
        | inr t ↦ omega (arith, t.1, k.state_fit_holds r h)
      ];
      owner_fit_holds = k.owner_fit_holds;
      active_fit_holds = λ t h. elim (c.active t h) [
        | inl e ↦ elim c.way [ inl u ↦ omega (arith, e.1, u.switch) | inr u ↦ omega (arith, e.1, u.switch) ]
        | inr e ↦ omega (arith, e.1, k.active_fit_holds t h)
      ];
      updating_fit_holds = k.updating_fit_holds;
      held_once_holds = turned_held_once;
      held = turned_held;
      held_by_holds = turned_held_by;
      filed = turned_filed;
      filed_by_holds = turned_filed_by;
      mapped = turned_mapped;
      imaged = λ i h r p. elim (k.imaged i h r p) [
        | inl e ↦ inl (stays (c.address i h) (away i h r p) ∙ e)
        | inr e ↦ inr (e.0, keeps r RELEASED (k.image_fit_holds i h r p) e.1 (omega arith) (omega arith))
      ];
      image_once_holds = k.image_once_holds;
      image_zero_holds = k.image_zero_holds;
      leaving_begun_holds = λ r h e. k.leaving_begun_holds r h (old r LEAVING h e (omega arith) (omega arith));
      active_filled_holds = λ t h a. elim (c.active t h) [
        | inl e ↦ elim c.way [ inl u ↦ subst (λ (m : ℕ). 0 < v.number m) (sym e.0) u.filled | inr u ↦ absurd (omega (arith, a, e.1, u.switch)) ]
        | inr e ↦ k.active_filled_holds t h (sym e.1 ∙ a)
      ];
      address_active_holds = λ i h r p. elim (c.address i h) [
        | inl t ↦ turns (switch i h) t.0 ∙ (given i h t.0 r (sym t.1 ∙ p)).0.switch
        | inr t ↦ stays (switch i h) t.0 ∙ k.address_active_holds i h r (sym t.1 ∙ p)
      ];
      update_active_holds = λ t h e. stays (c.active t h) (λ n. c.quiet (subst (λ (m : ℕ). v.updating m ≡ 1) n e)) ∙ k.update_active_holds t h e;
    },
  )

  -- filed to live; live to filed
  pub turned_moves : Moves z v.state state'
  turned_moves r h = elim (c.state r h) [
    | inl t ↦ elim c.way [
      | inl u ↦ inr (along_line 10 (omega arith) (t.0.0 ∙ u.from) (t.1 ∙ u.to))
      | inr u ↦ inr (along_line 6 (omega arith) (t.0.0 ∙ u.from) (t.1 ∙ u.to))
    ]
    | inr t ↦ inl t.1
  ]

  -- a slot that is turned off has no released record
  pub turned_tidy : (Off x y b new → (r : ℕ) → r < z.records → v.owner r ≡ s → ¬ (v.state r ≡ RELEASED)) → Tidy z v.state v.owner v.active → Tidy z state' v.owner active'
  turned_tidy none t = record {
    free = λ r h e. t.free r h (old r FREE h e (omega arith) (omega arith));
    released = λ r h e. let o = old r RELEASED h e (omega arith) (omega arith) in elim (c.active (v.owner r) (k.owner_fit_holds r h)) [
      | inl u ↦ u.1 ∙ elim c.way [ inl w ↦ w.switch | inr w ↦ absurd (none w r h u.0 o) ]
      | inr u ↦ u.1 ∙ t.released r h o
    ];
  }

module _ (z : Sizes) (st : State) (f : Fit z st) (r : Ruled z st) where
  abbrev v : Files
  v = files st

  pub activate_turned : (s : ℕ) → Asked (questions z st (Event.Design (Activate s))) →
      (let w = files (Designs.activate z st s) in Turned z s FILED LIVE 1 v.map v w.address w.state w.active)
  unfolding Designs.activate counted
  activate_turned s a = record {
    way = inl (record { from = refl; to = refl; switch = refl; address = λ i. refl; filled = let n : ¬ (v.number s ≡ 0) = a.1.0 in omega (arith, n) });
    quiet = λ e. a.1.1.0 (r.records.update_active_holds s a.0 e);
    address = λ i h. at_store st.memory.held.addresses (of_slot z s) v.map i (rw f.memory.addresses h);
    state = λ q h. at_store st.memory.held.states (λ m. same (v.state m) FILED and same (v.owner m) s) (λ m. LIVE) q (rw f.memory.states h);
    active = λ t h. split_set st.memory.slots.active s 1 t (rw f.memory.active a.0);
    listed = λ i h e q p. let o = r.records.filed i h q p (λ n. a.1.1.0 (subst (λ (m : ℕ). v.active m ≡ 1) e n)) in (o.1, o.0 ∙ e);
    listing = λ q h e o. let l = r.records.filed_by_holds q h e in (l.0, l.1, sym (r.records.filed l.0 l.1 q l.2.0 l.2.1).0 ∙ o, l.2.0);
    holds = λ i h e q p. absurd (a.1.1.0 (subst (λ (m : ℕ). v.active m ≡ 1) e (r.records.address_active_holds i h q p)));
  }

  pub deactivate_turned : (s : ℕ) → Asked (questions z st (Event.Design (Deactivate s))) →
      (let w = files (Designs.deactivate z st s) in Turned z s LIVE FILED 0 (λ i. 0) v w.address w.state w.active)
  unfolding Designs.deactivate counted
  deactivate_turned s a = record {
    way = inr (record { from = refl; to = refl; switch = refl; address = λ i. refl });
    quiet = λ e. omega (arith, e, a.1.1.1.0);
    address = λ i h. at_store st.memory.held.addresses (of_slot z s) (λ i. 0) i (rw f.memory.addresses h);
    state = λ q h. at_store st.memory.held.states (λ m. same (v.state m) LIVE and same (v.owner m) s) (λ m. FILED) q (rw f.memory.states h);
    active = λ t h. split_set st.memory.slots.active s 0 t (rw f.memory.active a.0);
    listed = λ i h e q p. let w = would_live z st i q (sym (stored i e) ∙ p) in (w.1, (r.records.held i h q w.0).0 ∙ e);
    listing = λ q h e o. let l = r.records.held_by_holds q h (inr e) in let n : slot_of z l.0 ≡ s = sym (r.records.held l.0 l.1 q l.2).0 ∙ o in
        (l.0, l.1, n, stored l.0 n ∙ live_would z st l.0 q l.2 e);
    holds = λ i h e q p. let o = r.records.held i h q p in elim o.1 [
      | inl w ↦ absurd (a.1.1.1.1.1.0.1 q (r.records.address_fit_holds i h q p) (o.0 ∙ e) (inl w))
      | inr w ↦ w
    ];
  }
    where
      -- the map equals what an update now would store
      stored : (i : ℕ) → slot_of z i ≡ s → v.map i ≡ would_store z st i
      stored i e = of_pages z f.sizes.pages s (λ j. v.map j ≡ would_store z st j) a.1.1.1.1.1.0.0 i e

  pub activate_records : (s : ℕ) → Asked (questions z st (Event.Design (Activate s))) → Kept z (Designs.activate z st s)
  unfolding Designs.activate counted
  activate_records s a = turned_keeps z f.sizes.pages s FILED LIVE 1 v.map v r.disk r.records _ _ _ (activate_turned s a)

  pub deactivate_records : (s : ℕ) → Asked (questions z st (Event.Design (Deactivate s))) → Kept z (Designs.deactivate z st s)
  unfolding Designs.deactivate counted
  deactivate_records s a = turned_keeps z f.sizes.pages s LIVE FILED 0 (λ i. 0) v r.disk r.records _ _ _ (deactivate_turned s a)
