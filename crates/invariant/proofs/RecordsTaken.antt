-- A page takes a free record, or its record's state changes between nulled and live: the rules of disk, pages, records and slots stay.
use mathlib.Core.Path.{◌≡◌, refl, ap, sym, ◌∙◌, subst}
use mathlib.Core.Logic.{◌⊎◌, inl, inr}
use Prim.Native.Nat.{ℕ, suc, ◌<◌}
use native.Mathlib.Omega.{arith}
use native.Mathlib.Decide.{ℕ_discrete}
use lib.ListN.{set}
use Rattle.tables.specs.Rule.{Holds}
use Rattle.tables.specs.Store.{Split}
use Rattle.model.specs.declared.sizes.Sizes.{Sizes}
use Rattle.model.specs.Lines.{FREE, FILED, NULLED, LIVE, RELEASED, LEAVING}
use Rattle.model.specs.State.{State, Files, files, all_pages, slot_of}
use Rattle.model.specs.Setters.{on_held, set_states}
use Rattle.model.specs.Pages
use Rattle.model.specs.Rules
use Rattle.model.specs.Laws.Ruled.{OnDisk, OfRecords, Ruled}
use Rattle.model.specs.Laws.Fit.{Fit}
use Rattle.model.specs.Laws.Index.{slot_below, split_set}
use Rattle.invariant.proofs.Records.{disk_alone, Done, Moves, Tidy, along_line, was, turns, stays}

-- Page i, of an active slot, holds record q then, nulled or live; before, it held q or had no address and q was free.
pub record Taken (z : Sizes) (i q x : ℕ) (v : Files) (address' state' owner' : ℕ → ℕ) : Type 0 where
  pub inside : i < all_pages z
  pub exists : q < z.records
  pub on : v.active (slot_of z i) ≡ 1
  pub kind : (x ≡ NULLED) ⊎ (x ≡ LIVE)
  pub before : ((v.address i ≡ 0) × (v.state q ≡ FREE) × (x ≡ NULLED)) ⊎ (v.address i ≡ suc q)
  pub address : (j : ℕ) → Split (j ≡ i) (address' j) (suc q) (v.address j)
  pub state : (r : ℕ) → Split (r ≡ q) (state' r) x (v.state r)
  pub owner : (r : ℕ) → Split (r ≡ q) (owner' r) (slot_of z i) (v.owner r)

module _ (z : Sizes) (pos : 0 < z.pages) (i q x : ℕ) (v : Files) (d : OnDisk z v) (k : OfRecords z v) (address' state' owner' : ℕ → ℕ) (c : Taken z i q x v address' state' owner') where
  abbrev after : Files
  after = record { number = v.number; account = v.account; limit = v.limit; parent = v.parent; map = v.map; address = address'; state = state'; owner = owner'; active = v.active; updating = v.updating; image = v.image }

  -- the record was free, nulled or live
  other : (r y : ℕ) → v.state r ≡ y → ¬ (y ≡ FREE) → ¬ (y ≡ NULLED) → ¬ (y ≡ LIVE) → ¬ (r ≡ q)
  other r y e a b l n = let u : v.state q ≡ y = subst (λ (m : ℕ). v.state m ≡ y) n e in elim c.before [
    | inl t ↦ a (sym u ∙ t.1)
    | inr t ↦ elim (k.held i c.inside q t).1 [ inl w ↦ b (sym u ∙ w) | inr w ↦ l (sym u ∙ w) ]
  ]

  -- no other page held it
  mine : (j : ℕ) → j < all_pages z → v.address j ≡ suc q → j ≡ i
  mine j h p = elim c.before [
    | inl t ↦ elim (k.held j h q p).1 [ inl w ↦ absurd (omega (arith, w, t.1)) | inr w ↦ absurd (omega (arith, w, t.1)) ]
    | inr t ↦ k.held_once_holds j h i c.inside q p t
  ]

  now : (j : ℕ) → j < all_pages z → (r : ℕ) → address' j ≡ suc r → ((j ≡ i) × (r ≡ q)) ⊎ ((¬ (r ≡ q)) × (v.address j ≡ suc r))
  now j h r p = elim (c.address j) [
    | inl t ↦ inl (t.0, omega (arith, t.1, p))
    | inr t ↦ let e : v.address j ≡ suc r = sym t.1 ∙ p in inr (λ n. t.0 (mine j h (e ∙ ap suc n)), e)
  ]

  -- a page that had an address has it still
  keeps : (j : ℕ) → j < all_pages z → (r : ℕ) → v.address j ≡ suc r → address' j ≡ suc r
  keeps j h r p = elim (c.address j) [
    | inl t ↦ elim c.before [
      | inl b ↦ absurd (omega (arith, b.0, subst (λ (m : ℕ). v.address m ≡ suc r) t.0 p))
      | inr b ↦ t.1 ∙ sym b ∙ subst (λ (m : ℕ). v.address m ≡ suc r) t.0 p
    ]
    | inr t ↦ t.1 ∙ p
  ]

  -- a record in another state keeps state and slot
  same_state : (r y : ℕ) → v.state r ≡ y → ¬ (r ≡ q) → state' r ≡ y
  same_state r y e n = stays (c.state r) n ∙ e

  old : (r y : ℕ) → state' r ≡ y → ¬ (y ≡ NULLED) → ¬ (y ≡ LIVE) → (¬ (r ≡ q)) × (v.state r ≡ y)
  old r y e a b = was (c.state r) e (λ w. elim c.kind [ inl g ↦ a (w ∙ g) | inr g ↦ b (w ∙ g) ])

  taken_held : Holds (Rules.held z after)
  taken_held j h r p = elim (now j h r p) [
    | inl t ↦ (
      turns (c.owner r) t.1 ∙ ap (λ (m : ℕ). slot_of z m) (sym t.0),
      elim c.kind [ inl g ↦ inl (turns (c.state r) t.1 ∙ g) | inr g ↦ inr (turns (c.state r) t.1 ∙ g) ],
    )
    | inr t ↦ let o = k.held j h r t.1 in
        (stays (c.owner r) t.0 ∙ o.0, elim o.1 [ inl w ↦ inl (same_state r NULLED w t.0) | inr w ↦ inr (same_state r LIVE w t.0) ])
  ]

  taken_held_by : Holds (Rules.held_by z after)
  taken_held_by r h e = elim (ℕ_discrete r q) [
    | yes n ↦ (i, c.inside, turns (c.address i) refl ∙ ap suc (sym n))
    | no n ↦ let s = stays (c.state r) n in let b = k.held_by_holds r h (elim e [ inl w ↦ inl (sym s ∙ w) | inr w ↦ inr (sym s ∙ w) ]) in (b.0, b.1, keeps b.0 b.1 r b.2)
  ]

  taken_keeps : OnDisk z after × OfRecords z after
  taken_keeps = (
    disk_alone z v d _ _ _ _ _ _ _,
    record {
      address_fit_holds = λ j h r p. elim (now j h r p) [ inl t ↦ omega (arith, t.1, c.exists) | inr t ↦ k.address_fit_holds j h r t.1 ];
      image_fit_holds = k.image_fit_holds;
      state_fit_holds = λ r h. elim (c.state r) [
        | inl t ↦ elim c.kind [ inl g ↦ omega (arith, t.1, g) | inr g ↦ omega (arith, t.1, g) ]
        | inr t ↦ omega (arith, t.1, k.state_fit_holds r h)
      ];
      owner_fit_holds = λ r h. elim (c.owner r) [
        | inl t ↦ subst (λ (m : ℕ). m < z.slots) (sym t.1) (slot_below z pos i c.inside)
        | inr t ↦ subst (λ (m : ℕ). m < z.slots) (sym t.1) (k.owner_fit_holds r h)
      ];
      active_fit_holds = k.active_fit_holds;
      updating_fit_holds = k.updating_fit_holds;
      held_once_holds = λ a ha b hb r p w. elim (now a ha r p) [
        | inl t ↦ elim (now b hb r w) [ inl u ↦ t.0 ∙ sym u.0 | inr u ↦ absurd (u.0 t.1) ]
        | inr t ↦ elim (now b hb r w) [ inl u ↦ absurd (t.0 u.1) | inr u ↦ k.held_once_holds a ha b hb r t.1 u.1 ]
      ];
      held = taken_held;
      held_by_holds = taken_held_by;
      filed = λ j h r p a. let o = k.filed j h r p a in let n = other r FILED o.1 (omega arith) (omega arith) (omega arith) in (stays (c.owner r) n ∙ o.0, same_state r FILED o.1 n);
      filed_by_holds = λ r h e. k.filed_by_holds r h (old r FILED e (omega arith) (omega arith)).1;
      mapped = λ j h r p a. elim (k.mapped j h r p a) [
        | inl e ↦ inl (keeps j h r e)
        | inr e ↦ elim e.1 [
          | inl w ↦ let n = other r RELEASED w (omega arith) (omega arith) (omega arith) in inr (stays (c.owner r) n ∙ e.0, inl (same_state r RELEASED w n))
          | inr w ↦ let n = other r LEAVING w (omega arith) (omega arith) (omega arith) in inr (stays (c.owner r) n ∙ e.0, inr (same_state r LEAVING w n))
        ]
      ];
      imaged = λ j h r p. elim (k.imaged j h r p) [
        | inl e ↦ inl (keeps j h r e)
        | inr e ↦ let n = other r RELEASED e.1 (omega arith) (omega arith) (omega arith) in inr (stays (c.owner r) n ∙ e.0, same_state r RELEASED e.1 n)
      ];
      image_once_holds = k.image_once_holds;
      image_zero_holds = k.image_zero_holds;
      leaving_begun_holds = λ r h e. let o = old r LEAVING e (omega arith) (omega arith) in subst (λ (m : ℕ). v.updating m ≡ 1) (sym (stays (c.owner r) o.0)) (k.leaving_begun_holds r h o.1);
      active_filled_holds = k.active_filled_holds;
      address_active_holds = λ j h r p. elim (now j h r p) [ inl t ↦ subst (λ (m : ℕ). v.active (slot_of z m) ≡ 1) (sym t.0) c.on | inr t ↦ k.address_active_holds j h r t.1 ];
      update_active_holds = k.update_active_holds;
    },
  )

  -- free to nulled; nulled to live; live to nulled
  taken_moves : Moves z v.state state'
  taken_moves r h = elim (c.state r) [
    | inl t ↦ elim c.before [
      | inl b ↦ inr (along_line 0 (omega arith) (ap v.state t.0 ∙ b.1) (t.1 ∙ b.2))
      | inr b ↦ elim (k.held i c.inside q b).1 [
        | inl w ↦ let e : v.state r ≡ NULLED = ap v.state t.0 ∙ w in elim c.kind [ inl g ↦ inl (t.1 ∙ g ∙ sym e) | inr g ↦ inr (along_line 1 (omega arith) e (t.1 ∙ g)) ]
        | inr w ↦ let e : v.state r ≡ LIVE = ap v.state t.0 ∙ w in elim c.kind [ inl g ↦ inr (along_line 4 (omega arith) e (t.1 ∙ g)) | inr g ↦ inl (t.1 ∙ g ∙ sym e) ]
      ]
    ]
    | inr t ↦ inl t.1
  ]

  taken_tidy : Tidy z v.state v.owner v.active → Tidy z state' owner' v.active
  taken_tidy t = record {
    free = λ r h e. let o = old r FREE e (omega arith) (omega arith) in stays (c.owner r) o.0 ∙ t.free r h o.1;
    released = λ r h e. let o = old r RELEASED e (omega arith) (omega arith) in subst (λ (m : ℕ). v.active m ≡ 1) (sym (stays (c.owner r) o.0)) (t.released r h o.1);
  }

  pub taken_done : (OnDisk z after × OfRecords z after) × Moves z v.state state' × (Tidy z v.state v.owner v.active → Tidy z state' owner' v.active)
  taken_done = (taken_keeps, taken_moves, taken_tidy)

-- a record's state alone changes
abbrev pub moved : State → ℕ → ℕ → State
moved st q x = on_held (λ m. set_states (set m.states q x) m) st

module _ (z : Sizes) (st : State) (f : Fit z st) (r : Ruled z st) (i q : ℕ) (h : i < all_pages z) where
  abbrev v : Files
  v = files st

  pub moved_taken : (x : ℕ) → (x ≡ NULLED) ⊎ (x ≡ LIVE) → v.address i ≡ suc q → Taken z i q x v v.address (files (moved st q x)).state v.owner
  moved_taken x e p = let lt = r.records.address_fit_holds i h q p in record {
    inside = h;
    exists = lt;
    on = r.records.address_active_holds i h q p;
    kind = e;
    before = inr p;
    address = λ j. elim (ℕ_discrete j i) [ yes n ↦ inl (n, ap v.address n ∙ p) | no n ↦ inr (n, refl) ];
    state = λ m. split_set st.memory.held.states q x m (rw f.memory.states lt);
    owner = λ m. elim (ℕ_discrete m q) [ yes n ↦ inl (n, ap v.owner n ∙ (r.records.held i h q p).0) | no n ↦ inr (n, refl) ];
  }

  pub moved_kept : (x : ℕ) → (x ≡ NULLED) ⊎ (x ≡ LIVE) → v.address i ≡ suc q → Done z st (moved st q x)
  moved_kept x e p = taken_done z f.sizes.pages i q x v r.disk r.records _ _ _ (moved_taken x e p)

  -- a free record is taken
  pub free_taken : q < z.records → v.active (slot_of z i) ≡ 1 → v.address i ≡ 0 → v.state q ≡ FREE →
      (let w = files (Pages.take_record z st i q) in Taken z i q NULLED v w.address w.state w.owner)
  unfolding Pages.take_record
  free_taken lt on p e = record {
    inside = h;
    exists = lt;
    on = on;
    kind = inl refl;
    before = inl (p, e, refl);
    address = λ j. split_set st.memory.held.addresses i (suc q) j (rw f.memory.addresses h);
    state = λ m. split_set st.memory.held.states q NULLED m (rw f.memory.states lt);
    owner = λ m. split_set st.memory.held.owners q (slot_of z i) m (rw f.memory.owners lt);
  }

  pub free_kept : q < z.records → v.active (slot_of z i) ≡ 1 → v.address i ≡ 0 → v.state q ≡ FREE → Done z st (Pages.take_record z st i q)
  unfolding Pages.take_record
  free_kept lt on p e = taken_done z f.sizes.pages i q NULLED v r.disk r.records _ _ _ (free_taken lt on p e)
