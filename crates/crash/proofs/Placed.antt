-- The last store: an empty slot takes number, account and a whole map of records that were free. It keeps the invariant of demand 3.
use mathlib.Core.Path.{◌≡◌, refl, ap, sym, ◌∙◌, subst}
use mathlib.Core.Bool.{Bool, true, false}
use mathlib.Core.List.{List, ◌∷◌}
use mathlib.Core.Logic.{◌⊎◌, inl, inr}
use Prim.Native.Nat.{ℕ, zero, suc, ◌+◌, ◌*◌, ◌%◌, ◌<◌, ◌≤◌}
use native.Mathlib.Omega.{arith}
use native.Mathlib.Decide.{ℕ_discrete}
use lib.Dec.{T}
use lib.ListN.{length}
use Rattle.tables.specs.Base.{at, if}
use Rattle.tables.specs.Rule.{test, told, untold}
use Rattle.tables.specs.Store.{Split}
use Rattle.model.specs.declared.sizes.Sizes.{Sizes}
use Rattle.model.specs.Lines.{FREE, FILED, LIVE}
use Rattle.model.specs.State.{Disk, State, files, frame_at, all_pages, slot_of}
use Rattle.model.specs.Laws.Ruled.{Ruled}
use Rattle.model.specs.Setters.{counted}
use Rattle.model.specs.Parts.{of_slot}
use Rattle.model.specs.Laws.Fit.{Fit}
use Rattle.model.specs.Ledger.{Ledger, Write, Update, put, over, set_text, set_design, set_stored}
use Rattle.model.specs.Demand3.{last_into, last_update}
use Rattle.model.specs.Laws.Index.{slot_below}
use Rattle.crash.proofs.Writes.{In, split_put, put_other, put_same, split_over, split_update}
use Rattle.crash.proofs.Link.{Owned, OfPage, Latest, Newest, Names, Tied}
use Rattle.crash.proofs.OneFrame.{in_frame_same, alike_same}

-- s: the slot; B: a record that it takes; entry: what it lists; x: the write into each such record; live: the pages listed
pub record Placing (z : Sizes) (st : State) (l : Ledger) (s : ℕ) (B : ℕ → Type 0) (number' map' state' : ℕ → ℕ) (text' : ℕ → ℕ → ℕ) (live : ℕ → Bool) : Type 0 where
  pub slot : s < z.slots
  pub off : ¬ (at st.memory.slots.active s ≡ 1)
  pub bare : (i : ℕ) → i < all_pages z → slot_of z i ≡ s → at st.disk.maps i ≡ 0
  -- the newest design is of no slot yet
  pub some : 0 < l.births
  pub fresh : (t : ℕ) → t < z.slots → ¬ (l.design t ≡ l.births)
  pub free : (r : ℕ) → B r → at st.memory.held.states r ≡ FREE
  -- what is stored
  pub number : (t : ℕ) → t < z.slots → ¬ (t ≡ s) → number' t ≡ at st.disk.numbers t
  pub map_other : (i : ℕ) → i < all_pages z → ¬ (slot_of z i ≡ s) → map' i ≡ at st.disk.maps i
  pub state : (r : ℕ) → Split (B r) (state' r) FILED (at st.memory.held.states r)
  -- each listed record has the last write of its page, which is the newest design's
  pub mine : (i : ℕ) → i < all_pages z → slot_of z i ≡ s → (r : ℕ) → map' i ≡ suc r → Owned z l.pack (at st.disk.records) (λ t. l.births) (last_into r l.finished) i r
  pub newest : (i : ℕ) → i < all_pages z → slot_of z i ≡ s → (r : ℕ) → map' i ≡ suc r → Latest z (λ t. l.births) l.finished i (last_into r l.finished)
  pub listed : (i : ℕ) → i < all_pages z → slot_of z i ≡ s → T (live (i % z.pages)) → (r : ℕ) × (map' i ≡ suc r)
  pub shown : (i : ℕ) → i < all_pages z → slot_of z i ≡ s → (r : ℕ) → map' i ≡ suc r → T (live (i % z.pages))
  pub text_none : (i : ℕ) → i < all_pages z → slot_of z i ≡ s → map' i ≡ 0 → (n : ℕ) → n < z.words → text' i n ≡ 0
  pub text_some : (i : ℕ) → i < all_pages z → slot_of z i ≡ s → (r : ℕ) → map' i ≡ suc r → (n : ℕ) → n < z.words → text' i n ≡ at st.disk.records (r * z.words + n)
  pub text_other : (i : ℕ) → ¬ (slot_of z i ≡ s) → (n : ℕ) → text' i n ≡ l.pages.text i n

module _ (z : Sizes) (st : State) (l : Ledger) (fit : Fit z st) (rules : Ruled z st) (k : Tied z st l) (s : ℕ) (B : ℕ → Type 0) (disk' : Disk) (states' owners' : List ℕ) (hand' : ℕ) (text' : ℕ → ℕ → ℕ) (live : ℕ → Bool)
    (same_records : disk'.records ≡ st.disk.records) (c : Placing z st l s B (at disk'.numbers) (at disk'.maps) (at states') text' live) where
  abbrev of : ℕ → ℕ
  of = l.design

  abbrev of' : ℕ → ℕ
  of' = put of s l.births

  abbrev word : ℕ → ℕ
  word = at st.disk.records

  abbrev map' : ℕ → ℕ
  map' = at disk'.maps

  abbrev u : Update
  u = record { design = l.births; live = live; after = length l.finished }

  abbrev kept' : ℕ → Bool
  kept' = over l.pages.kept (of_slot z s) false

  abbrev pub after : State
  after = record { disk = disk'; memory = record { core = st.memory.core; held = record { addresses = st.memory.held.addresses; states = states'; owners = owners'; free_map = st.memory.held.free_map; pool = record { hand = hand'; free = st.memory.held.pool.free } }; slots = st.memory.slots; chip = st.memory.chip; line = st.memory.line; used = st.memory.used } }

  abbrev pub ledger : Ledger
  ledger = set_stored (u ∷ l.stored) (set_text text' kept' (set_design l.births of' l))

  word_same : (j : ℕ) → at disk'.records j ≡ word j
  word_same j = ap (λ (x : List ℕ). at x j) same_records

  -- nothing of the slot was named
  address_other : (i : ℕ) → i < all_pages z → (r : ℕ) → at st.memory.held.addresses i ≡ suc r → ¬ (slot_of z i ≡ s)
  address_other i h r p e = c.off (rw e at (rules.records.address_active_holds i h r p))

  updating_other : (t : ℕ) → t < z.slots → at st.memory.slots.updating t ≡ 1 → ¬ (t ≡ s)
  updating_other t h a e = c.off (rw e at (rules.records.update_active_holds t h a))

  image_other : (i : ℕ) → i < all_pages z → (r : ℕ) → at st.memory.slots.images i ≡ suc r → ¬ (slot_of z i ≡ s)
  image_other i h r p = updating_other (slot_of z i) (slot_below z fit.sizes.pages i h) (rules.records.image_zero_holds i h r p)

  frame_other : (f : ℕ) → f < z.frames → (i : ℕ) → (frame_at st.memory.core.frames f).page ≡ suc i → ¬ (slot_of z i ≡ s)
  frame_other f h i p e = c.off (rw e at (rules.frames.active f h i p))

  in_slot : (i : ℕ) → i < all_pages z → slot_of z i < z.slots
  in_slot i h = slot_below z fit.sizes.pages i h

  -- another slot's map, and its design
  map_was : (i : ℕ) → i < all_pages z → ¬ (slot_of z i ≡ s) → (r : ℕ) → map' i ≡ suc r → at st.disk.maps i ≡ suc r
  map_was i h e r p = sym (c.map_other i h e) ∙ p

  same_of : (t : ℕ) → ¬ (t ≡ s) → of' t ≡ of t
  same_of t e = put_other of s l.births t e

  here_of : (t : ℕ) → t ≡ s → of' t ≡ l.births
  here_of t e = ap of' e ∙ put_same of s l.births

  own : (i r : ℕ) (x : Write) → ¬ (slot_of z i ≡ s) → Owned z l.pack word of x i r → Owned z l.pack (at disk'.records) of' x i r
  own i r x e o = let q = same_of (slot_of z i) e in elim o [
    | inl a ↦ inl (record { some = a.some; design = a.design ∙ sym q; page = a.page; words = λ n b. word_same _ ∙ a.words n b; counts = a.counts })
    | inr a ↦ inr (record { none = a.none; listed = a.listed; design = q ∙ a.design; words = λ n b. word_same _ ∙ a.words n b })
  ]

  own_here : (i r : ℕ) (x : Write) → slot_of z i ≡ s → Owned z l.pack word (λ t. l.births) x i r → Owned z l.pack (at disk'.records) of' x i r
  own_here i r x e o = let q = here_of (slot_of z i) e in elim o [
    | inl a ↦ inl (record { some = a.some; design = a.design ∙ sym q; page = a.page; words = λ n b. word_same _ ∙ a.words n b; counts = a.counts })
    | inr a ↦ inr (record { none = a.none; listed = a.listed; design = q ∙ a.design; words = λ n b. word_same _ ∙ a.words n b })
  ]

  of_page_holds : (i : ℕ) (y : Write) → ¬ (slot_of z i ≡ s) → OfPage z of' i y → OfPage z of i y
  of_page_holds i y e q = (q.0 ∙ same_of (slot_of z i) e, q.1)

  of_here : (i : ℕ) (y : Write) → slot_of z i ≡ s → OfPage z of' i y → OfPage z (λ t. l.births) i y
  of_here i y e q = (q.0 ∙ here_of (slot_of z i) e, q.1)

  -- the last update of another slot's design is as before, that of the slot's is this one
  update_other : (t : ℕ) → t < z.slots → ¬ (t ≡ s) → last_update (of' t) (u ∷ l.stored) ≡ last_update (of t) l.stored
  update_other t h e = ap (λ (a : ℕ). last_update a (u ∷ l.stored)) (same_of t e) ∙ elim (split_update u l.stored (of t)) [ inl y ↦ absurd (c.fresh t h (sym y.0)) | inr y ↦ y.1 ]

  update_here : (t : ℕ) → t ≡ s → last_update (of' t) (u ∷ l.stored) ≡ u
  update_here t e = ap (λ (a : ℕ). last_update a (u ∷ l.stored)) (here_of t e) ∙ elim (split_update u l.stored l.births) [ inl y ↦ y.1 | inr y ↦ absurd (y.0 refl) ]

  was_live : (r : ℕ) → at states' r ≡ LIVE → at st.memory.held.states r ≡ LIVE
  was_live r e = elim (c.state r) [ inl y ↦ absurd (omega (arith, y.1, e)) | inr y ↦ sym y.1 ∙ e ]

  stays_live : (r : ℕ) → at st.memory.held.states r ≡ LIVE → at states' r ≡ LIVE
  stays_live r e = elim (c.state r) [ inl y ↦ absurd (omega (arith, c.free r y.0, e)) | inr y ↦ y.1 ∙ e ]

  kept_was : (i : ℕ) → T (kept' i) → (¬ (slot_of z i ≡ s)) × T (l.pages.kept i)
  kept_was i t = elim (split_over l.pages.kept (of_slot z s) false i) [ inl x ↦ absurd (rw x.1 at t) | inr x ↦ (x.0, rw x.1 at t) ]

  pub placed_tied : Tied z (counted z after) ledger
  unfolding counted
  placed_tied = let d = k.disk.designs in let m = k.memory in record {
    disk = record {
      designs = record {
        born = λ t h e. elim (split_put of s l.births t) [ inl x ↦ rw x.1 c.some | inr x ↦ rw x.1 (d.born t h (λ a. e (c.number t h x.0 ∙ a))) ];
        distinct = λ i hi j hj r p e. elim (split_put of s l.births i) [
          | inl x ↦ elim (split_put of s l.births j) [ inl y ↦ x.0 ∙ sym y.0 | inr y ↦ absurd (c.fresh j hj (sym y.1 ∙ e ∙ sym p ∙ x.1)) ]
          | inr x ↦ elim (split_put of s l.births j) [ inl y ↦ absurd (c.fresh i hi (sym x.1 ∙ p ∙ sym e ∙ y.1)) | inr y ↦ d.distinct i hi j hj r (sym x.1 ∙ p) (sym y.1 ∙ e) ]
        ];
        young = λ t h. elim (split_put of s l.births t) [ inl x ↦ omega (arith, x.1) | inr x ↦ omega (arith, x.1, d.young t h) ];
        elder = d.elder;
        known = λ a p h t. elim (split_update u l.stored a) [
          | inl x ↦ elim h [ inl e ↦ omega (arith, x.0, e, c.some) | inr e ↦ omega (arith, x.0, e) ]
          | inr x ↦ d.known a p h (subst (λ (v : Update). T (v.live p)) x.1 t)
        ];
      };
      listing = let o = k.disk.listing in record {
        owned = λ i h r p. elim (ℕ_discrete (slot_of z i) s) [ yes e ↦ own_here i r _ e (c.mine i h e r p) | no e ↦ own i r _ e (o.owned i h r (map_was i h e r p)) ];
        numbered = o.numbered;
        after = λ a. elim (split_update u l.stored a) [ inl x ↦ rw x.1 (omega arith) | inr x ↦ rw x.1 (o.after a) ];
        listed = λ i h t. elim (ℕ_discrete (slot_of z i) s) [
          | yes e ↦ let b = c.listed i h e (subst (λ (v : Update). T (v.live (i % z.pages))) (update_here (slot_of z i) e) t) in
              (b.0, b.1, λ y j q g. c.newest i h e b.0 b.1 y j (of_here i y e q))
          | no e ↦ let v = update_other (slot_of z i) (in_slot i h) e in
              let b = o.listed i h (subst (λ (w : Update). T (w.live (i % z.pages))) v t) in
              (b.0, c.map_other i h e ∙ b.1, λ y j q g. b.2 y j (of_page_holds i y e q) (subst (λ (w : Update). y.serial ≤ w.after) v g))
        ];
        promised = λ i h r p g. elim (ℕ_discrete (slot_of z i) s) [
          | yes e ↦ subst (λ (v : Update). T (v.live (i % z.pages))) (sym (update_here (slot_of z i) e)) (c.shown i h e r p)
          | no e ↦ let v = update_other (slot_of z i) (in_slot i h) e in
              subst (λ (w : Update). T (w.live (i % z.pages))) (sym v) (o.promised i h r (map_was i h e r p) (ap (λ (w : Update). w.design) (sym v) ∙ g ∙ same_of (slot_of z i) e))
        ];
        newborn = λ i h a. elim (ℕ_discrete (slot_of z i) s) [
          | yes e ↦ absurd (a (ap (λ (v : Update). v.design) (update_here (slot_of z i) e) ∙ sym (here_of (slot_of z i) e)))
          | no e ↦ let q = same_of (slot_of z i) e in
              let b = o.newborn i h (λ g. a (ap (λ (v : Update). v.design) (update_other (slot_of z i) (in_slot i h) e) ∙ g ∙ sym q)) in
              record { old = λ g. c.map_other i h e ∙ b.old (sym q ∙ g); young = λ g. c.map_other i h e ∙ b.young (λ w. g (q ∙ w)) }
        ];
      };
    };
    memory = record {
      named = record {
        imaged = λ i h r p. own i r _ (image_other i h r p) (m.named.imaged i h r p);
        live = λ i h r p e. own i r _ (address_other i h r p) (m.named.live i h r p (was_live r e));
        latest = λ i h r p e y j q. m.named.latest i h r p (was_live r e) y j (of_page_holds i y (address_other i h r p) q);
        rested = λ i h a r p y j q. elim (ℕ_discrete (slot_of z i) s) [ yes e ↦ c.newest i h e r p y j (of_here i y e q) | no e ↦ m.named.rested i h a r (map_was i h e r p) y j (of_page_holds i y e q) ];
      };
      begun = let b = m.begun in record {
        only = b.only;
        opened = b.opened;
        design = λ t h e. b.design t h e ∙ sym (same_of t (updating_other t h e));
        ahead = b.ahead;
        promised = b.promised;
        listed = λ i h e t. let o = b.listed i h e t in (o.0, o.1, λ y j q g. o.2 y j (of_page_holds i y (image_other i h o.0 o.1) q) g);
      };
      lives = λ i h t. let b = m.lives i h t in (b.0, b.1, stays_live b.0 b.2);
      alive = λ i h r p e. m.alive i h r p (was_live r e);
      framed = λ f h. in_frame_same (m.framed f h) (alike_same refl) (λ n b. refl) refl refl refl (λ i p. let e = frame_other f h i p in (refl, (same_of (slot_of z i) e, (c.text_other i e, (refl, λ t. (kept_was i t).1)))));
      away = record {
        paged = λ i h a r p e n b. word_same _ ∙ m.away.paged i h a r p (was_live r e) n b ∙ sym (c.text_other i (address_other i h r p) n);
        void = λ i h o a v n b. c.text_other i (λ e. c.off (rw e at o)) n ∙ m.away.void i h o a (λ r p e. v r p (stays_live r e)) n b;
      };
      filed = λ i h a n b. elim (ℕ_discrete (slot_of z i) s) [
        | yes e ↦ (λ p. c.text_none i h e p n b, λ r p. c.text_some i h e r p n b ∙ sym (word_same _))
        | no e ↦ let o = m.filed i h a n b in (λ p. c.text_other i e n ∙ o.0 (sym (c.map_other i h e) ∙ p), λ r p. c.text_other i e n ∙ o.1 r (map_was i h e r p) ∙ sym (word_same _))
      ];
      kept = λ i h t r x.
          let e : ¬ (slot_of z i ≡ s) = (kept_was i t).0 in
          let y : Names (at st.disk.maps) (at st.memory.slots.images) (at st.memory.held.addresses) (at st.memory.held.states) i r = elim x [ inl p ↦ inl (map_was i h e r p) | inr q ↦ elim q [ inl p ↦ inr (inl p) | inr p ↦ inr (inr (p.0, was_live r p.1)) ] ] in
          let o = m.kept i h (kept_was i t).1 r y in record { latest = λ w j q. o.latest w j (of_page_holds i w e q); words = λ n b. c.text_other i e n ∙ o.words n b ∙ sym (word_same _) };
    };
  }
