-- Update: the image lists the live addresses, and the ledger opens the update with the pages live then.
use mathlib.Core.Path.{◌≡◌, refl, ap, sym, ◌∙◌, subst}
use mathlib.Core.Bool.{true}
use mathlib.Core.Logic.{◌⊎◌, inl, inr}
use Prim.Native.Nat.{ℕ, suc, ◌%◌, ◌<◌, pred}
use native.Mathlib.Omega.{arith}
use lib.Dec.{T}
use lib.ListN.{set}
use Rattle.tables.specs.Base.{at}
use Rattle.tables.specs.Rule.{Holds}
use Rattle.tables.specs.Store.{Split, store, at_store}
use Rattle.model.specs.declared.sizes.Sizes.{Sizes}
use Rattle.model.specs.declared.event.Writeback.TheVariants.{Update}
use Rattle.model.specs.declared.event.Event.TheVariants as Event
use Rattle.model.specs.Lines.{LIVE, LEAVING}
use Rattle.model.specs.State.{State, frame_at, all_pages, slot_of}
use Rattle.model.specs.Setters.{counted}
use Rattle.model.specs.Parts.{of_slot}
use Rattle.model.specs.Questions.{would_store}
use Rattle.model.specs.Writeback as Writeback
use Rattle.model.specs.Writeback.{leaving_page, leaving_record}
use Rattle.model.specs.Step.{carried}
use Rattle.model.specs.Ledger as L
use Rattle.model.specs.Ledger.{Ledger, note, put, begun}
use Rattle.model.specs.Acts.{fed}
use Rattle.model.specs.Demand3.{last_into}
use Rattle.model.specs.Laws.Index.{split_set, page_again}
use Rattle.invariant.proofs.Records.{would_live, live_would, was as entry-was, stays as entry-stays, turns as entry-turns}
use Rattle.crash.proofs.Writes.{split_put}
use Rattle.crash.proofs.Link.{Newest, Tied}
use Rattle.crash.proofs.Steps.{Before}
use Rattle.crash.proofs.OneFrame.{in_frame_same, alike_same}

module _ (z : Sizes) (s : ℕ) (st : State) (l : Ledger) (b : Before z st l (Event.Writeback (Update s))) where
  abbrev address : ℕ → ℕ
  address = at st.memory.held.addresses

  abbrev address' : ℕ → ℕ
  address' = at (store st.memory.held.addresses (leaving_page z st s) (λ i. 0))

  abbrev state : ℕ → ℕ
  state = at st.memory.held.states

  abbrev state' : ℕ → ℕ
  state' = at (store st.memory.held.states (leaving_record z st s) (λ r. LEAVING))

  abbrev image : ℕ → ℕ
  image = at st.memory.slots.images

  abbrev image' : ℕ → ℕ
  image' = at (store st.memory.slots.images (of_slot z s) (would_store z st))

  address_split : (i : ℕ) → i < all_pages z → Split (Holds (leaving_page z st s i)) (address' i) 0 (address i)
  address_split i h = at_store st.memory.held.addresses (leaving_page z st s) (λ i. 0) i (rw b.fit.memory.addresses h)

  state_split : (r : ℕ) → r < z.records → Split (Holds (leaving_record z st s r)) (state' r) LEAVING (state r)
  state_split r h = at_store st.memory.held.states (leaving_record z st s) (λ r. LEAVING) r (rw b.fit.memory.states h)

  image_split : (i : ℕ) → i < all_pages z → Split (slot_of z i ≡ s) (image' i) (would_store z st i) (image i)
  image_split i h = at_store st.memory.slots.images (of_slot z s) (would_store z st) i (rw b.fit.memory.images h)

  updating_split : (t : ℕ) → Split (t ≡ s) (at (set st.memory.slots.updating s 1) t) 1 (at st.memory.slots.updating t)
  updating_split t = split_set st.memory.slots.updating s 1 t (rw b.fit.memory.updating b.asked.0)

  -- what the new image lists: in the slot a live address, elsewhere what it did
  new : (i : ℕ) → i < all_pages z → (r : ℕ) → image' i ≡ suc r → ((address i ≡ suc r) × (state r ≡ LIVE)) ⊎ (image i ≡ suc r)
  new i h r e = elim (image_split i h) [
    | inl t ↦ inl (would_live z st i r (sym t.1 ∙ e))
    | inr t ↦ inr (sym t.1 ∙ e)
  ]

  -- a live address stays, and is listed in the slot
  not_nulled : (i r : ℕ) → address i ≡ suc r → state r ≡ LIVE → ¬ (Holds (leaving_page z st s i))
  not_nulled i r p e x = let n : x.1.0.0 ≡ r = ap pred (sym x.1.0.1 ∙ p) in omega (arith, sym (ap state n) ∙ x.1.0.2, e)

  not_leaving : (r : ℕ) → state r ≡ LIVE → ¬ (Holds (leaving_record z st s r))
  not_leaving r e x = elim x [ inl y ↦ not_nulled y.0 r y.2.1 e y.2.0 | inr y ↦ omega (arith, y.1, e) ]

  lives : (i : ℕ) → i < all_pages z → (r : ℕ) → address i ≡ suc r → state r ≡ LIVE → (address' i ≡ suc r) × (state' r ≡ LIVE)
  lives i h r p e = (entry-stays (address_split i h) (not_nulled i r p e) ∙ p, entry-stays (state_split r (b.ruled.records.address_fit_holds i h r p)) (not_leaving r e) ∙ e)

  listed : (i : ℕ) → i < all_pages z → slot_of z i ≡ s → (r : ℕ) → address i ≡ suc r → state r ≡ LIVE → image' i ≡ suc r
  listed i h a r p e = entry-turns (image_split i h) a ∙ live_would z st i r p e

  was : (i : ℕ) → i < all_pages z → (r : ℕ) → address' i ≡ suc r → state' r ≡ LIVE → (address i ≡ suc r) × (state r ≡ LIVE)
  was i h r p e = let q = (entry-was (address_split i h) p (omega arith)).1 in (q, (entry-was (state_split r (b.ruled.records.address_fit_holds i h r q)) e (omega arith)).1)

  -- a page in a frame keeps its address
  framed_stays : (f : ℕ) → f < z.frames → (i : ℕ) → (frame_at st.memory.core.frames f).page ≡ suc i → address' i ≡ address i
  framed_stays f h i p = entry-stays (address_split i ((b.ruled.frames.fit f h).0 i p)) (λ x. x.1.1 (f, h, p))

  abbrev update' : ℕ → L.Update
  update' = put l.pending.update s (begun z l s)

  -- an update under way: this one, or one that was
  which : (t : ℕ) → at (set st.memory.slots.updating s 1) t ≡ 1 → ((t ≡ s) × (update' t ≡ begun z l s)) ⊎ ((¬ (t ≡ s)) × ((update' t ≡ l.pending.update t) × (at st.memory.slots.updating t ≡ 1)))
  which t e = elim (split_put l.pending.update s (begun z l s) t) [ inl x ↦ inl x | inr x ↦ inr (x.0, (x.1, elim (updating_split t) [ inl y ↦ absurd (x.0 y.0) | inr y ↦ sym y.1 ∙ e ])) ]

  pub update : Tied z (carried z st (Event.Writeback (Update s))) (note z l (fed z st (Event.Writeback (Update s))))
  unfolding carried fed note counted Writeback.update
  update = record {
    disk = record { designs = b.tied.disk.designs; listing = b.tied.disk.listing };
    memory = let m = b.tied.memory in record {
      named = record {
        imaged = λ i h r p. elim (new i h r p) [ inl x ↦ m.named.live i h r x.0 x.1 | inr x ↦ m.named.imaged i h r x ];
        live = λ i h r p e. let x = was i h r p e in m.named.live i h r x.0 x.1;
        latest = λ i h r p e. let x = was i h r p e in m.named.latest i h r x.0 x.1;
        rested = m.named.rested;
      };
      begun = let u = m.begun in record {
        only = λ t h e. elim (updating_split t) [ inl x ↦ x.1 | inr x ↦ x.1 ∙ u.only t h (elim (split_put l.pending.updating s true t) [ inl y ↦ absurd (x.0 y.0) | inr y ↦ rw y.1 at e ]) ];
        opened = λ t h e. elim (split_put l.pending.updating s true t) [ inl x ↦ rw x.1 tt | inr x ↦ rw x.1 (u.opened t h (elim (updating_split t) [ inl y ↦ absurd (x.0 y.0) | inr y ↦ sym y.1 ∙ e ])) ];
        design = λ t h e. elim (which t e) [ inl x ↦ ap (λ (c : L.Update). c.design) x.1 ∙ ap l.design (sym x.0) | inr x ↦ ap (λ (c : L.Update). c.design) x.1.0 ∙ u.design t h x.1.1 ];
        ahead = λ t h e. elim (which t e) [ inl x ↦ rw x.1 (omega arith) | inr x ↦ rw x.1.0 (u.ahead t h x.1.1) ];
        listed = λ i h e t. elim (which (slot_of z i) e) [
          | inl x ↦ let o = m.lives i h (subst (λ (j : ℕ). T (l.pages.live j)) (page_again z b.fit.sizes.pages s i x.0) (subst (λ (c : L.Update). T (c.live (i % z.pages))) x.1 t)) in
              (o.0, listed i h x.0 o.0 o.1 o.2, λ y j q g. m.named.latest i h o.0 o.1 o.2 y j q)
          | inr x ↦ let o = u.listed i h x.1.1 (subst (λ (c : L.Update). T (c.live (i % z.pages))) x.1.0 t) in
              (o.0, elim (image_split i h) [ inl y ↦ absurd (x.0 y.0) | inr y ↦ y.1 ∙ o.1 ], subst (λ (c : L.Update). Newest z l.design l.finished i c.after (last_into o.0 l.finished)) (sym x.1.0) o.2)
        ];
        promised = λ i h e r p. elim (which (slot_of z i) e) [
          | inl x ↦ let o = would_live z st i r (sym (entry-turns (image_split i h) x.0) ∙ p) in
              subst (λ (c : L.Update). T (c.live (i % z.pages))) (sym x.1) (subst (λ (j : ℕ). T (l.pages.live j)) (sym (page_again z b.fit.sizes.pages s i x.0)) (m.alive i h r o.0 o.1))
          | inr x ↦ subst (λ (c : L.Update). T (c.live (i % z.pages))) (sym x.1.0) (u.promised i h x.1.1 r (sym (entry-stays (image_split i h) x.0) ∙ p))
        ];
      };
      alive = λ i h r p e. let x = was i h r p e in m.alive i h r x.0 x.1;
      lives = λ i h t. let o = m.lives i h t in let x = lives i h o.0 o.1 o.2 in (o.0, x.0, x.1);
      framed = λ f h. in_frame_same (m.framed f h) (alike_same refl) (λ n c. refl) refl refl refl (λ i p. (framed_stays f h i p, (refl, (λ n. refl, (refl, λ t. t)))));
      away = record {
        paged = λ i h a r p e. let x = was i h r p e in m.away.paged i h a r x.0 x.1;
        void = λ i h o a d. m.away.void i h o a (λ r p e. let x = lives i h r p e in d r x.0 x.1);
      };
      filed = m.filed;
      kept = λ i h t r n. m.kept i h t r (elim n [
        | inl p ↦ inl p
        | inr o ↦ elim o [ inl p ↦ elim (new i h r p) [ inl x ↦ inr (inr x) | inr x ↦ inr (inl x) ] | inr p ↦ inr (inr (was i h r p.0 p.1)) ]
      ]);
    };
  }
