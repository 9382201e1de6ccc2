-- Activate: the slot's pages get their addresses from the map, live.
use mathlib.Core.Path.{◌≡◌, refl, sym, ◌∙◌}
use mathlib.Core.Bool.{true}
use mathlib.Core.Logic.{◌⊎◌, inl, inr}
use Prim.Native.Nat.{ℕ, zero, suc, ◌<◌, pred}
use native.Mathlib.Omega.{arith}
use lib.ListN.{set}
use Rattle.tables.specs.Base.{at}
use Rattle.tables.specs.Rule.{same, non, ◌and◌}
use Rattle.tables.specs.Store.{Split, store, at_store}
use Rattle.tables.specs.Laws.{not_zero}
use Rattle.model.specs.declared.sizes.Sizes.{Sizes}
use Rattle.model.specs.declared.event.Design.TheVariants.{Activate}
use Rattle.model.specs.declared.event.Event.TheVariants as Event
use Rattle.model.specs.Lines.{FILED, LIVE}
use Rattle.model.specs.State.{State, all_pages, slot_of}
use Rattle.model.specs.Setters.{counted}
use Rattle.model.specs.Parts.{of_slot}
use Rattle.model.specs.Designs as Designs
use Rattle.model.specs.Step.{carried}
use Rattle.model.specs.Ledger.{Ledger, note}
use Rattle.model.specs.Acts.{fed}
use Rattle.model.specs.Laws.Index.{split_set}
use Rattle.crash.proofs.Writes.{split_over}
use Rattle.crash.proofs.Link.{Tied}
use Rattle.crash.proofs.Steps.{Before}
use Rattle.crash.proofs.OneFrame.{in_frame_same, alike_same}

module _ (z : Sizes) (s : ℕ) (st : State) (l : Ledger) (b : Before z st l (Event.Design (Activate s))) where
  abbrev map : ℕ → ℕ
  map = at st.disk.maps

  abbrev address : ℕ → ℕ
  address = at st.memory.held.addresses

  abbrev address' : ℕ → ℕ
  address' = at (store st.memory.held.addresses (of_slot z s) map)

  abbrev state : ℕ → ℕ
  state = at st.memory.held.states

  abbrev state' : ℕ → ℕ
  state' = at (store st.memory.held.states (λ r. same (state r) FILED and same (at st.memory.held.owners r) s) (λ r. LIVE))

  abbrev active : ℕ → ℕ
  active = at st.memory.slots.active

  address_split : (i : ℕ) → i < all_pages z → Split (slot_of z i ≡ s) (address' i) (map i) (address i)
  address_split i h = at_store st.memory.held.addresses (of_slot z s) map i (rw b.fit.memory.addresses h)

  state_split : (r : ℕ) → r < z.records → Split ((state r ≡ FILED) × (at st.memory.held.owners r ≡ s)) (state' r) LIVE (state r)
  state_split r h = at_store st.memory.held.states (λ r. same (state r) FILED and same (at st.memory.held.owners r) s) (λ r. LIVE) r (rw b.fit.memory.states h)

  active_split : (t : ℕ) → Split (t ≡ s) (at (set st.memory.slots.active s 1) t) 1 (active t)
  active_split t = split_set st.memory.slots.active s 1 t (rw b.fit.memory.active b.asked.0)

  off : (i : ℕ) → slot_of z i ≡ s → ¬ (active (slot_of z i) ≡ 1)
  off i e a = b.asked.1.1.0 (rw e at a)

  -- a page that holds a record is of another slot, and keeps it, in its state
  held_other : (i : ℕ) → i < all_pages z → (r : ℕ) → address i ≡ suc r → ¬ (slot_of z i ≡ s)
  held_other i h r p e = off i e (b.ruled.records.address_active_holds i h r p)

  stays : (i : ℕ) → i < all_pages z → (r : ℕ) → address i ≡ suc r → state' r ≡ state r
  stays i h r p = elim (state_split r (b.ruled.records.address_fit_holds i h r p)) [
    | inl x ↦ elim (b.ruled.records.held i h r p).1 [ inl e ↦ absurd (omega (arith, x.0.0, e)) | inr e ↦ absurd (omega (arith, x.0.0, e)) ]
    | inr x ↦ x.1
  ]

  keeps : (i : ℕ) → i < all_pages z → (r : ℕ) → address i ≡ suc r → address' i ≡ suc r
  keeps i h r p = elim (address_split i h) [ inl x ↦ absurd (held_other i h r p x.0) | inr x ↦ x.1 ∙ p ]

  -- a live address: the map's in this slot, the old one elsewhere
  was : (i : ℕ) → i < all_pages z → (r : ℕ) → address' i ≡ suc r → state' r ≡ LIVE → ((slot_of z i ≡ s) × (map i ≡ suc r)) ⊎ ((address i ≡ suc r) × (state r ≡ LIVE))
  was i h r p e = elim (address_split i h) [ inl x ↦ inl (x.0, sym x.1 ∙ p) | inr x ↦ let q = sym x.1 ∙ p in inr (q, sym (stays i h r q) ∙ e) ]

  filed_live : (i : ℕ) → i < all_pages z → (r : ℕ) → slot_of z i ≡ s → map i ≡ suc r → state' r ≡ LIVE
  filed_live i h r e p = let o = b.ruled.records.filed i h r p (off i e) in elim (state_split r (b.ruled.disk.map_fit_holds i h r p)) [ inl x ↦ x.1 | inr x ↦ absurd (x.0 (o.1, o.0 ∙ e)) ]

  was_off : (i : ℕ) → ¬ (at (set st.memory.slots.active s 1) (slot_of z i) ≡ 1) → ¬ (active (slot_of z i) ≡ 1)
  was_off i a e = elim (active_split (slot_of z i)) [ inl x ↦ a x.1 | inr x ↦ a (x.1 ∙ e) ]

  pub activate : Tied z (carried z st (Event.Design (Activate s))) (note z l (fed z st (Event.Design (Activate s))))
  unfolding carried fed note counted Designs.activate
  activate = record {
    disk = record { designs = b.tied.disk.designs; listing = b.tied.disk.listing };
    memory = let m = b.tied.memory in record {
      named = record {
        imaged = m.named.imaged;
        live = λ i h r p e. elim (was i h r p e) [ inl x ↦ b.tied.disk.listing.owned i h r x.1 | inr x ↦ m.named.live i h r x.0 x.1 ];
        latest = λ i h r p e. elim (was i h r p e) [ inl x ↦ m.named.rested i h (off i x.0) r x.1 | inr x ↦ m.named.latest i h r x.0 x.1 ];
        rested = λ i h a. m.named.rested i h (was_off i a);
      };
      begun = m.begun;
      lives = λ i h t. elim (split_over l.pages.live (λ i. of_slot z s i and non (same (map i) 0)) true i) [
        | inl x ↦ let q = not_zero (map i) x.0.1 in (pred (map i), elim (address_split i h) [ inl y ↦ y.1 ∙ q | inr y ↦ absurd (y.0 x.0.0) ], filed_live i h (pred (map i)) x.0.0 q)
        | inr x ↦ let o = m.lives i h (rw x.1 at t) in (o.0, keeps i h o.0 o.1, stays i h o.0 o.1 ∙ o.2)
      ];
      alive = λ i h r p e. elim (split_over l.pages.live (λ i. of_slot z s i and non (same (map i) 0)) true i) [
        | inl y ↦ rw y.1 tt
        | inr y ↦ rw y.1 (elim (was i h r p e) [ inl x ↦ absurd (y.0 (x.0, λ q. omega (arith, q, x.1))) | inr x ↦ m.alive i h r x.0 x.1 ])
      ];
      framed = λ f h. in_frame_same (m.framed f h) (alike_same refl) (λ n c. refl) refl refl refl (λ i p. (
        let q = not_zero (address i) (b.ruled.frames.held f h i p).0 in keeps i ((b.ruled.frames.fit f h).0 i p) (pred (address i)) q ∙ sym q,
        (refl, (λ n. refl, (refl, λ t. t))),
      ));
      away = record {
        paged = λ i h a r p e n c. elim (was i h r p e) [ inl x ↦ sym ((m.filed i h (off i x.0) n c).1 r x.1) | inr x ↦ m.away.paged i h a r x.0 x.1 n c ];
        void = λ i h o a d n c. elim (address_split i h) [
          | inl x ↦ (m.filed i h (off i x.0) n c).0 (unlisted i h x.0 x.1 d (map i) refl)
          | inr x ↦ m.away.void i h (elim (active_split (slot_of z i)) [ inl y ↦ absurd (x.0 y.0) | inr y ↦ sym y.1 ∙ o ]) a (λ r p e. d r (x.1 ∙ p) (stays i h r p ∙ e)) n c
        ];
      };
      filed = λ i h a. m.filed i h (was_off i a);
      kept = λ i h t r n. m.kept i h t r (elim n [
        | inl p ↦ inl p
        | inr o ↦ elim o [ inl p ↦ inr (inl p) | inr p ↦ elim (was i h r p.0 p.1) [ inl x ↦ inl x.1 | inr x ↦ inr (inr x) ] ]
      ]);
    };
  }
    where
      unlisted : (i : ℕ) → i < all_pages z → slot_of z i ≡ s → address' i ≡ map i → ((r : ℕ) → address' i ≡ suc r → ¬ (state' r ≡ LIVE)) → (a : ℕ) → map i ≡ a → map i ≡ 0
      unlisted i h e p d zero q = q
      unlisted i h e p d (suc r) q = absurd (d r (p ∙ q) (filed_live i h r e q))
