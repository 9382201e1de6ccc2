-- Deactivate: an active design whose map says what its pages hold becomes inactive.
use mathlib.Core.Path.{◌≡◌, refl, ap, sym, ◌∙◌, subst}
use mathlib.Core.Bool.{false}
use mathlib.Core.Logic.{inl, inr}
use Prim.Native.Nat.{ℕ, suc, ◌%◌, ◌<◌, pred}
use native.Mathlib.Nat.{mod-lt}
use native.Mathlib.Omega.{arith}
use lib.ListN.{set}
use Rattle.tables.specs.Base.{at}
use Rattle.tables.specs.Rule.{same, ◌and◌}
use Rattle.tables.specs.Store.{Split, store, at_store}
use Rattle.tables.specs.Laws.{not_zero}
use Rattle.model.specs.declared.frame.Frame.{Frame}
use Rattle.model.specs.declared.sizes.Sizes.{Sizes}
use Rattle.model.specs.declared.event.Design.TheVariants.{Deactivate}
use Rattle.model.specs.declared.event.Event.TheVariants as Event
use Rattle.model.specs.Lines.{FILED, LIVE}
use Rattle.model.specs.State.{State, frame_at, all_pages, slot_of}
use Rattle.model.specs.Setters.{counted}
use Rattle.model.specs.Parts.{of_slot}
use Rattle.model.specs.Questions.{would_store}
use Rattle.model.specs.Designs as Designs
use Rattle.model.specs.Step.{carried}
use Rattle.model.specs.Ledger.{Ledger, note}
use Rattle.model.specs.Acts.{fed}
use Rattle.model.specs.Laws.Index.{split_set, page_again}
use Rattle.invariant.proofs.Records.{would_live, live_would, was as entry-was, stays as entry-stays}
use Rattle.crash.proofs.Writes.{split_over}
use Rattle.crash.proofs.Link.{Away, Tied}
use Rattle.crash.proofs.Steps.{Before}
use Rattle.crash.proofs.OneFrame.{in_frame_same, alike_same}

module _ (z : Sizes) (s : ℕ) (st : State) (l : Ledger) (b : Before z st l (Event.Design (Deactivate s))) where
  abbrev map : ℕ → ℕ
  map = at st.disk.maps

  abbrev address : ℕ → ℕ
  address = at st.memory.held.addresses

  abbrev address' : ℕ → ℕ
  address' = at (store st.memory.held.addresses (of_slot z s) (λ i. 0))

  abbrev state : ℕ → ℕ
  state = at st.memory.held.states

  abbrev state' : ℕ → ℕ
  state' = at (store st.memory.held.states (λ r. same (state r) LIVE and same (at st.memory.held.owners r) s) (λ r. FILED))

  abbrev active : ℕ → ℕ
  active = at st.memory.slots.active

  abbrev fs : ℕ → Frame
  fs = frame_at st.memory.core.frames

  address_split : (i : ℕ) → i < all_pages z → Split (slot_of z i ≡ s) (address' i) 0 (address i)
  address_split i h = at_store st.memory.held.addresses (of_slot z s) (λ i. 0) i (rw b.fit.memory.addresses h)

  state_split : (r : ℕ) → r < z.records → Split ((state r ≡ LIVE) × (at st.memory.held.owners r ≡ s)) (state' r) FILED (state r)
  state_split r h = at_store st.memory.held.states (λ r. same (state r) LIVE and same (at st.memory.held.owners r) s) (λ r. FILED) r (rw b.fit.memory.states h)

  active_split : (t : ℕ) → Split (t ≡ s) (at (set st.memory.slots.active s 0) t) 0 (active t)
  active_split t = split_set st.memory.slots.active s 0 t (rw b.fit.memory.active b.asked.0)

  mapped : (i : ℕ) → slot_of z i ≡ s → map i ≡ would_store z st i
  mapped i e = subst (λ (j : ℕ). map j ≡ would_store z st j) (page_again z b.fit.sizes.pages s i e) (b.asked.1.1.1.1.1.0.0 (i % z.pages) (mod-lt i b.fit.sizes.pages))

  no_frame_holds : (i : ℕ) → slot_of z i ≡ s → (f : ℕ) → f < z.frames → ¬ ((fs f).page ≡ suc i)
  no_frame_holds i e f h p = b.asked.1.1.1.1.0 (i % z.pages) (mod-lt i b.fit.sizes.pages) (f, h, p ∙ ap suc (sym (page_again z b.fit.sizes.pages s i e)))

  is_away : (i : ℕ) → slot_of z i ≡ s → Away z fs i
  is_away i e f h p = absurd (no_frame_holds i e f h p)

  -- in the slot, listed is live
  listed_live_holds : (i : ℕ) → slot_of z i ≡ s → (r : ℕ) → map i ≡ suc r → (address i ≡ suc r) × (state r ≡ LIVE)
  listed_live_holds i e r p = would_live z st i r (sym (mapped i e) ∙ p)

  unlisted : (i : ℕ) → slot_of z i ≡ s → map i ≡ 0 → (r : ℕ) → address i ≡ suc r → ¬ (state r ≡ LIVE)
  unlisted i e p r q d = omega (arith, live_would z st i r q d, mapped i e, p)

  was : (i : ℕ) → i < all_pages z → (r : ℕ) → address' i ≡ suc r → state' r ≡ LIVE → (address i ≡ suc r) × (state r ≡ LIVE)
  was i h r p e = let q = (entry-was (address_split i h) p (omega arith)).1 in (q, (entry-was (state_split r (b.ruled.records.address_fit_holds i h r q)) e (omega arith)).1)

  stays : (i : ℕ) → i < all_pages z → ¬ (slot_of z i ≡ s) → (r : ℕ) → address i ≡ suc r → (address' i ≡ suc r) × (state' r ≡ state r)
  stays i h n r p = (entry-stays (address_split i h) n ∙ p, entry-stays (state_split r (b.ruled.records.address_fit_holds i h r p)) (λ y. n (sym (b.ruled.records.held i h r p).0 ∙ y.1)))

  pub deactivate : Tied z (carried z st (Event.Design (Deactivate s))) (note z l (fed z st (Event.Design (Deactivate s))))
  unfolding carried fed note counted Designs.deactivate
  deactivate = record {
    disk = record { designs = b.tied.disk.designs; listing = b.tied.disk.listing };
    memory = let m = b.tied.memory in record {
      named = record {
        imaged = m.named.imaged;
        live = λ i h r p e. let x = was i h r p e in m.named.live i h r x.0 x.1;
        latest = λ i h r p e. let x = was i h r p e in m.named.latest i h r x.0 x.1;
        rested = λ i h a r p. elim (active_split (slot_of z i)) [
          | inl x ↦ let o = listed_live_holds i x.0 r p in m.named.latest i h r o.0 o.1
          | inr x ↦ m.named.rested i h (λ e. a (x.1 ∙ e)) r p
        ];
      };
      begun = m.begun;
      lives = λ i h t. elim (split_over l.pages.live (of_slot z s) false i) [
        | inl x ↦ absurd (rw x.1 at t)
        | inr x ↦ let o = m.lives i h (rw x.1 at t) in let y = stays i h x.0 o.0 o.1 in (o.0, y.0, y.1 ∙ o.2)
      ];
      alive = λ i h r p e. elim (split_over l.pages.live (of_slot z s) false i) [
        | inl y ↦ elim (address_split i h) [ inl x ↦ absurd (omega (arith, x.1, p)) | inr x ↦ absurd (x.0 y.0) ]
        | inr y ↦ let x = was i h r p e in rw y.1 (m.alive i h r x.0 x.1)
      ];
      framed = λ f h. in_frame_same (m.framed f h) (alike_same refl) (λ n c. refl) refl refl refl (λ i p. (
        let q = not_zero (address i) (b.ruled.frames.held f h i p).0 in (stays i ((b.ruled.frames.fit f h).0 i p) (λ e. no_frame_holds i e f h p) (pred (address i)) q).0 ∙ sym q,
        (refl, (λ n. refl, (refl, λ t. t))),
      ));
      away = record {
        paged = λ i h a r p e. let x = was i h r p e in m.away.paged i h a r x.0 x.1;
        void = λ i h o a d. elim (active_split (slot_of z i)) [
          | inl x ↦ absurd (omega (arith, x.1, o))
          | inr x ↦ m.away.void i h (sym x.1 ∙ o) a (λ r p e. let y = stays i h x.0 r p in d r y.0 (y.1 ∙ e))
        ];
      };
      filed = λ i h a n c. elim (active_split (slot_of z i)) [
        | inl x ↦ (λ p. m.away.void i h (rw x.0 b.asked.1.1.0) (is_away i x.0) (unlisted i x.0 p) n c, λ r p. let o = listed_live_holds i x.0 r p in sym (m.away.paged i h (is_away i x.0) r o.0 o.1 n c))
        | inr x ↦ m.filed i h (λ e. a (x.1 ∙ e)) n c
      ];
      kept = λ i h t r n. m.kept i h t r (elim n [ inl p ↦ inl p | inr o ↦ elim o [ inl p ↦ inr (inl p) | inr p ↦ inr (inr (was i h r p.0 p.1)) ] ]);
    };
  }
