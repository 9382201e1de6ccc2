-- Truncate: the pages from k up become zeros, their records released, their frames freed.
use mathlib.Core.Path.{◌≡◌, refl, ap, sym, ◌∙◌, subst}
use mathlib.Core.Bool.{false}
use mathlib.Core.Logic.{inl, inr}
use Prim.Native.Nat.{ℕ, suc, ◌%◌, ◌<◌, pred}
use native.Mathlib.Nat.{mod-lt}
use native.Mathlib.Omega.{arith}
use lib.Dec.{T}
use lib.ListN.{length}
use Rattle.tables.specs.Base.{at, if, tab}
use Rattle.tables.specs.Laws.{at_tab0, not_zero}
use Rattle.tables.specs.Rule.{Holds, test, decided, told, untold}
use Rattle.tables.specs.Store.{Split, store, at_store}
use Rattle.model.specs.declared.frame.Frame.{Frame}
use Rattle.model.specs.declared.sizes.Sizes.{Sizes}
use Rattle.model.specs.declared.event.Writeback.TheVariants.{Truncate}
use Rattle.model.specs.declared.event.Event.TheVariants as Event
use Rattle.model.specs.Lines.{LIVE, RELEASED}
use Rattle.model.specs.State.{State, no_frame, frame_at, NONE, all_pages}
use Rattle.model.specs.Setters.{counted}
use Rattle.model.specs.Parts.{from_page}
use Rattle.model.specs.Writeback as Writeback
use Rattle.model.specs.Writeback.{cut_frame, cut_record}
use Rattle.model.specs.Step.{carried}
use Rattle.model.specs.Ledger.{Ledger, note, over}
use Rattle.model.specs.Acts.{fed}
use Rattle.model.specs.Laws.Index.{page_again}
use Rattle.invariant.proofs.Records.{was as entry-was, stays as entry-stays}
use Rattle.crash.proofs.Writes.{split_over}
use Rattle.crash.proofs.Link.{Away, Tied}
use Rattle.crash.proofs.Steps.{Before}
use Rattle.crash.proofs.OneFrame.{in_frame_same, alike_same}

module _ (z : Sizes) (s k : ℕ) (st : State) (l : Ledger) (b : Before z st l (Event.Writeback (Truncate s k))) where
  abbrev Cut : ℕ → Type 0
  Cut i = Holds (from_page z s k i)

  abbrev address : ℕ → ℕ
  address = at st.memory.held.addresses

  abbrev address' : ℕ → ℕ
  address' = at (store st.memory.held.addresses (from_page z s k) (λ i. 0))

  abbrev state : ℕ → ℕ
  state = at st.memory.held.states

  abbrev state' : ℕ → ℕ
  state' = at (store st.memory.held.states (cut_record z st s k) (λ r. RELEASED))

  abbrev fs : ℕ → Frame
  fs = frame_at st.memory.core.frames

  abbrev fs' : ℕ → Frame
  fs' = frame_at (tab (length st.memory.core.frames) (λ f. if (test (cut_frame z st s k f)) no_frame (fs f)) 0)

  abbrev text' : ℕ → ℕ → ℕ
  text' = over l.pages.text (from_page z s k) (λ w. 0)

  address_split : (i : ℕ) → i < all_pages z → Split (Cut i) (address' i) 0 (address i)
  address_split i h = at_store st.memory.held.addresses (from_page z s k) (λ i. 0) i (rw b.fit.memory.addresses h)

  state_split : (r : ℕ) → r < z.records → Split (Holds (cut_record z st s k r)) (state' r) RELEASED (state r)
  state_split r h = at_store st.memory.held.states (cut_record z st s k) (λ r. RELEASED) r (rw b.fit.memory.states h)

  frame_split : (f : ℕ) → f < z.frames → Split (Holds (cut_frame z st s k f)) (fs' f) no_frame (fs f)
  frame_split f h = elim (decided (cut_frame z st s k f)) [ yes c ↦ inl (c, e ∙ rw (told (cut_frame z st s k f) c)) | no c ↦ inr (c, e ∙ rw (untold (cut_frame z st s k f) c)) ]
    where
      e : fs' f ≡ if (test (cut_frame z st s k f)) no_frame (fs f)
      e = at_tab0 (length st.memory.core.frames) (λ g. if (test (cut_frame z st s k g)) no_frame (fs g)) f no_frame (rw b.fit.memory.frames h)

  was : (i : ℕ) → i < all_pages z → (r : ℕ) → address' i ≡ suc r → state' r ≡ LIVE → (¬ (Cut i)) × ((address i ≡ suc r) × (state r ≡ LIVE))
  was i h r p e = let q = entry-was (address_split i h) p (omega arith) in (q.0, (q.1, (entry-was (state_split r (b.ruled.records.address_fit_holds i h r q.1)) e (omega arith)).1))

  stays : (i : ℕ) → i < all_pages z → ¬ (Cut i) → (r : ℕ) → address i ≡ suc r → (address' i ≡ suc r) × (state' r ≡ state r)
  stays i h n r p = (entry-stays (address_split i h) n ∙ p, entry-stays (state_split r (b.ruled.records.address_fit_holds i h r p)) (λ y. n (subst (λ (j : ℕ). Cut j) (b.ruled.records.held_once_holds y.0 y.1 i h r y.2.1 p) y.2.0)))

  -- a page that is not cut off keeps its frame; a frame that is freed was in service
  kept_frame : (i : ℕ) → ¬ (Cut i) → (f : ℕ) → f < z.frames → (fs f).page ≡ suc i → fs' f ≡ fs f
  kept_frame i n f h p = elim (frame_split f h) [ inl x ↦ absurd (n (subst (λ (j : ℕ). Cut j) (ap pred (sym x.0.1 ∙ p)) x.0.2)) | inr x ↦ x.1 ]

  in_service : (f : ℕ) → f < z.frames → Holds (cut_frame z st s k f) → (fs f).transfer ≡ NONE
  in_service f h x = let i = x.0 in b.asked.1.1.1.0 (i % z.pages) (mod-lt i b.fit.sizes.pages) x.2.1 f h (x.1 ∙ ap suc (sym (page_again z b.fit.sizes.pages s i x.2.0)))

  text_other : (i : ℕ) → ¬ (Cut i) → (n : ℕ) → text' i n ≡ l.pages.text i n
  text_other i o n = elim (split_over l.pages.text (from_page z s k) (λ w. 0) i) [ inl x ↦ absurd (o x.0) | inr x ↦ ap (λ (t : ℕ → ℕ). t n) x.1 ]

  kept_was : (i : ℕ) → T (over l.pages.kept (from_page z s k) false i) → (¬ (Cut i)) × T (l.pages.kept i)
  kept_was i t = elim (split_over l.pages.kept (from_page z s k) false i) [ inl x ↦ absurd (rw x.1 at t) | inr x ↦ (x.0, rw x.1 at t) ]

  was_away : (i : ℕ) → ¬ (Cut i) → Away z fs' i → Away z fs i
  was_away i n a f h p = let e = kept_frame i n f h p in sym (ap (λ (x : Frame). x.transfer) e) ∙ a f h (ap (λ (x : Frame). x.page) e ∙ p)

  pub truncate : Tied z (carried z st (Event.Writeback (Truncate s k))) (note z l (fed z st (Event.Writeback (Truncate s k))))
  unfolding carried fed note counted Writeback.truncate
  truncate = record {
    disk = record { designs = b.tied.disk.designs; listing = b.tied.disk.listing };
    memory = let m = b.tied.memory in record {
      named = record {
        imaged = m.named.imaged;
        live = λ i h r p e. let x = (was i h r p e).1 in m.named.live i h r x.0 x.1;
        latest = λ i h r p e. let x = (was i h r p e).1 in m.named.latest i h r x.0 x.1;
        rested = m.named.rested;
      };
      begun = m.begun;
      lives = λ i h t. elim (split_over l.pages.live (from_page z s k) false i) [
        | inl x ↦ absurd (rw x.1 at t)
        | inr x ↦ let o = m.lives i h (rw x.1 at t) in let y = stays i h x.0 o.0 o.1 in (o.0, y.0, y.1 ∙ o.2)
      ];
      alive = λ i h r p e. let x = was i h r p e in elim (split_over l.pages.live (from_page z s k) false i) [ inl y ↦ absurd (x.0 y.0) | inr y ↦ rw y.1 (m.alive i h r x.1.0 x.1.1) ];
      framed = λ f h. elim (frame_split f h) [
        | inl x ↦ record {
          holding = λ i p. absurd (omega (arith, sym (ap (λ (g : Frame). g.page) x.1) ∙ p));
          only = λ t. absurd (omega (arith, in_service f h x.0, (m.framed f h).only t));
          opened = λ e. absurd (omega (arith, sym (ap (λ (g : Frame). g.transfer) x.1) ∙ e));
        }
        | inr x ↦ in_frame_same (m.framed f h) (alike_same x.1) (λ n c. refl) refl refl refl (λ i p.
            let n : ¬ (Cut i) = λ c. x.0 (i, p, c) in
            let q = not_zero (address i) (b.ruled.frames.held f h i p).0 in
            ((stays i ((b.ruled.frames.fit f h).0 i p) n (pred (address i)) q).0 ∙ sym q, (refl, (text_other i n, (refl, λ t. (kept_was i t).1)))))
      ];
      away = record {
        paged = λ i h a r p e n c. let x = was i h r p e in m.away.paged i h (was_away i x.0 a) r x.1.0 x.1.1 n c ∙ sym (text_other i x.0 n);
        void = λ i h o a d n c. elim (split_over l.pages.text (from_page z s k) (λ w. 0) i) [
          | inl x ↦ ap (λ (t : ℕ → ℕ). t n) x.1
          | inr x ↦ ap (λ (t : ℕ → ℕ). t n) x.1 ∙ m.away.void i h o (was_away i x.0 a) (λ r p e. let y = stays i h x.0 r p in d r y.0 (y.1 ∙ e)) n c
        ];
      };
      filed = λ i h a n c. let e = text_other i (λ o. a (rw o.0 b.asked.1.1.0)) n in let o = m.filed i h a n c in (λ p. e ∙ o.0 p, λ r p. e ∙ o.1 r p);
      kept = λ i h t r n. let x = kept_was i t in let y = m.kept i h x.1 r (elim n [
        | inl p ↦ inl p
        | inr o ↦ elim o [ inl p ↦ inr (inl p) | inr p ↦ inr (inr (was i h r p.0 p.1).1) ]
      ]) in record { latest = y.latest; words = λ a c. text_other i x.0 a ∙ y.words a c };
    };
  }
