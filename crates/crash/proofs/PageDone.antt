-- Page done but for a good write: a read that fails or ends, a write that fails.
use mathlib.Core.Path.{◌≡◌, refl, ap, ◌∙◌, subst}
use mathlib.Core.Bool.{false}
use mathlib.Core.Logic.{inl, inr}
use Prim.Native.Nat.{ℕ, suc, ◌+◌, ◌*◌, ◌<◌, pred}
use native.Mathlib.Omega.{arith}
use lib.Dec.{T}
use lib.ListN.{set}
use lib.Seq.{get_or-set_same}
use Rattle.tables.specs.Base.{at}
use Rattle.tables.specs.Store.{Split}
use Rattle.tables.specs.Laws.{not_zero}
use Rattle.model.specs.declared.frame.Frame.{Frame}
use Rattle.model.specs.declared.sizes.Sizes.{Sizes}
use Rattle.model.specs.State.{State, no_frame, frame_at, NONE, READING, WRITING}
use Rattle.model.specs.Laws.Ruled.{Ruled}
use Rattle.model.specs.Setters.{counted, set_transfer, set_modified, set_initial}
use Rattle.model.specs.Parts.{set_part, word_at}
use Rattle.model.specs.Pages.{fresh}
use Rattle.model.specs.Writeback.{record_in, free_frame, read_good, read_failed, write_failed}
use Rattle.model.specs.Laws.Fit.{Fit}
use Rattle.model.specs.Ledger.{Ledger, put, strike_write}
use Rattle.invariant.proofs.Stands.{seat_at, moving_place}
use Rattle.crash.proofs.Writes.{put_other, put_same}
use Rattle.crash.proofs.Link.{Tied}
use Rattle.crash.proofs.OneFrame.{one_frame, other_frame, away_but}
use Rattle.invariant.proofs.Parts.{at_part}

module _ (z : Sizes) (st : State) (l : Ledger) (fit : Fit z st) (rules : Ruled z st) (k : Tied z st l) (f : ℕ) (hf : f < z.frames) where
  abbrev fs : ℕ → Frame
  fs = frame_at st.memory.core.frames

  abbrev old : Frame
  old = fs f

  abbrev address : ℕ → ℕ
  address = at st.memory.held.addresses

  stored_new : (new : Frame) → frame_at (set st.memory.core.frames f new) f ≡ new
  stored_new new = get_or-set_same st.memory.core.frames f new no_frame (rw fit.memory.frames hf)

  struck : ¬ (T (put l.pending.writing f false f))
  struck t = rw (put_same l.pending.writing f false) at t

  -- a read that fails: the frame is freed
  pub failed_read : old.transfer ≡ READING → Tied z (counted z (read_failed z st f)) (strike_write f l)
  unfolding counted read_failed free_frame strike_write
  failed_read t = one_frame z st l f no_frame _ _ _ _ _ _ _ k (let m = k.memory in record {
    within = hf;
    stored = stored_new no_frame;
    frames = λ g h e. other_frame st.memory.core.frames f no_frame g e;
    words = λ g n h c e. refl;
    noted = λ g e. refl;
    flag = λ g e. put_other l.pending.writing f false g e;
    write = λ g e. refl;
    others = λ g h e i q. (refl, (λ n. refl, refl));
    here = record { holding = λ i q. absurd (omega (arith, q)); only = λ x. absurd (struck x); opened = λ e. absurd (omega (arith, e)) };
    was = λ i h r q e. (q, e);
    live = m.lives;
    alive = m.alive;
    paged = λ i h a. m.away.paged i h (away_but z fs f i a.0 (λ q. t));
    void = λ i h o a. m.away.void i h o (away_but z fs f i a.0 (λ q. t));
    asleep = λ i h a n. refl;
    kept = λ i x. (x, λ n. refl);
  })

  -- a write that fails: the frame is in service, and modified
  pub failed_write : old.transfer ≡ WRITING → Tied z (counted z (write_failed z st f)) (strike_write f l)
  unfolding counted write_failed strike_write
  failed_write t = one_frame z st l f new _ _ _ _ _ _ _ k (let m = k.memory in record {
    within = hf;
    stored = stored_new new;
    frames = λ g h e. other_frame st.memory.core.frames f new g e;
    words = λ g n h c e. refl;
    noted = λ g e. refl;
    flag = λ g e. put_other l.pending.writing f false g e;
    write = λ g e. refl;
    others = λ g h e i q. (refl, (λ n. refl, refl));
    here = record {
      holding = λ i q. let h = (m.framed f hf).holding i q in let md = rules.frames.writing f hf t in record {
        place = h.place;
        design = h.design;
        written = λ x. h.written md;
        clean = λ x. h.clean md;
        turned = λ x. refl;
        awaited = λ e. absurd (omega (arith, e));
        said = λ x. h.said (λ e. omega (arith, e, t));
        opened = λ e. absurd (omega (arith, e));
      };
      only = λ x. absurd (struck x);
      opened = λ e. absurd (omega (arith, e));
    };
    was = λ i h r q e. (q, e);
    live = m.lives;
    alive = m.alive;
    paged = λ i h a. m.away.paged i h (away_but z fs f i a.0 (λ q. absurd (omega (arith, a.1 q))));
    void = λ i h o a. m.away.void i h o (away_but z fs f i a.0 (λ q. absurd (omega (arith, a.1 q))));
    asleep = λ i h a n. refl;
    kept = λ i x. (x, λ n. refl);
  })
    where
      new : Frame
      new = set_transfer NONE (set_modified 1 (set_initial 0 old))

  -- a good read: the frame takes the record's words
  pub good_read : old.transfer ≡ READING → Tied z (counted z (read_good z st f)) l
  unfolding counted read_good
  good_read t = one_frame z st l f new _ _ _ _ _ _ _ k (let m = k.memory in record {
    within = hf;
    stored = stored_new new;
    frames = λ g h e. other_frame st.memory.core.frames f new g e;
    words = λ g n h c e. elim (took g n h c) [ inl x ↦ absurd (e x.0) | inr x ↦ x.1 ];
    noted = λ g e. refl;
    flag = λ g e. refl;
    write = λ g e. refl;
    others = λ g h e i q. (refl, (λ n. refl, refl));
    here = record {
      holding = λ i q. let p : old.page ≡ suc i = page i q in let h = (m.framed f hf).holding i p in record {
        place = h.place;
        design = h.design;
        written = λ x. absurd (omega (arith, x));
        clean = λ x. absurd (omega (arith, x));
        turned = λ x. absurd (h.awaited t x);
        awaited = λ e. absurd (omega (arith, e));
        said = λ x n c. elim (took f n hf c) [ inl y ↦ y.1 ∙ read i p n c | inr y ↦ absurd (y.0 refl) ];
        opened = λ e. absurd (omega (arith, e));
      };
      only = λ x. absurd (omega (arith, t, (m.framed f hf).only x));
      opened = λ e. absurd (omega (arith, e));
    };
    was = λ i h r q e. (q, e);
    live = m.lives;
    alive = m.alive;
    paged = λ i h a. m.away.paged i h (away_but z fs f i a.0 (λ q. t));
    void = λ i h o a. m.away.void i h o (away_but z fs f i a.0 (λ q. t));
    asleep = λ i h a n. refl;
    kept = λ i x. (x, λ n. refl);
  })
    where
      new : Frame
      new = fresh (pred old.page)

      r₀ : ℕ
      r₀ = record_in z st f

      page : (i : ℕ) → new.page ≡ suc i → old.page ≡ suc i
      page i q = not_zero old.page (rules.frames.busy f hf (omega (arith, moving_place (seat_at z st rules f hf) (λ e. omega (arith, e, t))))) ∙ q

      took : (g n : ℕ) → g < z.frames → n < z.words → Split (g ≡ f) (at (set_part z f (word_at z st.disk.records r₀) st.memory.core.words) (g * z.words + n)) (word_at z st.disk.records r₀ n) (at st.memory.core.words (g * z.words + n))
      took g n h c = at_part z st.memory.core.words f (word_at z st.disk.records r₀) z.frames g n fit.memory.words h c

      read : (i : ℕ) → old.page ≡ suc i → (n : ℕ) → n < z.words → word_at z st.disk.records r₀ n ≡ l.pages.text i n
      read i q n c =
          let o = (rules.frames.held f hf i q).1 t in
          let e : pred old.page ≡ i = omega (arith, q) in
          let a : address (pred old.page) ≡ suc o.0 = ap address e ∙ o.1 in
          let r : r₀ ≡ o.0 = ap pred a in
          ap (λ (j : ℕ). word_at z st.disk.records j n) r ∙ k.memory.away.paged i ((rules.frames.fit f hf).0 i q) (λ g h d. subst (λ (j : ℕ). (fs j).transfer ≡ READING) (rules.frames.once f hf g h i q d) t) o.0 o.1 o.2 n c
