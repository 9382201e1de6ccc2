-- Write: one word of a page in service, and of its text.
use mathlib.Core.Path.{◌≡◌, refl, ap, sym, ◌∙◌}
use mathlib.Core.Bool.{true, false}
use mathlib.Core.Logic.{inl, inr}
use Prim.Native.Nat.{ℕ, suc, ◌+◌, ◌*◌, ◌/◌, ◌%◌, ◌<◌}
use native.Mathlib.Omega.{arith}
use lib.Arith.{digits_lt, digits_div, digits_mod}
use lib.ListN.{set}
use lib.Seq.{get_or-set_same}
use Rattle.tables.specs.Base.{at}
use Rattle.tables.specs.Store.{Split}
use Rattle.model.specs.declared.frame.Frame.{Frame}
use Rattle.model.specs.declared.sizes.Sizes.{Sizes}
use Rattle.model.specs.declared.event.Page.TheVariants.{Write}
use Rattle.model.specs.declared.event.Event.TheVariants as Event
use Rattle.model.specs.State.{State, frames, no_frame, frame_at, NONE, READING, page_of}
use Rattle.model.specs.Parts.{frame_of}
use Rattle.model.specs.Setters.{counted}
use Rattle.model.specs.Pages
use Rattle.model.specs.Step.{carried}
use Rattle.model.specs.Ledger.{Ledger, note, put}
use Rattle.model.specs.Acts.{fed}
use Rattle.model.specs.Laws.Index.{split_set}
use Rattle.invariant.proofs.Stands.{frame_of_holds}
use Rattle.crash.proofs.Writes.{split_put, put_other, put_same}
use Rattle.crash.proofs.Link.{Away, Tied}
use Rattle.crash.proofs.Steps.{Before}
use Rattle.crash.proofs.OneFrame.{one_frame, other_frame, away_but, Out}

module _ (z : Sizes) (s p n x : ℕ) (st : State) (l : Ledger) (b : Before z st l (Event.Page (Write s p n x))) where
  abbrev i₀ : ℕ
  i₀ = page_of z s p

  abbrev f : ℕ
  f = frame_of z (frames st) i₀

  abbrev fs : ℕ → Frame
  fs = frame_at st.memory.core.frames

  abbrev old : Frame
  old = fs f

  abbrev new : Frame
  new = record { page = old.page; used = 1; modified = 1; wired = old.wired; initial = old.initial; transfer = old.transfer }

  abbrev text : ℕ → ℕ → ℕ
  text = l.pages.text

  abbrev text' : ℕ → ℕ → ℕ
  text' = put text i₀ (put (text i₀) n x)

  abbrev words' : ℕ → ℕ
  words' = at (set st.memory.core.words (f * z.words + n) x)

  in_it : (f < z.frames) × (old.page ≡ suc i₀)
  in_it = frame_of_holds z (frames st) i₀ b.asked.1.1.1.0

  still : old.transfer ≡ NONE
  still = b.asked.1.1.1.1.0 f in_it.0 in_it.1

  hn : n < z.words
  hn = b.asked.0.1.1

  text_other : (i : ℕ) → ¬ (i ≡ i₀) → (a : ℕ) → text' i a ≡ text i a
  text_other i e a = ap (λ (t : ℕ → ℕ). t a) (put_other text i₀ (put (text i₀) n x) i e)

  word : (g a : ℕ) → a < z.words → Split (g * z.words + a ≡ f * z.words + n) (words' (g * z.words + a)) x (at st.memory.core.words (g * z.words + a))
  word g a h = split_set st.memory.core.words (f * z.words + n) x (g * z.words + a) (rw b.fit.memory.words (digits_lt in_it.0 hn))

  same_frame : (g a : ℕ) → a < z.words → g * z.words + a ≡ f * z.words + n → g ≡ f
  same_frame g a h e = sym (digits_div g h) ∙ ap (λ (c : ℕ). c / z.words) e ∙ digits_div f hn

  same_word : (a : ℕ) → a < z.words → f * z.words + a ≡ f * z.words + n → a ≡ n
  same_word a h e = sym (digits_mod f h) ∙ ap (λ (c : ℕ). c % z.words) e ∙ digits_mod f hn

  -- a page in another frame is another page
  apart : (g : ℕ) → g < z.frames → ¬ (g ≡ f) → (i : ℕ) → (fs g).page ≡ suc i → ¬ (i ≡ i₀)
  apart g h e i q d = e (b.ruled.frames.once g h f in_it.0 i q (in_it.1 ∙ ap suc (sym d)))

  said_here : (a : ℕ) → a < z.words → words' (f * z.words + a) ≡ text' i₀ a
  said_here a h = elim (word f a h) [
    | inl y ↦ y.1 ∙ sym (at_i₀ a ∙ ap (put (text i₀) n x) (same_word a h y.0) ∙ put_same (text i₀) n x)
    | inr y ↦ y.1 ∙ ((b.tied.memory.framed f in_it.0).holding i₀ in_it.1).said (λ r. omega (arith, r, still)) a h ∙ sym (at_i₀ a ∙ put_other (text i₀) n x a (λ e. y.0 (ap (λ (c : ℕ). f * z.words + c) e)))
  ]
    where
      at_i₀ : (a : ℕ) → text' i₀ a ≡ put (text i₀) n x a
      at_i₀ a = ap (λ (h : ℕ → ℕ). h a) (put_same text i₀ (put (text i₀) n x))

  was_away : (i : ℕ) → Out z fs f new i → Away z fs i
  was_away i a = away_but z fs f i a.0 a.1

  not_here : (i : ℕ) → (new.page ≡ suc i → new.transfer ≡ READING) → ¬ (i ≡ i₀)
  not_here i a e = omega (arith, still, a (in_it.1 ∙ ap suc (sym e)))

  pub write : Tied z (carried z st (Event.Page (Write s p n x))) (note z l (fed z st (Event.Page (Write s p n x))))
  unfolding carried fed note Pages.write counted
  write = one_frame z st l f new _ _ _ _ _ _ _ b.tied (let m = b.tied.memory in let o = m.framed f in_it.0 in record {
    within = in_it.0;
    stored = get_or-set_same st.memory.core.frames f new no_frame (rw b.fit.memory.frames in_it.0);
    frames = λ g h e. other_frame st.memory.core.frames f new g e;
    words = λ g a h k e. elim (word g a k) [ inl y ↦ absurd (e (same_frame g a k y.0)) | inr y ↦ y.1 ];
    noted = λ g e. refl;
    flag = λ g e. refl;
    write = λ g e. refl;
    others = λ g h e i q. let d = apart g h e i q in (refl, (text_other i d, put_other l.pages.touched i₀ true i d));
    here = record {
      holding = λ i q. let e : i ≡ i₀ = omega (arith, q, in_it.1) in let h = o.holding i q in record {
        place = h.place;
        design = h.design;
        written = λ t. rw (e, put_same l.pages.touched i₀ true) tt;
        clean = λ t y. rw (e, put_same l.pages.kept i₀ false) at y;
        turned = λ t. refl;
        awaited = λ t. absurd (omega (arith, t, still));
        said = λ t a y. said_here a y ∙ ap (λ (j : ℕ). text' j a) (sym e);
        opened = λ t. absurd (omega (arith, t, still));
      };
      only = o.only;
      opened = o.opened;
    };
    was = λ i h r q e. (q, e);
    live = m.lives;
    alive = m.alive;
    paged = λ i h a r q e c k. m.away.paged i h (was_away i a) r q e c k ∙ sym (text_other i (not_here i a.1) c);
    void = λ i h a o d c k. text_other i (not_here i o.1) c ∙ m.away.void i h a (was_away i o) d c k;
    asleep = λ i h a c. text_other i (λ e. a (rw (e, digits_div s b.asked.0.1.0) b.asked.1.1.0)) c;
    kept = λ i t. elim (split_put l.pages.kept i₀ false i) [ inl y ↦ absurd (rw y.1 at t) | inr y ↦ (rw y.1 at t, text_other i y.0) ];
  })
