-- Claim: the frame taken is freed, freed with its page nulled, or a write of it begins.
use mathlib.Core.Path.{◌≡◌, refl, ap, sym, ◌∙◌, subst}
use mathlib.Core.Bool.{Bool, true, false, not}
use mathlib.Core.List.{List}
use mathlib.Core.Logic.{inl, inr}
use Prim.Native.Nat.{ℕ, suc, ◌+◌, ◌*◌, ◌%◌, ◌<◌, pred}
use native.Mathlib.Omega.{arith}
use native.Mathlib.Decide.{ℕ_discrete}
use lib.Dec.{T, eqb, eqb→eq}
use lib.ListN.{set}
use lib.Seq.{get_or-set_same}
use borrow.Author.Tests.{eq-eqb, ne_eqb}
use Rattle.tables.specs.Base.{at, if, all}
use Rattle.tables.specs.Laws.{T→true, and_intro, and_left, if_yes, if_no, eq→T, all_elim, all_intro, not_zero}
use Rattle.tables.specs.Queue.{members, times}
use Rattle.tables.specs.QueueLaws.{members_within}
use Rattle.tables.specs.Store.{Split}
use Rattle.model.specs.declared.frame.Frame.{Frame}
use Rattle.model.specs.declared.sizes.Sizes.{Sizes}
use Rattle.model.specs.declared.event.Writeback.TheVariants.{Claim}
use Rattle.model.specs.declared.event.Event.TheVariants as Event
use Rattle.model.specs.Lines.{NULLED, LIVE}
use Rattle.model.specs.State.{State, no_frame, frame_at, NONE, WRITING, all_pages}
use Rattle.model.specs.Setters.{on_core, on_held, set_states, set_transfer, counted}
use Rattle.model.specs.Pages.{on_frame}
use Rattle.model.specs.Writeback as Writeback
use Rattle.model.specs.Writeback.{looked, looking, zeros, record_in, begins_write, free_frame}
use Rattle.model.specs.Step.{carried}
use Rattle.model.specs.Ledger.{Ledger, note, put, claimed, opened, voided, set_live}
use Rattle.model.specs.Acts.{fed}
use Rattle.model.specs.Laws.Index.{split_set}
use Rattle.invariant.proofs.Looks.{looking_takes}
use Rattle.invariant.proofs.Stands.{seat_at}
use Rattle.invariant.proofs.Stands as Stands
use Rattle.crash.proofs.Writes.{split_put, put_other, put_same}
use Rattle.crash.proofs.Link.{Away, Lives, Alive, Holding, Tied}
use Rattle.crash.proofs.Steps.{Before, tied_at}
use Rattle.crash.proofs.OneFrame.{Alike, alike_trans, one_frame, other_frame, away_but, Elsewhere, Out}

module _ (z : Sizes) (st : State) (l : Ledger) (b : Before z st l (Event.Writeback Claim)) where
  abbrev f : ℕ
  f = (looking z st).taken

  abbrev fs : ℕ → Frame
  fs = frame_at st.memory.core.frames

  abbrev old : Frame
  old = fs f

  abbrev address : ℕ → ℕ
  address = at st.memory.held.addresses

  abbrev state : ℕ → ℕ
  state = at st.memory.held.states

  abbrev text : ℕ → ℕ → ℕ
  text = l.pages.text

  abbrev i₀ : ℕ
  i₀ = pred old.page

  abbrev r₀ : ℕ
  r₀ = record_in z st f

  listed : 0 < times (members st.memory.core.removal_list) f
  listed = omega (arith, (looking_takes z st b.asked.0).left f, if_yes {A = ℕ} f f 1 0 refl)

  cooled : (g : ℕ) → Alike (frame_at (looking z st).frames g) (fs g)
  cooled g = let c = (looking_takes z st b.asked.0).cooler g in record { page = c.page; modified = c.modified; transfer = c.transfer }

  hf : f < z.frames
  hf = members_within st.memory.core.removal_list b.fit.memory.removal_list b.ruled.queues.removal_list f (listed)

  still : old.transfer ≡ NONE
  still = Stands.still (seat_at z st b.ruled f hf) (omega (arith, listed))

  page : old.page ≡ suc i₀
  page = not_zero old.page (b.ruled.frames.busy f hf (omega (arith, b.ruled.frames.in_one_place_holds f hf, listed)))

  within : i₀ < all_pages z
  within = (b.ruled.frames.fit f hf).0 i₀ page

  held : address i₀ ≡ suc r₀
  held = not_zero (address i₀) (b.ruled.frames.held f hf i₀ page).0

  holds : Holding z old (λ k. at st.memory.core.words (f * z.words + k)) address l.design text l.pages.touched l.pages.kept (l.pending.noted f) (l.pending.write f) i₀
  holds = (b.tied.memory.framed f hf).holding i₀ page

  said : (n : ℕ) → n < z.words → at st.memory.core.words (f * z.words + n) ≡ text i₀ n
  said n h = holds.said (λ e. omega (arith, e, still)) n h

  unflagged : ¬ (T (l.pending.writing f))
  unflagged t = omega (arith, still, (b.tied.memory.framed f hf).only t)

  stored_new : (new : Frame) → frame_at (set (looking z st).frames f new) f ≡ new
  stored_new new = get_or-set_same (looking z st).frames f new no_frame (rw ((looking_takes z st b.asked.0).frames_long, b.fit.memory.frames) hf)

  others_alike : (new : Frame) (g : ℕ) → ¬ (g ≡ f) → Alike (frame_at (set (looking z st).frames f new) g) (fs g)
  others_alike new g e = alike_trans (other_frame (looking z st).frames f new g e) (cooled g)

  -- ── the frame is freed ──
  module _ (states' : List ℕ) (live' : ℕ → Bool) (was : (r : ℕ) → at states' r ≡ LIVE → state r ≡ LIVE)
      (stays : (i : ℕ) → i < all_pages z → ¬ (i ≡ i₀) → (r : ℕ) → address i ≡ suc r → state r ≡ LIVE → at states' r ≡ LIVE) (live : Lives z address (at states') live') (alive : Alive z address (at states') live')
      (paged : (r : ℕ) → address i₀ ≡ suc r → at states' r ≡ LIVE → (n : ℕ) → n < z.words → at st.disk.records (r * z.words + n) ≡ text i₀ n)
      (void : ((r : ℕ) → address i₀ ≡ suc r → ¬ (at states' r ≡ LIVE)) → (n : ℕ) → n < z.words → text i₀ n ≡ 0) where
    freed : Tied z (counted z (free_frame f (on_held (λ h. set_states states' h) (looked z st)))) (set_live live' l)
    unfolding counted free_frame
    freed = one_frame z st l f no_frame _ _ _ _ _ _ _ b.tied (let m = b.tied.memory in record {
      within = hf;
      stored = stored_new no_frame;
      frames = λ g h e. others_alike no_frame g e;
      words = λ g n h k e. refl;
      noted = λ g e. refl;
      flag = λ g e. refl;
      write = λ g e. refl;
      others = λ g h e i q. (refl, (λ n. refl, refl));
      here = record { holding = λ i q. absurd (omega (arith, q)); only = λ t. absurd (unflagged t); opened = λ e. absurd (omega (arith, e)) };
      was = λ i h r q e. (q, was r e);
      live = live;
      alive = alive;
      paged = λ i h a r q e n k. elim (ℕ_discrete i i₀) [
        | yes d ↦ subst (λ (j : ℕ). at st.disk.records (r * z.words + n) ≡ text j n) (sym d) (paged r (sym (ap address d) ∙ q) e n k)
        | no d ↦ m.away.paged i h (was_away i d a.0) r q (was r e) n k
      ];
      void = λ i h o a d n k. elim (ℕ_discrete i i₀) [
        | yes e ↦ subst (λ (j : ℕ). text j n ≡ 0) (sym e) (void (λ r q. d r (ap address e ∙ q)) n k)
        | no e ↦ m.away.void i h o (was_away i e a.0) (λ r q u. d r q (stays i h e r q u)) n k
      ];
      asleep = λ i h a n. refl;
      kept = λ i t. (t, λ n. refl);
    })
      where
        was_away : (i : ℕ) → ¬ (i ≡ i₀) → Elsewhere z fs f i → Away z fs i
        was_away i d a = away_but z fs f i a (λ u. absurd (d (omega (arith, u, page))))

  -- unmodified: the page's words are its live record's, or zeros
  unmodified : ¬ (old.modified ≡ 1) → Tied z (counted z (free_frame f (looked z st))) (note z l (claimed f 0))
  unfolding note
  unmodified d = go (voided z l (l.pending.noted f).place) refl
    where
      clean : (r : ℕ) → address i₀ ≡ suc r → (n : ℕ) → n < z.words → at st.memory.core.words (f * z.words + n) ≡ if (eqb (state r) LIVE) (at st.disk.records (r * z.words + n)) 0
      clean r q n h = b.ruled.frames.clean f hf i₀ page still (omega (arith, d, (b.ruled.frames.fit f hf).1.1.0)) r q n h

      -- the page is not written since its fault
      untouched : ¬ (T (l.pages.touched (l.pending.noted f).place))
      untouched t = d (holds.turned (subst (λ (i : ℕ). T (l.pages.touched i)) holds.place t))

      go : (v : Bool) → voided z l (l.pending.noted f).place ≡ v → Tied z (counted z (free_frame f (looked z st))) (if v (set_live (put l.pages.live (l.pending.noted f).place false) l) l)
      go true e = absurd (untouched (and_left (l.pages.touched (l.pending.noted f).place) (all z.words (λ w. eqb (text (l.pending.noted f).place w) 0)) (rw e tt)))
      go false e = freed st.memory.held.states l.pages.live (λ r e. e) (λ i h e r q u. u) b.tied.memory.lives b.tied.memory.alive
          (λ r q e n h. sym (if_yes (state r) LIVE _ 0 e) ∙ sym (clean r q n h) ∙ said n h)
          (λ v n h. sym (said n h) ∙ clean r₀ held n h ∙ if_no (state r₀) LIVE _ 0 (v r₀ held))

  -- modified and all zeros: the page is nulled
  nulled : old.modified ≡ 1 → T (zeros z st f) → Tied z (counted z (free_frame f (on_held (λ h. set_states (set h.states r₀ NULLED) h) (looked z st)))) (note z l (claimed f 0))
  unfolding note zeros
  nulled md zs = subst (λ (v : Bool). Tied z (counted z (free_frame f (on_held (λ h. set_states (set h.states r₀ NULLED) h) (looked z st)))) (if v (set_live (put l.pages.live (l.pending.noted f).place false) l) l)) (sym is_void)
      (freed (set st.memory.held.states r₀ NULLED) (put l.pages.live (l.pending.noted f).place false) (λ r e. (was r e).1) stays
      (λ i h t. elim (split_put l.pages.live (l.pending.noted f).place false i) [
        | inl x ↦ absurd (rw x.1 at t)
        | inr x ↦ let o = b.tied.memory.lives i h (rw x.1 at t) in (o.0, o.1, stays i h (λ e. x.0 (e ∙ sym holds.place)) o.0 o.1 o.2)
      ])
      (λ i h r q e. let w = was r e in rw (put_other l.pages.live (l.pending.noted f).place false i (λ c. w.0 (omega (arith, sym (ap address (c ∙ holds.place)) ∙ q, held)))) (b.tied.memory.alive i h r q w.1))
      (λ r q e. absurd ((was r e).0 (omega (arith, q, held)))) (λ v. zero_text))
    where
      zero_text : (n : ℕ) → n < z.words → text i₀ n ≡ 0
      zero_text n h = sym (said n h) ∙ eqb→eq (at st.memory.core.words (f * z.words + n)) 0 (all_elim z.words (λ a. eqb (at st.memory.core.words (f * z.words + a)) 0) zs n h)

      is_void : voided z l (l.pending.noted f).place ≡ true
      is_void = subst (λ (i : ℕ). voided z l i ≡ true) (sym holds.place) (T→true (voided z l i₀) (and_intro (l.pages.touched i₀) _ (holds.written md) (all_intro z.words (λ w. eqb (text i₀ w) 0) (λ n h. eq→T (zero_text n h)))))

      state_split : (r : ℕ) → Split (r ≡ r₀) (at (set st.memory.held.states r₀ NULLED) r) NULLED (state r)
      state_split r = split_set st.memory.held.states r₀ NULLED r (rw b.fit.memory.states (b.ruled.records.address_fit_holds i₀ within r₀ held))

      was : (r : ℕ) → at (set st.memory.held.states r₀ NULLED) r ≡ LIVE → (¬ (r ≡ r₀)) × (state r ≡ LIVE)
      was r e = elim (state_split r) [ inl x ↦ absurd (omega (arith, x.1, e)) | inr x ↦ (x.0, sym x.1 ∙ e) ]

      stays : (i : ℕ) → i < all_pages z → ¬ (i ≡ i₀) → (r : ℕ) → address i ≡ suc r → state r ≡ LIVE → at (set st.memory.held.states r₀ NULLED) r ≡ LIVE
      stays i h d r q e = elim (state_split r) [ inl x ↦ absurd (d (b.ruled.records.held_once_holds i h i₀ within r₀ (q ∙ ap suc x.0) held)) | inr x ↦ x.1 ∙ e ]

  -- modified, and not all zeros: a write begins
  begun : old.modified ≡ 1 → Tied z (counted z (on_core (λ c. on_frame f (set_transfer WRITING) c) (looked z st))) (note z l (claimed f (suc r₀)))
  unfolding counted note
  begun md = one_frame z st l f new _ _ _ _ _ _ _ b.tied (let m = b.tied.memory in record {
    within = hf;
    stored = stored_new new;
    frames = λ g h e. others_alike new g e;
    words = λ g n h k e. refl;
    noted = λ g e. refl;
    flag = λ g e. put_other l.pending.writing f true g e;
    write = λ g e. put_other l.pending.write f (opened z l f r₀) g e;
    others = λ g h e i q. (refl, (λ n. refl, refl));
    here = record {
      holding = λ i q. let p = sym (cooled f).page ∙ q in let h = (m.framed f hf).holding i p in record {
        place = h.place;
        design = h.design;
        written = λ t. h.written md;
        clean = λ t. h.clean md;
        turned = λ t. (cooled f).modified ∙ md;
        awaited = λ e. absurd (omega (arith, e));
        said = λ t. h.said (λ e. omega (arith, e, still));
        opened = λ t. rw (put_same l.pending.write f (opened z l f r₀)) (record {
          design = h.design;
          page = ap (λ (j : ℕ). j % z.pages) h.place;
          record' = subst (λ (j : ℕ). address j ≡ suc r₀) (omega (arith, p, page)) held;
          words = λ n k. ap (λ (j : ℕ). text j n) h.place;
        });
      };
      only = λ t. refl;
      opened = λ e. rw (put_same l.pending.writing f true) tt;
    };
    was = λ i h r q e. (q, e);
    live = m.lives;
    alive = m.alive;
    paged = λ i h a. m.away.paged i h (was_away i a);
    void = λ i h o a. m.away.void i h o (was_away i a);
    asleep = λ i h a n. refl;
    kept = λ i t. (t, λ n. refl);
  })
    where
      new : Frame
      new = set_transfer WRITING (frame_at (looking z st).frames f)

      was_away : (i : ℕ) → Out z fs f new i → Away z fs i
      was_away i a = away_but z fs f i a.0 (λ u. absurd (omega (arith, a.1 ((cooled f).page ∙ u))))

  begins : (m : Bool) → eqb old.modified 1 ≡ m → (zs : Bool) → zeros z st f ≡ zs → begins_write z st ≡ if m (not zs) false
  unfolding begins_write
  begins m em zs ez = rw (em, ez)

  pub claim : Tied z (carried z st (Event.Writeback Claim)) (note z l (fed z st (Event.Writeback Claim)))
  unfolding carried fed Writeback.claim
  claim = elim (ℕ_discrete old.modified 1) [ yes e ↦ go (zeros z st f) refl e | no e ↦ let q = ne_eqb old.modified 1 e in tied_at (rw (begins false q (zeros z st f) refl, q)) (rw (begins false q (zeros z st f) refl)) (unmodified e) ]
    where
      go : (zs : Bool) → zeros z st f ≡ zs → old.modified ≡ 1 → Tied z (carried z st (Event.Writeback Claim)) (note z l (fed z st (Event.Writeback Claim)))
      go true ez e = let q = eq-eqb old.modified 1 e in tied_at (rw (begins true q true ez, q)) (rw (begins true q true ez)) (nulled e (rw ez tt))
      go false ez e = let q = eq-eqb old.modified 1 e in tied_at (rw (begins true q false ez)) (rw (begins true q false ez)) (begun e)
