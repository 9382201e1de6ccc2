-- Fault: a read begins, or the page is served as zeros, with its nulled record or a free one.
use mathlib.Core.Path.{◌≡◌, refl, ap, sym, ◌∙◌}
use mathlib.Core.Bool.{false}
use mathlib.Core.Logic.{inl, inr}
use Prim.Native.Nat.{ℕ, suc, ◌<◌}
use native.Mathlib.Omega.{arith}
use native.Mathlib.Decide.{ℕ_discrete}
use lib.Arith.{digits_lt, digits_div}
use lib.Dec.{T, eqb, eqb→eq}
use lib.ListN.{set}
use lib.Seq.{get_or-set_same}
use Rattle.tables.specs.Base.{at}
use Rattle.tables.specs.CountLaws.{count_some}
use Rattle.tables.specs.QueueLaws.{first_in, first_below}
use Rattle.tables.specs.Queue.{times, members}
use Rattle.tables.specs.Rule.{same, told, untold, decided}
use Rattle.tables.specs.Store.{Split}
use Rattle.model.specs.declared.frame.Frame.{Frame}
use Rattle.model.specs.declared.sizes.Sizes.{Sizes}
use Rattle.model.specs.declared.event.Page.TheVariants.{Fault}
use Rattle.model.specs.declared.event.Event.TheVariants as Event
use Rattle.model.specs.Lines.{FREE, NULLED, LIVE}
use Rattle.model.specs.State.{Held, State, files, no_frame, frame_at, NONE, all_pages, page_of, slot_of, live, free_count}
use Rattle.model.specs.Setters.{counted}
use Rattle.model.specs.Parts.{pick}
use Rattle.model.specs.Laws.Choice.{pick_below, pick_free}
use Rattle.model.specs.Pages as Pages
use Rattle.model.specs.Step.{carried}
use Rattle.model.specs.Ledger.{Ledger, Note, note, put, faulted}
use Rattle.model.specs.Acts.{fed}
use Rattle.model.specs.Laws.Index.{split_set}
use Rattle.invariant.proofs.Stands.{seat_at}
use Rattle.invariant.proofs.Stands as Stands
use Rattle.crash.proofs.Writes.{put_other, put_same}
use Rattle.crash.proofs.Link.{Away, Tied}
use Rattle.crash.proofs.Steps.{Before, tied_at}
use Rattle.crash.proofs.OneFrame.{one_frame, other_frame, away_but, Elsewhere}
use Rattle.invariant.proofs.Parts.{at_part}

module _ (z : Sizes) (s p : ℕ) (st : State) (l : Ledger) (b : Before z st l (Event.Page (Fault s p))) where
  abbrev i₀ : ℕ
  i₀ = page_of z s p

  abbrev f : ℕ
  f = Pages.fault_frame st

  abbrev fs : ℕ → Frame
  fs = frame_at st.memory.core.frames

  abbrev address : ℕ → ℕ
  address = at st.memory.held.addresses

  abbrev state : ℕ → ℕ
  state = at st.memory.held.states

  within : i₀ < all_pages z
  within = digits_lt b.asked.0.0 b.asked.0.1

  slot : slot_of z i₀ ≡ s
  slot = digits_div s b.asked.0.1

  active : at st.memory.slots.active (slot_of z i₀) ≡ 1
  active = ap (at st.memory.slots.active) slot ∙ b.asked.1.1.0

  queued : 0 < times (members st.memory.core.free_queue) f
  unfolding Pages.fault_frame
  queued = first_in st.memory.core.free_queue b.asked.1.1.1.1.1.1.0

  hf : f < z.frames
  unfolding Pages.fault_frame
  hf = first_below st.memory.core.free_queue b.fit.memory.free_queue b.ruled.queues.free_queue b.asked.1.1.1.1.1.1.0

  still : (fs f).transfer ≡ NONE
  still = Stands.still (seat_at z st b.ruled f hf) (omega (arith, queued))

  no_page : (fs f).page ≡ 0
  no_page = (b.ruled.frames.free f hf (λ e. omega (arith, e, queued))).0

  unflagged : ¬ (T (l.pending.writing f))
  unflagged t = omega (arith, still, (b.tied.memory.framed f hf).only t)

  -- the pages of the other frames are others
  apart : (g : ℕ) → g < z.frames → (i : ℕ) → (fs g).page ≡ suc i → ¬ (i ≡ i₀)
  apart g h i q e = b.asked.1.1.1.1.0 (g, h, q ∙ ap suc e)

  was_away : (i : ℕ) → Elsewhere z fs f i → Away z fs i
  was_away i a = away_but z fs f i a (λ u. absurd (omega (arith, u, no_page)))

  abbrev noting : Note
  noting = record { design = l.design s; place = i₀ }

  touched_other : (g : ℕ) → g < z.frames → (i : ℕ) → (fs g).page ≡ suc i → put l.pages.touched i₀ false i ≡ l.pages.touched i
  touched_other g h i q = put_other l.pages.touched i₀ false i (apart g h i q)

  -- the page is not written since its fault
  untouched : (i : ℕ) → i ≡ i₀ → ¬ (T (put l.pages.touched i₀ false i))
  untouched i e t = rw (e, put_same l.pages.touched i₀ false) at t

  noted_here : put l.pending.noted f noting f ≡ noting
  noted_here = put_same l.pending.noted f noting

  -- ── a live address: a read begins ──
  read_begins : Tied z (counted z (Pages.begin_read z st i₀ f)) (note z l (faulted s p f))
  unfolding counted Pages.begin_read note
  read_begins = one_frame z st l f (Pages.awaiting i₀) _ _ _ _ _ _ _ b.tied (let m = b.tied.memory in record {
    within = hf;
    stored = get_or-set_same st.memory.core.frames f (Pages.awaiting i₀) no_frame (rw b.fit.memory.frames hf);
    frames = λ g h e. other_frame st.memory.core.frames f (Pages.awaiting i₀) g e;
    words = λ g n h k e. refl;
    noted = λ g e. put_other l.pending.noted f noting g e;
    flag = λ g e. refl;
    write = λ g e. refl;
    others = λ g h e i q. (refl, (λ n. refl, touched_other g h i q));
    here = record {
      holding = λ i q. let e : i ≡ i₀ = omega (arith, q) in record {
        place = ap (λ (n : Note). n.place) noted_here ∙ sym e;
        design = ap (λ (n : Note). n.design) noted_here ∙ ap l.design (sym slot ∙ ap (slot_of z) (sym e));
        written = λ x. absurd (omega (arith, x));
        clean = λ x. absurd (omega (arith, x));
        turned = λ x. absurd (untouched i e x);
        awaited = λ x. untouched i e;
        said = λ x. absurd (x refl);
        opened = λ x. absurd (omega (arith, x));
      };
      only = λ t. absurd (unflagged t);
      opened = λ x. absurd (omega (arith, x));
    };
    was = λ i h r q e. (q, e);
    live = m.lives;
    alive = m.alive;
    paged = λ i h a. m.away.paged i h (was_away i a.0);
    void = λ i h o a. m.away.void i h o (was_away i a.0);
    asleep = λ i h a n. refl;
    kept = λ i x. (x, λ n. refl);
  })

  -- ── no live address: zeros in service; the page may take a record that is not live ──
  module _ (held' : Held) (nulled : (r : ℕ) → address i₀ ≡ suc r → ¬ (state r ≡ LIVE)) (was : (i r : ℕ) → at held'.addresses i ≡ suc r → at held'.states r ≡ LIVE → (address i ≡ suc r) × (state r ≡ LIVE))
      (stays : (i r : ℕ) → address i ≡ suc r → state r ≡ LIVE → (at held'.addresses i ≡ suc r) × (at held'.states r ≡ LIVE)) (others : (i : ℕ) → ¬ (i ≡ i₀) → at held'.addresses i ≡ address i) where
    abbrev st₁ : State
    st₁ = record { disk = st.disk; memory = record { core = st.memory.core; held = held'; slots = st.memory.slots; chip = st.memory.chip; line = st.memory.line; used = st.memory.used } }

    zeros_served : Tied z (counted z (Pages.serve_zeros z st₁ i₀ f)) (note z l (faulted s p f))
    unfolding counted Pages.serve_zeros note
    zeros_served = one_frame z st l f (Pages.fresh i₀) _ _ _ _ _ _ _ b.tied (let m = b.tied.memory in record {
      within = hf;
      stored = get_or-set_same st.memory.core.frames f (Pages.fresh i₀) no_frame (rw b.fit.memory.frames hf);
      frames = λ g h e. other_frame st.memory.core.frames f (Pages.fresh i₀) g e;
      words = λ g n h k e. elim (at_part z st.memory.core.words f (λ a. 0) z.frames g n b.fit.memory.words h k) [ inl x ↦ absurd (e x.0) | inr x ↦ x.1 ];
      noted = λ g e. put_other l.pending.noted f noting g e;
      flag = λ g e. refl;
      write = λ g e. refl;
      others = λ g h e i q. (others i (apart g h i q), (λ n. refl, touched_other g h i q));
      here = record {
        holding = λ i q. let e : i ≡ i₀ = omega (arith, q) in record {
          place = ap (λ (n : Note). n.place) noted_here ∙ sym e;
          design = ap (λ (n : Note). n.design) noted_here ∙ ap l.design (sym slot ∙ ap (slot_of z) (sym e));
          written = λ x. absurd (omega (arith, x));
          clean = λ x. absurd (omega (arith, x));
          turned = λ x. absurd (untouched i e x);
          awaited = λ x. untouched i e;
          said = λ x n k. elim (at_part z st.memory.core.words f (λ a. 0) z.frames f n b.fit.memory.words hf k) [
            | inl y ↦ y.1 ∙ sym (ap (λ (j : ℕ). l.pages.text j n) e ∙ m.away.void i₀ within active (λ g h a. absurd (apart g h i₀ a refl)) nulled n k)
            | inr y ↦ absurd (y.0 refl)
          ];
          opened = λ x. absurd (omega (arith, x));
        };
        only = λ t. absurd (unflagged t);
        opened = λ x. absurd (omega (arith, x));
      };
      was = λ i h r q e. was i r q e;
      live = λ i h t. let o = m.lives i h t in let x = stays i o.0 o.1 o.2 in (o.0, x.0, x.1);
      alive = λ i h r q e. let x = was i r q e in m.alive i h r x.0 x.1;
      paged = λ i h a r q e. let x = was i r q e in m.away.paged i h (was_away i a.0) r x.0 x.1;
      void = λ i h o a d. m.away.void i h o (was_away i a.0) (λ r q e. let x = stays i r q e in d r x.0 x.1);
      asleep = λ i h a n. refl;
      kept = λ i x. (x, λ n. refl);
    })

  -- a free record is taken
  module _ (none : address i₀ ≡ 0) where
    abbrev r₀ : ℕ
    r₀ = pick z address state st.memory.held.pool.hand i₀

    below : r₀ < z.records
    below = pick_below z address state st.memory.held.pool.hand i₀ b.fit.sizes.records

    free : state r₀ ≡ FREE
    unfolding free_count
    free = let t = count_some z.records (λ r. eqb (state r) FREE) (elim b.asked.1.1.1.1.1.0 [ inl x ↦ absurd (x none) | inr x ↦ rw (← b.ruled.counts.free) x ]) in
        pick_free z address state st.memory.held.pool.hand i₀ t.0 t.1 b.ruled.counts.hand (eqb→eq _ _ t.2)

    address_split : (i : ℕ) → Split (i ≡ i₀) (at (set st.memory.held.addresses i₀ (suc r₀)) i) (suc r₀) (address i)
    address_split i = split_set st.memory.held.addresses i₀ (suc r₀) i (rw b.fit.memory.addresses within)

    state_split : (r : ℕ) → Split (r ≡ r₀) (at (set st.memory.held.states r₀ NULLED) r) NULLED (state r)
    state_split r = split_set st.memory.held.states r₀ NULLED r (rw b.fit.memory.states below)

    record_taken : Tied z (counted z (Pages.serve_zeros z (Pages.take_record z st i₀ r₀) i₀ f)) (note z l (faulted s p f))
    unfolding Pages.take_record
    record_taken = zeros_served _ (λ r q. absurd (omega (arith, q, none)))
        (λ i r q e. elim (state_split r) [
          | inl y ↦ absurd (omega (arith, y.1, e))
          | inr y ↦ elim (address_split i) [ inl x ↦ absurd (y.0 (omega (arith, x.1, q))) | inr x ↦ (sym x.1 ∙ q, sym y.1 ∙ e) ]
        ])
        (λ i r q e. (
          elim (address_split i) [ inl x ↦ absurd (omega (arith, sym (ap address x.0) ∙ q, none)) | inr x ↦ x.1 ∙ q ],
          elim (state_split r) [ inl x ↦ absurd (omega (arith, sym (ap state x.0) ∙ e, free)) | inr x ↦ x.1 ∙ e ],
        ))
        (λ i e. elim (address_split i) [ inl x ↦ absurd (e x.0) | inr x ↦ x.1 ])

  pub fault : Tied z (carried z st (Event.Page (Fault s p))) (note z l (fed z st (Event.Page (Fault s p))))
  unfolding carried fed Pages.fault
  fault = elim (decided (live (files st) i₀)) [
    | yes h ↦ tied_at (rw (told (live (files st) i₀) h)) refl read_begins
    | no h ↦ elim (ℕ_discrete (address i₀) 0) [
      | yes e ↦ tied_at (rw (untold (live (files st) i₀) h, told (same (address i₀) 0) e)) refl (record_taken e)
      | no e ↦ tied_at (rw (untold (live (files st) i₀) h, untold (same (address i₀) 0) e)) refl (zeros_served st.memory.held (λ r q d. h (r, q, d)) (λ i r q d. (q, d)) (λ i r q d. (q, d)) (λ i d. refl))
    ]
  ]
