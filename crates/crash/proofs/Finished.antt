-- A good write: the record takes the frame's words, and the ledger finishes the write.
use mathlib.Core.Path.{◌≡◌, refl, ap, sym, ◌∙◌, subst}
use mathlib.Core.Bool.{true, false}
use mathlib.Core.List.{◌∷◌}
use mathlib.Core.Logic.{◌⊎◌, inl, inr}
use Prim.Native.Nat.{ℕ, zero, suc, ◌+◌, ◌*◌, ◌<◌, ◌≤◌, pred}
use native.Mathlib.Omega.{arith}
use native.Mathlib.Decide.{ℕ_discrete}
use lib.Dec.{T}
use lib.ListN.{set, length}
use lib.Seq.{get_or-set_same, get_or-set_other}
use Rattle.tables.specs.Base.{at}
use Rattle.tables.specs.Laws.{if_true, not_zero}
use Rattle.tables.specs.Store.{Split}
use Rattle.model.specs.declared.frame.Frame.{Frame}
use Rattle.model.specs.declared.sizes.Sizes.{Sizes}
use Rattle.model.specs.Lines.{LIVE, RELEASED, LEAVING}
use Rattle.model.specs.State.{State, Files, files, no_frame, frame_at, WRITING, all_pages, slot_of}
use Rattle.model.specs.Laws.Ruled.{Ruled, OfRecords}
use Rattle.model.specs.Setters.{counted}
use Rattle.model.specs.Parts.{set_part, word_at}
use Rattle.model.specs.Writeback.{record_in, free_frame, store_frame, write_good}
use Rattle.model.specs.Laws.Fit.{Fit}
use Rattle.model.specs.Ledger.{Ledger, Write, ended, put, finish_write, set_finished, set_live, set_write}
use Rattle.model.specs.Demand3.{last_into}
use Rattle.model.specs.Laws.Index.{split_set, slot_below}
use Rattle.invariant.proofs.Stands.{seat_at, moving_place}
use Rattle.crash.proofs.Writes.{In, Numbered, bounded, last_here, last_there, split_put, put_other, put_same}
use Rattle.crash.proofs.Link.{Owned, OfPage, Latest, Newest, Holding, Opened, InFrame, Away, KeptAs, OnDisk, InMemory, Tied}
use Rattle.invariant.proofs.Parts.{same_page}
use Rattle.crash.proofs.OneFrame.{in_frame_same, alike_same}
use Rattle.invariant.proofs.Parts.{at_part}

-- a record that a page holds is named by no other page, in no way
module _ (z : Sizes) (v : Files) (rules : OfRecords z v) (i₀ r : ℕ) (h₀ : i₀ < all_pages z) (held : v.address i₀ ≡ suc r) where
  not_cut : ((v.state r ≡ RELEASED) ⊎ (v.state r ≡ LEAVING)) → ⊥
  not_cut c = elim (rules.held i₀ h₀ r held).1 [
    | inl e ↦ elim c [ inl g ↦ omega (arith, e, g) | inr g ↦ omega (arith, e, g) ]
    | inr e ↦ elim c [ inl g ↦ omega (arith, e, g) | inr g ↦ omega (arith, e, g) ]
  ]

  pub only_map : (i : ℕ) → i < all_pages z → v.map i ≡ suc r → i ≡ i₀
  only_map i h p = elim (ℕ_discrete (v.active (slot_of z i)) 1) [
    | yes a ↦ elim (rules.mapped i h r p a) [ inl e ↦ rules.held_once_holds i h i₀ h₀ r e held | inr e ↦ absurd (not_cut e.1) ]
    | no a ↦ let g = (rules.filed i h r p a).1 in elim (rules.held i₀ h₀ r held).1 [ inl e ↦ absurd (omega (arith, e, g)) | inr e ↦ absurd (omega (arith, e, g)) ]
  ]

  pub only_image : (i : ℕ) → i < all_pages z → v.image i ≡ suc r → i ≡ i₀
  only_image i h p = elim (rules.imaged i h r p) [ inl e ↦ rules.held_once_holds i h i₀ h₀ r e held | inr e ↦ absurd (not_cut (inl e.1)) ]

module _ (z : Sizes) (st : State) (l : Ledger) (fit : Fit z st) (rules : Ruled z st) (k : Tied z st l) (f : ℕ) (hf : f < z.frames) (t : (frame_at st.memory.core.frames f).transfer ≡ WRITING) where
  abbrev fs : ℕ → Frame
  fs = frame_at st.memory.core.frames

  abbrev address : ℕ → ℕ
  address = at st.memory.held.addresses

  abbrev state : ℕ → ℕ
  state = at st.memory.held.states

  abbrev word : ℕ → ℕ
  word = at st.disk.records

  abbrev of : ℕ → ℕ
  of = l.design

  abbrev text : ℕ → ℕ → ℕ
  text = l.pages.text

  abbrev old : ℕ → Write
  old r = last_into r l.finished

  abbrev i₀ : ℕ
  i₀ = pred (fs f).page

  abbrev r₀ : ℕ
  r₀ = record_in z st f

  -- after
  abbrev x : Write
  x = ended (l.pending.write f) (suc (length l.finished))

  abbrev new : ℕ → Write
  new r = last_into r (x ∷ l.finished)

  abbrev word' : ℕ → ℕ
  word' = at (set_part z r₀ (word_at z st.memory.core.words f) st.disk.records)

  abbrev state' : ℕ → ℕ
  state' = at (set st.memory.held.states r₀ LIVE)

  abbrev fs' : ℕ → Frame
  fs' = frame_at (set st.memory.core.frames f no_frame)

  abbrev l' : Ledger
  l' = set_finished (x ∷ l.finished) (set_live (put l.pages.live (l.pending.noted f).place true) (set_write (put l.pending.writing f false) l.pending.write l))

  page : (fs f).page ≡ suc i₀
  page = not_zero (fs f).page (rules.frames.busy f hf (omega (arith, moving_place (seat_at z st rules f hf) (λ e. omega (arith, e, t)))))

  within : i₀ < all_pages z
  within = (rules.frames.fit f hf).0 i₀ page

  held : address i₀ ≡ suc r₀
  held = not_zero (address i₀) (rules.frames.held f hf i₀ page).0

  below : r₀ < z.records
  below = rules.records.address_fit_holds i₀ within r₀ held

  holds : Holding z (fs f) (λ n. at st.memory.core.words (f * z.words + n)) address of text l.pages.touched l.pages.kept (l.pending.noted f) (l.pending.write f) i₀
  holds = (k.memory.framed f hf).holding i₀ page

  o : Opened z address of text i₀ (l.pending.write f)
  o = holds.opened t

  into : (l.pending.write f).record' ≡ r₀
  into = ap pred (sym o.record' ∙ held)

  said : (n : ℕ) → n < z.words → at st.memory.core.words (f * z.words + n) ≡ text i₀ n
  said n h = holds.said (λ e. omega (arith, e, t)) n h

  new_here : new r₀ ≡ x
  new_here = last_here x l.finished r₀ into

  new_there : (r : ℕ) → ¬ (r ≡ r₀) → new r ≡ old r
  new_there r d = last_there x l.finished r (λ e. d (sym e ∙ into))

  words_split : (r n : ℕ) → r < z.records → n < z.words → Split (r ≡ r₀) (word' (r * z.words + n)) (at st.memory.core.words (f * z.words + n)) (word (r * z.words + n))
  words_split r n h c = at_part z st.disk.records r₀ (word_at z st.memory.core.words f) z.records r n fit.disk.records h c

  state_split : (r : ℕ) → Split (r ≡ r₀) (state' r) LIVE (state r)
  state_split r = split_set st.memory.held.states r₀ LIVE r (rw fit.memory.states below)

  live_r₀ : state' r₀ ≡ LIVE
  live_r₀ = elim (state_split r₀) [ inl y ↦ y.1 | inr y ↦ absurd (y.0 refl) ]

  word_other : (r n : ℕ) → r < z.records → n < z.words → ¬ (r ≡ r₀) → word' (r * z.words + n) ≡ word (r * z.words + n)
  word_other r n h c e = elim (words_split r n h c) [ inl y ↦ absurd (e y.0) | inr y ↦ y.1 ]

  -- whoever names the record that was written is its page
  own : (i r : ℕ) → r < z.records → (r ≡ r₀ → i ≡ i₀) → (¬ (r ≡ r₀) → Owned z l.pack word of (old r) i r) → Owned z l.pack word' of (new r) i r
  own i r h same other = elim (ℕ_discrete r r₀) [
    | yes e ↦ inl (rw (e, same e, new_here) (record {
      some = omega arith;
      design = o.design;
      page = o.page;
      words = λ n c. elim (words_split r₀ n below c) [ inl y ↦ y.1 ∙ said n c ∙ sym (o.words n c) | inr y ↦ absurd (y.0 refl) ];
      counts = tt;
    }))
    | no e ↦ rw (new_there r e) (elim (other e) [
      | inl q ↦ inl (record { some = q.some; design = q.design; page = q.page; words = λ n c. word_other r n h c e ∙ q.words n c; counts = q.counts })
      | inr q ↦ inr (record { none = q.none; listed = q.listed; design = q.design; words = λ n c. word_other r n h c e ∙ q.words n c })
    ])
  ]

  -- the page of a write of this page's design and number is this page
  active : at st.memory.slots.active (slot_of z i₀) ≡ 1
  active = rules.frames.active f hf i₀ page

  one_page : (i : ℕ) → i < all_pages z → OfPage z of i x → i ≡ i₀
  one_page i h q = go (of (slot_of z i₀)) refl
    where
      in_slot : slot_of z i₀ < z.slots
      in_slot = slot_below z fit.sizes.pages i₀ within

      go : (n : ℕ) → of (slot_of z i₀) ≡ n → i ≡ i₀
      go zero e = absurd (omega (arith, e, k.disk.designs.born (slot_of z i₀) in_slot (λ d. omega (arith, d, rules.records.active_filled_holds (slot_of z i₀) in_slot active))))
      go (suc n) e = same_page z.pages i i₀ (k.disk.designs.distinct (slot_of z i) (slot_below z fit.sizes.pages i h) (slot_of z i₀) in_slot n (sym q.0 ∙ o.design ∙ e) e) (sym q.1.0 ∙ o.page)

  -- an older update allows no less than before
  newest : (i n r : ℕ) → n ≤ length l.finished → Newest z of l.finished i n (old r) → Newest z of (x ∷ l.finished) i n (new r)
  unfolding In
  newest i n r a b y j q g = elim j [
    | inl e ↦ absurd (omega (arith, ap (λ (u : Write). u.serial) e))
    | inr e ↦ elim (ℕ_discrete r r₀) [
      | yes d ↦ rw (d, new_here) (omega (arith, bounded l.finished k.disk.listing.numbered y e))
      | no d ↦ rw (new_there r d) (b y e q g)
    ]
  ]

  latest : (i : ℕ) → i < all_pages z → (r : ℕ) → (i ≡ i₀ → r ≡ r₀) → (¬ (r ≡ r₀) → Latest z of l.finished i (old r)) → Latest z of (x ∷ l.finished) i (new r)
  unfolding In
  latest i h r d b y j q = elim (ℕ_discrete r r₀) [
    | yes e ↦ rw (e, new_here) (elim j [ inl g ↦ rw g (omega arith) | inr g ↦ omega (arith, bounded l.finished k.disk.listing.numbered y g) ])
    | no e ↦ rw (new_there r e) (elim j [ inl g ↦ absurd (e (d (one_page i h (rw g at q)))) | inr g ↦ b e y g q ])
  ]

  -- a page of an inactive design is another, and so is its record
  asleep_other : (i : ℕ) → ¬ (at st.memory.slots.active (slot_of z i) ≡ 1) → ¬ (i ≡ i₀)
  asleep_other i a e = a (rw e active)

  filed_other : (i : ℕ) → i < all_pages z → ¬ (at st.memory.slots.active (slot_of z i) ≡ 1) → (r : ℕ) → at st.disk.maps i ≡ suc r → ¬ (r ≡ r₀)
  filed_other i h a r p e = asleep_other i a (only_map z (files st) rules.records i₀ r₀ within held i h (p ∙ ap suc e))

  was_frame : (g : ℕ) → ¬ (g ≡ f) → fs' g ≡ fs g
  was_frame g e = get_or-set_other st.memory.core.frames f g no_frame no_frame e

  freed_f : fs' f ≡ no_frame
  freed_f = get_or-set_same st.memory.core.frames f no_frame no_frame (rw fit.memory.frames hf)

  -- another page was away before
  was_away : (i : ℕ) → ¬ (i ≡ i₀) → Away z fs' i → Away z fs i
  was_away i d a g h p = let e : ¬ (g ≡ f) = λ b. d (omega (arith, sym p ∙ ap (λ (c : ℕ). (fs c).page) b, page)) in
      sym (ap (λ (c : Frame). c.transfer) (was_frame g e)) ∙ a g h (ap (λ (c : Frame). c.page) (was_frame g e) ∙ p)

  was_live : (r : ℕ) → ¬ (r ≡ r₀) → state' r ≡ LIVE → state r ≡ LIVE
  was_live r d e = elim (state_split r) [ inl y ↦ absurd (d y.0) | inr y ↦ sym y.1 ∙ e ]

  stays_live : (r : ℕ) → state r ≡ LIVE → state' r ≡ LIVE
  stays_live r e = elim (state_split r) [ inl y ↦ y.1 | inr y ↦ y.1 ∙ e ]

  -- another page that is kept, and its record
  keeps : (i : ℕ) → i < all_pages z → (r : ℕ) → r < z.records → ¬ (i ≡ i₀) → ¬ (r ≡ r₀) → KeptAs z word of text l.finished i r → KeptAs z word' of text (x ∷ l.finished) i r
  keeps i h r g ne a b = record { latest = latest i h r (λ d. absurd (ne d)) (λ d. b.latest); words = λ n c. b.words n c ∙ sym (word_other r n g c a) }

  on_disk : OnDisk z (counted z (write_good z st f)) l'
  unfolding counted write_good free_frame store_frame Numbered
  on_disk = let d = k.disk.listing in record {
    designs = k.disk.designs;
    listing = record {
      owned = λ i h r p. own i r (rules.disk.map_fit_holds i h r p) (λ e. only_map z (files st) rules.records i₀ r₀ within held i h (p ∙ ap suc e)) (λ e. d.owned i h r p);
      numbered = (refl, d.numbered);
      after = λ n. omega (arith, d.after n);
      listed = λ i h p. let b = d.listed i h p in (b.0, b.1, newest i _ b.0 (d.after (of (slot_of z i))) b.2);
      newborn = d.newborn;
      promised = d.promised;
    };
  }

  in_memory : InMemory z (counted z (write_good z st f)) l'
  unfolding counted write_good free_frame store_frame
  in_memory = let m = k.memory in record {
    named = record {
      imaged = λ i h r p. own i r (rules.records.image_fit_holds i h r p) (λ e. only_image z (files st) rules.records i₀ r₀ within held i h (p ∙ ap suc e)) (λ e. m.named.imaged i h r p);
      live = λ i h r p e. own i r (rules.records.address_fit_holds i h r p) (λ d. rules.records.held_once_holds i h i₀ within r₀ (p ∙ ap suc d) held) (λ d. m.named.live i h r p (was_live r d e));
      latest = λ i h r p e. latest i h r (λ d. ap pred (sym p ∙ ap address d)) (λ d. m.named.latest i h r p (was_live r d e));
      rested = λ i h a r p. latest i h r (λ d. absurd (asleep_other i a d)) (λ d. m.named.rested i h a r p);
    };
    begun = let u = m.begun in record {
      only = u.only;
      opened = u.opened;
      design = u.design;
      ahead = λ s h e. omega (arith, u.ahead s h e);
      listed = λ i h e p. let b = u.listed i h e p in (b.0, b.1, newest i _ b.0 (u.ahead (slot_of z i) (slot_below z fit.sizes.pages i h) e) b.2);
      promised = u.promised;
    };
    lives = λ i h p. elim (split_put l.pages.live (l.pending.noted f).place true i) [
      | inl y ↦ (r₀, ap address (y.0 ∙ holds.place) ∙ held, live_r₀)
      | inr y ↦ let b = m.lives i h (rw y.1 at p) in (b.0, b.1, stays_live b.0 b.2)
    ];
    alive = λ i h r p e. elim (split_put l.pages.live (l.pending.noted f).place true i) [
      | inl y ↦ rw y.1 tt
      | inr y ↦ rw y.1 (m.alive i h r p (was_live r (λ d. y.0 (rules.records.held_once_holds i h i₀ within r₀ (p ∙ ap suc d) held ∙ sym holds.place)) e))
    ];
    framed = λ g h. elim (ℕ_discrete g f) [
      | yes e ↦ subst (λ (j : ℕ). InFrame z (fs' j) (λ n. at st.memory.core.words (j * z.words + n)) address of text l.pages.touched l.pages.kept (l.pending.noted j) (put l.pending.writing f false j) (l.pending.write j)) (sym e) (record {
        holding = λ i p. absurd (omega (arith, sym (ap (λ (c : Frame). c.page) freed_f) ∙ p));
        only = λ y. absurd (rw (put_same l.pending.writing f false) at y);
        opened = λ y. absurd (omega (arith, sym (ap (λ (c : Frame). c.transfer) freed_f) ∙ y));
      })
      | no e ↦ in_frame_same (m.framed g h) (alike_same (was_frame g e)) (λ n c. refl) refl (put_other l.pending.writing f false g e) refl (λ i p. (refl, (refl, (λ n. refl, (refl, λ y. y)))))
    ];
    away = record {
      paged = λ i h a r p e n c. elim (words_split r n (rules.records.address_fit_holds i h r p) c) [
        | inl y ↦ let d : i ≡ i₀ = rules.records.held_once_holds i h i₀ within r₀ (p ∙ ap suc y.0) held in y.1 ∙ said n c ∙ ap (λ (j : ℕ). text j n) (sym d)
        | inr y ↦ y.1 ∙ m.away.paged i h (was_away i (λ d. y.0 (ap pred (sym p ∙ ap address d))) a) r p (was_live r y.0 e) n c
      ];
      void = λ i h b a d. m.away.void i h b (was_away i (λ e. d r₀ (ap address e ∙ held) live_r₀) a) (λ r p e. d r p (stays_live r e));
    };
    filed = λ i h a n c. let b = m.filed i h a n c in (b.0, λ r p. b.1 r p ∙ elim (words_split r n (rules.disk.map_fit_holds i h r p) c) [ inl y ↦ absurd (filed_other i h a r p y.0) | inr y ↦ sym y.1 ]);
    kept = λ i h e r d.
        let ne : ¬ (i ≡ i₀) = λ a. holds.clean (rules.frames.writing f hf t) (subst (λ (j : ℕ). T (l.pages.kept j)) a e) in
        elim d [
          | inl p ↦ keeps i h r (rules.disk.map_fit_holds i h r p) ne (λ b. ne (only_map z (files st) rules.records i₀ r₀ within held i h (p ∙ ap suc b))) (m.kept i h e r (inl p))
          | inr g ↦ elim g [
            | inl p ↦ keeps i h r (rules.records.image_fit_holds i h r p) ne (λ b. ne (only_image z (files st) rules.records i₀ r₀ within held i h (p ∙ ap suc b))) (m.kept i h e r (inr (inl p)))
            | inr p ↦ let a : ¬ (r ≡ r₀) = λ b. ne (rules.records.held_once_holds i h i₀ within r₀ (p.0 ∙ ap suc b) held) in
                keeps i h r (rules.records.address_fit_holds i h r p.0) ne a (m.kept i h e r (inr (inr (p.0, was_live r a p.1))))
          ]
        ];
  }

  pub good_write : Tied z (counted z (write_good z st f)) (finish_write f l)
  unfolding finish_write
  good_write = subst (λ (y : Ledger). Tied z (counted z (write_good z st f)) y) (sym (if_true (l.pending.writing f) l' l ((k.memory.framed f hf).opened t))) (record { disk = on_disk; memory = in_memory })
