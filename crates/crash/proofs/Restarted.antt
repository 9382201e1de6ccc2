-- Restart brings the whole invariant of demand 3 back from what a cut leaves.
use mathlib.Core.Path.{◌≡◌, refl, ap, sym, ◌∙◌, subst}
use mathlib.Core.Logic.{inl, inr}
use Prim.Native.Nat.{ℕ, zero, suc, ◌+◌, ◌*◌, ◌%◌, ◌<◌, pred}
use native.Mathlib.Omega.{arith}
use lib.Dec.{T}
use lib.ListN.{replicate}
use Rattle.tables.specs.Base.{at}
use Rattle.tables.specs.Laws.{if_yes, if_no}
use Rattle.model.specs.declared.sizes.Sizes.{Sizes}
use Rattle.model.specs.declared.frame.Frame.{Frame}
use Rattle.model.specs.State.{Disk, State, files, no_frame, frame_at, all_pages, slot_of}
use Rattle.model.specs.Laws.Ruled as R
use Rattle.model.specs.Setters.{raise, counted}
use Rattle.model.specs.Restart as Restart
use Rattle.model.specs.Ledger.{Ledger, Write, note, restarted, lose, found, recount}
use Rattle.model.specs.Demand3.{last_into}
use Rattle.model.specs.Laws.Index.{slot_below}
use Rattle.invariant.proofs.RestartedRecords.{zero_at}
use Rattle.crash.proofs.Writes.{In, again, last_into_holds, greatest, last_again, in_again, length_again, numbered_again, counted_was, counts_on}
use Rattle.crash.proofs.Link.{Owned, OfPage, Latest, Newest, OnDisk, Tied}
use Rattle.invariant.proofs.Parts.{same_page}
use Rattle.crash.proofs.Start.{one_value, names_none}

module _ (z : Sizes) (st : State) (l : Ledger) (pos : 0 < z.pages) (rules : R.OnDisk z (files st)) (d : OnDisk z st l) where
  abbrev disk : Disk
  disk = st.disk

  abbrev of : ℕ → ℕ
  of = l.design

  abbrev old : ℕ → Write
  old r = last_into r l.finished

  abbrev new : ℕ → Write
  new r = last_into r (recount z disk of l.finished)

  -- the page of a listed entry has a design
  design : (i : ℕ) → i < all_pages z → (r : ℕ) → at disk.maps i ≡ suc r → 0 < of (slot_of z i)
  design i h r p = d.designs.born (slot_of z i) (slot_below z pos i h) (λ e. omega (arith, rules.empty_map_holds i h e, p))

  -- two pages of one design, and of one number within it, are one page
  one_page : (i j : ℕ) → i < all_pages z → j < all_pages z → 0 < of (slot_of z i) → of (slot_of z j) ≡ of (slot_of z i) → j % z.pages ≡ i % z.pages → j ≡ i
  one_page i j hi hj = go (of (slot_of z i)) refl
    where
      go : (n : ℕ) → of (slot_of z i) ≡ n → 0 < of (slot_of z i) → of (slot_of z j) ≡ of (slot_of z i) → j % z.pages ≡ i % z.pages → j ≡ i
      go zero e g p q = absurd (omega (arith, g, e))
      go (suc n) e g p q = same_page z.pages j i (d.designs.distinct (slot_of z j) (slot_below z pos j hj) (slot_of z i) (slot_below z pos i hi) n (p ∙ e) e) q

  own_again : (i : ℕ) → i < all_pages z → (r : ℕ) → at disk.maps i ≡ suc r → Owned z l.pack (at disk.records) of (new r) i r
  unfolding again
  own_again i h r p = subst (λ (x : Write). Owned z l.pack (at disk.records) of x i r) (sym (last_again z disk of r l.finished)) (elim (d.listing.owned i h r p) [
    | inl o ↦ inl (record {
      some = o.some;
      design = o.design;
      page = o.page;
      words = o.words;
      counts = counts_on z disk of (old r) o.counts (i, h, (p ∙ ap suc (sym (last_into_holds r l.finished o.some)), (sym o.design, sym o.page)));
    })
    | inr o ↦ inr (record { none = o.none; listed = o.listed; design = o.design; words = o.words })
  ])

  serial_again : (r : ℕ) → (new r).serial ≡ (old r).serial
  unfolding again
  serial_again r = ap (λ (x : Write). x.serial) (last_again z disk of r l.finished)

  -- a write that counts still is one that did, and its record is listed at that page
  was : (i : ℕ) (y : Write) → In y (recount z disk of l.finished) → OfPage z of i y
      → (x : Write) × In x l.finished × OfPage z of i x × (y.serial ≡ x.serial) × ((j : ℕ) × (j < all_pages z) × ((at disk.maps j ≡ suc x.record') × ((of (slot_of z j) ≡ x.design) × (j % z.pages ≡ x.page))))
  unfolding again
  was i y m q =
      let t = in_again z disk of l.finished y m in
      let c = counted_was z disk of t.0 (subst (λ (u : Write). T u.counts) t.2 q.1.1) in
      (t.0, t.1, (sym (ap (λ (u : Write). u.design) t.2) ∙ q.0, (sym (ap (λ (u : Write). u.page) t.2) ∙ q.1.0, c.0)), ap (λ (u : Write). u.serial) t.2, c.1)

  newest_again : (i n r : ℕ) → Newest z of l.finished i n (old r) → Newest z of (recount z disk of l.finished) i n (new r)
  newest_again i n r f y m q g = let t = was i y m q in let s : y.serial ≡ t.0.serial = t.3 in let h = f t.0 t.1 t.2 (omega (arith, g, s)) in omega (arith, serial_again r, s, h)

  -- of a listed page's writes only those into its record still count
  latest_again : (i : ℕ) → i < all_pages z → (r : ℕ) → at disk.maps i ≡ suc r → Latest z of (recount z disk of l.finished) i (new r)
  latest_again i h r p y m q =
      let t = was i y m q in
      let a = t.4 in
      let same : a.0 ≡ i = one_page i a.0 h a.1 (design i h r p) (a.2.1.0 ∙ t.2.0) (a.2.1.1 ∙ t.2.1.0) in
      let into : suc t.0.record' ≡ suc r = sym a.2.0 ∙ ap (at disk.maps) same ∙ p in
      let g = greatest r l.finished d.listing.numbered t.0 t.1 (omega (arith, into)) in
      omega (arith, serial_again r, t.3, g)

  found_none : (i k : ℕ) → at disk.maps i ≡ 0 → found z disk i k ≡ 0
  unfolding found
  found_none i k p = if_yes (at disk.maps i) 0 _ _ p

  found_some : (i k r : ℕ) → at disk.maps i ≡ suc r → found z disk i k ≡ at disk.records (r * z.words + k)
  unfolding found
  found_some i k r p = let e : pred (at disk.maps i) ≡ r = omega (arith, p) in
      if_no (at disk.maps i) 0 0 (at disk.records (pred (at disk.maps i) * z.words + k)) (λ q. omega (arith, p, q)) ∙ ap (λ (x : ℕ). at disk.records (x * z.words + k)) e

  -- whatever number is stored as the highest
  restart_tied : (n : ℕ) → Tied z (Restart.restarted z (raise n st.disk)) (note z l (restarted st.disk))
  unfolding Restart.restarted counted note lose
  restart_tied n = record {
    disk = record {
      designs = d.designs;
      listing = record {
        owned = own_again;
        numbered = numbered_again z disk of l.finished d.listing.numbered;
        after = λ u. rw (length_again z disk of l.finished) (d.listing.after u);
        listed = λ i h t. let b = d.listing.listed i h t in (b.0, b.1, newest_again i _ b.0 b.2);
        newborn = d.listing.newborn;
        promised = d.listing.promised;
      };
    };
    memory = record {
      named = record { imaged = λ i h r p. none i r p; live = λ i h r p. none i r p; latest = λ i h r p. none i r p; rested = λ i h a r p. latest_again i h r p };
      begun = record { only = λ s h t. absurd t; opened = λ s h e. no_update_holds s e; design = λ s h e. no_update_holds s e; ahead = λ s h e. no_update_holds s e; listed = λ i h e. no_update_holds (slot_of z i) e; promised = λ i h e. no_update_holds (slot_of z i) e };
      lives = λ i h t. absurd t;
      alive = λ i h r p. none i r p;
      framed = λ f h. record { holding = λ i p. absurd (omega (arith, sym (ap (λ (g : Frame). g.page) (free f)) ∙ p)); only = λ t. absurd t; opened = λ e. absurd (omega (arith, sym (ap (λ (g : Frame). g.transfer) (free f)) ∙ e)) };
      away = record { paged = λ i h a r p. none i r p; void = λ i h a. absurd (omega (arith, sym (zero_at z.slots (slot_of z i)) ∙ a)) };
      filed = λ i h a k g. (found_none i k, λ r p. found_some i k r p);
      kept = λ i h t r n. elim n [
        | inl p ↦ record { latest = latest_again i h r p; words = λ k g. found_some i k r p }
        | inr o ↦ elim o [ inl p ↦ none i r p | inr p ↦ none i r p.0 ]
      ];
    };
  }
    where
      none : {A : Type 0} (i r : ℕ) → at (replicate (all_pages z) 0) i ≡ suc r → A
      none i r p = names_none (all_pages z) i r p

      no_update_holds : {A : Type 0} (s : ℕ) → at (replicate z.slots 0) s ≡ 1 → A
      no_update_holds s e = names_none z.slots s 0 e

      free : (f : ℕ) → frame_at (replicate z.frames no_frame) f ≡ no_frame
      free f = one_value z.frames f no_frame

  pub raised_tied : Tied z (Restart.restarted z (Restart.raised z st.disk)) (note z l (restarted st.disk))
  unfolding Restart.raised
  raised_tied = restart_tied (Restart.highest_of st.disk z.slots)
