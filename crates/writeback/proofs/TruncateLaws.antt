-- Over the full state: what questions 1 and 2 give truncate, what it leaves, its used counts among it, and every other table as it was.
use mathlib.Core.Path.{◌≡◌, refl, ap, sym, ◌∙◌}
use mathlib.Core.Bool.{Bool, true, false, ◌&&◌, ◌||◌}
use mathlib.Core.List.{List}
use mathlib.Core.Logic.{◌⊎◌, inl, inr}
use Prim.Native.Nat.{ℕ, suc, ◌+◌, ◌-◌, ◌*◌, ◌<◌, ◌≤◌, pred}
use native.Mathlib.Nat.{suc_inj}
use native.Mathlib.Omega.{arith}
use native.Mathlib.Decide.{ℕ_discrete, dec_lt}
use lib.Dec.{T, eqb, leb}
use lib.ListN.{length, set}
use borrow.Author.Tests.{eq-eqb, ne_eqb}
use Rattle.tables.specs.Base.{at, if, count}
use Rattle.tables.specs.CountLaws.{count_none, count_le, count_or, count_split}
use Rattle.tables.specs.Laws.{and_left, and_right, and_intro, eq→T, at_tab0, count_same, not_zero}
use Rattle.tables.specs.TabLaws.{set_tab}
use Rattle.tables.specs.Questions.{Asked}
use Rattle.tables.specs.Rule.{Holds, test, told, untold, sound, complete, decided}
use Rattle.tables.specs.Store.{Split, at_store}
use Rattle.tables.specs.StoreLoops.{between, part_inside}
use Rattle.model.specs.declared.sizes.Sizes.{Sizes}
use Rattle.model.specs.declared.frame.Frame.{Frame}
use Rattle.model.specs.Lines.{FREE, NULLED, LIVE, RELEASED}
use Rattle.model.specs.State.{State, Files, Frames, files, frames, frame_at, no_frame, slot_of, page_of, all_pages, payer, charged, used_of}
use Rattle.model.specs.Setters.{counted}
use Rattle.model.specs.Laws.Index.{slot_of_page, place_of_page, page_below, from_page_holds}
use Rattle.model.specs.Parts.{from_page}
use Rattle.model.specs.Questions.{questions}
use Rattle.model.specs.Writeback
use Rattle.model.specs.Step.{carried}
use Rattle.model.specs.Laws.Fit.{Fit}
use Rattle.model.specs.Laws.Ruled.{Ruled, once_free, once_list}
use Rattle.model.specs.Lent.{state_in, same_state}
use Rattle.leaves.specs.Counts.{counts, counts_for, used_counts}
use Rattle.leaves.specs.Payers as Payers
use Rattle.writeback.specs.Needs.{Sized, Queues, Placed, Addressed, Releasable, Paid}
use Rattle.writeback.specs.Seen.{truncate}
use Rattle.writeback.specs.Truncate.{used_then}
use Rattle.writeback.proofs.Cut.{from_up_holds, not_up}
use Rattle.writeback.proofs.Kept.{counts_alike, charged_alike, used_is, map_kept, pool_kept}
use Rattle.writeback.proofs.Moves.{nulled_released, live_released}
use Rattle.writeback.proofs.Ready.{sized, queues, addressed}
use Rattle.tables.specs.StoreLoops.{part_fits}

-- a count over all pages is one over the pages before a slot, its own, and those after
count_parts : (m n s : ℕ) (t : ℕ → Bool) → s < m → count (m * n) t ≡ count (s * n) t + count n (λ p. t (s * n + p)) + count (m * n - (s * n + n)) (λ p. t (s * n + n + p))
count_parts m n s t h =
    let e : m * n ≡ s * n + n + (m * n - (s * n + n)) = omega (arith, part_fits m n s h) in
    ap (λ (k : ℕ). count k t) e ∙ count_split (s * n + n) (m * n - (s * n + n)) t ∙ ap (λ (k : ℕ). k + count (m * n - (s * n + n)) (λ p. t (s * n + n + p))) (count_split (s * n) n t)

module _ (z : Sizes) (st : State) (fit : Fit z st) (ruled : Ruled z st) where
  abbrev v : Files
  v = files st

  abbrev c : Frames
  c = frames st

  -- a charged page is of an active design, and counts
  charged_active : (i : ℕ) → i < all_pages z → Holds (charged z v c i) → v.active (slot_of z i) ≡ 1
  unfolding charged
  charged_active i b (inl l) = ruled.records.address_active_holds i b l.0 l.1
  charged_active i b (inr q) = ruled.frames.active q.0 q.1 i q.2.0

  charged_counts : (i : ℕ) → i < all_pages z → Holds (charged z v c i) → T (counts z v c i)
  charged_counts i b h = rw (eq-eqb _ _ (charged_active i b h)) (complete (charged z v c i) h)

  module _ (s k : ℕ) (inside : s < z.slots) where
    abbrev cut_charge : ℕ → Bool
    cut_charge p = leb k p && test (charged z v c (page_of z s p))

    row_counts : (p : ℕ) → p < z.pages → T (cut_charge p) → T (counts_for z v c (payer v s) (page_of z s p))
    row_counts p h t = let e = slot_of_page z fit.sizes.pages s p h in
        and_intro (eqb (payer v (slot_of z (page_of z s p))) (payer v s)) (counts z v c (page_of z s p)) (eq→T (ap (payer v) e))
        (charged_counts (page_of z s p) (page_below z fit.sizes.pages s p inside h) (sound (charged z v c (page_of z s p)) (and_right (leb k p) (test (charged z v c (page_of z s p))) t)))

    pub pays_enough : count z.pages cut_charge ≤ at st.memory.used (payer v s)
    unfolding payer used_of
    pays_enough = omega (
      arith,
      count_le z.pages cut_charge (λ p. counts_for z v c (payer v s) (page_of z s p)) row_counts,
      count_parts z.slots z.pages s (counts_for z v c (payer v s)) inside,
      ruled.counts.used (payer v s) (Payers.payer_below z st fit.disk.accounts ruled.disk.account_fit_holds fit.sizes.accounts s),
    )

  pub truncate_ready : Sized z × Queues z.frames st.memory.core.free_queue st.memory.core.removal_list
      × Placed z.frames st.memory.core.frames st.memory.core.free_queue st.memory.core.removal_list
      × Addressed z st.memory.held.addresses st.memory.held.states × Releasable z st.memory.held.addresses st.memory.held.states
      × Paid z st.memory.core.frames st.disk.accounts st.disk.limits st.disk.parents st.memory.held.addresses st.memory.held.states st.memory.used
  unfolding payer charged
  truncate_ready = (
    sized z st fit ruled,
    queues z st fit ruled,
    record {
      free_once = once_free z st ruled;
      list_once = once_list z st ruled;
      unqueued = λ f h b. elim (ℕ_discrete (c.queued f) 0) [ yes e ↦ e | no e ↦ absurd (omega (arith, b, (ruled.frames.free f h e).0)) ];
      seated = λ f g h i b e. let q = not_zero (c.frame f).page (λ n. omega (arith, b, n)) in ruled.frames.once f h g i (pred (c.frame f).page) q (e ∙ q);
    },
    addressed z st fit ruled,
    record { along = λ i r h a. elim (ruled.records.held i h r a).1 [ inl q ↦ rw q nulled_released | inr q ↦ rw q live_released ] },
    record { enough = λ s k h. pays_enough s k h },
  )

  -- ── truncated ──
  module _ (s k : ℕ) (asked : Asked (questions z st (truncate s k))) where
    abbrev cut : State
    cut = carried z st (truncate s k)

    abbrev v' : Files
    v' = files cut

    abbrev c' : Frames
    c' = frames cut

    inside : s < z.slots
    inside = asked.0.0

    is_active_holds : v.active s ≡ 1
    is_active_holds = asked.1.1.0

    -- the tables after it, entry by entry
    address_then : (i : ℕ) → i < all_pages z → Split (Holds (from_page z s k i)) (v'.address i) 0 (v.address i)
    unfolding carried Writeback.truncate counted
    address_then i h = at_store st.memory.held.addresses (from_page z s k) (λ j. 0) i (rw fit.memory.addresses h)

    state_then_holds : (r : ℕ) → r < z.records → Split (Holds (Writeback.cut_record z st s k r)) (v'.state r) RELEASED (v.state r)
    unfolding carried Writeback.truncate counted
    state_then_holds r h = at_store st.memory.held.states (Writeback.cut_record z st s k) (λ j. RELEASED) r (rw fit.memory.states h)

    page_then : (f : ℕ) → f < z.frames → Split (Holds (Writeback.cut_frame z st s k f)) (c'.frame f) no_frame (c.frame f)
    unfolding carried Writeback.truncate counted
    page_then f h = elim (decided (Writeback.cut_frame z st s k f)) [
      | yes y ↦ inl (y, e ∙ ap (λ (b : Bool). if b no_frame (c.frame f)) (told (Writeback.cut_frame z st s k f) y))
      | no y ↦ inr (y, e ∙ ap (λ (b : Bool). if b no_frame (c.frame f)) (untold (Writeback.cut_frame z st s k f) y))
    ]
      where
        e : c'.frame f ≡ if (test (Writeback.cut_frame z st s k f)) no_frame (c.frame f)
        e = at_tab0 (length st.memory.core.frames) (λ g. if (test (Writeback.cut_frame z st s k g)) no_frame (frame_at st.memory.core.frames g)) f no_frame (rw fit.memory.frames h)

    -- a record that is released was nulled or live
    cut_was : (r : ℕ) → Holds (Writeback.cut_record z st s k r) → (v.state r ≡ NULLED) ⊎ (v.state r ≡ LIVE)
    cut_was r h = (ruled.records.held h.0 h.1 r h.2.1).1

    free_alike : (r : ℕ) → r < z.records → eqb (v.state r) FREE ≡ eqb (v'.state r) FREE
    free_alike r h = elim (state_then_holds r h) [
      | inl y ↦ rw y.1 (ne_eqb (v.state r) FREE (λ e. elim (cut_was r y.0) [ inl q ↦ omega (arith, e, q) | inr q ↦ omega (arith, e, q) ]))
      | inr y ↦ rw y.1
    ]

    -- a page that is cut off is charged no more
    cut_uncharged : (i : ℕ) → i < all_pages z → Holds (from_page z s k i) → ¬ Holds (charged z v' c' i)
    unfolding charged
    cut_uncharged i b h (inl l) = elim (address_then i b) [ inl y ↦ omega (arith, y.1, l.1) | inr y ↦ y.0 h ]
    cut_uncharged i b h (inr q) = elim (page_then q.0 q.1) [
      | inl y ↦ omega (arith, ap (λ (g : Frame). g.page) y.1, q.2.0)
      | inr y ↦ y.0 (i, ap (λ (g : Frame). g.page) (sym y.1) ∙ q.2.0, h)
    ]

    -- any other page is charged as it was
    kept_live : (i : ℕ) → i < all_pages z → ¬ Holds (from_page z s k i) → (r : ℕ) → v.address i ≡ suc r → v'.state r ≡ v.state r
    kept_live i b d r a = elim (state_then_holds r (ruled.records.address_fit_holds i b r a)) [
      | inl y ↦ absurd (d (rw (ruled.records.held_once_holds y.0.0 y.0.1 i b r y.0.2.1 a) at y.0.2.0))
      | inr y ↦ y.1
    ]

    kept_address : (i : ℕ) → i < all_pages z → ¬ Holds (from_page z s k i) → v'.address i ≡ v.address i
    kept_address i b d = elim (address_then i b) [ inl y ↦ absurd (d y.0) | inr y ↦ y.1 ]

    kept_charged : (i : ℕ) → i < all_pages z → ¬ Holds (from_page z s k i) → test (charged z v c i) ≡ test (charged z v' c' i)
    unfolding charged
    kept_charged i b d = charged_alike z v v' c c' i
        (λ h. elim h [
          | inl l ↦ inl (l.0, kept_address i b d ∙ l.1, kept_live i b d l.0 l.1 ∙ l.2)
          | inr q ↦ inr (
            q.0,
            q.1,
            elim (page_then q.0 q.1) [
              | inl y ↦ absurd (d (rw (suc_inj (sym y.0.1 ∙ q.2.0)) at y.0.2))
              | inr y ↦ (ap (λ (g : Frame). g.page) y.1 ∙ q.2.0, ap (λ (g : Frame). g.modified) y.1 ∙ q.2.1)
            ],
          )
        ])
        (λ h. elim h [
          | inl l ↦ let e = sym (kept_address i b d) ∙ l.1 in inl (l.0, e, sym (kept_live i b d l.0 e) ∙ l.2)
          | inr q ↦ inr (
            q.0,
            q.1,
            elim (page_then q.0 q.1) [
              | inl y ↦ absurd (omega (arith, ap (λ (g : Frame). g.page) y.1, q.2.0))
              | inr y ↦ (ap (λ (g : Frame). g.page) (sym y.1) ∙ q.2.0, ap (λ (g : Frame). g.modified) (sym y.1) ∙ q.2.1)
            ],
          )
        ])

    same_active : (t : ℕ) → v.active t ≡ v'.active t
    unfolding carried Writeback.truncate counted
    same_active t = refl

    same_map : (i : ℕ) → v.map i ≡ v'.map i
    unfolding carried Writeback.truncate counted
    same_map i = refl

    same_payer : (t : ℕ) → payer v t ≡ payer v' t
    unfolding carried Writeback.truncate counted payer
    same_payer t = refl

    kept_counts : (i : ℕ) → i < all_pages z → ¬ Holds (from_page z s k i) → counts z v c i ≡ counts z v' c' i
    kept_counts i b d = counts_alike z v v' c c' i (same_active (slot_of z i)) (λ e. kept_charged i b d) (λ n. same_map i)

    -- ── the used counts ──
    abbrev q : ℕ
    q = payer v s

    -- a charge that is taken back
    abbrev taken : ℕ → Bool
    taken i = test (from_page z s k i) && test (charged z v c i)

    cut_after : (i : ℕ) → i < all_pages z → Holds (from_page z s k i) → counts z v' c' i ≡ false
    cut_after i b h = rw (eq-eqb _ _ (sym (same_active (slot_of z i)) ∙ ap v.active h.0 ∙ is_active_holds)) (untold (charged z v' c' i) (cut_uncharged i b h))

    or_none_holds : (b : Bool) → b ≡ (b || false)
    or_none_holds true = refl
    or_none_holds false = refl

    and_none : (b : Bool) → (b && false) ≡ false
    and_none true = refl
    and_none false = refl

    -- the charges before are those after and those taken back
    split_charge : (i : ℕ) → i < all_pages z → counts_for z v c q i ≡ (counts_for z v' c' q i || taken i)
    split_charge i b = elim (decided (from_page z s k i)) [
      | yes h ↦ rw (told (from_page z s k i) h, cut_after i b h, and_none (eqb (payer v' (slot_of z i)) q), eq-eqb (payer v (slot_of z i)) q (ap (payer v) h.0), eq-eqb _ _ (ap v.active h.0 ∙ is_active_holds))
      | no h ↦ rw (untold (from_page z s k i) h) (ap (λ (t : ℕ). eqb t q && counts z v c i) (same_payer (slot_of z i)) ∙ ap (λ (b : Bool). eqb (payer v' (slot_of z i)) q && b) (kept_counts i b h) ∙ or_none_holds (counts_for z v' c' q i))
    ]

    apart : (i : ℕ) → i < all_pages z → T (counts_for z v' c' q i) → ¬ (T (taken i))
    apart i b t u = let h = sound (from_page z s k i) (and_left (test (from_page z s k i)) (test (charged z v c i)) u) in rw (cut_after i b h) at (and_right (eqb (payer v' (slot_of z i)) q) (counts z v' c' i) t)

    used_split : used_of z v c q ≡ used_of z v' c' q + count (all_pages z) taken
    unfolding used_of
    used_split = count_same (all_pages z) (counts_for z v c q) (λ i. counts_for z v' c' q i || taken i) split_charge ∙ count_or (all_pages z) (counts_for z v' c' q) taken apart

    -- only the slot's pages from k up
    within : (i : ℕ) → T (taken i) → Holds (between (s * z.pages) (s * z.pages + z.pages) i)
    within i t = part_inside z.pages s fit.sizes.pages i (sound (from_page z s k i) (and_left (test (from_page z s k i)) (test (charged z v c i)) t)).0

    from_k : (p : ℕ) → p < z.pages → test (from_page z s k (page_of z s p)) ≡ leb k p
    from_k p h = elim (dec_lt p k) [
      | yes l ↦ untold (from_page z s k (page_of z s p)) (λ y. y.1 (rw (place_of_page z fit.sizes.pages s p h) l)) ∙ sym (not_up k p l)
      | no l ↦ told (from_page z s k (page_of z s p)) (from_page_holds z fit.sizes.pages s k p h l) ∙ sym (from_up_holds k p (omega arith))
    ]

    row : (p : ℕ) → p < z.pages → taken (page_of z s p) ≡ cut_charge s k inside p
    row p h = ap (λ (b : Bool). b && test (charged z v c (page_of z s p))) (from_k p h)

    taken_count : count (all_pages z) taken ≡ count z.pages (cut_charge s k inside)
    taken_count = omega (
      arith,
      count_parts z.slots z.pages s taken inside,
      count_none (s * z.pages) taken (λ i h t. (within i t).0 h),
      count_none (z.slots * z.pages - (s * z.pages + z.pages)) (λ p. taken (s * z.pages + z.pages + p)) (λ p h t. omega (arith, (within (s * z.pages + z.pages + p) t).1)),
      count_same z.pages (λ p. taken (page_of z s p)) (cut_charge s k inside) row,
    )

    -- another account pays for none of these pages
    not_paying : (a : ℕ) → ¬ (a ≡ q) → (i : ℕ) → Holds (from_page z s k i) → ¬ (payer v (slot_of z i) ≡ a)
    not_paying a d i h e = d (sym e ∙ ap (payer v) h.0)

    other_used : (a : ℕ) → ¬ (a ≡ q) → used_of z v c a ≡ used_of z v' c' a
    unfolding used_of
    other_used a d = count_same (all_pages z) (counts_for z v c a) (counts_for z v' c' a) (λ i b. elim (decided (from_page z s k i)) [
      | yes h ↦ ap (λ (t : Bool). t && counts z v c i) (ne_eqb (payer v (slot_of z i)) a (not_paying a d i h))
          ∙ sym (ap (λ (t : Bool). t && counts z v' c' i) (ne_eqb (payer v' (slot_of z i)) a (λ e. not_paying a d i h (same_payer (slot_of z i) ∙ e))))
      | no h ↦ ap (λ (t : ℕ). eqb t a && counts z v c i) (same_payer (slot_of z i)) ∙ ap (λ (t : Bool). eqb (payer v' (slot_of z i)) a && t) (kept_counts i b h)
    ])

    payer_below : q < z.accounts
    payer_below = Payers.payer_below z st fit.disk.accounts ruled.disk.account_fit_holds fit.sizes.accounts s

    used_then_holds : used_then z st s k ≡ used_counts z v' c'
    unfolding used_then
    used_then_holds = ap (λ (u : List ℕ). set u q (at u q - count z.pages (cut_charge s k inside))) (used_is z st fit ruled.counts)
        ∙ set_tab z.accounts (used_of z v c) (used_of z v' c') q _ (omega (arith, at_tab0 z.accounts (used_of z v c) q 0 payer_below, used_split, taken_count)) (λ a h d. other_used a d)

    pub truncate_left : cut ≡ state_in st.memory.chip st.memory.line cut.memory.core.frames st.memory.held.pool st.disk.records st.disk.numbers st.disk.accounts st.disk.maps st.disk.limits st.disk.parents st.disk.highest
        st.memory.core.words cut.memory.core.free_queue cut.memory.core.removal_list cut.memory.held.addresses cut.memory.held.states st.memory.held.owners st.memory.held.free_map
        st.memory.slots.active st.memory.slots.updating st.memory.slots.images (used_then z st s k)
    unfolding carried Writeback.truncate counted
    truncate_left = same_state refl (pool_kept z st fit ruled.counts cut free_alike refl) refl refl refl refl refl refl refl refl refl refl refl refl refl (map_kept z st fit ruled.counts cut free_alike) refl refl refl (sym used_then_holds)
