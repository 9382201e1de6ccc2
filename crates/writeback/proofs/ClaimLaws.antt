-- Over the full state: what claim leaves, its used counts among it, and every other table as it was.
use mathlib.Core.Path.{◌≡◌, refl, ap, sym, ◌∙◌}
use mathlib.Core.Bool.{Bool, true, false}
use mathlib.Core.List.{List}
use mathlib.Core.Logic.{◌⊎◌, inl, inr}
use Prim.Native.Nat.{ℕ, suc, ◌-◌, ◌<◌, pred}
use native.Mathlib.Nat.{suc_inj}
use native.Mathlib.Omega.{arith}
use native.Mathlib.Decide.{ℕ_discrete}
use lib.Dec.{T, eqb}
use lib.ListN.{length, set}
use borrow.Author.Tests.{eq-eqb, ne_eqb}
use Rattle.tables.specs.Base.{at}
use Rattle.tables.specs.CountLaws.{count_pos}
use Rattle.tables.specs.Laws.{and_intro, eq→T}
use Rattle.tables.specs.Queue.{members, times, size}
use Rattle.tables.specs.QueueLaws.{size_members, members_within}
use Rattle.tables.specs.Rule.{Holds, sound, complete}
use Rattle.model.specs.declared.sizes.Sizes.{Sizes}
use Rattle.model.specs.declared.frame.Frame.{Frame}
use Rattle.model.specs.Lines.{FREE, NULLED}
use Rattle.model.specs.State.{State, Files, Frames, files, frames, frame_at, no_frame, WRITING, slot_of, all_pages, payer, charged, used_of, live, woven}
use Rattle.model.specs.Setters.{on_core, on_held, set_states, set_transfer, counted}
use Rattle.model.specs.Pages.{on_frame}
use Rattle.model.specs.Laws.Index.{split_entry, split_set, slot_below}
use Rattle.model.specs.Writeback.{looked, looking, begins_write, record_in, free_frame}
use Rattle.model.specs.Writeback
use Rattle.model.specs.Step.{carried}
use Rattle.model.specs.Laws.Fit.{Fit}
use Rattle.model.specs.Laws.Ruled.{Ruled}
use Rattle.model.specs.Lent.{state_in, same_state}
use Rattle.leaves.specs.Counts.{counts, counts_for, used_counts, counts_less}
use Rattle.leaves.specs.Payers as Payers
use Rattle.writeback.specs.Claim.{payer_of, used_then}
use Rattle.writeback.specs.Needs.{Queues, Listed, Claimable}
use Rattle.writeback.specs.Seen.{claim}
use Rattle.writeback.proofs.Kept.{counts_alike, charged_alike, used_is, used_kept, map_kept, pool_kept}
use Rattle.writeback.proofs.Looks.{Like, look_like, look_long, taken_in}
use Rattle.writeback.proofs.Ready.{Paged, paged, queues, queue_room}

module _ (z : Sizes) (st : State) (fit : Fit z st) (ruled : Ruled z st) where
  abbrev v : Files
  v = files st

  abbrev c : Frames
  c = frames st

  -- a frame in the list is not in the free queue
  unqueued : (f : ℕ) → f < z.frames → 0 < times (members st.memory.core.removal_list) f → c.queued f ≡ 0
  unqueued f h t = omega (arith, ruled.frames.in_one_place_holds f h)

  module _ (f : ℕ) (h : f < z.frames) (p : Paged z st fit ruled f) where
    is_active_holds : v.active (slot_of z p.index) ≡ 1
    is_active_holds = ruled.frames.active f h p.index p.named

    -- a page in a modified frame counts
    counted_page : (c.frame f).modified ≡ 1 → T (counts z v c p.index)
    unfolding charged
    counted_page m = rw (eq-eqb _ _ is_active_holds) (complete (charged z v c p.index) (inr (f, h, (p.named, m))))

    slot_inside : slot_of z p.index < z.slots
    slot_inside = slot_below z fit.sizes.pages p.index p.page_inside

    payer_below : payer v (slot_of z p.index) < z.accounts
    payer_below = Payers.payer_below z st fit.disk.accounts ruled.disk.account_fit_holds fit.sizes.accounts (slot_of z p.index)

    -- its payer's count is above 0
    payer_pays : (c.frame f).modified ≡ 1 → 0 < at st.memory.used (payer v (slot_of z p.index))
    unfolding used_of
    payer_pays m = let q = payer v (slot_of z p.index) in rw (ruled.counts.used q payer_below)
        (count_pos (all_pages z) (counts_for z v c q) p.index p.page_inside (and_intro (eqb q q) (counts z v c p.index) (eq→T {a = q} refl) (counted_page m)))

  listed : (f : ℕ) → f < z.frames → 0 < times (members st.memory.core.removal_list) f → Listed z (c.frame f).page (c.frame f).modified st.disk.accounts st.disk.limits st.disk.parents st.memory.core.free_queue st.memory.held.addresses st.memory.held.states st.memory.used
  unfolding payer
  listed f h t =
      let q = unqueued f h t in
      let p = paged z st fit ruled f h q in
      let e : pred (c.frame f).page ≡ p.index = ap pred p.named in record {
        item = p.item;
        named = omega (arith, p.named);
        holds = rw e p.holds;
        inside = rw fit.memory.states p.inside;
        moves = p.moves;
        room = queue_room z st fit ruled f h q;
        pays = λ m. rw e (payer_pays f h p m);
      }

  pub claim_ready : Queues z.frames st.memory.core.free_queue st.memory.core.removal_list
      × Claimable z st.memory.core.frames st.disk.accounts st.disk.limits st.disk.parents st.memory.core.words st.memory.core.free_queue st.memory.core.removal_list st.memory.held.addresses st.memory.held.states st.memory.used
  claim_ready = (queues z st fit ruled, record { frames_most = fit.sizes.frames_most; pages_some = fit.sizes.pages; words_long = fit.memory.words; listed = listed })

  -- ── the frame taken ──
  module _ (some : 0 < size st.memory.core.removal_list) where
    abbrev rl : List ℕ
    rl = st.memory.core.removal_list

    abbrev f : ℕ
    f = (looking z st).taken

    in_list : 0 < times (members rl) f
    unfolding looking
    in_list = rw size_members at (taken_in st.memory.core.frames rl some)

    below : f < z.frames
    below = members_within rl fit.memory.removal_list ruled.queues.removal_list f in_list

    abbrev p : Paged z st fit ruled f
    p = paged z st fit ruled f below (unqueued f below in_list)

    alike : (k : ℕ) → Like (frame_at (looking z st).frames k) (c.frame k)
    unfolding looking
    alike k = look_like (suc (length (members rl))) 0 st.memory.core.frames (members rl) k

    frames_long : length (looking z st).frames ≡ z.frames
    unfolding looking
    frames_long = look_long (suc (length (members rl))) 0 st.memory.core.frames (members rl) ∙ fit.memory.frames

    one : (g : Frame) (k : ℕ) → ((k ≡ f) × (frame_at (set (looking z st).frames f g) k ≡ g)) ⊎ ((¬ (k ≡ f)) × (frame_at (set (looking z st).frames f g) k ≡ frame_at (looking z st).frames k))
    one g k = split_entry no_frame (looking z st).frames f g k (rw frames_long below)

    -- ── a write begins: every frame keeps its page and its modified switch ──
    abbrev writes : State
    writes = on_core (λ x. on_frame f (set_transfer WRITING) x) (looked z st)

    writing_like : (k : ℕ) → Like ((frames writes).frame k) (c.frame k)
    writing_like k = elim (one (set_transfer WRITING (frame_at (looking z st).frames f)) k) [
      | inl y ↦ (
        ap (λ (g : Frame). g.page) y.1 ∙ (alike f).0 ∙ ap (λ (n : ℕ). (c.frame n).page) (sym y.0),
        ap (λ (g : Frame). g.modified) y.1 ∙ (alike f).1 ∙ ap (λ (n : ℕ). (c.frame n).modified) (sym y.0),
      )
      | inr y ↦ (ap (λ (g : Frame). g.page) y.1 ∙ (alike k).0, ap (λ (g : Frame). g.modified) y.1 ∙ (alike k).1)
    ]

    writes_stay : (i : ℕ) → i < all_pages z → counts z v c i ≡ counts z (files writes) (frames writes) i
    unfolding charged
    writes_stay i b = counts_alike z v v c (frames writes) i refl
        (λ e. charged_alike z v v c (frames writes) i
        (λ k. elim k [ inl l ↦ inl l | inr q ↦ let w = writing_like q.0 in inr (q.0, q.1, (w.0 ∙ q.2.0, w.1 ∙ q.2.1)) ])
        (λ k. elim k [ inl l ↦ inl l | inr q ↦ let w = writing_like q.0 in inr (q.0, q.1, (sym w.0 ∙ q.2.0, sym w.1 ∙ q.2.1)) ]))
        (λ n. refl)

    -- ── the frame is freed ──
    module _ (v' : Files) (act : (t : ℕ) → v.active t ≡ v'.active t) (maps : (i : ℕ) → v.map i ≡ v'.map i)
        (up : (i : ℕ) → i < all_pages z → ¬ (i ≡ p.index) → Holds (live v i) → Holds (live v' i)) (down : (i : ℕ) → i < all_pages z → ¬ (i ≡ p.index) → Holds (live v' i) → Holds (live v i))
        (c' : Frames) (is : (k : ℕ) → c'.frame k ≡ frame_at (set (looking z st).frames f no_frame) k) where
      was : (i : ℕ) → Holds (woven z c' i) → Holds (woven z c i) × ¬ (i ≡ p.index)
      was i q = elim (one no_frame q.0) [
        | inl y ↦ absurd (omega (arith, ap (λ (g : Frame). g.page) (is q.0 ∙ y.1), q.2.0))
        | inr y ↦
            let e : (c.frame q.0).page ≡ suc i = sym (alike q.0).0 ∙ ap (λ (g : Frame). g.page) (sym (is q.0 ∙ y.1)) ∙ q.2.0 in
            let m : (c.frame q.0).modified ≡ 1 = sym (alike q.0).1 ∙ ap (λ (g : Frame). g.modified) (sym (is q.0 ∙ y.1)) ∙ q.2.1 in
            ((q.0, q.1, (e, m)), λ d. y.0 (ruled.frames.once q.0 q.1 f below i e (p.named ∙ ap suc (sym d))))
      ]

      stays : (i : ℕ) → ¬ (i ≡ p.index) → Holds (woven z c i) → Holds (woven z c' i)
      stays i d q = elim (one no_frame q.0) [
        | inl y ↦ absurd (d (suc_inj (sym q.2.0 ∙ ap (λ (n : ℕ). (c.frame n).page) y.0 ∙ p.named)))
        | inr y ↦ (q.0, q.1, (ap (λ (g : Frame). g.page) (is q.0 ∙ y.1) ∙ (alike q.0).0 ∙ q.2.0, ap (λ (g : Frame). g.modified) (is q.0 ∙ y.1) ∙ (alike q.0).1 ∙ q.2.1))
      ]

      other : (i : ℕ) → i < all_pages z → ¬ (i ≡ p.index) → counts z v c i ≡ counts z v' c' i
      unfolding charged
      other i b d = counts_alike z v v' c c' i (act (slot_of z i))
          (λ e. charged_alike z v v' c c' i (λ k. elim k [ inl l ↦ inl (up i b d l) | inr q ↦ inr (stays i d q) ]) (λ k. elim k [ inl l ↦ inl (down i b d l) | inr q ↦ inr (was i q).0 ]))
          (λ n. maps i)

      -- its page's address is not live then: one charge less
      no_more : ¬ Holds (live v' p.index) → ¬ (T (counts z v' c' p.index))
      unfolding charged
      no_more d = rw (eq-eqb _ _ (sym (act (slot_of z p.index)) ∙ is_active_holds f below p)) (λ t. elim (sound (charged z v' c' p.index) t) [ inl l ↦ d l | inr q ↦ (was p.index q).1 refl ])

      -- .. or it was not modified, and its address stays: the same counts
      still : ¬ ((c.frame f).modified ≡ 1) → (Holds (live v p.index) → Holds (live v' p.index)) → (Holds (live v' p.index) → Holds (live v p.index)) → (i : ℕ) → i < all_pages z → counts z v c i ≡ counts z v' c' i
      unfolding charged
      still m to from i b = elim (ℕ_discrete i p.index) [
        | yes e ↦ counts_alike z v v' c c' i (act (slot_of z i))
            (λ a. charged_alike z v v' c c' i
            (λ k. elim k [ inl l ↦ inl (rw e (to (rw e at l))) | inr q ↦ absurd (m (ap (λ (n : ℕ). (c.frame n).modified) (sym (ruled.frames.once q.0 q.1 f below i q.2.0 (p.named ∙ ap suc (sym e)))) ∙ q.2.1)) ])
            (λ k. elim k [ inl l ↦ inl (rw e (from (rw e at l))) | inr q ↦ absurd ((was i q).1 e) ]))
            (λ n. maps i)
        | no e ↦ other i b e
      ]

      abbrev paying : ℕ
      paying = payer v (slot_of z p.index)

      less : (c.frame f).modified ≡ 1 → ((s : ℕ) → payer v s ≡ payer v' s) → ¬ Holds (live v' p.index) → set st.memory.used paying (at st.memory.used paying - 1) ≡ used_counts z v' c'
      less m pays d = ap (λ (u : List ℕ). set u paying (at u paying - 1)) (used_is z st fit ruled.counts)
          ∙ counts_less z v v' c c' pays p.index p.page_inside other (payer_below f below p) (counted_page f below p m) (no_more d)

    record_is : record_in z st f ≡ p.item
    record_is = ap (λ (n : ℕ). pred (v.address (pred n))) p.named ∙ ap pred p.holds

    payer_is : payer_of z st f ≡ payer v (slot_of z p.index)
    payer_is = ap (λ (n : ℕ). payer v (slot_of z (pred n))) p.named

    -- ── modified: the record becomes nulled ──
    abbrev nulls : State
    nulls = free_frame f (on_held (λ x. set_states (set x.states (record_in z st f) NULLED) x) (looked z st))

    abbrev nulled : ℕ → ℕ
    nulled = at (set st.memory.held.states (record_in z st f) NULLED)

    now_nulled : (r : ℕ) → ((r ≡ p.item) × (nulled r ≡ NULLED)) ⊎ ((¬ (r ≡ p.item)) × (nulled r ≡ v.state r))
    now_nulled r = rw record_is (split_set st.memory.held.states p.item NULLED r (rw fit.memory.states p.inside))

    others : (i : ℕ) → i < all_pages z → ¬ (i ≡ p.index) → (r : ℕ) → v.address i ≡ suc r → nulled r ≡ v.state r
    others i b d r a = elim (now_nulled r) [ inl y ↦ absurd (d (ruled.records.held_once_holds i b p.index p.page_inside r a (p.holds ∙ ap suc (sym y.0)))) | inr y ↦ y.1 ]

    nulled_free : (r : ℕ) → r < z.records → eqb (v.state r) FREE ≡ eqb (nulled r) FREE
    nulled_free r b = elim (now_nulled r) [
      | inl y ↦ rw (y.1, y.0) (ne_eqb (v.state p.item) FREE (λ e. elim p.moves [ inl q ↦ omega (arith, e, q) | inr q ↦ omega (arith, e, q) ]))
      | inr y ↦ rw y.1
    ]

    nulled_less : (c.frame f).modified ≡ 1 → set st.memory.used (payer_of z st f) (at st.memory.used (payer_of z st f) - 1) ≡ (counted z nulls).memory.used
    unfolding free_frame payer counted
    nulled_less m = rw payer_is (less (files nulls) (λ t. refl) (λ i. refl) (λ i b d l. (l.0, l.1, others i b d l.0 l.1 ∙ l.2)) (λ i b d l. (l.0, l.1, sym (others i b d l.0 l.1) ∙ l.2)) (frames nulls) (λ k. refl) m (λ s. refl)
        (λ l. elim (now_nulled l.0) [ inl y ↦ omega (arith, l.2, y.1) | inr y ↦ y.0 (suc_inj (sym l.1 ∙ p.holds)) ]))

    -- ── unmodified: the record stays ──
    abbrev frees : State
    frees = free_frame f (looked z st)

    frees_same : ¬ ((c.frame f).modified ≡ 1) → (counted z frees).memory.used ≡ st.memory.used
    unfolding free_frame payer
    frees_same m = used_kept z st fit ruled.counts frees (λ s. refl) (still (files frees) (λ t. refl) (λ i. refl) (λ i b d l. l) (λ i b d l. l) (frames frees) (λ k. refl) m (λ l. l) (λ l. l))

    -- ── what claim leaves ──
    abbrev claimed : State
    claimed = carried z st claim

    abbrev Left : State → Type 0
    Left x = x ≡ state_in st.memory.chip st.memory.line x.memory.core.frames st.memory.held.pool st.disk.records st.disk.numbers st.disk.accounts st.disk.maps st.disk.limits st.disk.parents st.disk.highest
        st.memory.core.words x.memory.core.free_queue x.memory.core.removal_list st.memory.held.addresses x.memory.held.states st.memory.held.owners st.memory.held.free_map
        st.memory.slots.active st.memory.slots.updating st.memory.slots.images (used_then z st)

    left_writes : begins_write z st ≡ true → Left (counted z writes)
    unfolding counted payer used_then
    left_writes e = same_state refl (pool_kept z st fit ruled.counts writes (λ r b. refl) refl) refl refl refl refl refl refl refl refl refl refl refl refl refl
        (map_kept z st fit ruled.counts writes (λ r b. refl)) refl refl refl (used_kept z st fit ruled.counts writes (λ s. refl) writes_stay ∙ rw e)

    left_nulls : begins_write z st ≡ false → (c.frame f).modified ≡ 1 → Left (counted z nulls)
    unfolding counted free_frame used_then
    left_nulls e m = same_state refl (pool_kept z st fit ruled.counts nulls nulled_free refl) refl refl refl refl refl refl refl refl refl refl refl refl refl
        (map_kept z st fit ruled.counts nulls nulled_free) refl refl refl (sym (nulled_less m) ∙ rw (e, eq-eqb _ _ m))

    left_frees : begins_write z st ≡ false → ¬ ((c.frame f).modified ≡ 1) → Left (counted z frees)
    unfolding counted free_frame used_then
    left_frees e m = same_state refl (pool_kept z st fit ruled.counts frees (λ r b. refl) refl) refl refl refl refl refl refl refl refl refl refl refl refl refl
        (map_kept z st fit ruled.counts frees (λ r b. refl)) refl refl refl
        (frees_same m ∙ rw (e, ne_eqb _ _ m))

    pub claim_left : Left claimed
    unfolding carried Writeback.claim
    claim_left = go (begins_write z st) refl
      where
        go : (b : Bool) → begins_write z st ≡ b → Left claimed
        go true e = rw e (left_writes e)
        go false e = elim (ℕ_discrete (c.frame f).modified 1) [ yes m ↦ rw (e, eq-eqb _ _ m) (left_nulls e m) | no m ↦ rw (e, ne_eqb _ _ m) (left_frees e m) ]
