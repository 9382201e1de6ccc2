-- Over the full state: what page done leaves, and every other table as it was.
use mathlib.Core.Path.{◌≡◌, refl, ap, sym, ◌∙◌}
use mathlib.Core.Logic.{◌⊎◌, inl, inr}
use Prim.Native.Nat.{ℕ, suc, ◌<◌, pred}
use native.Mathlib.Nat.{suc_inj}
use native.Mathlib.Omega.{arith}
use native.Mathlib.Decide.{ℕ_discrete}
use lib.Dec.{eqb}
use lib.ListN.{set}
use borrow.Author.Tests.{eq-eqb, ne_eqb}
use Rattle.tables.specs.Base.{at}
use Rattle.tables.specs.Questions.{Asked}
use Rattle.tables.specs.Rule.{Holds}
use Rattle.tables.specs.Laws.{not_zero}
use Rattle.model.specs.declared.sizes.Sizes.{Sizes}
use Rattle.model.specs.declared.frame.Frame.{Frame}
use Rattle.model.specs.Lines.{FREE, LIVE}
use Rattle.model.specs.State.{State, Files, Frames, files, frames, frame_at, no_frame, READING, slot_of, all_pages, payer, charged, live, woven}
use Rattle.model.specs.Setters.{counted}
use Rattle.model.specs.Laws.Index.{split_entry, split_set}
use Rattle.model.specs.Questions.{questions}
use Rattle.model.specs.Writeback
use Rattle.model.specs.Step.{carried}
use Rattle.model.specs.Laws.Fit.{Fit}
use Rattle.model.specs.Laws.Ruled.{Ruled}
use Rattle.model.specs.Lent.{state_in, same_state}
use Rattle.leaves.specs.Counts.{counts}
use Rattle.writeback.specs.Seen.{page_done}
use Rattle.writeback.proofs.Kept.{counts_alike, charged_alike, used_kept, map_kept, pool_kept}
use Rattle.writeback.proofs.Ready.{Paged, paged, moved}

module _ (z : Sizes) (st : State) (fit : Fit z st) (ruled : Ruled z st) (f : ℕ) (h : f < z.frames) (p : Paged z st fit ruled f) where
  abbrev v : Files
  v = files st

  abbrev c : Frames
  c = frames st

  one : (g : Frame) (k : ℕ) → ((k ≡ f) × (frame_at (set st.memory.core.frames f g) k ≡ g)) ⊎ ((¬ (k ≡ f)) × (frame_at (set st.memory.core.frames f g) k ≡ c.frame k))
  one g k = split_entry no_frame st.memory.core.frames f g k (rw fit.memory.frames h)

  -- the frame keeps its page, whose address is live, or it is modified before and after
  module _ (g : Frame) (same : g.page ≡ (c.frame f).page) (both : Holds (live v p.index) ⊎ (((c.frame f).modified ≡ 1) × (g.modified ≡ 1)))
      (c' : Frames) (is : (k : ℕ) → c'.frame k ≡ frame_at (set st.memory.core.frames f g) k) where
    page_same : (k : ℕ) → (c'.frame k).page ≡ (c.frame k).page
    page_same k = ap (λ (x : Frame). x.page) (is k) ∙ elim (one g k) [ inl y ↦ ap (λ (x : Frame). x.page) y.1 ∙ same ∙ ap (λ (n : ℕ). (c.frame n).page) (sym y.0) | inr y ↦ ap (λ (x : Frame). x.page) y.1 ]

    its_page : (i k : ℕ) → k ≡ f → (c.frame k).page ≡ suc i → i ≡ p.index
    its_page i k e q = suc_inj (sym q ∙ ap (λ (n : ℕ). (c.frame n).page) e ∙ p.named)

    pub page_kept : (i : ℕ) → i < all_pages z → counts z v c i ≡ counts z v c' i
    unfolding charged
    page_kept i b = counts_alike z v v c c' i refl
        (λ e. charged_alike z v v c c' i
        (λ k. elim k [
          | inl l ↦ inl l
          | inr q ↦ elim (one g q.0) [
            | inl y ↦ elim both [
              | inl l ↦ inl (rw (its_page i q.0 y.0 q.2.0) l)
              | inr m ↦ inr (q.0, q.1, (page_same q.0 ∙ q.2.0, ap (λ (x : Frame). x.modified) (is q.0 ∙ y.1) ∙ m.1))
            ]
            | inr y ↦ inr (q.0, q.1, (page_same q.0 ∙ q.2.0, ap (λ (x : Frame). x.modified) (is q.0 ∙ y.1) ∙ q.2.1))
          ]
        ])
        (λ k. elim k [
          | inl l ↦ inl l
          | inr q ↦ let w = sym (page_same q.0) ∙ q.2.0 in elim (one g q.0) [
            | inl y ↦ elim both [
              | inl l ↦ inl (rw (its_page i q.0 y.0 w) l)
              | inr m ↦ inr (q.0, q.1, (w, ap (λ (n : ℕ). (c.frame n).modified) y.0 ∙ m.0))
            ]
            | inr y ↦ inr (q.0, q.1, (w, ap (λ (x : Frame). x.modified) (sym (is q.0 ∙ y.1)) ∙ q.2.1))
          ]
        ]))
        (λ n. refl)

  -- the frame is freed; its page is charged, and its address is live then
  module _ (before : Holds (charged z v c p.index)) (v' : Files) (act : (t : ℕ) → v.active t ≡ v'.active t) (maps : (i : ℕ) → v.map i ≡ v'.map i) (its : Holds (live v' p.index))
      (up : (i : ℕ) → i < all_pages z → Holds (live v i) → Holds (live v' i)) (down : (i : ℕ) → i < all_pages z → Holds (live v' i) → Holds (live v i) ⊎ (i ≡ p.index))
      (c' : Frames) (is : (k : ℕ) → c'.frame k ≡ frame_at (set st.memory.core.frames f no_frame) k) where
    stays : (i : ℕ) → Holds (woven z c i) → Holds (woven z c' i) ⊎ (i ≡ p.index)
    stays i q = elim (one no_frame q.0) [
      | inl y ↦ inr (suc_inj (sym q.2.0 ∙ ap (λ (n : ℕ). (c.frame n).page) y.0 ∙ p.named))
      | inr y ↦ inl (q.0, q.1, (ap (λ (x : Frame). x.page) (is q.0 ∙ y.1) ∙ q.2.0, ap (λ (x : Frame). x.modified) (is q.0 ∙ y.1) ∙ q.2.1))
    ]

    was : (i : ℕ) → Holds (woven z c' i) → Holds (woven z c i)
    was i q = elim (one no_frame q.0) [
      | inl y ↦ absurd (omega (arith, ap (λ (x : Frame). x.page) (is q.0 ∙ y.1), q.2.0))
      | inr y ↦ (q.0, q.1, (ap (λ (x : Frame). x.page) (sym (is q.0 ∙ y.1)) ∙ q.2.0, ap (λ (x : Frame). x.modified) (sym (is q.0 ∙ y.1)) ∙ q.2.1))
    ]

    pub page_freed : (i : ℕ) → i < all_pages z → counts z v c i ≡ counts z v' c' i
    unfolding charged
    page_freed i b = counts_alike z v v' c c' i (act (slot_of z i))
        (λ e. charged_alike z v v' c c' i
        (λ k. elim k [ inl l ↦ inl (up i b l) | inr q ↦ elim (stays i q) [ inl y ↦ inr y | inr y ↦ inl (rw y its) ] ])
        (λ k. elim k [ inl l ↦ elim (down i b l) [ inl y ↦ inl y | inr y ↦ rw y before ] | inr q ↦ inr (was i q) ]))
        (λ n. maps i)

  -- ── the record becomes live ──
  abbrev pub live_then : ℕ → ℕ
  live_then = at (set st.memory.held.states p.item LIVE)

  now_live : (r : ℕ) → ((r ≡ p.item) × (live_then r ≡ LIVE)) ⊎ ((¬ (r ≡ p.item)) × (live_then r ≡ v.state r))
  now_live r = split_set st.memory.held.states p.item LIVE r (rw fit.memory.states p.inside)

  pub live_up : (r : ℕ) → v.state r ≡ LIVE → live_then r ≡ LIVE
  live_up r e = elim (now_live r) [ inl y ↦ y.1 | inr y ↦ y.1 ∙ e ]

  pub live_down : (i : ℕ) → i < all_pages z → (r : ℕ) → v.address i ≡ suc r → live_then r ≡ LIVE → (v.state r ≡ LIVE) ⊎ (i ≡ p.index)
  live_down i b r a e = elim (now_live r) [
    | inl y ↦ inr (ruled.records.held_once_holds i b p.index p.page_inside r a (p.holds ∙ ap suc (sym y.0)))
    | inr y ↦ inl (sym y.1 ∙ e)
  ]

  pub live_its : live_then p.item ≡ LIVE
  live_its = elim (now_live p.item) [ inl y ↦ y.1 | inr y ↦ absurd (y.0 refl) ]

  taken : ¬ (v.state p.item ≡ FREE)
  taken e = elim p.moves [ inl q ↦ omega (arith, e, q) | inr q ↦ omega (arith, e, q) ]

  pub live_free : (r : ℕ) → r < z.records → eqb (v.state r) FREE ≡ eqb (live_then r) FREE
  live_free r b = elim (now_live r) [
    | inl y ↦ rw (y.1, y.0) (ne_eqb _ _ taken)
    | inr y ↦ rw y.1
  ]

module _ (z : Sizes) (st : State) (fit : Fit z st) (ruled : Ruled z st) (f good : ℕ) (asked : Asked (questions z st (page_done f good))) where
  abbrev its : Paged z st fit ruled f
  its = paged z st fit ruled f asked.0.0 (moved z st fit ruled f asked.0.0 asked.1.0).0

  record_is : Writeback.record_in z st f ≡ its.item
  record_is = ap (λ (n : ℕ). pred ((files st).address (pred n))) its.named ∙ ap pred its.holds

  abbrev old : Frame
  old = (frames st).frame f

  -- the four cases: the counts stay
  pub record CountsStay (x : State) : Type 0 where
    pub pages : (i : ℕ) → i < all_pages z → counts z (files st) (frames st) i ≡ counts z (files x) (frames x) i
    pub free : (r : ℕ) → r < z.records → eqb ((files st).state r) FREE ≡ eqb ((files x).state r) FREE

  -- being read, its page has a live address; being written, it is modified
  arriving : old.transfer ≡ READING → Holds (live (files st) its.index)
  arriving reads = (ruled.frames.held f asked.0.0 its.index its.named).1 reads

  leaving : ¬ (old.transfer ≡ READING) → old.modified ≡ 1
  leaving d = ruled.frames.writing f asked.0.0 (omega (arith, d, asked.1.0, (ruled.frames.fit f asked.0.0).1.1.1.1.1))

  read_good_stays : old.transfer ≡ READING → CountsStay (Writeback.read_good z st f)
  unfolding Writeback.read_good
  read_good_stays e = record {
    pages = page_kept z st fit ruled f asked.0.0 its _ (sym (not_zero old.page (λ n. omega (arith, its.named, n)))) (inl (arriving e)) (frames (Writeback.read_good z st f)) (λ k. refl);
    free = λ r h. refl;
  }

  write_failed_stays : ¬ (old.transfer ≡ READING) → CountsStay (Writeback.write_failed z st f)
  unfolding Writeback.write_failed
  write_failed_stays d = record {
    pages = page_kept z st fit ruled f asked.0.0 its _ refl (inr (leaving d, refl)) (frames (Writeback.write_failed z st f)) (λ k. refl);
    free = λ r h. refl;
  }

  read_failed_stays : old.transfer ≡ READING → CountsStay (Writeback.read_failed z st f)
  unfolding Writeback.read_failed Writeback.free_frame charged
  read_failed_stays reads = record {
    pages = page_freed z st fit ruled f asked.0.0 its (inl (arriving reads)) (files st) (λ t. refl) (λ i. refl) (arriving reads) (λ i b l. l) (λ i b l. inl l)
        (frames (Writeback.read_failed z st f)) (λ k. refl);
    free = λ r h. refl;
  }

  -- the states once the record is live
  then_is : (r : ℕ) → at (set st.memory.held.states (Writeback.record_in z st f) LIVE) r ≡ live_then z st fit ruled f asked.0.0 its r
  then_is r = ap (λ (n : ℕ). at (set st.memory.held.states n LIVE) r) record_is

  write_good_stays : ¬ (old.transfer ≡ READING) → CountsStay (Writeback.write_good z st f)
  unfolding Writeback.write_good Writeback.store_frame Writeback.free_frame charged
  write_good_stays d = record {
    pages = page_freed z st fit ruled f asked.0.0 its (inr (f, asked.0.0, (its.named, leaving d))) (files (Writeback.write_good z st f)) (λ t. refl) (λ i. refl)
        (its.item, its.holds, then_is its.item ∙ live_its z st fit ruled f asked.0.0 its)
        (λ i b l. (l.0, l.1, then_is l.0 ∙ live_up z st fit ruled f asked.0.0 its l.0 l.2))
        (λ i b l. elim (live_down z st fit ruled f asked.0.0 its i b l.0 l.1 (sym (then_is l.0) ∙ l.2)) [ inl y ↦ inl (l.0, l.1, y) | inr y ↦ inr y ])
        (frames (Writeback.write_good z st f)) (λ k. refl);
    free = λ r h. live_free z st fit ruled f asked.0.0 its r h ∙ ap (λ (n : ℕ). eqb n FREE) (sym (then_is r));
  }

  abbrev done : State
  done = carried z st (page_done f good)

  -- what page done leaves
  abbrev Left : State → Type 0
  Left x = x ≡ state_in st.memory.chip st.memory.line x.memory.core.frames st.memory.held.pool x.disk.records st.disk.numbers st.disk.accounts st.disk.maps st.disk.limits st.disk.parents st.disk.highest
      x.memory.core.words x.memory.core.free_queue x.memory.core.removal_list st.memory.held.addresses x.memory.held.states st.memory.held.owners st.memory.held.free_map
      st.memory.slots.active st.memory.slots.updating st.memory.slots.images st.memory.used

  left_read_good : old.transfer ≡ READING → Left (counted z (Writeback.read_good z st f))
  unfolding Writeback.read_good counted payer
  left_read_good e = same_state refl (pool_kept z st fit ruled.counts (Writeback.read_good z st f) (read_good_stays e).free refl) refl refl refl refl refl refl refl refl refl refl refl refl refl
      (map_kept z st fit ruled.counts (Writeback.read_good z st f) (read_good_stays e).free) refl refl refl (used_kept z st fit ruled.counts (Writeback.read_good z st f) (λ s. refl) (read_good_stays e).pages)

  left_read_failed : old.transfer ≡ READING → Left (counted z (Writeback.read_failed z st f))
  unfolding Writeback.read_failed Writeback.free_frame counted payer
  left_read_failed e = same_state refl (pool_kept z st fit ruled.counts (Writeback.read_failed z st f) (read_failed_stays e).free refl) refl refl refl refl refl refl refl refl refl refl refl refl refl
      (map_kept z st fit ruled.counts (Writeback.read_failed z st f) (read_failed_stays e).free) refl refl refl (used_kept z st fit ruled.counts (Writeback.read_failed z st f) (λ s. refl) (read_failed_stays e).pages)

  left_write_good : ¬ (old.transfer ≡ READING) → Left (counted z (Writeback.write_good z st f))
  unfolding Writeback.write_good Writeback.store_frame Writeback.free_frame counted payer
  left_write_good e = same_state refl (pool_kept z st fit ruled.counts (Writeback.write_good z st f) (write_good_stays e).free refl) refl refl refl refl refl refl refl refl refl refl refl refl refl
      (map_kept z st fit ruled.counts (Writeback.write_good z st f) (write_good_stays e).free) refl refl refl (used_kept z st fit ruled.counts (Writeback.write_good z st f) (λ s. refl) (write_good_stays e).pages)

  left_write_failed : ¬ (old.transfer ≡ READING) → Left (counted z (Writeback.write_failed z st f))
  unfolding Writeback.write_failed counted payer
  left_write_failed e = same_state refl (pool_kept z st fit ruled.counts (Writeback.write_failed z st f) (write_failed_stays e).free refl) refl refl refl refl refl refl refl refl refl refl refl refl refl
      (map_kept z st fit ruled.counts (Writeback.write_failed z st f) (write_failed_stays e).free) refl refl refl (used_kept z st fit ruled.counts (Writeback.write_failed z st f) (λ s. refl) (write_failed_stays e).pages)

  pub page_done_left : Left done
  unfolding carried Writeback.page_done
  page_done_left = elim (ℕ_discrete old.transfer READING) [
    | yes e ↦ elim (ℕ_discrete good 1) [ yes g ↦ rw (eq-eqb _ _ e, eq-eqb _ _ g) (left_read_good e) | no g ↦ rw (eq-eqb _ _ e, ne_eqb _ _ g) (left_read_failed e) ]
    | no e ↦ elim (ℕ_discrete good 1) [ yes g ↦ rw (ne_eqb _ _ e, eq-eqb _ _ g) (left_write_good e) | no g ↦ rw (ne_eqb _ _ e, ne_eqb _ _ g) (left_write_failed e) ]
  ]
