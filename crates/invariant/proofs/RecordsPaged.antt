-- Fault, claim and page done: each leaves pages, records and slots alone, or a page takes a free record, or a record in a frame becomes nulled or live.
use mathlib.Core.Path.{◌≡◌, refl, ap, sym, subst}
use mathlib.Core.Logic.{◌⊎◌, inl, inr}
use Prim.Native.Nat.{ℕ, suc, ◌<◌, pred}
use native.Mathlib.Omega.{arith}
use native.Mathlib.Decide.{ℕ_discrete, dec_lt}
use lib.Dec.{eqb, eqb→eq}
use lib.ListN.{get_or-eq_default}
use Rattle.tables.specs.Base.{at, if}
use Rattle.tables.specs.Laws.{if_elim, if_no, not_zero}
use Rattle.tables.specs.CountLaws.{count_some}
use Rattle.tables.specs.Questions.{Asked}
use Rattle.tables.specs.Rule.{test, sound, same}
use Rattle.model.specs.declared.sizes.Sizes.{Sizes}
use Rattle.model.specs.declared.frame.Frame.{Frame}
use Rattle.model.specs.declared.event.Event.TheVariants as Event
use Rattle.model.specs.declared.event.Page.TheVariants.{Fault}
use Rattle.model.specs.declared.event.Writeback.TheVariants.{Claim, PageDone}
use Rattle.model.specs.Lines.{FREE, NULLED, LIVE}
use Rattle.model.specs.State.{State, Files, Frames, files, frames, no_frame, NONE, READING, all_pages, page_of, live, free_count}
use Rattle.model.specs.Laws.Choice.{pick_below, pick_free}
use Rattle.model.specs.Parts.{pick}
use Rattle.model.specs.Questions.{questions}
use Rattle.model.specs.Laws.Ruled.{Ruled}
use Rattle.model.specs.Laws.Fit.{Fit}
use Rattle.model.specs.Pages
use Rattle.model.specs.Writeback
use Rattle.model.specs.Laws.Index.{slot_of_page, page_below}
use Rattle.invariant.proofs.Records.{Kept, Done, counted_done}
use Rattle.invariant.proofs.RecordsTaken.{moved, moved_kept, free_kept}

module _ (z : Sizes) (st : State) (f : Fit z st) (r : Ruled z st) where
  abbrev v : Files
  v = files st

  abbrev c : Frames
  c = frames st

  idle : Done z st st
  idle = ((r.disk, r.records), λ q h. inl refl, λ t. t)

  -- ── the record of a page in a frame ──
  -- a frame that is not free has a page, and the page a record
  pub in_frame : (g : ℕ) → g < z.frames → c.queued g ≡ 0 → (i : ℕ) × ((c.frame g).page ≡ suc i) × (i < all_pages z) × (v.address i ≡ suc (Writeback.record_in z st g))
  in_frame g h e = let i = pred (c.frame g).page in let p = not_zero (c.frame g).page (r.frames.busy g h e) in
      (i, p, (r.frames.fit g h).0 i p, not_zero (v.address i) (r.frames.held g h i p).0)

  -- so does a modified one, and one in transfer
  pub modified_frame : (g : ℕ) → (c.frame g).modified ≡ 1 → (g < z.frames) × (c.queued g ≡ 0)
  modified_frame g m = elim (dec_lt g z.frames) [
    | yes h ↦ (h, elim (ℕ_discrete (c.queued g) 0) [ yes e ↦ e | no e ↦ absurd (omega (arith, m, (r.frames.free g h e).1.1.0)) ])
    | no h ↦ let e = ap (λ (x : Frame). x.modified) (get_or-eq_default st.memory.core.frames no_frame {n = g} (rw f.memory.frames (omega (arith, h)))) in absurd (omega (arith, m, e))
  ]

  pub transfer_frame : (g : ℕ) → g < z.frames → ¬ ((c.frame g).transfer ≡ NONE) → c.queued g ≡ 0
  transfer_frame g h n = let e = r.frames.in_one_place_holds g h in let t : ◌≡◌ {A = ℕ} (if (eqb (c.frame g).transfer NONE) 0 1) 1 = if_no (c.frame g).transfer NONE 0 1 n in omega (arith, e, t)

  -- the record of a modified frame becomes nulled; of one in transfer, live
  framed_moved : (g x : ℕ) → (x ≡ NULLED) ⊎ (x ≡ LIVE) → (g < z.frames) × (c.queued g ≡ 0) → Done z st (moved st (Writeback.record_in z st g) x)
  framed_moved g x e h = let i = in_frame g h.0 h.1 in moved_kept z st f r i.0 (Writeback.record_in z st g) i.2 x e i.3

  -- ── fault ──
  a_free_record : 0 < st.memory.held.pool.free → (q : ℕ) × (q < z.records) × (v.state q ≡ FREE)
  unfolding free_count
  a_free_record h = let s = count_some z.records (λ q. eqb (v.state q) FREE) (rw r.counts.free at h) in (s.0, s.1, eqb→eq (v.state s.0) FREE s.2)

  zeros_done : (st' : State) (i g : ℕ) → Done z st st' → Done z st (Pages.serve_zeros z st' i g)
  unfolding Pages.serve_zeros
  zeros_done st' i g d = d

  read_done : (i g : ℕ) → Done z st (Pages.begin_read z st i g)
  unfolding Pages.begin_read
  read_done i g = idle

  pub fault_done : (s p : ℕ) → Asked (questions z st (Event.Page (Fault s p))) → Done z st (Pages.fault z st s p)
  unfolding Pages.fault
  fault_done s p a = counted_done z st _ (if_elim (Done z st) (test (live v i)) _ _ (λ t. read_done i g) (λ t. if_elim (Done z st) (test (same (v.address i) 0)) _ _ (λ u. zeros_done (Pages.take_record z st i q) i g (take (sound (same (v.address i) 0) u))) (λ u. zeros_done st i g idle)))
    where
      i : ℕ
      i = page_of z s p

      g : ℕ
      g = Pages.fault_frame st

      q : ℕ
      q = pick z v.address v.state st.memory.held.pool.hand i

      take : v.address i ≡ 0 → Done z st (Pages.take_record z st i q)
      take e = elim a.1.1.1.1.1.0 [
        | inl n ↦ absurd (n e)
        | inr n ↦ let t = a_free_record n in
            free_kept z st f r i q (page_below z f.sizes.pages s p a.0.0 a.0.1) (pick_below z v.address v.state st.memory.held.pool.hand i f.sizes.records)
            (subst (λ (m : ℕ). v.active m ≡ 1) (sym (slot_of_page z f.sizes.pages s p a.0.1)) a.1.1.0) e (pick_free z v.address v.state st.memory.held.pool.hand i t.0 t.1 r.counts.hand t.2)
      ]

  pub fault_records : (s p : ℕ) → Asked (questions z st (Event.Page (Fault s p))) → Kept z (Pages.fault z st s p)
  fault_records s p a = (fault_done s p a).0

  -- ── claim ──
  freed_done : (g : ℕ) (st' : State) → Done z st st' → Done z st (Writeback.free_frame g st')
  unfolding Writeback.free_frame
  freed_done g st' d = d

  pub claim_done : Done z st (Writeback.claim z st)
  unfolding Writeback.claim
  claim_done = counted_done z st _ (if_elim (Done z st) (Writeback.begins_write z st) _ _ (λ t. idle)
      (λ t. if_elim (Done z st) (eqb (c.frame g).modified 1) _ _ (λ u. freed_done g _ (framed_moved g NULLED (inl refl) (modified_frame g (eqb→eq _ 1 u)))) (λ u. freed_done g _ idle)))
    where
      g : ℕ
      g = (Writeback.looking z st).taken

  pub claim_records : Asked (questions z st (Event.Writeback Claim)) → Kept z (Writeback.claim z st)
  claim_records a = claim_done.0

  -- ── page done ──
  pub page_done_done : (g good : ℕ) → Asked (questions z st (Event.Writeback (PageDone g good))) → Done z st (Writeback.page_done z st g good)
  unfolding Writeback.page_done Writeback.read_good Writeback.read_failed Writeback.write_good Writeback.write_failed Writeback.store_frame
  page_done_done g good a = counted_done z st _ (if_elim (Done z st) (eqb (c.frame g).transfer READING) _ _
      (λ t. if_elim (Done z st) (eqb good 1) _ _ (λ u. idle) (λ u. freed_done g st idle))
      (λ t. if_elim (Done z st) (eqb good 1) _ _ (λ u. freed_done g _ (framed_moved g LIVE (inr refl) (a.0.0, transfer_frame g a.0.0 a.1.0))) (λ u. idle)))

  pub page_done_records : (g good : ℕ) → Asked (questions z st (Event.Writeback (PageDone g good))) → Kept z (Writeback.page_done z st g good)
  page_done_records g good a = (page_done_done g good a).0
