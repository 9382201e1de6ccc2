-- A write over all tables: the counts that it leaves, one charge more at a page's first write, and its outcome.
use mathlib.Core.Path.{◌≡◌, refl, ap, sym, ◌∙◌, subst}
use mathlib.Core.Bool.{Bool}
use mathlib.Core.Logic.{inl, inr}
use mathlib.Core.List.{List}
use Prim.Native.Nat.{ℕ, suc, ◌+◌, ◌*◌, ◌<◌}
use native.Mathlib.Omega.{arith}
use native.Mathlib.Nat.{suc_inj}
use native.Mathlib.Decide.{ℕ_discrete}
use lib.Dec.{T, eqb, eqb→eq}
use lib.ListN.{length, set}
use lib.Seq.{get_or-set_same}
use Rattle.tables.specs.Base.{if}
use Rattle.tables.specs.Laws.{eq→T}
use Rattle.tables.specs.FindLaws.{find_cases}
use Rattle.tables.specs.Questions.{Asked, first_no, yes_all}
use Rattle.tables.specs.Rule.{Holds, test, sound, complete, told, untold, decided}
use Rattle.model.specs.declared.sizes.Sizes.{Sizes}
use Rattle.model.specs.declared.frame.Frame.{Frame}
use Rattle.model.specs.declared.event.Answer.{Answer}
use Rattle.model.specs.State.{Core, Held, State, Files, Frames, files, frames, no_frame, frame_at, page_of, slot_of, all_pages, framed, woven, charged, payer}
use Rattle.model.specs.Setters.{on_core, set_words, set_used_switch, set_modified, counted}
use Rattle.model.specs.Laws.Index.{slot_of_page, page_below}
use Rattle.model.specs.Parts.{frame_of}
use Rattle.model.specs.Questions.{questions}
use Rattle.model.specs.Pages as Pages
use Rattle.model.specs.Pages.{on_frame}
use Rattle.model.specs.Lent.{state_in, same_state}
use Rattle.model.specs.Step.{Outcome, outcome, carried, result}
use Rattle.model.specs.Laws.Own.{own, leaves}
use Rattle.model.specs.Laws.OwnLaws.{outcome_no}
use Rattle.leaves.specs.Counts.{used_counts, counts_more, counts_same}
use Rattle.leaves.specs.Payers.{payer_below}
use Rattle.pages.specs.Seen.{seen_write}
use Rattle.pages.specs.Writes.{writing, charged1, used_then, used_left}
use Rattle.dispatch.specs.Kept.{Kept}
use Rattle.dispatch.proofs.Charges.{woven_same, counts_alike, counts_active, used_table_holds, map_table}
use Rattle.dispatch.proofs.Outcomes.{own_by}

-- the frame of a page that is in one
frame_of_holds : (z : Sizes) (c : Frames) (i : ℕ) → Holds (framed z c i) → (frame_of z c i < z.frames) × ((c.frame (frame_of z c i)).page ≡ suc i)
unfolding frame_of
frame_of_holds z c i (f, l, e) = elim (find_cases z.frames (λ k. eqb (c.frame k).page (suc i)) 0) [
  | inl r ↦ (omega (arith, r.inside), eqb→eq _ _ r.passes)
  | inr r ↦ absurd (r.1 f (omega arith) (omega arith) (eq→T e))
]

module _ (z : Sizes) (st : State) (k : Kept z st) (s p w x : ℕ) where
  abbrev core : Core
  core = st.memory.core

  abbrev held : Held
  held = st.memory.held

  abbrev v : Files
  v = files st

  abbrev c : Frames
  c = frames st

  abbrev i : ℕ
  i = page_of z s p

  abbrev f : ℕ
  f = frame_of z c i

  -- the page's frame as the write leaves it, and all frames then
  abbrev g : Frame
  g = set_used_switch 1 (set_modified 1 (c.frame f))

  abbrev written : State
  written = on_core (λ y. on_frame f (λ h. set_used_switch 1 (set_modified 1 h)) (set_words (set y.words (f * z.words + w) x) y)) st

  module _ (ok : Asked (questions z st (writing s p w x))) where
    below : f < z.frames
    below = (frame_of_holds z c i ok.1.1.1.0).0

    page : (c.frame f).page ≡ suc i
    page = (frame_of_holds z c i ok.1.1.1.0).1

    long : f < length core.frames
    long = rw k.fits.memory.frames below

    its_slot : slot_of z i ≡ s
    its_slot = slot_of_page z k.fits.sizes.pages s p ok.0.1.0

    in_pages : i < all_pages z
    in_pages = page_below z k.fits.sizes.pages s p ok.0.0 ok.0.1.0

    active : v.active (slot_of z i) ≡ 1
    active = ap v.active its_slot ∙ ok.1.1.0

    -- the page is charged then; any other as it was
    now : Holds (charged z v (frames written) i)
    unfolding charged
    now = inr (f, below, (ap (λ (h : Frame). h.page) there ∙ page, ap (λ (h : Frame). h.modified) there))
      where
        there : frame_at (set core.frames f g) f ≡ g
        there = get_or-set_same core.frames f g no_frame long

    others : (j : ℕ) → ¬ (j ≡ i) → test (woven z c j) ≡ test (woven z (frames written) j)
    others j d = woven_same z.frames core.frames f g long j (λ h. absurd (d (suc_inj (sym h.0 ∙ page)))) (λ h. absurd (d (suc_inj (sym h.0 ∙ page))))

    used_then_holds : used_then z st s i ≡ used_counts z v (frames written)
    unfolding used_then payer
    used_then_holds = elim (decided (charged z v c i)) [
      | yes h ↦ ap (λ (b : Bool). if b st.memory.used (charged1 st.memory.used (payer v s))) (told (charged z v c i) h) ∙ used_table_holds z st k
          ∙ counts_same z v v c (frames written) (λ t. refl) (λ j l. elim (ℕ_discrete j i) [
            | yes e ↦ rw e (counts_active z v c i active ∙ told (charged z v c i) h ∙ sym (told (charged z v (frames written) i) now) ∙ sym (counts_active z v (frames written) i active))
            | no e ↦ counts_alike z v v c (frames written) j refl refl refl (others j e)
          ])
      | no h ↦ ap (λ (b : Bool). if b st.memory.used (charged1 st.memory.used (payer v s))) (untold (charged z v c i) h)
          ∙ ap (λ (t : ℕ). charged1 st.memory.used (payer v t)) (sym its_slot) ∙ ap (λ (l : List ℕ). charged1 l (payer v (slot_of z i))) (used_table_holds z st k)
          ∙ counts_more z v v c (frames written) (λ t. refl) i in_pages (λ j l d. counts_alike z v v c (frames written) j refl refl refl (others j d))
          (payer_below z st k.fits.disk.accounts k.rules.disk.account_fit_holds k.fits.sizes.accounts (slot_of z i))
          (λ t. h (sound (charged z v c i) (subst T (counts_active z v c i active) t)))
          (subst T (sym (counts_active z v (frames written) i active)) (complete (charged z v (frames written) i) now))
    ]

  -- ── the outcome ──
  -- the tables that a write sees
  abbrev sees : State
  sees = seen_write core.frames st.disk.numbers st.disk.accounts st.disk.limits st.disk.parents core.words held.addresses held.states st.memory.slots.active st.memory.used

  pub write_own : {a : Answer} {fs : List Frame} {ws us : List ℕ} → a ≡ (own z sees (writing s p w x)).answer → fs ≡ (own z sees (writing s p w x)).left.memory.core.frames
      → ws ≡ (own z sees (writing s p w x)).left.memory.core.words → us ≡ used_left z sees s p w x
      → leaves a (state_in st.memory.chip st.memory.line fs held.pool st.disk.records st.disk.numbers st.disk.accounts st.disk.maps st.disk.limits st.disk.parents st.disk.highest ws core.free_queue core.removal_list
      held.addresses held.states held.owners held.free_map st.memory.slots.active st.memory.slots.updating st.memory.slots.images us)
      ≡ own z st (writing s p w x)
  unfolding carried result counted Pages.write frame_of used_then charged payer
  write_own a fs ws us = own_by z st sees (writing s p w x) refl refl a
      (λ o ok. same_state (fs ∙ (λ t. (o t).left.memory.core.frames)) (λ t. record { hand = held.pool.hand; free = k.rules.counts.free t }) refl refl refl refl refl refl refl
      (ws ∙ (λ t. (o t).left.memory.core.words)) refl refl refl refl refl (map_table z st k) refl refl refl
      (us ∙ ap (λ (n : ℕ). (outcome n 0 st.memory.used (used_then z st s i)).left) (yes_all (questions z st (writing s p w x)) ok) ∙ used_then_holds ok))
      (λ h o. same_state (fs ∙ (λ t. (o t).left.memory.core.frames)) refl refl refl refl refl refl refl refl (ws ∙ (λ t. (o t).left.memory.core.words)) refl refl refl refl refl refl refl refl refl
      (us ∙ ap (λ (y : Outcome (List ℕ)). y.left) (outcome_no (first_no (questions z st (writing s p w x))) 0 st.memory.used (used_then z st s i) h)))
