-- The events that free frames and records, or that move pages and maps to the disk, over all tables: the outcome of each by what it ensures of the tables that it sees.
use mathlib.Core.Path.{◌≡◌, refl, ap, sym, ◌∙◌}
use mathlib.Core.Bool.{Bool, true, false}
use mathlib.Core.List.{List}
use Prim.Native.Nat.{ℕ}
use lib.Dec.{eqb}
use Rattle.tables.specs.Base.{if}
use Rattle.tables.specs.Questions.{first_no, yes_all}
use Rattle.model.specs.declared.sizes.Sizes.{Sizes}
use Rattle.model.specs.declared.frame.Frame.{Frame}
use Rattle.model.specs.declared.frame.Pool.{Pool}
use Rattle.model.specs.declared.event.Answer.{Answer}
use Rattle.model.specs.State.{Core, Held, Slots, State, files, frames, free_count, READING, payer, charged}
use Rattle.model.specs.Setters.{counted}
use Rattle.model.specs.Questions.{questions, would_store}
use Rattle.model.specs.Parts.{frame_of}
use Rattle.model.specs.Writeback
use Rattle.model.specs.Laws.Nulled.{claim_nulls, nulled_by}
use Rattle.model.specs.Lent.{state_in, same_state, no_pool}
use Rattle.model.specs.Step.{Outcome, outcome, carried, result}
use Rattle.model.specs.Laws.Own.{own, leaves}
use Rattle.model.specs.Laws.OwnLaws.{own_yes, own_no, outcome_no}
use Rattle.model.specs.Pool.{deposited}
use Rattle.writeback.specs.Claim.{used_then}
use Rattle.writeback.specs.Seen.{claim, truncate, update, page_done, map_done, seen_claim, seen_truncate, seen_update, seen_page_done, seen_map_done}
use Rattle.writeback.specs.Truncate as T
use Rattle.writeback.proofs.ClaimWork as ClaimWork
use Rattle.writeback.proofs.DoneWork as DoneWork
use Rattle.writeback.proofs.MapWork as MapWork
use Rattle.writeback.proofs.TruncateWork as TruncateWork
use Rattle.writeback.proofs.UpdateWork as UpdateWork
use Rattle.writeback.proofs.ClaimLaws.{claim_left}
use Rattle.writeback.proofs.DoneLaws.{page_done_left}
use Rattle.writeback.proofs.Laws.{map_done_left, update_left}
use Rattle.writeback.proofs.TruncateLaws.{truncate_left}
use Rattle.dispatch.specs.Kept.{Kept}
use Rattle.dispatch.proofs.Outcomes.{own_by}

-- ── a part of two states alike in each case ──
by_two : {A : Type 0} (P : State → A) (b : Bool) {x y x' y' : State} → P x ≡ P x' → P y ≡ P y' → P (if b x y) ≡ P (if b x' y')
by_two P true e d = e
by_two P false e d = d

module _ (z : Sizes) (st : State) (k : Kept z st) where
  abbrev core : Core
  core = st.memory.core

  abbrev held : Held
  held = st.memory.held

  abbrev slots : Slots
  slots = st.memory.slots

  -- ── page done ──
  module _ (f good : ℕ) where
    abbrev done_sees : State
    done_sees = seen_page_done core.frames st.disk.records core.words core.free_queue core.removal_list held.addresses held.states

    abbrev four : State → State
    four t = if (eqb ((frames st).frame f).transfer READING) (if (eqb good 1) (Writeback.read_good z t f) (Writeback.read_failed z t f)) (if (eqb good 1) (Writeback.write_good z t f) (Writeback.write_failed z t f))

    done_same : {A : Type 0} (P : State → A) → P (Writeback.read_good z done_sees f) ≡ P (Writeback.read_good z st f) → P (Writeback.read_failed z done_sees f) ≡ P (Writeback.read_failed z st f)
        → P (Writeback.write_good z done_sees f) ≡ P (Writeback.write_good z st f) → P (Writeback.write_failed z done_sees f) ≡ P (Writeback.write_failed z st f) → P (four done_sees) ≡ P (four st)
    done_same P a b c d = by_two P (eqb ((frames st).frame f).transfer READING) (by_two P (eqb good 1) a b) (by_two P (eqb good 1) c d)

    pub page_done_own : {fs : List Frame} {a : Answer} {rs ws fq rl ss : List ℕ} → DoneWork.Said (own z done_sees (page_done f good)) fs a rs ws fq rl ss
        → leaves a (state_in st.memory.chip st.memory.line fs held.pool rs st.disk.numbers st.disk.accounts st.disk.maps st.disk.limits st.disk.parents st.disk.highest ws fq rl held.addresses ss held.owners held.free_map slots.active slots.updating slots.images st.memory.used)
        ≡ own z st (page_done f good)
    unfolding carried result counted Writeback.page_done Writeback.read_good Writeback.read_failed Writeback.write_good Writeback.write_failed Writeback.store_frame Writeback.free_frame
    page_done_own e = own_by z st done_sees (page_done f good) refl refl e.answer
        (λ o ok. same_state
        (e.frames ∙ (λ y. (o y).left.memory.core.frames) ∙ done_same (λ t. t.memory.core.frames) refl refl refl refl)
        refl
        (e.records ∙ (λ y. (o y).left.disk.records) ∙ done_same (λ t. t.disk.records) refl refl refl refl)
        refl refl refl refl refl refl
        (e.words ∙ (λ y. (o y).left.memory.core.words) ∙ done_same (λ t. t.memory.core.words) refl refl refl refl)
        (e.free_queue ∙ (λ y. (o y).left.memory.core.free_queue) ∙ done_same (λ t. t.memory.core.free_queue) refl refl refl refl)
        (e.removal_list ∙ (λ y. (o y).left.memory.core.removal_list) ∙ done_same (λ t. t.memory.core.removal_list) refl refl refl refl)
        refl
        (e.states ∙ (λ y. (o y).left.memory.held.states) ∙ done_same (λ t. t.memory.held.states) refl refl refl refl)
        refl refl refl refl refl refl
        ∙ sym (page_done_left z st k.fits k.rules f good ok))
        (λ h o. same_state
        (e.frames ∙ (λ y. (o y).left.memory.core.frames))
        refl
        (e.records ∙ (λ y. (o y).left.disk.records))
        refl refl refl refl refl refl
        (e.words ∙ (λ y. (o y).left.memory.core.words))
        (e.free_queue ∙ (λ y. (o y).left.memory.core.free_queue))
        (e.removal_list ∙ (λ y. (o y).left.memory.core.removal_list))
        refl
        (e.states ∙ (λ y. (o y).left.memory.held.states))
        refl refl refl refl refl refl)

  -- ── map done ──
  module _ (s good : ℕ) where
    abbrev map_sees : Pool → State
    map_sees pool = seen_map_done pool st.disk.numbers st.disk.maps held.states held.owners held.free_map slots.active slots.updating slots.images

    pub map_done_own : (n : ℕ) {a : Answer} {ms ss os fm us is : List ℕ} → MapWork.Said (λ p. own z (map_sees p) (map_done s good)) (free_count z (files st).state) n a ms ss os fm us is
        → leaves a (state_in st.memory.chip st.memory.line core.frames (deposited n held.pool) st.disk.records st.disk.numbers st.disk.accounts ms st.disk.limits st.disk.parents st.disk.highest core.words core.free_queue core.removal_list held.addresses ss os fm slots.active us is st.memory.used)
        ≡ own z st (map_done s good)
    unfolding carried result counted Writeback.map_done Writeback.store_image Writeback.update_over
    map_done_own n e = own_by z st (map_sees no_pool) (map_done s good) refl refl e.answer
        (λ o ok. same_state
        refl
        (e.pool held.pool k.rules.counts.free ∙ sym (λ y. (own_yes z (map_sees held.pool) (map_done s good) (first_no (questions z st (map_done s good))) refl (yes_all (questions z st (map_done s good)) ok) y).left.memory.held.pool)
        ∙ by_two (λ t. (counted z t).memory.held.pool) (eqb good 1) refl refl)
        refl refl refl
        (e.maps ∙ (λ y. (o y).left.disk.maps) ∙ by_two (λ t. t.disk.maps) (eqb good 1) refl refl)
        refl refl refl refl refl refl refl
        (e.states ∙ (λ y. (o y).left.memory.held.states) ∙ by_two (λ t. t.memory.held.states) (eqb good 1) refl refl)
        (e.owners ∙ (λ y. (o y).left.memory.held.owners) ∙ by_two (λ t. t.memory.held.owners) (eqb good 1) refl refl)
        (e.free_map ∙ (λ y. (o y).left.memory.held.free_map) ∙ by_two (λ t. (counted z t).memory.held.free_map) (eqb good 1) refl refl)
        refl
        (e.updating ∙ (λ y. (o y).left.memory.slots.updating) ∙ by_two (λ t. t.memory.slots.updating) (eqb good 1) refl refl)
        (e.images ∙ (λ y. (o y).left.memory.slots.images) ∙ by_two (λ t. t.memory.slots.images) (eqb good 1) refl refl)
        refl
        ∙ sym (map_done_left z st k.fits k.rules s good ok))
        (λ h o. same_state
        refl
        (e.pool held.pool k.rules.counts.free ∙ sym (λ y. (own_no z (map_sees held.pool) (map_done s good) (first_no (questions z st (map_done s good))) refl h y).left.memory.held.pool))
        refl refl refl
        (e.maps ∙ (λ y. (o y).left.disk.maps))
        refl refl refl refl refl refl refl
        (e.states ∙ (λ y. (o y).left.memory.held.states))
        (e.owners ∙ (λ y. (o y).left.memory.held.owners))
        (e.free_map ∙ (λ y. (o y).left.memory.held.free_map))
        refl
        (e.updating ∙ (λ y. (o y).left.memory.slots.updating))
        (e.images ∙ (λ y. (o y).left.memory.slots.images))
        refl)

  -- ── update ──
  module _ (s : ℕ) where
    abbrev update_sees : State
    update_sees = seen_update core.frames st.disk.numbers held.addresses held.states held.owners slots.active slots.updating slots.images

    pub update_own : {a : Answer} {ads ss us is : List ℕ} → UpdateWork.Said (own z update_sees (update s)) a ads ss us is
        → leaves a (state_in st.memory.chip st.memory.line core.frames held.pool st.disk.records st.disk.numbers st.disk.accounts st.disk.maps st.disk.limits st.disk.parents st.disk.highest core.words core.free_queue core.removal_list ads ss held.owners held.free_map slots.active us is st.memory.used)
        ≡ own z st (update s)
    unfolding carried result counted Writeback.update would_store
    update_own e = own_by z st update_sees (update s) refl refl e.answer
        (λ o ok. same_state refl refl refl refl refl refl refl refl refl refl refl refl
        (e.addresses ∙ (λ y. (o y).left.memory.held.addresses))
        (e.states ∙ (λ y. (o y).left.memory.held.states))
        refl refl refl
        (e.updating ∙ (λ y. (o y).left.memory.slots.updating))
        (e.images ∙ (λ y. (o y).left.memory.slots.images))
        refl
        ∙ sym (update_left z st k.fits k.rules s))
        (λ h o. same_state refl refl refl refl refl refl refl refl refl refl refl refl
        (e.addresses ∙ (λ y. (o y).left.memory.held.addresses))
        (e.states ∙ (λ y. (o y).left.memory.held.states))
        refl refl refl
        (e.updating ∙ (λ y. (o y).left.memory.slots.updating))
        (e.images ∙ (λ y. (o y).left.memory.slots.images))
        refl)

  -- ── claim ──
  abbrev claim_sees : State
  claim_sees = seen_claim core.frames st.disk.accounts st.disk.limits st.disk.parents core.words core.free_queue core.removal_list held.addresses held.states st.memory.used

  -- the record that it makes nulled
  pub claim_nulls_holds : {n : ℕ} → n ≡ nulled_by z claim_sees claim → n ≡ nulled_by z st claim
  unfolding nulled_by claim_nulls Writeback.looking Writeback.begins_write Writeback.zeros
  claim_nulls_holds e = e

  pub claim_own : {fs : List Frame} {a : Answer} {fq rl ss us : List ℕ} → ClaimWork.Said z claim_sees fs a fq rl ss us
      → leaves a (state_in st.memory.chip st.memory.line fs held.pool st.disk.records st.disk.numbers st.disk.accounts st.disk.maps st.disk.limits st.disk.parents st.disk.highest core.words fq rl held.addresses ss held.owners held.free_map slots.active slots.updating slots.images us)
      ≡ own z st claim
  unfolding carried result counted Writeback.claim Writeback.looking Writeback.begins_write Writeback.zeros Writeback.free_frame used_then payer
  claim_own e = own_by z st claim_sees claim refl refl e.answer
      (λ o ok. same_state
      (e.frames ∙ (λ y. (o y).left.memory.core.frames) ∙ by_two (λ t. t.memory.core.frames) (Writeback.begins_write z st) refl (by_two (λ t. t.memory.core.frames) (eqb ((frames st).frame (Writeback.looking z st).taken).modified 1) refl refl))
      refl refl refl refl refl refl refl refl refl
      (e.free_queue ∙ (λ y. (o y).left.memory.core.free_queue) ∙ by_two (λ t. t.memory.core.free_queue) (Writeback.begins_write z st) refl (by_two (λ t. t.memory.core.free_queue) (eqb ((frames st).frame (Writeback.looking z st).taken).modified 1) refl refl))
      (e.removal_list ∙ (λ y. (o y).left.memory.core.removal_list) ∙ by_two (λ t. t.memory.core.removal_list) (Writeback.begins_write z st) refl (by_two (λ t. t.memory.core.removal_list) (eqb ((frames st).frame (Writeback.looking z st).taken).modified 1) refl refl))
      refl
      (e.states ∙ (λ y. (o y).left.memory.held.states) ∙ by_two (λ t. t.memory.held.states) (Writeback.begins_write z st) refl (by_two (λ t. t.memory.held.states) (eqb ((frames st).frame (Writeback.looking z st).taken).modified 1) refl refl))
      refl refl refl refl refl
      (e.used ∙ ap (λ (n : ℕ). (outcome n 0 st.memory.used (used_then z st)).left) (yes_all (questions z st claim) ok))
      ∙ sym (claim_left z st k.fits k.rules ok.0))
      (λ h o. same_state
      (e.frames ∙ (λ y. (o y).left.memory.core.frames))
      refl refl refl refl refl refl refl refl refl
      (e.free_queue ∙ (λ y. (o y).left.memory.core.free_queue))
      (e.removal_list ∙ (λ y. (o y).left.memory.core.removal_list))
      refl
      (e.states ∙ (λ y. (o y).left.memory.held.states))
      refl refl refl refl refl
      (e.used ∙ ap (λ (x : Outcome (List ℕ)). x.left) (outcome_no (first_no (questions z st claim)) 0 st.memory.used (used_then z st) h)))

  -- ── truncate ──
  module _ (s n : ℕ) where
    abbrev truncate_sees : State
    truncate_sees = seen_truncate core.frames st.disk.numbers st.disk.accounts st.disk.limits st.disk.parents core.free_queue core.removal_list held.addresses held.states slots.active st.memory.used

    pub truncate_own : {fs : List Frame} {a : Answer} {fq rl ds ss us : List ℕ} → TruncateWork.Said z truncate_sees s n fs a fq rl ds ss us
        → leaves a (state_in st.memory.chip st.memory.line fs held.pool st.disk.records st.disk.numbers st.disk.accounts st.disk.maps st.disk.limits st.disk.parents st.disk.highest core.words fq rl ds ss held.owners held.free_map slots.active slots.updating slots.images us)
        ≡ own z st (truncate s n)
    unfolding carried result counted Writeback.truncate Writeback.cut_frames frame_of T.used_then payer charged
    truncate_own e = own_by z st truncate_sees (truncate s n) refl refl e.answer
        (λ o ok. same_state
        (e.frames ∙ (λ y. (o y).left.memory.core.frames))
        refl refl refl refl refl refl refl refl refl
        (e.free_queue ∙ (λ y. (o y).left.memory.core.free_queue))
        (e.removal_list ∙ (λ y. (o y).left.memory.core.removal_list))
        (e.addresses ∙ (λ y. (o y).left.memory.held.addresses))
        (e.states ∙ (λ y. (o y).left.memory.held.states))
        refl refl refl refl refl
        (e.used ∙ ap (λ (m : ℕ). (outcome m 0 st.memory.used (T.used_then z st s n)).left) (yes_all (questions z st (truncate s n)) ok))
        ∙ sym (truncate_left z st k.fits k.rules s n ok))
        (λ h o. same_state
        (e.frames ∙ (λ y. (o y).left.memory.core.frames))
        refl refl refl refl refl refl refl refl refl
        (e.free_queue ∙ (λ y. (o y).left.memory.core.free_queue))
        (e.removal_list ∙ (λ y. (o y).left.memory.core.removal_list))
        (e.addresses ∙ (λ y. (o y).left.memory.held.addresses))
        (e.states ∙ (λ y. (o y).left.memory.held.states))
        refl refl refl refl refl
        (e.used ∙ ap (λ (x : Outcome (List ℕ)). x.left) (outcome_no (first_no (questions z st (truncate s n))) 0 st.memory.used (T.used_then z st s n) h)))
