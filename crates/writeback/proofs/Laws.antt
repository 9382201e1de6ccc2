-- Over the full state: what each event leaves, its tables of counts among them, and every other table as it was.
use mathlib.Core.Path.{◌≡◌, refl, ap, sym, ◌∙◌}
use mathlib.Core.Logic.{◌⊎◌, inl, inr}
use Prim.Native.Nat.{ℕ, ◌<◌}
use native.Mathlib.Nat.{suc_inj}
use native.Mathlib.Omega.{arith}
use native.Mathlib.Decide.{ℕ_discrete}
use lib.Dec.{eqb}
use borrow.Author.Tests.{eq-eqb, ne_eqb}
use Rattle.tables.specs.Base.{at}
use Rattle.tables.specs.Questions.{Asked}
use Rattle.tables.specs.Rule.{Holds, same}
use Rattle.tables.specs.Store.{store, at_store}
use Rattle.model.specs.declared.sizes.Sizes.{Sizes}
use Rattle.model.specs.Lines.{FREE, NULLED, LIVE, RELEASED, LEAVING}
use Rattle.model.specs.State.{State, Files, files, frames, slot_of, all_pages, payer, charged, live}
use Rattle.model.specs.Setters.{counted}
use Rattle.model.specs.Questions.{questions}
use Rattle.model.specs.Writeback
use Rattle.model.specs.Step.{carried}
use Rattle.model.specs.Laws.Fit.{Fit}
use Rattle.model.specs.Laws.Ruled.{Ruled}
use Rattle.model.specs.Lent.{state_in, same_state}
use Rattle.writeback.specs.Seen.{map_done, update}
use Rattle.leaves.specs.Counts.{counts}
use Rattle.writeback.proofs.Kept.{counts_alike, charged_alike, used_kept, map_kept, pool_kept}

module _ (z : Sizes) (st : State) (fit : Fit z st) (ruled : Ruled z st) where
  -- ── map done ──
  module _ (s good : ℕ) (asked : Asked (questions z st (map_done s good))) where
    abbrev done : State
    done = carried z st (map_done s good)

    still_live : (x : ℕ) → ¬ (x ≡ LIVE) → (r : ℕ) → r < z.records → (at (store st.memory.held.states (Writeback.leaver z st s) (λ k. x)) r ≡ LIVE → (files st).state r ≡ LIVE) × ((files st).state r ≡ LIVE → at (store st.memory.held.states (Writeback.leaver z st s) (λ k. x)) r ≡ LIVE)
    still_live x d r h = elim (at_store st.memory.held.states (Writeback.leaver z st s) (λ k. x) r (rw fit.memory.states h)) [
      | inl y ↦ (λ e. absurd (d (sym y.1 ∙ e)), λ e. absurd (omega (arith, e, y.0.0)))
      | inr y ↦ (λ e. sym y.1 ∙ e, λ e. y.1 ∙ e)
    ]

    abbrev after : ℕ → ℕ → ℕ
    after x = at (store st.memory.held.states (Writeback.leaver z st s) (λ r. x))

    -- the pages count alike, whatever the leaving records become and whatever the slot's map is then
    pages_alike : (x : ℕ) → ¬ (x ≡ LIVE) → (v : Files) → ((i : ℕ) → (files st).address i ≡ v.address i) → ((t : ℕ) → (files st).active t ≡ v.active t) → ((r : ℕ) → v.state r ≡ after x r)
        → ((i : ℕ) → i < all_pages z → ¬ (slot_of z i ≡ s) → (files st).map i ≡ v.map i) → (i : ℕ) → i < all_pages z → counts z (files st) (frames st) i ≡ counts z v (frames st) i
    unfolding charged
    pages_alike x d v ads act sts maps i h = counts_alike z (files st) v (frames st) (frames st) i (act (slot_of z i))
        (λ e. charged_alike z (files st) v (frames st) (frames st) i
        (λ k. elim k [ inl l ↦ inl (l.0, sym (ads i) ∙ l.1, sts l.0 ∙ (still_live x d l.0 (ruled.records.address_fit_holds i h l.0 l.1)).1 l.2) | inr f ↦ inr f ])
        (λ k. elim k [ inl l ↦ inl (l.0, ads i ∙ l.1, (still_live x d l.0 (ruled.records.address_fit_holds i h l.0 (ads i ∙ l.1))).0 (sym (sts l.0) ∙ l.2)) | inr f ↦ inr f ]))
        (λ n. maps i h (λ q. n (ap (files st).active q ∙ asked.1.1.0)))

    map_other : (i : ℕ) → i < all_pages z → ¬ (slot_of z i ≡ s) → (files st).map i ≡ at (store st.disk.maps (λ k. same (slot_of z k) s) (files st).image) i
    map_other i h d = elim (at_store st.disk.maps (λ k. same (slot_of z k) s) (files st).image i (rw fit.disk.maps h)) [ inl y ↦ absurd (d y.0) | inr y ↦ sym y.1 ]

    used_done : done.memory.used ≡ st.memory.used
    unfolding carried Writeback.map_done Writeback.store_image Writeback.update_over payer
    used_done = elim (ℕ_discrete good 1) [
      | yes e ↦ rw (eq-eqb good 1 e) (used_kept z st fit ruled.counts _ (λ t. refl) (pages_alike FREE (λ q. omega arith) _ (λ i. refl) (λ t. refl) (λ r. refl) map_other))
      | no e ↦ rw (ne_eqb good 1 e) (used_kept z st fit ruled.counts _ (λ t. refl) (pages_alike RELEASED (λ q. omega arith) _ (λ i. refl) (λ t. refl) (λ r. refl) (λ i h d. refl)))
    ]

    pub map_done_left : done ≡ state_in st.memory.chip st.memory.line st.memory.core.frames done.memory.held.pool st.disk.records st.disk.numbers st.disk.accounts done.disk.maps st.disk.limits st.disk.parents st.disk.highest
        st.memory.core.words st.memory.core.free_queue st.memory.core.removal_list st.memory.held.addresses done.memory.held.states done.memory.held.owners done.memory.held.free_map
        st.memory.slots.active done.memory.slots.updating done.memory.slots.images st.memory.used
    unfolding carried Writeback.map_done Writeback.store_image Writeback.update_over counted
    map_done_left = elim (ℕ_discrete good 1) [
      | yes e ↦ rw (eq-eqb good 1 e) (same_state refl refl refl refl refl refl refl refl refl refl refl refl refl refl refl refl refl refl refl (rw (eq-eqb good 1 e) at used_done))
      | no e ↦ rw (ne_eqb good 1 e) (same_state refl refl refl refl refl refl refl refl refl refl refl refl refl refl refl refl refl refl refl (rw (ne_eqb good 1 e) at used_done))
    ]

  -- ── update ──
  module _ (s : ℕ) where
    abbrev updated : State
    updated = carried z st (update s)

    abbrev state_then : ℕ → ℕ
    state_then = at (store st.memory.held.states (Writeback.leaving_record z st s) (λ r. LEAVING))

    -- a record that leaves was nulled or released
    leaving_was : (r : ℕ) → Holds (Writeback.leaving_record z st s r) → ((files st).state r ≡ NULLED) ⊎ ((files st).state r ≡ RELEASED)
    leaving_was r (inl x) = let p = x.2.0.1.0 in inl (ap (files st).state (suc_inj (sym x.2.1 ∙ p.1)) ∙ p.2)
    leaving_was r (inr x) = inr x.1

    same_but : (t : ℕ) → ¬ (t ≡ NULLED) → ¬ (t ≡ RELEASED) → ¬ (t ≡ LEAVING) → (r : ℕ) → r < z.records → ((files st).state r ≡ t → state_then r ≡ t) × (state_then r ≡ t → (files st).state r ≡ t)
    same_but t a b d r h = elim (at_store st.memory.held.states (Writeback.leaving_record z st s) (λ k. LEAVING) r (rw fit.memory.states h)) [
      | inl y ↦ (λ e. elim (leaving_was r y.0) [ inl q ↦ absurd (a (sym e ∙ q)) | inr q ↦ absurd (b (sym e ∙ q)) ], λ e. absurd (d (sym e ∙ y.1)))
      | inr y ↦ (λ e. y.1 ∙ e, λ e. sym y.1 ∙ e)
    ]

    free_alike : (r : ℕ) → r < z.records → eqb ((files st).state r) FREE ≡ eqb (state_then r) FREE
    free_alike r h = elim (ℕ_discrete ((files st).state r) FREE) [
      | yes e ↦ rw (eq-eqb _ _ e, eq-eqb _ _ ((same_but FREE (λ q. omega arith) (λ q. omega arith) (λ q. omega arith) r h).0 e))
      | no e ↦ rw (ne_eqb _ _ e, ne_eqb _ _ (λ k. e ((same_but FREE (λ q. omega arith) (λ q. omega arith) (λ q. omega arith) r h).1 k)))
    ]

    -- a page's live address is live then, and no other
    live_then_holds : (i : ℕ) → i < all_pages z → Holds (live (files st) i) → Holds (live (files updated) i)
    unfolding carried Writeback.update counted
    live_then_holds i h l = elim (at_store st.memory.held.addresses (Writeback.leaving_page z st s) (λ k. 0) i (rw fit.memory.addresses h)) [
      | inl y ↦ let p = y.0.1.0 in absurd (omega (arith, l.2, ap (files st).state (suc_inj (sym l.1 ∙ p.1)) ∙ p.2))
      | inr y ↦ (l.0, y.1 ∙ l.1, (same_but LIVE (λ q. omega arith) (λ q. omega arith) (λ q. omega arith) l.0 (ruled.records.address_fit_holds i h l.0 l.1)).0 l.2)
    ]

    live_was : (i : ℕ) → i < all_pages z → Holds (live (files updated) i) → Holds (live (files st) i)
    unfolding carried Writeback.update counted
    live_was i h l = elim (at_store st.memory.held.addresses (Writeback.leaving_page z st s) (λ k. 0) i (rw fit.memory.addresses h)) [
      | inl y ↦ absurd (omega (arith, l.1, y.1))
      | inr y ↦ let e = sym y.1 ∙ l.1 in (l.0, e, (same_but LIVE (λ q. omega arith) (λ q. omega arith) (λ q. omega arith) l.0 (ruled.records.address_fit_holds i h l.0 e)).1 l.2)
    ]

    used_updated : updated.memory.used ≡ st.memory.used
    unfolding carried Writeback.update payer charged counted
    used_updated = used_kept z st fit ruled.counts (record { disk = updated.disk; memory = updated.memory }) (λ t. refl) (λ i h. counts_alike z (files st) (files updated) (frames st) (frames st) i refl
        (λ e. charged_alike z (files st) (files updated) (frames st) (frames st) i
        (λ k. elim k [ inl l ↦ inl (live_then_holds i h l) | inr f ↦ inr f ])
        (λ k. elim k [ inl l ↦ inl (live_was i h l) | inr f ↦ inr f ]))
        (λ n. refl))

    pub update_left : updated ≡ state_in st.memory.chip st.memory.line st.memory.core.frames st.memory.held.pool st.disk.records st.disk.numbers st.disk.accounts st.disk.maps st.disk.limits st.disk.parents st.disk.highest
        st.memory.core.words st.memory.core.free_queue st.memory.core.removal_list updated.memory.held.addresses updated.memory.held.states st.memory.held.owners st.memory.held.free_map
        st.memory.slots.active updated.memory.slots.updating updated.memory.slots.images st.memory.used
    unfolding carried Writeback.update counted
    update_left = same_state refl (pool_kept z st fit ruled.counts updated free_alike refl) refl refl refl refl refl refl refl refl refl refl refl refl refl (map_kept z st fit ruled.counts updated free_alike) refl refl refl used_updated
