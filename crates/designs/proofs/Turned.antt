-- Activate and deactivate over the full state: addresses, states and switch of one slot, and every count as it was.
use mathlib.Core.Path.{◌≡◌, refl, ap, sym, ◌∙◌, subst}
use mathlib.Core.Bool.{Bool}
use mathlib.Core.Logic.{inl, inr}
use Prim.Native.Nat.{ℕ, suc, ◌-◌, ◌<◌}
use native.Mathlib.Omega.{arith}
use native.Mathlib.Decide.{ℕ_discrete}
use borrow.Author.Tests.{ne_eqb}
use lib.Dec.{eqb, ltb}
use lib.ListN.{set}
use lib.Seq.{get_or-set_same, get_or-set_other}
use Rattle.tables.specs.Base.{at, if}
use Rattle.tables.specs.Laws.{if_yes, if_no}
use Rattle.tables.specs.Questions.{Asked}
use Rattle.tables.specs.Rule.{Holds, same, below, ◌and◌, test, alike}
use Rattle.tables.specs.Store.{Split, store, at_store}
use Rattle.model.specs.declared.sizes.Sizes.{Sizes}
use Rattle.model.specs.declared.event.Event.TheVariants as Event
use Rattle.model.specs.declared.event.Design.TheVariants.{Activate, Deactivate}
use Rattle.model.specs.Lines.{FREE, FILED, LIVE}
use Rattle.model.specs.State.{State, Files, files, frames, all_pages, slot_of, framed, live, charged, payer}
use Rattle.model.specs.Setters.{counted}
use Rattle.model.specs.Parts.{of_slot}
use Rattle.model.specs.Questions.{questions, would_store}
use Rattle.model.specs.Designs
use Rattle.model.specs.Step.{carried}
use Rattle.model.specs.Laws.Index.{of_pages}
use Rattle.model.specs.Laws.Ruled.{Ruled}
use Rattle.model.specs.Laws.Fit.{Fit}
use Rattle.leaves.specs.Counts.{counts}
use Rattle.leaves.specs.Addresses.{live_split}
use Rattle.designs.proofs.Kept.{after, split_in, split_out, counts_kept, counted_kept}

-- the slot's pages take new addresses, its records in state x become y, its switch becomes b
abbrev turned_state : Sizes → State → ℕ → (ℕ → ℕ) → ℕ → ℕ → ℕ → State
turned_state z st s new x y b = after st st.disk.numbers st.disk.accounts st.disk.highest
    (store st.memory.held.addresses (of_slot z s) new)
    (store st.memory.held.states (λ r. same (at st.memory.held.states r) x and same (at st.memory.held.owners r) s) (λ r. y))
    (set st.memory.slots.active s b)

module _ (z : Sizes) (st : State) (f : Fit z st) (r : Ruled z st) (s : ℕ) (inside : s < z.slots) where
  abbrev v : Files
  v = files st

  module _ (new : ℕ → ℕ) (x y b : ℕ) where
    abbrev w : Files
    w = files (turned_state z st s new x y b)

    address : (i : ℕ) → i < all_pages z → Split (slot_of z i ≡ s) (w.address i) (new i) (v.address i)
    address i h = at_store st.memory.held.addresses (of_slot z s) new i (rw f.memory.addresses h)

    state : (q : ℕ) → q < z.records → Split ((v.state q ≡ x) × (v.owner q ≡ s)) (w.state q) y (v.state q)
    state q h = at_store st.memory.held.states (λ m. same (v.state m) x and same (v.owner m) s) (λ m. y) q (rw f.memory.states h)

    switch : w.active s ≡ b
    switch = get_or-set_same st.memory.slots.active s b 0 (rw f.memory.active inside)

    -- the page of another slot: its record, too, is that slot's
    foreign : (i : ℕ) → i < all_pages z → ¬ (slot_of z i ≡ s) → (q : ℕ) → v.address i ≡ suc q → w.state q ≡ v.state q
    foreign i h n q p = split_out (state q (r.records.address_fit_holds i h q p)) (λ t. n (sym (r.records.held i h q p).0 ∙ t.1))

    elsewhere : (i : ℕ) → i < all_pages z → ¬ (slot_of z i ≡ s) → counts z v (frames st) i ≡ counts z w (frames st) i
    unfolding charged
    elsewhere i h n = ap (λ (t : ℕ). if (eqb t 1) (test (charged z v (frames st) i)) (ltb 0 (v.map i))) (sym (get_or-set_other st.memory.slots.active s (slot_of z i) b 0 n))
        ∙ ap (λ (t : Bool). if (eqb (w.active (slot_of z i)) 1) t (ltb 0 (v.map i))) (alike (charged z v (frames st) i) (charged z w (frames st) i) to from)
      where
        e : w.address i ≡ v.address i
        e = split_out (address i h) n

        to : Holds (charged z v (frames st) i) → Holds (charged z w (frames st) i)
        to (inl (q, p, l)) = inl (q, e ∙ p, foreign i h n q p ∙ l)
        to (inr k) = inr k

        from : Holds (charged z w (frames st) i) → Holds (charged z v (frames st) i)
        from (inl (q, p, l)) = inl (q, sym e ∙ p, sym (foreign i h n q (sym e ∙ p)) ∙ l)
        from (inr k) = inr k

    turned_left : ¬ (x ≡ FREE) → ¬ (y ≡ FREE) → ((i : ℕ) → i < all_pages z → slot_of z i ≡ s → counts z v (frames st) i ≡ counts z w (frames st) i) → counted z (turned_state z st s new x y b) ≡ turned_state z st s new x y b
    unfolding payer
    turned_left fx fy own = counted_kept z st f r.counts _ _ _ _ _ _
        (λ q h. elim (state q h) [
          | inl t ↦ ne_eqb (v.state q) FREE (λ e. fx (sym t.0.0 ∙ e)) ∙ sym (ne_eqb (w.state q) FREE (λ e. fy (sym t.1 ∙ e)))
          | inr t ↦ ap (λ (n : ℕ). eqb n FREE) (sym t.1)
        ])
        (counts_kept z v w (frames st) (frames st) (λ i h. elim (ℕ_discrete (slot_of z i) s) [ yes e ↦ own i h e | no e ↦ elsewhere i h e ]) (λ i h. inl (pays i)))
      where
        pays : (i : ℕ) → payer v (slot_of z i) ≡ payer w (slot_of z i)
        pays i = refl

  -- a listed page counts before, and its live address after
  module _ (off : ¬ (v.active s ≡ 1)) where
    abbrev on : Files
    on = w v.map FILED LIVE 1

    quiet : (i : ℕ) → slot_of z i ≡ s → ¬ (v.active (slot_of z i) ≡ 1)
    quiet i e a = off (subst (λ (t : ℕ). v.active t ≡ 1) e a)

    lists : (i : ℕ) → i < all_pages z → slot_of z i ≡ s → 0 < v.map i → Holds (live on i)
    lists i h e l =
        let q = v.map i - 1 in
        let p : v.map i ≡ suc q = omega arith in
        let o = r.records.filed i h q p (quiet i e) in
        (q, split_in (address v.map FILED LIVE 1 i h) e ∙ p, split_in (state v.map FILED LIVE 1 q (r.disk.map_fit_holds i h q p)) (o.1, o.0 ∙ e))

    turned_on : (i : ℕ) → i < all_pages z → slot_of z i ≡ s → counts z v (frames st) i ≡ counts z on (frames st) i
    unfolding charged test
    turned_on i h e = if_no (v.active (slot_of z i)) 1 (test (charged z v (frames st) i)) (ltb 0 (v.map i)) (quiet i e)
        ∙ alike (below 0 (v.map i)) (charged z on (frames st) i) (λ l. inl (lists i h e l)) from
        ∙ sym (if_yes (on.active (slot_of z i)) 1 (test (charged z on (frames st) i)) (ltb 0 (v.map i)) (ap on.active e ∙ switch v.map FILED LIVE 1))
      where
        from : Holds (charged z on (frames st) i) → 0 < v.map i
        from (inl (q, p, l)) = let m : v.map i ≡ suc q = sym (split_in (address v.map FILED LIVE 1 i h) e) ∙ p in omega (arith, m)
        from (inr (g, l, p)) = absurd (quiet i e (r.frames.active g l i p.0))

  -- its map is what an update now would store, and no page of it is in a frame
  module _ (act : v.active s ≡ 1) (stored : (i : ℕ) → slot_of z i ≡ s → v.map i ≡ would_store z st i) (out : (i : ℕ) → slot_of z i ≡ s → ¬ Holds (framed z (frames st) i)) where
    abbrev gone : Files
    gone = w (λ i. 0) LIVE FILED 0

    listed : (i : ℕ) → slot_of z i ≡ s → Holds (live v i) → 0 < v.map i
    unfolding would_store
    listed i e l = let m : v.map i ≡ suc l.0 = stored i e ∙ split_in (live_split st.memory.held.addresses st.memory.held.states i) l ∙ l.1 in omega (arith, m)

    lived : (i : ℕ) → slot_of z i ≡ s → 0 < v.map i → Holds (live v i)
    unfolding would_store
    lived i e l = elim (live_split st.memory.held.addresses st.memory.held.states i) [ inl t ↦ t.0 | inr t ↦ (let m : v.map i ≡ 0 = stored i e ∙ t.1 in absurd (omega (arith, m))) ]

    turned_off : (i : ℕ) → i < all_pages z → slot_of z i ≡ s → counts z v (frames st) i ≡ counts z gone (frames st) i
    unfolding charged test
    turned_off i h e = if_yes (v.active (slot_of z i)) 1 (test (charged z v (frames st) i)) (ltb 0 (v.map i)) (ap v.active e ∙ act)
        ∙ alike (charged z v (frames st) i) (below 0 (v.map i)) (λ k. elim k [ inl l ↦ listed i e l | inr g ↦ absurd (out i e (g.0, g.1, g.2.0)) ]) (λ l. inl (lived i e l))
        ∙ sym (if_no (gone.active (slot_of z i)) 1 (test (charged z gone (frames st) i)) (ltb 0 (v.map i)) (λ a. let n : gone.active (slot_of z i) ≡ 0 = ap gone.active e ∙ switch (λ i. 0) LIVE FILED 0 in omega (arith, a, n)))

module _ (z : Sizes) (st : State) (f : Fit z st) (r : Ruled z st) (s : ℕ) where
  pub activate_left : Asked (questions z st (Event.Design (Activate s))) → carried z st (Event.Design (Activate s))
      ≡ after st st.disk.numbers st.disk.accounts st.disk.highest
      (store st.memory.held.addresses (of_slot z s) (at st.disk.maps))
      (store st.memory.held.states (λ m. same (at st.memory.held.states m) FILED and same (at st.memory.held.owners m) s) (λ m. LIVE))
      (set st.memory.slots.active s 1)
  unfolding carried Designs.activate
  activate_left a = turned_left z st f r s a.0 (at st.disk.maps) FILED LIVE 1 (omega arith) (omega arith) (turned_on z st f r s a.0 a.1.1.0)

  pub deactivate_left : Asked (questions z st (Event.Design (Deactivate s))) → carried z st (Event.Design (Deactivate s))
      ≡ after st st.disk.numbers st.disk.accounts st.disk.highest
      (store st.memory.held.addresses (of_slot z s) (λ i. 0))
      (store st.memory.held.states (λ m. same (at st.memory.held.states m) LIVE and same (at st.memory.held.owners m) s) (λ m. FILED))
      (set st.memory.slots.active s 0)
  unfolding carried Designs.deactivate
  deactivate_left a = turned_left z st f r s a.0 (λ i. 0) LIVE FILED 0 (omega arith) (omega arith) (turned_off z st f r s a.0 a.1.1.0
      (λ i e. of_pages z f.sizes.pages s (λ j. at st.disk.maps j ≡ would_store z st j) a.1.1.1.1.1.0.0 i e)
      (λ i e. of_pages z f.sizes.pages s (λ j. ¬ Holds (framed z (frames st) j)) a.1.1.1.1.0 i e))
