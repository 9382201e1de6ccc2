-- Used counts by two passes: a page counts as used by its address or map, or by its modified frame, and by one of these alone.
use mathlib.Core.Path.{◌≡◌, refl, ap, sym, ◌∙◌}
use mathlib.Core.Bool.{Bool, ◌&&◌}
use mathlib.Core.Logic.{inl, inr}
use mathlib.Core.List.{List}
use Prim.Native.Nat.{ℕ, zero, suc, ◌+◌, ◌-◌, ◌*◌, ◌<◌, ◌≤◌}
use native.Mathlib.Omega.{arith}
use native.Mathlib.Numerals.{add-one}
use native.Mathlib.Decide.{ℕ_discrete}
use lib.Dec.{T, eqb, ltb}
use borrow.Author.Tests.{eq-eqb, ne_eqb}
use Rattle.tables.specs.Base.{at, if, count}
use Rattle.tables.specs.Laws.{count_same, count_more}
use Rattle.tables.specs.Rule.{Rule, same, ◌or◌, some, Holds, test, told, untold, decided, alike}
use Rattle.model.specs.declared.sizes.Sizes.{Sizes}
use Rattle.model.specs.State.{State, Files, Frames, files, frames, all_pages, slot_of, live, woven, charged, payer, used_of}
use Rattle.model.specs.Laws.Index.{slot_below}
use Rattle.model.specs.Laws.Ruled.{OfFrames}
use Rattle.model.specs.Laws.Woven.{woven_page, woven_is, is_woven}
use Rattle.rules.specs.Passes.{Seated, used_pages, used_table, framed_page, framed_pages, framed_table}

-- the rules of frames give it
pub seated_by : (z : Sizes) (v : Files) (c : Frames) (word : ℕ → ℕ) → OfFrames z v c word → Seated z v.active c
seated_by z v c word o = record { fit = λ f h i e. (o.fit f h).0 i e; on = o.active; once = o.once }

-- payers: who pays for each slot
module _ (z : Sizes) (st : State) (o : Seated z (files st).active (frames st)) (pos : 0 < z.pages) (payers : List ℕ) (pays : (s : ℕ) → s < z.slots → at payers s ≡ payer (files st) s) (q : ℕ) where
  abbrev v : Files
  v = files st

  -- the page that a frame charges
  abbrev page : ℕ → ℕ
  page f = woven_page ((frames st).frame f)

  -- it is that of one of the first k frames
  abbrev among : ℕ → ℕ → Rule
  among k i = some k λ f. same (page f) (suc i)

  -- it is charged, where only these are looked at
  abbrev charges : ℕ → ℕ → Rule
  charges k i = live v i or among k i

  abbrev counts : ℕ → ℕ → Bool
  counts k i = eqb (at payers (slot_of z i)) q && if (eqb (v.active (slot_of z i)) 1) (test (charges k i)) (ltb 0 (v.map i))

  -- the page of frame f counts by its frame alone
  abbrev by_frame : ℕ → Rule
  by_frame f = framed_page z.pages q (page f) (at payers) v.address v.state

  held : (f i : ℕ) → page f ≡ suc i → ((frames st).frame f).page ≡ suc i
  held f i e = (woven_is ((frames st).frame f) i e).0

  -- ── one frame more ──
  module _ (k : ℕ) (l : k < z.frames) where
    abbrev Step : Type 0
    Step = count (all_pages z) (counts (k + 1)) ≡ count (all_pages z) (counts k) + if (test (by_frame k)) 1 0

    same_at : (i : ℕ) → ¬ (page k ≡ suc i) → counts k i ≡ counts (k + 1) i
    same_at i d = ap (λ (b : Bool). eqb (at payers (slot_of z i)) q && if (eqb (v.active (slot_of z i)) 1) b (ltb 0 (v.map i))) (alike (charges k i) (charges (k + 1) i)
        (λ h. elim h [ inl a ↦ inl a | inr a ↦ inr (a.0, omega (arith, a.1), a.2) ])
        (λ h. elim h [ inl a ↦ inl a | inr a ↦ elim (ℕ_discrete a.0 k) [ yes e ↦ absurd (d (rw e at a.2)) | no e ↦ inr (a.0, omega (arith, a.1), a.2) ] ]))

    unchanged : ((i : ℕ) → i < all_pages z → counts k i ≡ counts (k + 1) i) → ¬ (Holds (by_frame k)) → Step
    unchanged h d = rw (untold (by_frame k) d) (let e = count_same (all_pages z) (counts k) (counts (k + 1)) h in omega (arith, e))

    -- its page is j: in no frame before, and of an active design
    module _ (j : ℕ) (e : page k ≡ suc j) where
      inside : j < all_pages z
      inside = o.fit k l j (held k j e)

      apart : (i : ℕ) → ¬ (i ≡ j) → ¬ (page k ≡ suc i)
      apart i d f = d (omega (arith, e, f))

      new : ¬ (Holds (among k j))
      new x = omega (arith, x.1, o.once k l x.0 (omega (arith, x.1)) j (held k j e) (held x.0 j x.2))

      unless_here : counts k j ≡ counts (k + 1) j → (i : ℕ) → i < all_pages z → counts k i ≡ counts (k + 1) i
      unless_here here i h = elim (ℕ_discrete i j) [ yes f ↦ rw f here | no f ↦ same_at i (apart i f) ]

      other : ¬ (at payers (slot_of z j) ≡ q) → Step
      other d = unchanged (unless_here (rw (ne_eqb (at payers (slot_of z j)) q d) refl)) (λ x. let f : x.0 ≡ j = omega (arith, e, x.1) in d (rw f at x.2.0))

      module _ (mine : at payers (slot_of z j) ≡ q) where
        here : (m : ℕ) → counts m j ≡ test (charges m j)
        here m = rw (eq-eqb (at payers (slot_of z j)) q mine, eq-eqb (v.active (slot_of z j)) 1 (o.on k l j (held k j e))) refl

        alive : Holds (live v j) → Step
        alive a = unchanged (unless_here (here k ∙ told (charges k j) (inl a) ∙ sym (told (charges (k + 1) j) (inl a)) ∙ sym (here (k + 1)))) (λ x. let f : x.0 ≡ j = omega (arith, e, x.1) in x.2.1 (rw f a))

        more : ¬ (Holds (live v j)) → Step
        more a = rw (told (by_frame k) (j, e, (mine, a))) (let s = count_more (all_pages z) (counts k) (counts (k + 1)) j inside off on (λ i h d. same_at i (apart i d)) in omega (arith, s))
          where
            off : ¬ (T (counts k j))
            off = rw (here k, untold (charges k j) (λ h. elim h [ inl x ↦ a x | inr x ↦ new x ])) (λ x. x)

            on : T (counts (k + 1) j)
            on = rw (here (k + 1), told (charges (k + 1) j) (inr (k, omega arith, e))) tt

      paged : Step
      paged = elim (ℕ_discrete (at payers (slot_of z j)) q) [ no d ↦ other d | yes d ↦ elim (decided (live v j)) [ yes a ↦ alive d a | no a ↦ more d a ] ]

    step : Step
    step = elim (ℕ_discrete (page k) 0) [
      | yes e ↦ unchanged (λ i h. same_at i (λ f. omega (arith, e, f))) (λ x. omega (arith, e, x.1))
      | no e ↦ paged (page k - 1) (omega arith)
    ]

  -- ── all of them ──
  framed_sum : (k : ℕ) → k ≤ z.frames → count (all_pages z) (counts k) ≡ count (all_pages z) (counts 0) + count k (λ f. test (by_frame f))
  unfolding count
  framed_sum zero h = omega arith
  framed_sum (suc k) h = let e = rw (add-one k) at (step k h) in omega (arith, e, framed_sum k (omega arith))

  -- no frame looked at: by address or map alone
  none_framed : used_pages z.pages (z.slots * z.pages) q payers st.memory.slots.active st.disk.maps st.memory.held.addresses st.memory.held.states ≡ count (all_pages z) (counts 0)
  none_framed = count_same (all_pages z) _ (counts 0) (λ i h. ap (λ (b : Bool). eqb (at payers (slot_of z i)) q && if (eqb (v.active (slot_of z i)) 1) b (ltb 0 (v.map i)))
      (alike (live v i) (charges 0 i) (λ a. inl a) (λ x. elim x [ inl a ↦ a | inr a ↦ absurd (omega (arith, a.1)) ])))

  -- all frames looked at: who pays is as defined
  all_framed : count (all_pages z) (counts z.frames) ≡ used_of z (files st) (frames st) q
  unfolding used_of charged
  all_framed = count_same (all_pages z) (counts z.frames) _ (λ i h.
      ap (λ (n : ℕ). eqb n q && if (eqb (v.active (slot_of z i)) 1) (test (charges z.frames i)) (ltb 0 (v.map i))) (pays (slot_of z i) (slot_below z pos i h))
      ∙ ap (λ (b : Bool). eqb (payer v (slot_of z i)) q && if (eqb (v.active (slot_of z i)) 1) b (ltb 0 (v.map i))) (alike (charges z.frames i) (live v i or woven z (frames st) i)
      (λ x. elim x [ inl a ↦ inl a | inr a ↦ inr (a.0, a.1, woven_is ((frames st).frame a.0) i a.2) ])
      (λ x. elim x [ inl a ↦ inl a | inr a ↦ inr (a.0, a.1, is_woven ((frames st).frame a.0) i a.2.0 a.2.1) ])))

  pub used_sum : used_pages z.pages (z.slots * z.pages) q payers st.memory.slots.active st.disk.maps st.memory.held.addresses st.memory.held.states
      + framed_pages z.frames z.pages q (λ f. woven_page ((frames st).frame f)) payers st.memory.held.addresses st.memory.held.states ≡ used_of z (files st) (frames st) q
  used_sum = let s = framed_sum z.frames (omega arith) in omega (arith, s, none_framed, all_framed)

-- sums: the pages that count by address or map; totals: those that count by their frames too
pub total : (z : Sizes) (st : State) → Seated z (files st).active (frames st) → 0 < z.pages → (payers : List ℕ) → ((s : ℕ) → s < z.slots → at payers s ≡ payer (files st) s) → (sums totals : List ℕ)
    → Holds (used_table z.slots z.pages payers st.memory.slots.active st.disk.maps st.memory.held.addresses st.memory.held.states sums)
    → Holds (framed_table z.frames z.pages (λ f. woven_page ((frames st).frame f)) payers st.memory.held.addresses st.memory.held.states sums totals)
    → (q : ℕ) → q < 16 → at totals q ≡ used_of z (files st) (frames st) q
total z st o pos payers pays sums totals sum more q h = let a = more q h in let b = sum q h in let c = used_sum z st o pos payers pays q in omega (arith, a, b, c)
