-- What an import adds to the used counts: its pages, to the account that pays for them.
use mathlib.Core.Path.{◌≡◌, refl, ap, sym, ◌∙◌, subst}
use mathlib.Core.Bool.{Bool, true, false, not, ◌&&◌, ◌||◌}
use mathlib.Core.List.{List}
use mathlib.Core.Logic.{inl, inr}
use Prim.Native.Nat.{ℕ, zero, suc, ◌+◌, ◌*◌, ◌%◌, ◌<◌, ◌≤◌}
use native.Mathlib.Omega.{arith}
use native.Mathlib.Decide.{ℕ_discrete}
use lib.Dec.{T, eqb, eqb→eq, ltb}
use borrow.Author.Tests.{eq-eqb, ne_eqb, lt-ltb}
use Rattle.tables.specs.Base.{at, if, any, count}
use Rattle.tables.specs.Laws.{count_same, count_more, any_elim, any_intro, eq→T, T→true, ¬T→false, if_true, if_false, or_left, or_right, or_cases}
use Rattle.tables.specs.Rule.{test, alike}
use Rattle.tables.specs.Store.{Split}
use Rattle.model.specs.declared.sizes.Sizes.{Sizes}
use Rattle.model.specs.Lines.{FREE, FILED, LIVE}
use Rattle.model.specs.State.{Disk, State, Files, files, frames, all_pages, slot_of, page_of, charged, payer, used_of}
use Rattle.model.specs.Laws.Index.{slot_below, slot_of_page, place_of_page, page_below, place_below}
use Rattle.model.specs.Payer as Payer
use Rattle.model.specs.Setters.{raise, counted}
use Rattle.model.specs.Import.{Sheet, Taking, taking, taken, field_of, has, store_record, entry, store_slot, made, imported}
use Rattle.invariant.proofs.Imports as I
use Rattle.model.specs.Laws.Fields.{field_of_holds, has_at}
use Rattle.invariant.proofs.Imports.{Before}
use Rattle.invariant.proofs.Parts.{same_page}

-- pages of a slot that is at rest turn from unlisted to listed, as many as k
module _ (z : Sizes) (pos : 0 < z.pages) (s : ℕ) (slot : s < z.slots) (c : ℕ) (page : ℕ → ℕ) (pages : (k : ℕ) → k < c → page k < z.pages) (once : (j k : ℕ) → j < c → k < c → page j ≡ page k → j ≡ k) (old : ℕ → Bool) (pays : Bool) where
  -- one of the first k has the page
  abbrev pub had : ℕ → ℕ → Bool
  had k p = any k λ j. eqb (page j) p

  abbrev pub then : ℕ → ℕ → Bool
  then k i = if (eqb (slot_of z i) s) (pays && had k (i % z.pages)) (old i)

  here : (k i : ℕ) → slot_of z i ≡ s → then k i ≡ (pays && had k (i % z.pages))
  here k i e = rw (eq-eqb (slot_of z i) s e)

  there : (k i : ℕ) → ¬ (slot_of z i ≡ s) → then k i ≡ old i
  there k i e = rw (ne_eqb (slot_of z i) s e)

  had_more : (k p : ℕ) → ¬ (page k ≡ p) → had k p ≡ had (suc k) p
  unfolding any
  had_more k p e = go (had k p) (ne_eqb (page k) p e)
    where
      go : (a : Bool) → eqb (page k) p ≡ false → a ≡ (a || eqb (page k) p)
      go true f = refl
      go false f = sym f

  pub count_then : (k : ℕ) → k ≤ c → pays ≡ true → count (all_pages z) (then k) ≡ count (all_pages z) (then 0) + k
  count_then zero h e = omega arith
  count_then (suc k) h e = count_more (all_pages z) (then k) (then (suc k)) i below off on other ∙ omega (arith, count_then k (omega (arith, h)) e)
    where
      i : ℕ
      i = page_of z s (page k)

      below : i < all_pages z
      below = page_below z pos s (page k) slot (pages k h)

      of : slot_of z i ≡ s
      of = slot_of_page z pos s (page k) (pages k h)

      place : i % z.pages ≡ page k
      place = place_of_page z pos s (page k) (pages k h)

      and_true : (b : Bool) → T (pays && b) → T b
      and_true b t = rw e at t

      off : ¬ (T (then k i))
      off t = let x = any_elim k (λ j. eqb (page j) (i % z.pages)) (and_true (had k (i % z.pages)) (rw (here k i of) at t)) in
          omega (arith, x.1, once x.0 k (omega (arith, x.1, h)) h (eqb→eq (page x.0) (i % z.pages) x.2 ∙ place))

      on : T (then (suc k) i)
      on = rw (here (suc k) i of, e) (any_intro (suc k) (λ j. eqb (page j) (i % z.pages)) k (omega arith) (eq→T (sym place)))

      other : (j : ℕ) → j < all_pages z → ¬ (j ≡ i) → then k j ≡ then (suc k) j
      other j g d = elim (ℕ_discrete (slot_of z j) s) [
        | yes q ↦ here k j q ∙ ap (λ (b : Bool). pays && b) (had_more k (j % z.pages) (λ f. d (same_page z.pages j i (q ∙ sym of) (sym f ∙ sym place)))) ∙ sym (here (suc k) j q)
        | no q ↦ there k j q ∙ sym (there (suc k) j q)
      ]

  pub count_other : (k : ℕ) → pays ≡ false → count (all_pages z) (then k) ≡ count (all_pages z) (then 0)
  count_other k e = count_same (all_pages z) (then k) (then 0) (λ i h. rw e)

  -- before, no page of the slot counted
  pub count_before : ((i : ℕ) → i < all_pages z → slot_of z i ≡ s → old i ≡ false) → count (all_pages z) (then 0) ≡ count (all_pages z) old
  unfolding any
  count_before f = count_same (all_pages z) (then 0) old (λ i h. elim (ℕ_discrete (slot_of z i) s) [ yes e ↦ here 0 i e ∙ and_no pays ∙ sym (f i h e) | no e ↦ there 0 i e ])
    where
      and_no : (b : Bool) → (b && false) ≡ false
      and_no true = refl
      and_no false = refl

-- ── an import ──
module _ (z : Sizes) (st : State) (s q n : ℕ) (h : Sheet) (b : Before z st s q n h) where
  abbrev c : ℕ
  c = h.count

  abbrev nth : ℕ → ℕ
  nth = taken z st s

  abbrev t : Taking
  t = taking z st s c

  abbrev disk' : Disk
  disk' = store_slot z st s q n h (made z st s q n h c (raise n st.disk))

  same_more : (k : ℕ) → ((made z st s q n h k (raise n st.disk)).accounts ≡ st.disk.accounts) × ((made z st s q n h k (raise n st.disk)).limits ≡ st.disk.limits)
      × ((made z st s q n h k (raise n st.disk)).parents ≡ st.disk.parents)
  unfolding made store_record
  same_more zero = (refl, refl, refl)
  same_more (suc k) = same_more k

  slot_limits : (disk'.limits ≡ st.disk.limits) × (disk'.parents ≡ st.disk.parents)
  unfolding store_slot
  slot_limits = ((same_more c).1, (same_more c).2)

  -- who pays for the account
  abbrev pays : ℕ
  pays = Payer.payer (files st).parent (files st).limit q

  payer_by : (x : ℕ) (limits parents : List ℕ) → limits ≡ st.disk.limits → parents ≡ st.disk.parents → Payer.payer (at parents) (at limits) x ≡ Payer.payer (files st).parent (files st).limit x
  payer_by x limits parents e f = λ i. Payer.payer (at (f i)) (at (e i)) x

  module _ (a : ℕ) where
    abbrev paying : Bool
    paying = eqb pays a

    abbrev old : ℕ → Bool
    old i = eqb (payer (files st) (slot_of z i)) a && if (eqb ((files st).active (slot_of z i)) 1) (test (charged z (files st) (frames st) i)) (ltb 0 ((files st).map i))

    abbrev v' : Files
    v' = record { number = at disk'.numbers; account = at disk'.accounts; limit = at disk'.limits; parent = at disk'.parents; map = at disk'.maps; address = (files st).address; state = at t.states; owner = at t.owners; active = (files st).active; updating = (files st).updating; image = (files st).image }

    abbrev new : ℕ → Bool
    new i = eqb (payer v' (slot_of z i)) a && if (eqb ((files st).active (slot_of z i)) 1) (test (charged z v' (frames st) i)) (ltb 0 (at disk'.maps i))

    has_had : (p : ℕ) → has h p ≡ any c (λ j. eqb (h.page j) p)
    has_had p = go (has h p) refl
      where
        go : (x : Bool) → has h p ≡ x → has h p ≡ any c (λ j. eqb (h.page j) p)
        go true e = let f = field_of_holds h b.once p (rw e tt) in e ∙ sym (T→true (any c (λ j. eqb (h.page j) p)) (any_intro c (λ j. eqb (h.page j) p) (field_of h p) f.0 (eq→T f.1)))
        go false e = e ∙ sym (¬T→false (any c (λ j. eqb (h.page j) p)) (λ u. let x = any_elim c (λ j. eqb (h.page j) p) u in gone e (subst (λ (k : ℕ). T (has h k)) (eqb→eq (h.page x.0) p x.2) (has_at h b.once x.0 x.1))))
          where
            gone : has h p ≡ false → ¬ (T (has h p))
            gone e u = rw e at u

    entry_test : (p : ℕ) → ltb 0 (entry z st s q n h p) ≡ has h p
    unfolding entry
    entry_test p = go (has h p)
      where
        go : (x : Bool) → ltb 0 (if x (suc (nth (field_of h p))) 0) ≡ x
        go true = lt-ltb 0 (suc (nth (field_of h p))) (omega arith)
        go false = refl

    live_same : (i : ℕ) → i < all_pages z → test (charged z v' (frames st) i) ≡ test (charged z (files st) (frames st) i)
    unfolding charged
    live_same i g = alike (charged z v' (frames st) i) (charged z (files st) (frames st) i)
        (λ x. elim x [ inl y ↦ inl (y.0, y.1, sym ((I.held_stays z st s q n h b) i g y.0 y.1) ∙ y.2) | inr y ↦ inr y ])
        (λ x. elim x [ inl y ↦ inl (y.0, y.1, (I.held_stays z st s q n h b) i g y.0 y.1 ∙ y.2) | inr y ↦ inr y ])

    payer_here : (i : ℕ) → slot_of z i ≡ s → payer v' (slot_of z i) ≡ pays
    unfolding payer
    payer_here i e = ap (Payer.payer (at disk'.parents) (at disk'.limits)) (elim ((I.account_at z st s q n h b) (slot_of z i)) [ inl x ↦ x.1 | inr x ↦ absurd (x.0 e) ]) ∙ payer_by q disk'.limits disk'.parents slot_limits.0 slot_limits.1

    payer_there : (i : ℕ) → ¬ (slot_of z i ≡ s) → payer v' (slot_of z i) ≡ payer (files st) (slot_of z i)
    unfolding payer
    payer_there i e = ap (Payer.payer (at disk'.parents) (at disk'.limits)) (elim ((I.account_at z st s q n h b) (slot_of z i)) [ inl x ↦ absurd (e x.0) | inr x ↦ x.1 ∙ ap (λ (l : List ℕ). at l (slot_of z i)) (same_more c).0 ]) ∙ payer_by ((files st).account (slot_of z i)) disk'.limits disk'.parents slot_limits.0 slot_limits.1

    off_at : (i : ℕ) → slot_of z i ≡ s → eqb ((files st).active (slot_of z i)) 1 ≡ false
    off_at i e = ne_eqb ((files st).active (slot_of z i)) 1 (λ x. (I.off z st s q n h b) (sym (ap (files st).active e) ∙ x))

    new_is : (i : ℕ) → i < all_pages z → new i ≡ if (eqb (slot_of z i) s) (paying && any c (λ j. eqb (h.page j) (i % z.pages))) (old i)
    new_is i g = elim (ℕ_discrete (slot_of z i) s) [
      | yes e ↦ ap (λ (x : ℕ). eqb x a && if (eqb ((files st).active (slot_of z i)) 1) (test (charged z v' (frames st) i)) (ltb 0 (at disk'.maps i))) (payer_here i e)
          ∙ ap (λ (x : Bool). paying && if x (test (charged z v' (frames st) i)) (ltb 0 (at disk'.maps i))) (off_at i e)
          ∙ ap (λ (x : Bool). paying && x) (ap (ltb 0) ((I.map_here z st s q n h b) i g e) ∙ entry_test (i % z.pages) ∙ has_had (i % z.pages))
          ∙ sym (ap (λ (x : Bool). if x (paying && any c (λ j. eqb (h.page j) (i % z.pages))) (old i)) (eq-eqb (slot_of z i) s e))
      | no e ↦ (λ k. eqb (payer_there i e k) a && if (eqb ((files st).active (slot_of z i)) 1) (live_same i g k) (ltb 0 (((I.map_other z st s q n h b) i g e ∙ ap (λ (l : List ℕ). at l i) ((I.same_made z st s q n h b) c).1) k)))
          ∙ sym (ap (λ (x : Bool). if x (paying && any c (λ j. eqb (h.page j) (i % z.pages))) (old i)) (ne_eqb (slot_of z i) s e))
    ]

    before_none : (i : ℕ) → i < all_pages z → slot_of z i ≡ s → old i ≡ false
    before_none i g e =
        ap (λ (x : Bool). eqb (payer (files st) (slot_of z i)) a && if x (test (charged z (files st) (frames st) i)) (ltb 0 ((files st).map i))) (off_at i e)
        ∙ ap (λ (x : ℕ). eqb (payer (files st) (slot_of z i)) a && ltb 0 x) (b.ruled.disk.empty_map_holds i g (ap (files st).number e ∙ b.empty))
        ∙ no (eqb (payer (files st) (slot_of z i)) a)
      where
        no : (x : Bool) → (x && false) ≡ false
        no true = refl
        no false = refl

    -- so many pages more for the payer, and none for any other
    pub import_used : used_of z (files (imported z st s q n h)) (frames (imported z st s q n h)) a ≡ used_of z (files st) (frames st) a + if (eqb pays a) c 0
    unfolding imported counted used_of
    import_used = count_same (all_pages z) new (then' c) new_is ∙ go paying refl
      where
        then' : ℕ → ℕ → Bool
        then' = then z b.fit.sizes.pages s b.slot c h.page b.pages b.once old paying

        was : count (all_pages z) (then' 0) ≡ count (all_pages z) old
        was = count_before z b.fit.sizes.pages s b.slot c h.page b.pages b.once old paying before_none

        go : (x : Bool) → paying ≡ x → count (all_pages z) (then' c) ≡ count (all_pages z) old + if paying c 0
        go true e = count_then z b.fit.sizes.pages s b.slot c h.page b.pages b.once old paying c (omega arith) e ∙ ap (λ (m : ℕ). m + c) was ∙ ap (λ (x : Bool). count (all_pages z) old + if x c 0) (sym e)
        go false e = count_other z b.fit.sizes.pages s b.slot c h.page b.pages b.once old paying c e ∙ was ∙ omega arith ∙ ap (λ (x : Bool). count (all_pages z) old + if x c 0) (sym e)
