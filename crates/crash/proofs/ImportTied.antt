-- An import that is carried out keeps the invariant of demand 3.
use mathlib.Core.Path.{◌≡◌, refl, ap, sym, ◌∙◌}
use mathlib.Core.Bool.{Bool}
use mathlib.Core.List.{List}
use mathlib.Core.Logic.{inl, inr}
use Prim.Native.Nat.{ℕ, suc, ◌+◌, ◌*◌, ◌%◌, ◌<◌}
use native.Mathlib.Omega.{arith}
use native.Mathlib.Decide.{ℕ_discrete}
use lib.Dec.{T, ltb}
use lib.ListN.{length}
use Rattle.tables.specs.Base.{at, if}
use Rattle.tables.specs.Laws.{if_true, if_false}
use Rattle.tables.specs.Rule.{test, told, untold}
use Rattle.tables.specs.Store.{Split}
use Rattle.model.specs.declared.sizes.Sizes.{Sizes}
use Rattle.model.specs.State.{Disk, State, slot_of}
use Rattle.model.specs.Parts.{of_slot}
use Rattle.model.specs.Pool as P
use Rattle.model.specs.Import.{Sheet, Taking, taking, taken, field_of, said, has, store_slot, made, imported}
use Rattle.model.specs.Ledger.{Ledger, Write, note, placed}
use Rattle.model.specs.Acts.{partly, wholly}
use Rattle.model.specs.Demand3.{last_into}
use Rattle.invariant.proofs.Imports as I
use Rattle.model.specs.Laws.Fields.{field_of_holds}
use Rattle.invariant.proofs.Imports.{Before}
use Rattle.crash.proofs.Writes.{In}
use Rattle.crash.proofs.Link.{Tied, OfPage}
use Rattle.crash.proofs.Partly.{mid_tied, births_are, design_is, write, last_is, older, words_stand, finished_long}
use Rattle.crash.proofs.Placed.{Placing, placed_tied}

module _ (z : Sizes) (st : State) (l : Ledger) (s q n : ℕ) (h : Sheet) (b : Before z st s q n h) (tied : Tied z st l) where
  abbrev c : ℕ
  c = h.count

  abbrev nth : ℕ → ℕ
  nth = taken z st s

  abbrev st₁ : State
  st₁ = I.mid z st s q n h b c

  abbrev l₁ : Ledger
  l₁ = partly z st s n h c l

  abbrev t : Taking
  t = taking z st s c

  abbrev disk' : Disk
  disk' = store_slot z st s q n h st₁.disk

  births : l₁.births ≡ suc l.births
  births = births_are z st s q n h l b tied c

  -- ── the invariant ──
  text_split : (i : ℕ) → Split (slot_of z i ≡ s) (if (test (of_slot z s i)) (said h (i % z.pages)) (l₁.pages.text i)) (said h (i % z.pages)) (l₁.pages.text i)
  text_split i = elim (ℕ_discrete (slot_of z i) s) [ yes e ↦ inl (e, rw (told (of_slot z s i) e)) | no e ↦ inr (e, rw (untold (of_slot z s i) e)) ]

  text_here : (i : ℕ) → slot_of z i ≡ s → (w : ℕ) → (if (test (of_slot z s i)) (said h (i % z.pages)) (l₁.pages.text i)) w ≡ said h (i % z.pages) w
  text_here i e w = elim (text_split i) [ inl x ↦ ap (λ (f : ℕ → ℕ). f w) x.1 | inr x ↦ absurd (x.0 e) ]

  said_some : (p : ℕ) → T (has h p) → (w : ℕ) → said h p w ≡ h.word (field_of h p) w
  unfolding said has
  said_some p t w = if_true (ltb (field_of h p) c) (h.word (field_of h p) w) 0 t

  said_none_holds : (p : ℕ) → ¬ (T (has h p)) → (w : ℕ) → said h p w ≡ 0
  unfolding said has
  said_none_holds p t w = if_false (ltb (field_of h p) c) (h.word (field_of h p) w) 0 t

  mine : (j : ℕ) → j < c → last_into (nth j) l₁.finished ≡ write z st s q n h l b tied j
  mine j i = last_is z st s q n h l b tied c (omega arith) j i

  births_same : (j : ℕ) → (partly z st s n h j l).births ≡ l₁.births
  births_same j = births_are z st s q n h l b tied j ∙ sym births

  words : (j : ℕ) → j < c → (w : ℕ) → w < z.words → at st₁.disk.records (nth j * z.words + w) ≡ h.word j w
  words j i w g = words_stand z st s q n h l b tied c (omega arith) j i w g

  placing : Placing z st₁ l₁ s (I.Taken z st s q n h b) (at disk'.numbers) (at disk'.maps) (at t.states) (λ i. if (test (of_slot z s i)) (said h (i % z.pages)) (l₁.pages.text i)) (has h)
  placing = record {
    slot = b.slot;
    off = (I.off z st s q n h b);
    bare = (I.bare z st s q n h b);
    some = omega (arith, births);
    fresh = λ k g e. omega (arith, births, e, ap (λ (f : ℕ → ℕ). f k) (design_is z st s q n h l b tied c), tied.disk.designs.young k g);
    free = (I.free z st s q n h b);
    number = λ k g e. elim ((I.number_at_holds z st s q n h b) k) [ inl x ↦ absurd (e x.0) | inr x ↦ x.1 ];
    map_other = (I.map_other z st s q n h b);
    state = (I.state_at z st s q n h b);
    mine = λ i g e r p. let x = (I.listed z st s q n h b) i g e r p in
        inl (rw (x.record', mine x.field x.within) (record {
          some = omega arith;
          design = births_same x.field;
          page = x.page;
          words = λ w a. words x.field x.within w a;
          counts = tt;
        }));
    newest = λ i g e r p y j o. let x = (I.listed z st s q n h b) i g e r p in
        rw (x.record', mine x.field x.within) (elim (older z st s q n h l b tied c y j) [
          | inl a ↦ omega (arith, a, finished_long z st s q n h l b tied x.field)
          | inr a ↦ let f : a.0 ≡ x.field = b.once a.0 x.field a.1 x.within (sym (ap (λ (v : Write). v.page) a.2) ∙ o.1.0 ∙ sym x.page) in
              omega (arith, ap (λ (v : Write). v.serial) a.2, ap (λ (m : ℕ). length (partly z st s n h m l).finished) f)
        ]);
    listed = λ i g e t. (nth (field_of h (i % z.pages)), (I.map_here z st s q n h b) i g e ∙ (I.entry_has z st s q n h b) (i % z.pages) t);
    shown = λ i g e r p. (I.entry_some z st s q n h b (i % z.pages) r (sym ((I.map_here z st s q n h b) i g e) ∙ p)).0;
    text_none = λ i g e p w a. text_here i e w ∙ said_none_holds (i % z.pages) ((I.entry_none z st s q n h b) (i % z.pages) (sym ((I.map_here z st s q n h b) i g e) ∙ p)) w;
    text_some = λ i g e r p w a.
        let x = (I.entry_some z st s q n h b) (i % z.pages) r (sym ((I.map_here z st s q n h b) i g e) ∙ p) in
        let f = field_of_holds h b.once (i % z.pages) x.0 in
        text_here i e w ∙ said_some (i % z.pages) x.0 w ∙ sym (words (field_of h (i % z.pages)) f.0 w a) ∙ ap (λ (m : ℕ). at st₁.disk.records (m * z.words + w)) (sym x.1);
    text_other = λ i e w. elim (text_split i) [ inl x ↦ absurd (e x.0) | inr x ↦ ap (λ (f : ℕ → ℕ). f w) x.1 ];
  }

  -- the import, carried out and noted, keeps the invariant
  pub import_tied : Tied z (imported z st s q n h) (wholly z st s n h l)
  unfolding imported wholly note placed
  import_tied = placed_tied z st₁ l₁ (I.middle z st s q n h b).fit (I.middle z st s q n h b).ruled (mid_tied z st s q n h l b tied c (omega arith)) s (I.Taken z st s q n h b) disk' t.states t.owners (P.taken z t.last st.memory.held.pool).hand _ (has h) (I.same_records z st s q n h b) placing
