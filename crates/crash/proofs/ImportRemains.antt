-- An import that is carried out leaves each page of its slot as the sheet says, and from there it remains so.
use mathlib.Core.Path.{◌≡◌, refl, ap, sym, ◌∙◌, subst}
use mathlib.Core.Bool.{Bool, true, false}
use mathlib.Core.List.{List, [], ◌∷◌}
use mathlib.Core.Logic.{inl, inr}
use Prim.Native.Nat.{ℕ, zero, suc, ◌%◌, ◌<◌, ◌≤◌}
use native.Mathlib.Omega.{arith}
use lib.Dec.{T, eqb, ltb}
use Rattle.tables.specs.Base.{at, if}
use Rattle.tables.specs.Laws.{if_true, if_false}
use Rattle.tables.specs.Rule.{Holds, told}
use Rattle.tables.specs.Questions.{all_yes}
use Rattle.sheets.specs.Sheet.{text_in, blank, words_in, word_in, number_in, form}
use Rattle.sheets.specs.Laws.Formed.{formed, page_of_holds}
use Rattle.model.specs.declared.sizes.Sizes.{Sizes}
use Rattle.model.specs.State.{Disk, State, page_of, slot_of}
use Rattle.model.specs.Parts.{of_slot}
use Rattle.model.specs.Questions.{import_questions}
use Rattle.model.specs.Laws.Index.{slot_of_page, place_of_page, page_below}
use Rattle.model.specs.Laws.Fields.{field_of_holds, has_at, field_at}
use Rattle.model.specs.Step.{outcome, asked}
use Rattle.model.specs.Import.{Sheet, sheet_of, field_of, has, said, taken, imported, import_answer, import}
use Rattle.model.specs.Ledger as L
use Rattle.model.specs.Ledger.{Ledger, Pending, note, put, spent, carried_in, placed, listing}
use Rattle.model.specs.Acts.{importing, World, partly, wholly, act}
use Rattle.invariant.proofs.Imports as I
use Rattle.invariant.proofs.Imports.{Before}
use Rattle.invariant.proofs.Imported.{import_before}
use Rattle.crash.proofs.Writes.{In, put_same, split_update}
use Rattle.crash.proofs.Steps.{Good}
use Rattle.crash.proofs.Origins.{Each, each_note, partly_births, partly_pending}
use Rattle.crash.proofs.Births.{Born}
use Rattle.crash.proofs.ActiveStays.{import_stays}
use Rattle.crash.proofs.Remains.{Some, Its, Known}
use Rattle.crash.proofs.RemainsAlong.{Remaining}

-- what the sheet says of a page is what its parser reads
said_text : (b : List ℕ) (p j : ℕ) → said (sheet_of b) p j ≡ text_in b p j
unfolding said field_of text_in
said_text b p j = refl

said_none_holds : (h : Sheet) (p : ℕ) → ¬ (T (has h p)) → (j : ℕ) → said h p j ≡ 0
unfolding said has
said_none_holds h p t j = if_false (ltb (field_of h p) h.count) (h.word (field_of h p) j) 0 t

said_some : (h : Sheet) (p : ℕ) → T (has h p) → (j : ℕ) → said h p j ≡ h.word (field_of h p) j
unfolding said has
said_some h p t j = if_true (ltb (field_of h p) h.count) (h.word (field_of h p) j) 0 t

module _ (z : Sizes) (w : World) (s q n : ℕ) (b : List ℕ) (u : T w.up) (k : Good z w) (born : Born w) (c : Before z w.state s q n (sheet_of b)) (p : ℕ) (hp : p < z.pages) where
  abbrev h : Sheet
  h = sheet_of b

  abbrev l : Ledger
  l = w.ledger

  abbrev pos : 0 < z.pages
  pos = k.fit.sizes.pages

  abbrev i : ℕ
  i = page_of z s p

  abbrev d : ℕ
  d = suc l.births

  abbrev x : ℕ → ℕ
  x = text_in b p

  slot_is : slot_of z i ≡ s
  slot_is = slot_of_page z pos s p hp

  page_is : i % z.pages ≡ p
  page_is = place_of_page z pos s p hp

  -- a field of the page has its words
  field_words : (j : ℕ) → j < h.count → h.page j ≡ p → (v : ℕ) → h.word j v ≡ x v
  field_words j g e v =
      let at_p : said h (h.page j) v ≡ h.word j v = said_some h (h.page j) (has_at h c.once j g) v ∙ ap (λ (a : ℕ). h.word a v) (field_at h c.once j g) in
      sym at_p ∙ ap (λ (a : ℕ). said h a v) e ∙ said_text b p v

  its : (m : ℕ) → m ≤ h.count → Each (Its z pos i d x) (partly z w.state s n h m l).finished
  unfolding partly
  its zero g = each_note (Its z pos i d x) z l (L.import_begun n) tt (λ y j e. absurd (omega (arith, e, born y j)))
  its (suc m) g =
      each_note (Its z pos i d x) z (partly z w.state s n h m l) (L.imported_page (h.page m) (taken z w.state s m) (h.word m)) (λ e f v hv. field_words m g (f ∙ page_is) v) (its m (omega (arith, g)))

  partly_pack : (m : ℕ) → (partly z w.state s n h m l).pack ≡ l.pack
  unfolding partly note spent carried_in
  partly_pack zero = refl
  partly_pack (suc m) = partly_pack m

  abbrev l₁ : Ledger
  l₁ = partly z w.state s n h h.count l

  births_are : l₁.births ≡ d
  births_are = partly_births z w.state s n h l h.count

  -- unless its words are all zero, the sheet has the page
  has_it : Some z pos i d x → T (has h (i % z.pages))
  has_it some = go (has h (i % z.pages)) refl
    where
      go : (t : Bool) → has h (i % z.pages) ≡ t → T t
      go true e = tt
      go false e = absurd (some (λ v g. sym (said_text b p v) ∙ ap (λ (a : ℕ). said h a v) (sym page_is) ∙ said_none_holds h (i % z.pages) (λ t. rw e at t) v))

  not_open : ¬ (T (l.pending.updating (slot_of z i)))
  not_open t =
      let t' : T (l.pending.updating s) = subst (λ (a : ℕ). T (l.pending.updating a)) slot_is t in
      I.off z w.state s q n h c (c.ruled.records.update_active_holds s c.slot ((k.memory u).begun.only s c.slot t'))

  known : Known z pos i d x (wholly z w.state s n h l)
  unfolding wholly note placed
  known = record {
    design = ap (put l₁.design s l₁.births) slot_is ∙ put_same l₁.design s l₁.births ∙ births_are;
    elder = rw (partly_pack h.count, slot_is) (omega (arith, k.disk.designs.elder s c.slot));
    text = λ v g. ap (λ (t : Bool). (if t (said h (i % z.pages)) (l₁.pages.text i)) v) (told (of_slot z s i) slot_is) ∙ ap (λ (a : ℕ). said h a v) page_is ∙ said_text b p v;
    finished = its h.count (omega arith);
    stored = λ some. elim (split_update (listing (has h) l₁) l₁.stored d) [
      | inl y ↦ subst (λ (v : L.Update). T (v.live (i % z.pages))) (sym y.1) (has_it some)
      | inr y ↦ absurd (y.0 births_are)
    ];
    begun = λ some t. absurd (not_open (subst (λ (g : Pending). T (g.updating (slot_of z i))) (partly_pending z w.state s n h l h.count) t));
  }

  -- the world after the import
  abbrev after : World
  after = record { up = w.up; state = imported z w.state s q n h; ledger = wholly z w.state s n h l }

  pub remaining : Remaining z pos i (page_below z pos s p c.slot hp) d x after
  remaining = record {
    known = known;
    live = λ some v on. absurd (I.off z w.state s q n h c (sym (ap (λ (a : List ℕ). at a s) (import_stays z w.state s q n h)) ∙ ap (at (imported z w.state s q n h).memory.slots.active) (sym slot_is) ∙ on));
  }

-- ── the call ──
module _ (z : Sizes) (w : World) (s q n : ℕ) (b : List ℕ) (e : (import z w.state s q n b).answer.refusal ≡ 0) where
  carried_out_holds : import_answer z w.state s q n b ≡ 0
  unfolding import
  carried_out_holds = go (import_answer z w.state s q n b) e
    where
      go : (m : ℕ) → (outcome m (number_in b) w.state (imported z w.state s q n (sheet_of b))).answer.refusal ≡ 0 → m ≡ 0
      go zero f = refl
      go (suc m) f = absurd (omega (arith, f))

  pub import_asked : Before z w.state s q n (sheet_of b)
  import_asked = import_before z w.state s q n b carried_out_holds

  pub after_import : act z w (importing s q n b) ≡ record { up = w.up; state = imported z w.state s q n (sheet_of b); ledger = wholly z w.state s n (sheet_of b) w.ledger }
  unfolding act import
  after_import = rw carried_out_holds

  -- a page that the sheet has is not of zeros
  pub has_some : (p : ℕ) → T (has (sheet_of b) p) → ¬ ((j : ℕ) → j < z.words → text_in b p j ≡ 0)
  unfolding import_answer
  has_some p t all_zero =
      let (fits, (keeps, (range, (low, (empty, (fresh, (above, (form, ((words, pages), others))))))))) = all_yes 0 (asked z w.state (import_questions z w.state s q n b)) tt carried_out_holds in
      let f = field_of_holds (sheet_of b) import_asked.once p t in
      (page_of_holds b (formed b form) (field_of (sheet_of b) p) f.0).some (λ j g. sym (said_some (sheet_of b) p t j) ∙ said_text b p j ∙ all_zero j (omega (arith, g, words)))
