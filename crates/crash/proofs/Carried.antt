-- A design exported on one board, imported on another and read there shows equal words on every page; an imported page stays listed and reads as imported. After cuts too.
use mathlib.Core.Path.{◌≡◌, refl, ap, sym, ◌∙◌, subst}
use mathlib.Core.Bool.{Bool, true, false}
use mathlib.Core.List.{List, [], ◌∷◌, ◌++◌}
use mathlib.Core.Logic.{inl, inr}
use Prim.Native.Nat.{ℕ, zero, suc, ◌<◌, ◌≤◌, pred}
use native.Mathlib.Omega.{arith}
use lib.Dec.{T, eqb}
use lib.ListN.{length, take, length-take}
use lib.Seq.{get_or-take, ext_get_or}
use borrow.Author.Tests.{ne_eqb}
use Rattle.tables.specs.Base.{at, if}
use Rattle.tables.specs.Laws.{if_elim, and_left, and_right, and_intro}
use Rattle.tables.specs.Rule.{Holds}
use Rattle.tables.specs.Questions.{first_no, all_yes}
use Rattle.sheets.specs.Sheet.{form, words_in, pages_in, text_in, laid}
use Rattle.sheets.specs.Laws.Printed.{text_printed, form_printed, words_printed, pages_printed}
use Rattle.sheets.specs.Laws.Laying.{at_laid, length_laid}
use Rattle.model.specs.declared.sizes.Sizes.{Sizes}
use Rattle.model.specs.Sizes.{sizes_fit}
use Rattle.model.specs.State.{State, files, page_of, slot_of}
use Rattle.model.specs.Parts.{word_at}
use Rattle.model.specs.Questions.{export_questions}
use Rattle.model.specs.Laws.Ruled as R
use Rattle.model.specs.Laws.Fit.{within, disk_fit}
use Rattle.model.specs.Laws.Index.{slot_of_page, page_below}
use Rattle.model.specs.Step.{asked}
use Rattle.model.specs.Import.{sheet_of, has, imported, import}
use Rattle.model.specs.Export.{page_text, exported, export}
use Rattle.model.specs.Ledger.{found, unwritten}
use Rattle.model.specs.Acts.{Act, importing, World, wholly, act, allowed, legal, run, start}
use Rattle.model.specs.Carried.{all_spare, Board, MayRun, from, Narrow, CarriedOver, AsImported, StaysImported}
use Rattle.crash.proofs.Writes.{In}
use Rattle.crash.proofs.Steps.{Good}
use Rattle.crash.proofs.Start.{start_good}
use Rattle.crash.proofs.Says.{not_refused, says_from_pack}
use Rattle.crash.proofs.Demand3.{act_keeps, run_keeps}
use Rattle.crash.proofs.Births.{Born, run_born}
use Rattle.crash.proofs.RemainsAlong.{Remaining, is_listed_holds, is_found, run_remains}
use Rattle.crash.proofs.ImportRemains.{remaining, import_asked, after_import, has_some}

-- ── lists ──
pub run_append : (z : Sizes) (acts more : List Act) (w : World) → run z w (acts ++ more) ≡ run z (run z w acts) more
unfolding run
run_append z [] more w = refl
run_append z (a ∷ acts) more w = run_append z acts more (act z w a)

pub legal_append : (z : Sizes) (acts more : List Act) (w : World) → T (legal z w (acts ++ more)) → T (legal z w acts) × T (legal z (run z w acts) more)
unfolding legal run
legal_append z [] more w t = (tt, t)
legal_append z (a ∷ acts) more w t =
    let rest = legal_append z acts more (act z w a) (and_right (allowed z w a) (legal z (act z w a) (acts ++ more)) t) in
    (and_intro (allowed z w a) (legal z (act z w a) acts) (and_left (allowed z w a) (legal z (act z w a) (acts ++ more)) t) rest.0, rest.1)

module _ (z : Sizes) (b : Board z) (acts : List Act) (t : MayRun z b acts) where
  start_keeps : Good z (start z b.pack b.junk)
  start_keeps = start_good z b.pack b.junk b.sizes (disk_fit z b.pack b.lengths) b.memory (R.disk_ruled z (record { disk = b.pack; memory = b.junk }) b.rules)

  pub kept : Good z (from z b acts)
  kept = run_keeps z acts (start z b.pack b.junk) t start_keeps

  born : Born (from z b acts)
  unfolding start unwritten In
  born = run_born z acts (start z b.pack b.junk) t start_keeps (λ y i. absurd i)

-- ── an imported page stays as the sheet says ──
pub stays_imported : StaysImported
unfolding run legal allowed
stays_imported z b before after s q n sheet t e p hp spare =
    let all = before ++ importing s q n sheet ∷ after in
    let w = from z b before in
    let a = importing s q n sheet in
    let ok = legal_append z before (a ∷ after) (start z b.pack b.junk) t in
    let k = kept z b before ok.0 in
    let up = and_left w.up (legal z (act z w a) after) ok.1 in
    let c = import_asked z w s q n sheet e in
    let pos = k.fit.sizes.pages in
    let h = page_below z pos s p c.slot hp in
    let m = subst (Remaining z pos (page_of z s p) h (suc w.ledger.births) (text_in sheet p)) (sym (after_import z w s q n sheet e)) (remaining z w s q n sheet up k (born z b before ok.0) c p hp) in
    let same : from z b all ≡ run z (act z w a) after = run_append z before (a ∷ after) (start z b.pack b.junk) in
    let m' = subst (Remaining z pos (page_of z s p) h (suc w.ledger.births) (text_in sheet p)) (sym same)
    (run_remains z pos (page_of z s p) h (suc w.ledger.births) (text_in sheet p) after (act z w a) (and_right w.up (legal z (act z w a) after) ok.1) (act_keeps z w a up k) spare m) in
    let k' = kept z b all t in
    record {
      listed = λ has o. omega (arith, o, (is_listed_holds z pos (page_of z s p) h (suc w.ledger.births) (text_in sheet p) (from z b all) k' m'.known (has_some z w s q n sheet e p has)).1);
      stored = is_found z pos (page_of z s p) h (suc w.ledger.births) (text_in sheet p) (from z b all) k' m'.known;
      reads = λ j hj on r. (says_from_pack z (from z b all) k').reads s p j on r ∙ m'.known.text j hj;
    }

-- ── what an export writes ──
take_laid : (buffer sheet : List ℕ) → length sheet ≤ length buffer → take (length sheet) (laid buffer 0 sheet) ≡ sheet
take_laid buffer sheet h =
    let long : length (take (length sheet) (laid buffer 0 sheet)) ≡ length sheet = simp (length-take, length_laid) (omega (arith, h)) in
    ext_get_or 0 (take (length sheet) (laid buffer 0 sheet)) sheet long
    (λ k l. let g : k < length sheet = omega (arith, l, long) in rw (get_or-take) (elim (at_laid buffer 0 sheet k (omega (arith, h, l, long))) [ inl x ↦ x.1 ∙ ap (at sheet) (omega arith) | inr x ↦ absurd (x.0 (λ y. omega (arith, y), omega (arith, l, long))) ]))

module _ (z : Sizes) (w : World) (s : ℕ) (buffer : List ℕ) (e : (export z w.state s buffer).answer.refusal ≡ 0) where
  pub record Exported : Type 0 where
    pub slot : s < z.slots
    pub filled : ¬ ((files w.state).number s ≡ 0)
    pub resting : ¬ ((files w.state).active s ≡ 1)
    pub sheet : take (export z w.state s buffer).answer.result (export z w.state s buffer).left ≡ exported z w.state s

  export_asked : Exported
  unfolding export
  export_asked =
      let long = exported z w.state s in
      let questions = asked z w.state (export_questions z w.state s (length long) (length buffer)) in
      let o = not_refused (first_no questions) (length long) buffer (laid buffer 0 long) e in
      let a = (all_yes 0 questions tt o.0).1.1 in
      let room = a.1.1.1.0 in
      record { slot = a.0; filled = a.1.0; resting = a.1.1.0; sheet = (λ t. take (o.1.0 t) (o.1.1 t)) ∙ take_laid buffer long (omega (arith, room)) }

-- the pages of an inactive design read here as the disk has them
text_here : (z : Sizes) (w : World) → T w.up → Good z w → (s p : ℕ) → s < z.slots → p < z.pages → ¬ ((files w.state).active s ≡ 1) → (j : ℕ) → j < z.words → page_text z w.state s p j ≡ w.ledger.pages.text (page_of z s p) j
unfolding found
text_here z w u k s p hs hp rest j hj = go (at w.state.disk.maps (page_of z s p)) refl
  where
    i : ℕ
    i = page_of z s p

    filed : (at w.state.disk.maps i ≡ 0 → w.ledger.pages.text i j ≡ 0) × ((r : ℕ) → at w.state.disk.maps i ≡ suc r → w.ledger.pages.text i j ≡ word_at z w.state.disk.records r j)
    filed = let pos = k.fit.sizes.pages in (k.memory u).filed i (page_below z pos s p hs hp) (λ a. rest (ap (at w.state.memory.slots.active) (sym (slot_of_page z pos s p hp)) ∙ a)) j hj

    go : (e : ℕ) → at w.state.disk.maps i ≡ e → if (eqb e 0) 0 (word_at z w.state.disk.records (pred e) j) ≡ w.ledger.pages.text i j
    go zero e = sym (filed.0 e)
    go (suc r) e = rw (ne_eqb (suc r) 0 (λ c. omega (arith, c))) (sym (filed.1 r e))

-- what an export writes is of the form, with the board's own W and N, and says each page's words
module _ (z : Sizes) (st : State) (s : ℕ) (sizes : Holds (sizes_fit z)) (narrow : Narrow st) (filled : 0 < (files st).number s) where
  text_narrow : (p j : ℕ) → page_text z st s p j < 4294967296
  unfolding found
  text_narrow p j = if_elim (λ (v : ℕ). v < 4294967296) (eqb (at st.disk.maps (page_of z s p)) 0) 0 _ (λ t. omega arith) (λ t. narrow.words _)

  pub exported_form : Holds (form (exported z st s)) × (words_in (exported z st s) ≡ z.words) × (pages_in (exported z st s) ≡ z.pages)
  unfolding exported
  exported_form = let w = (within z sizes).words_most in let n = (within z sizes).pages_most in (
    form_printed z.words z.pages ((files st).number s) (page_text z st s) (omega (arith, w)) (omega (arith, n)) (narrow.numbers s) (omega (arith, w)) (λ p j h g. text_narrow p j) filled,
    words_printed z.words z.pages ((files st).number s) (page_text z st s) (omega (arith, w)) (omega (arith, n)) (narrow.numbers s),
    pages_printed z.words z.pages ((files st).number s) (page_text z st s) (omega (arith, w)) (omega (arith, n)) (narrow.numbers s),
  )

  pub exported_text : (p j : ℕ) → p < z.pages → j < z.words → text_in (exported z st s) p j ≡ page_text z st s p j
  unfolding exported
  exported_text p j hp hj = let w = (within z sizes).words_most in let n = (within z sizes).pages_most in
      text_printed z.words z.pages ((files st).number s) (page_text z st s) (omega (arith, w)) (omega (arith, n)) (narrow.numbers s) (omega (arith, w)) (λ a c h g. text_narrow a c) p j hp hj

-- ── carried over ──
pub carried_over : CarriedOver
carried_over z z' e-words e-pages here there acts t up narrow s buffer e before after s' q n t' e' p j hp hj spare up' r =
    let w = from z here acts in
    let o = export_asked z w s buffer e in
    let sheet = take (export z w.state s buffer).answer.result (export z w.state s buffer).left in
    let k = kept z here acts t in
    (stays_imported z' there before after s' q n sheet t' e' p (omega (arith, hp, e-pages)) spare).reads j (omega (arith, hj, e-words)) up' r
    ∙ ap (λ (b : List ℕ). text_in b p j) o.sheet
    ∙ exported_text z w.state s here.sizes narrow (omega (arith, o.filled)) p j hp hj
    ∙ text_here z w up k s p o.slot hp o.resting j hj
