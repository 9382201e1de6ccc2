-- An export on both boards: the same pages are all zeros, so the sheets are of one length; another design's sheet is the same byte for byte.
use mathlib.Core.Path.{◌≡◌, refl, ap, sym, ◌∙◌, subst}
use mathlib.Core.Bool.{not}
use mathlib.Core.List.{List, [], ◌++◌}
use Prim.Native.Nat.{ℕ, zero, suc, ◌<◌, ◌+◌, ◌*◌}
use native.Mathlib.Omega.{arith}
use native.Mathlib.Decide.{dec_lt}
use lib.Dec.{T, eqb}
use lib.ListN.{length, get_or-eq_default}
use Rattle.tables.specs.Base.{at, all}
use Rattle.tables.specs.Laws.{count_same}
use Rattle.tables.specs.Questions.{Questions, first_no, all_yes}
use Rattle.tables.specs.Rule.{test}
use Rattle.sheets.specs.Sheet.{bytes, runs, head, field, page_field, shown_field, printed, laid}
use Rattle.sheets.specs.Laws.Printed.{shown, length_printed}
use Rattle.model.specs.declared.sizes.Sizes.{Sizes}
use Rattle.model.specs.State.{Disk, State, page_of, slot_of, all_pages}
use Rattle.model.specs.Laws.Index.{slot_of_page, page_below}
use Rattle.model.specs.Questions.{export_questions}
use Rattle.model.specs.Step.{outcome, asked}
use Rattle.model.specs.Ledger.{found}
use Rattle.model.specs.Export.{page_text, exported, export}
use Rattle.model.specs.Acts.{World}
use Rattle.isolation.proofs.Reworded.{is_reworded}
use Rattle.isolation.proofs.Told.{like_zero}
use Rattle.isolation.proofs.Alike.{Alike, all_same, zero_same, found_at}
use Rattle.isolation.proofs.Events.{own_questions, refused}

-- ── sheets of the same words ──
runs_same : (n : ℕ) (f g : ℕ → List ℕ) → ((k : ℕ) → k < n → f k ≡ g k) → runs n f ≡ runs n g
unfolding runs
runs_same zero f g e = refl
runs_same (suc n) f g e = rw (runs_same n f g (λ k h. e k (omega arith)), e n (omega arith))

shown_same : (w : ℕ) (word word' : ℕ → ℕ → ℕ) (p : ℕ) → ((j : ℕ) → j < w → word p j ≡ word' p j) → shown_field w word p ≡ shown_field w word' p
unfolding shown_field page_field test
shown_same w word word' p e = rw (
  all_same w (λ j. eqb (word p j) 0) (λ j. eqb (word' p j) 0) (λ j h. ap (λ (x : ℕ). eqb x 0) (e j h)),
  runs_same w (λ j. bytes 4 (word p j)) (λ j. bytes 4 (word' p j)) (λ j h. ap (bytes 4) (e j h)),
)

printed_same : (w n number : ℕ) (word word' : ℕ → ℕ → ℕ) → ((p : ℕ) → p < n → (j : ℕ) → j < w → word p j ≡ word' p j) → printed w n number word ≡ printed w n number word'
unfolding printed
printed_same w n number word word' e = ap (λ (x : List ℕ). (head w n number ++ x) ++ field 4 []) (runs_same n (shown_field w word) (shown_field w word') (λ p h. shown_same w word word' p (e p h)))

module _ (z : Sizes) (hidden : ℕ) (w w' : World) (a : Alike z hidden w w') (u : T w.up) where
  abbrev st : State
  st = w.state

  abbrev st' : State
  st' = w'.state

  u' : T w'.up
  u' = rw a.up at u

  -- a page of no slot has no entry
  past : (d : Disk) → length d.maps ≡ all_pages z → (i : ℕ) → ¬ (i < all_pages z) → (k : ℕ) → found z d i k ≡ 0
  unfolding found
  past d l i n k = let e : at d.maps i ≡ 0 = get_or-eq_default d.maps 0 (omega (arith, l, n)) in rw e refl

  -- a page's word is zero on both boards or on neither
  text_zero : (s p k : ℕ) → k < z.words → eqb (page_text z st s p k) 0 ≡ eqb (page_text z st' s p k) 0
  text_zero s p k h = let i = page_of z s p in elim (dec_lt i (all_pages z)) [
    | yes l ↦ zero_same _ _ (like_zero hidden (w.ledger.design (slot_of z i)) _ _ (found_at z hidden w w' a i l k h))
    | no l ↦ rw (past st.disk a.good.fit.disk.maps i l k, past st'.disk a.good'.fit.disk.maps i l k) refl
  ]

  shown_both : (s p : ℕ) → shown z.words (page_text z st s) p ≡ shown z.words (page_text z st' s) p
  unfolding test
  shown_both s p = ap not (all_same z.words _ _ (λ k h. text_zero s p k h))

  lengths_same : (s : ℕ) → length (exported z st s) ≡ length (exported z st' s)
  unfolding exported
  lengths_same s =
      length_printed z.words z.pages _ (page_text z st s)
      ∙ ap (λ (n : ℕ). 17 + n * (5 + 4 * z.words)) (count_same z.pages (shown z.words (page_text z st s)) (shown z.words (page_text z st' s)) (λ p h. shown_both s p))
      ∙ sym (length_printed z.words z.pages _ (page_text z st' s))

  -- ── the answers ──
  abbrev own : State → ℕ → ℕ → Questions
  own x s room = export_questions z x s (length (exported z x s)) room

  answer_same : (s room : ℕ) → first_no (asked z st' (own st' s room)) ≡ first_no (asked z st (own st s room))
  answer_same s room =
      own_questions z w' (own st' s room) u' a.good'
      ∙ ap (λ (n : ℕ). first_no (export_questions z st' s n room)) (sym (lengths_same s))
      ∙ ap (λ (x : State). first_no (export_questions z x s (length (exported z st s)) room)) (is_reworded st st' (a.tables u))
      ∙ sym (own_questions z w (own st s room) u a.good)

  pub export_refusals : (s : ℕ) (buffer : List ℕ) → (export z st s buffer).answer.refusal ≡ (export z st' s buffer).answer.refusal
  unfolding export
  export_refusals s buffer = refused (first_no (asked z st (own st s (length buffer)))) _ _ _ ∙ sym (answer_same s (length buffer)) ∙ sym (refused (first_no (asked z st' (own st' s (length buffer)))) _ _ _)

  pub export_results : (s : ℕ) (buffer : List ℕ) → (export z st s buffer).answer.result ≡ (export z st' s buffer).answer.result
  unfolding export
  export_results s buffer = subst (λ (n : ℕ). (outcome (first_no (asked z st (own st s (length buffer)))) (length (exported z st s)) buffer (laid buffer 0 (exported z st s))).answer.result
      ≡ (outcome n (length (exported z st' s)) buffer (laid buffer 0 (exported z st' s))).answer.result) (sym (answer_same s (length buffer))) (go (first_no (asked z st (own st s (length buffer)))))
    where
      go : (n : ℕ) → (outcome n (length (exported z st s)) buffer (laid buffer 0 (exported z st s))).answer.result ≡ (outcome n (length (exported z st' s)) buffer (laid buffer 0 (exported z st' s))).answer.result
      go zero = lengths_same s
      go (suc n) = refl

  -- ── another design's sheet ──
  sheet_same : (s : ℕ) → s < z.slots → ¬ (w.ledger.design s ≡ hidden) → exported z st s ≡ exported z st' s
  unfolding exported
  sheet_same s hs n =
      printed_same z.words z.pages _ (page_text z st s) (page_text z st' s) (λ p hp k hk.
      let e = slot_of_page z a.good.fit.sizes.pages s p hp in
      (found_at z hidden w w' a (page_of z s p) (page_below z a.good.fit.sizes.pages s p hs hp) k hk).1 (λ q. n (ap w.ledger.design (sym e) ∙ q)))
      ∙ ap (λ (d : Disk). printed z.words z.pages (at d.numbers s) (page_text z st' s)) a.disk

  pub export_bytes : (s : ℕ) (buffer : List ℕ) → ¬ (w.ledger.design s ≡ hidden) → (export z st s buffer).left ≡ (export z st' s buffer).left
  unfolding export
  export_bytes s buffer n = subst (λ (m : ℕ). (outcome (first_no (asked z st (own st s (length buffer)))) (length (exported z st s)) buffer (laid buffer 0 (exported z st s))).left
      ≡ (outcome m (length (exported z st' s)) buffer (laid buffer 0 (exported z st' s))).left) (sym (answer_same s (length buffer))) (go (first_no (asked z st (own st s (length buffer)))) refl)
    where
      go : (m : ℕ) → first_no (asked z st (own st s (length buffer))) ≡ m
          → (outcome m (length (exported z st s)) buffer (laid buffer 0 (exported z st s))).left ≡ (outcome m (length (exported z st' s)) buffer (laid buffer 0 (exported z st' s))).left
      go zero e = let q = (all_yes 0 (asked z st (own st s (length buffer))) tt e).1.1 in ap (laid buffer 0) (sheet_same s q.0 n)
      go (suc m) e = refl
