-- Printing what a sheet of the form says gives the sheet back, byte for byte.
use Rattle.std.specs.Prelude.{◌≡◌, Bool, true, false, T, length}
use Rattle.std.proofs.Math.Path.{refl, ap, sym}
use Rattle.std.proofs.Common.{◌∙◌, subst, arith, eqb→eq, T_not, lt-ltb, le-ltb}
use mathlib.Core.List.{List, [], ◌∷◌, ◌++◌}
use Rattle.std.proofs.Math.Logic.{inl, inr}
use Prim.Native.Nat.{ℕ, zero, suc, ◌+◌, ◌*◌, ◌<◌, ◌≤◌}
use Rattle.std.proofs.Math.Decide.{ℕ_discrete, dec_lt}
use Rattle.std.proofs.Math.Dec.{eqb, not_T}
use Rattle.std.proofs.Math.ListN.{length-append}
use Rattle.tables.specs.Base.{at, count, find}
use Rattle.tables.specs.Laws.{eq→T}
use Rattle.tables.specs.FindLaws.{find_cases}
use Rattle.tables.specs.Rule.{Holds, test, sound, complete}
use Rattle.sheets.specs.Sheet.{bytes, runs, field, blank, page_field, shown_field, head, printed, words_in, pages_in, number_in, count_in, place_of, page_in, word_in, headed, least_in, form, text_in}
use Rattle.sheets.specs.Laws.Counts.{count_on, count_gap}
use Rattle.sheets.specs.Laws.Formed.{Formed, formed, Page, page_of_holds, rising, page_once}
use Rattle.sheets.specs.Laws.Runs.{length_bytes, length_runs, Stands, Bytes, stands_moved, stands_both, stands_runs, stands_whole, number_2_below, bytes_2, bytes_4}
use Rattle.sheets.specs.Laws.Printed.{shown, shown_field_holds, length_area, length_head, length_printed}

blank_field : (w : ℕ) (word : ℕ → ℕ → ℕ) (p : ℕ) → test (blank w (word p)) ≡ true → shown_field w word p ≡ []
unfolding shown_field
blank_field w word p e = rw e

module _ (s : List ℕ) (b : Bytes s) where
  abbrev w : ℕ
  w = words_in s

  abbrev n : ℕ
  n = pages_in s

  abbrev c : ℕ
  c = count_in s

  -- a field stands where its head says so, and its body does
  stands_field : (i tag : ℕ) (body : List ℕ) → Holds (headed s i tag (length body)) → Stands s (i + 3) body → Stands s i (field tag body)
  stands_field i tag body h g =
      stands_both s i (tag ∷ bytes 2 (length body)) body
      (stands_both s i (tag ∷ []) (bytes 2 (length body)) (one i tag h.0) (subst (λ (v : ℕ). Stands s (i + 1) (bytes 2 v)) h.1 (bytes_2 s b (i + 1))))
      (stands_moved s body (omega (arith, length_bytes 2 (length body))) g)
    where
      one : (i tag : ℕ) → at s i ≡ tag → Stands s i (tag ∷ [])
      one i tag e zero l = ap (at s) (omega arith) ∙ e
      one i tag e (suc o) l = absurd (omega (arith, l))

  page_bytes_holds : (k : ℕ) → Stands s (place_of s k + 3) (bytes 2 (page_in s k))
  unfolding page_in
  page_bytes_holds k = bytes_2 s b (place_of s k + 3)

  word_bytes : (k j : ℕ) → Stands s (place_of s k + 5 + 4 * j) (bytes 4 (word_in s k j))
  unfolding word_in
  word_bytes k j = bytes_4 s b (place_of s k + 5 + 4 * j)

  w_bytes : Stands s 3 (bytes 2 w)
  unfolding words_in
  w_bytes = bytes_2 s b 3

  n_bytes : Stands s 5 (bytes 2 n)
  unfolding pages_in
  n_bytes = bytes_2 s b 5

  number_bytes : Stands s 10 (bytes 4 (number_in s))
  unfolding number_in
  number_bytes = bytes_4 s b 10

  place_at_holds : (k : ℕ) → place_of s k ≡ 14 + k * (5 + 4 * w)
  unfolding place_of
  place_at_holds k = refl

  module _ (f : Holds (form s)) where
    known : Formed s
    known = formed s f

    page : (k : ℕ) → k < c → Page s k
    page k h = page_of_holds s known k h

    rises : (j k : ℕ) → j < k → k ≤ c → page_in s j < least_in s k
    rises = rising s known

    only : (j k : ℕ) → j < c → k < c → page_in s j ≡ page_in s k → j ≡ k
    only = page_once s known

    -- 2 + 4 · W fits two bytes below W 16,384 only: a sheet with a larger W has no page
    pub no_wide_pages : 16384 ≤ w → c ≡ 0
    no_wide_pages l = go c refl
      where
        go : (m : ℕ) → c ≡ m → c ≡ 0
        go zero e = e
        go (suc m) e = absurd (omega (arith, l, (page 0 (omega (arith, e))).head.1, number_2_below s b (place_of s 0 + 1)))

    -- what the sheet says of a page that has a field ..
    text_at : (k : ℕ) → k < c → (j : ℕ) → text_in s (page_in s k) j ≡ word_in s k j
    unfolding text_in
    text_at k h j = elim (find_cases c (λ i. eqb (page_in s i) (page_in s k)) 0) [
      | inl g ↦
          let i = find c (λ i. eqb (page_in s i) (page_in s k)) 0 in
          let l : i < c = omega (arith, g.inside) in
          rw (lt-ltb i c l) (ap (λ (i : ℕ). word_in s i j) (only i k l h (eqb→eq (page_in s i) (page_in s k) g.passes)))
      | inr g ↦ absurd (g.1 k (omega arith) (omega (arith, h)) (eq→T {a = page_in s k} refl))
    ]

    -- .. and of one that has none
    text_none : (p : ℕ) → ((k : ℕ) → k < c → ¬ (page_in s k ≡ p)) → (j : ℕ) → text_in s p j ≡ 0
    unfolding text_in
    text_none p d j = elim (find_cases c (λ i. eqb (page_in s i) p) 0) [
      | inl g ↦ let i = find c (λ i. eqb (page_in s i) p) 0 in absurd (d i (omega (arith, g.inside)) (eqb→eq (page_in s i) p g.passes))
      | inr g ↦ rw (le-ltb (find c (λ i. eqb (page_in s i) p) 0) c (omega (arith, g.0)))
    ]

    abbrev on : ℕ → Bool
    on = shown w (text_in s)

    on_page : (k : ℕ) → k < c → T (on (page_in s k))
    on_page k h = not_T (test (blank w (text_in s (page_in s k)))) (λ t. (page k h).some (λ j l. sym (text_at k h j) ∙ sound (blank w (text_in s (page_in s k))) t j l))

    on_some : (p : ℕ) → T (on p) → ¬ ((k : ℕ) → k < c → ¬ (page_in s k ≡ p))
    on_some p t d = T_not (test (blank w (text_in s p))) t (complete (blank w (text_in s p)) (λ j l. text_none p d j))

    -- none is shown between the k-th and the one before it, nor past the last
    gap : (k : ℕ) → k < c → count (page_in s k) on ≡ count (least_in s k) on
    gap k h = count_gap on (least_in s k) (page_in s k) (page k h).least (λ i l g t. on_some i t (λ j lj e. elim (dec_lt j k) [
      | yes a ↦ omega (arith, e, l, rises j k a (omega (arith, h)))
      | no a ↦ elim (ℕ_discrete j k) [ yes q ↦ omega (arith, g, sym e ∙ ap (page_in s) q) | no q ↦ omega (arith, e, g, rises k j (omega (arith, a, q)) (omega (arith, lj)), (page j lj).least) ]
    ]))

    least_within : (k : ℕ) → k ≤ c → least_in s k ≤ n
    least_within zero h = omega arith
    least_within (suc k) h = (page k h).below

    end : count n on ≡ count (least_in s c) on
    end = count_gap on (least_in s c) n (least_within c (omega arith)) (λ i l g t. on_some i t (λ j lj e. omega (arith, e, l, rises j c lj (omega arith))))

    -- so many are shown below the k-th
    ranked : (k : ℕ) → k ≤ c → count (least_in s k) on ≡ k
    unfolding count
    ranked zero h = refl
    ranked (suc k) h = count_on on (page_in s k) (on_page k h) ∙ ap suc (gap k h ∙ ranked k (omega (arith, h)))

    -- ── the sheet, part by part ──
    abbrev area : ℕ → List ℕ
    area = shown_field w (text_in s)

    page_stands : (k : ℕ) → k < c → Stands s (place_of s k) (page_field w (page_in s k) (text_in s (page_in s k)))
    unfolding page_field
    page_stands k h = stands_field (place_of s k) 2 body (rw length_body (page k h).head)
        (stands_both s (place_of s k + 3) (bytes 2 (page_in s k)) words two (stands_moved s words (omega (arith, length_bytes 2 (page_in s k)))
        (stands_runs s (place_of s k + 5) w (λ j. bytes 4 (text_in s (page_in s k) j)) (λ j l. stands_moved s (bytes 4 (text_in s (page_in s k) j)) (omega (arith, length_runs j 4 (λ i. bytes 4 (text_in s (page_in s k) i)) (λ i g. length_bytes 4 (text_in s (page_in s k) i)))) (four j)))))
      where
        words : List ℕ
        words = runs w (λ j. bytes 4 (text_in s (page_in s k) j))

        body : List ℕ
        body = bytes 2 (page_in s k) ++ words

        length_body : length body ≡ 2 + 4 * w
        length_body = length-append (bytes 2 (page_in s k)) words ∙ omega (arith, length_bytes 2 (page_in s k), length_runs w 4 (λ j. bytes 4 (text_in s (page_in s k) j)) (λ i l. length_bytes 4 (text_in s (page_in s k) i)))

        two : Stands s (place_of s k + 3) (bytes 2 (page_in s k))
        two = page_bytes_holds k

        four : (j : ℕ) → Stands s (place_of s k + 5 + 4 * j) (bytes 4 (text_in s (page_in s k) j))
        four j = rw (text_at k h j) (word_bytes k j)

    area_stands : Stands s 14 (runs n area)
    area_stands = stands_runs s 14 n area (λ p h. go p h (test (blank w (text_in s p))) refl)
      where
        go : (p : ℕ) → p < n → (t : Bool) → test (blank w (text_in s p)) ≡ t → Stands s (14 + length (runs p area)) (area p)
        go p h true e = rw (blank_field w (text_in s) p e) (λ o l. absurd (omega (arith, l)))
        go p h false e = elim (find_cases c (λ i. eqb (page_in s i) p) 0) [
          | inl g ↦
              let k = find c (λ i. eqb (page_in s i) p) 0 in
              let l : k < c = omega (arith, g.inside) in
              let q : page_in s k ≡ p = eqb→eq (page_in s k) p g.passes in
              let r : count p on ≡ k = ap (λ (i : ℕ). count i on) (sym q) ∙ gap k l ∙ ranked k (omega (arith, l)) in
              rw (shown_field_holds w (text_in s) p (rw e tt))
              (stands_moved s (page_field w p (text_in s p)) (place_at_holds k ∙ ap (λ (i : ℕ). 14 + i * (5 + 4 * w)) (sym r) ∙ ap (λ (i : ℕ). 14 + i) (sym (length_area w (text_in s) p))) (subst (λ (i : ℕ). Stands s (place_of s k) (page_field w i (text_in s i))) q (page_stands k l)))
          | inr g ↦ absurd (on_some p (rw e tt) (λ k l q. g.1 k (omega arith) (omega (arith, l)) (eq→T q)))
        ]

    head_stands : Stands s 0 (head w n (number_in s))
    unfolding head bytes
    head_stands = stands_both s 0 (field 3 (bytes 2 w ++ bytes 2 n)) (field 1 (bytes 4 (number_in s))) (stands_field 0 3 (bytes 2 w ++ bytes 2 n) known.three (stands_both s 3 (bytes 2 w) (bytes 2 n) w_bytes n_bytes))
        (stands_field 7 1 (bytes 4 (number_in s)) known.one number_bytes)

    -- the sheet is what an export of what it says prints
    pub printed_parsed : s ≡ printed w n (number_in s) (text_in s)
    unfolding printed head bytes
    printed_parsed = stands_whole s (printed w n (number_in s) (text_in s)) (known.size ∙ sym (length_printed w n (number_in s) (text_in s) ∙ ap (λ (i : ℕ). 17 + i * (5 + 4 * w)) (end ∙ ranked c (omega arith))))
        (stands_both s 0 (head w n (number_in s) ++ runs n area) (field 4 [])
        (stands_both s 0 (head w n (number_in s)) (runs n area) head_stands (stands_moved s (runs n area) (sym (length_head w n (number_in s))) area_stands))
        (stands_moved s (field 4 []) (place_at_holds c ∙ ap (λ (i : ℕ). 14 + i * (5 + 4 * w)) (sym (end ∙ ranked c (omega arith))) ∙ sym (omega (arith, length-append (head w n (number_in s)) (runs n area), length_head w n (number_in s), length_area w (text_in s) n)))
        (stands_field (place_of s c) 4 [] known.four (λ o l. absurd (omega (arith, l))))))
