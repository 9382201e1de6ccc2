-- Parsing what export prints gives the design back.
use Rattle.std.specs.Prelude.{◌≡◌, Bool, not, Some, List, [], ◌∷◌, ◌++◌, ℕ, zero, suc, ◌+◌, ◌*◌, ◌/◌, ◌<◌, ◌≤◌, T, length}
use Rattle.std.proofs.Math.Path.{refl, ap, sym}
use Rattle.std.proofs.Common.{◌∙◌, subst, suc-mul, arith, T_not, lt-ltb, le-ltb}
use Rattle.std.proofs.Math.Bool.{true, false}
use Rattle.std.proofs.Math.Logic.{inl, inr}
use Rattle.std.proofs.Math.Nat.{mul-div_cancel}
use Rattle.std.proofs.Math.Decide.{dec_lt}
use Rattle.std.proofs.Math.Dec.{eqb, eqb→eq}
use Rattle.std.proofs.Math.ListN.{length-append}
use Rattle.tables.specs.Base.{at, if, count, find}
use Rattle.tables.specs.Laws.{eq→T}
use Rattle.tables.specs.FindLaws.{find_cases}
use Rattle.tables.specs.Rule.{Holds, test, sound, complete, told}
use Rattle.sheets.specs.Sheet.{bytes, runs, field, blank, page_field, shown_field, head, printed, number, words_in, pages_in, number_in, count_in, place_of, page_in, word_in, headed, least_in, page_fits, form, text_in, parsed}
use Rattle.sheets.specs.Laws.Counts.{count_mono, count_on, nth}
use Rattle.sheets.specs.Laws.Runs.{length_bytes, length_runs, Stands, stands_moved, stands_all, stands_left, stands_right, stands_run, number_2, number_4}

-- ── a field that stands in a list ──
module _ (s : List ℕ) (i tag : ℕ) (body : List ℕ) (h : Stands s i (field tag body)) where
  front : Stands s i ((tag ∷ []) ++ bytes 2 (length body))
  front = stands_left s i (tag ∷ bytes 2 (length body)) body h

  field_tag : at s i ≡ tag
  field_tag = ap (at s) (omega arith) ∙ h 0 (omega (arith, length-append (tag ∷ bytes 2 (length body)) body))

  field_size : length body < 65536 → number 2 0 s (i + 1) ≡ length body
  field_size l = number_2 s (i + 1) (length body) l (stands_right s i (tag ∷ []) (bytes 2 (length body)) front)

  field_body : Stands s (i + 3) body
  field_body = stands_moved s body (omega (arith, length_bytes 2 (length body))) (stands_right s i (tag ∷ bytes 2 (length body)) body h)

-- ── the lengths of what is printed ──
pub length_page : (w p : ℕ) (word : ℕ → ℕ) → length (page_field w p word) ≡ 5 + 4 * w
unfolding page_field
length_page w p word =
    let body = bytes 2 p ++ runs w (λ j. bytes 4 (word j)) in
    length-append (2 ∷ bytes 2 (length body)) body
    ∙ omega (arith, length_bytes 2 (length body), length-append (bytes 2 p) (runs w (λ j. bytes 4 (word j))), length_bytes 2 p, length_runs w 4 (λ j. bytes 4 (word j)) (λ k l. length_bytes 4 (word k)))

pub length_head : (w n num : ℕ) → length (head w n num) ≡ 14
unfolding head bytes
length_head w n num = refl

-- the page is not all zeros
abbrev pub shown : ℕ → (ℕ → ℕ → ℕ) → ℕ → Bool
shown w word p = not (test (blank w (word p)))

pub shown_field_holds : (w : ℕ) (word : ℕ → ℕ → ℕ) (p : ℕ) → T (shown w word p) → shown_field w word p ≡ page_field w p (word p)
unfolding shown_field
shown_field_holds w word p t = go (test (blank w (word p))) t
  where
    go : (b : Bool) → T (not b) → if b [] (page_field w p (word p)) ≡ page_field w p (word p)
    go true t = absurd t
    go false t = refl

pub length_area : (w : ℕ) (word : ℕ → ℕ → ℕ) (k : ℕ) → length (runs k (shown_field w word)) ≡ count k (shown w word) * (5 + 4 * w)
unfolding runs count shown_field
length_area w word zero = omega arith
length_area w word (suc k) = length-append (runs k (shown_field w word)) (shown_field w word k) ∙ go (test (blank w (word k))) refl (length_area w word k)
  where
    go : (b : Bool) → test (blank w (word k)) ≡ b → length (runs k (shown_field w word)) ≡ count k (shown w word) * (5 + 4 * w)
        → length (runs k (shown_field w word)) + length (shown_field w word k) ≡ (count k (shown w word) + if (not (test (blank w (word k)))) 1 0) * (5 + 4 * w)
    go true e f = rw e (omega (arith, f))
    go false e f = rw e (omega (arith, f, length_page w k (word k), suc-mul (count k (shown w word)) (5 + 4 * w)))

module _ (w n num : ℕ) (word : ℕ → ℕ → ℕ) where
  abbrev sheet : List ℕ
  sheet = printed w n num word

  abbrev shows : ℕ
  shows = count n (shown w word)

  pub length_printed : length sheet ≡ 17 + shows * (5 + 4 * w)
  unfolding printed bytes
  length_printed = length-append (head w n num ++ runs n (shown_field w word)) (4 ∷ 0 ∷ 0 ∷ [])
      ∙ omega (arith, length-append (head w n num) (runs n (shown_field w word)), length_head w n num, length_area w word n)

  stands_printed : Stands sheet 0 ((head w n num ++ runs n (shown_field w word)) ++ field 4 [])
  unfolding printed
  stands_printed = stands_all (printed w n num word)

  stands_front : Stands sheet 0 (head w n num ++ runs n (shown_field w word))
  stands_front = stands_left sheet 0 (head w n num ++ runs n (shown_field w word)) (field 4 []) stands_printed

  stands_head : Stands sheet 0 (field 3 (bytes 2 w ++ bytes 2 n) ++ field 1 (bytes 4 num))
  unfolding head
  stands_head = stands_left sheet 0 (head w n num) (runs n (shown_field w word)) stands_front

  stands_area : Stands sheet 14 (runs n (shown_field w word))
  stands_area = stands_moved sheet (runs n (shown_field w word)) (omega (arith, length_head w n num)) (stands_right sheet 0 (head w n num) (runs n (shown_field w word)) stands_front)

  stands_end : Stands sheet (14 + shows * (5 + 4 * w)) (field 4 [])
  stands_end = stands_moved sheet (field 4 []) (omega (arith, length-append (head w n num) (runs n (shown_field w word)), length_head w n num, length_area w word n))
      (stands_right sheet 0 (head w n num ++ runs n (shown_field w word)) (field 4 []) stands_printed)

  -- the field of a page that is not all zeros
  stands_page : (p : ℕ) → p < n → T (shown w word p) → Stands sheet (14 + count p (shown w word) * (5 + 4 * w)) (page_field w p (word p))
  stands_page p h t = subst (λ (f : List ℕ). Stands sheet (14 + count p (shown w word) * (5 + 4 * w)) f) (shown_field_holds w word p t)
      (stands_moved sheet (shown_field w word p) (omega (arith, length_area w word p)) (stands_run sheet 14 n (shown_field w word) stands_area p h))

  stands_3 : Stands sheet 0 (field 3 (bytes 2 w ++ bytes 2 n))
  stands_3 = stands_left sheet 0 (field 3 (bytes 2 w ++ bytes 2 n)) (field 1 (bytes 4 num)) stands_head

  stands_1 : Stands sheet 7 (field 1 (bytes 4 num))
  unfolding bytes
  stands_1 = stands_right sheet 0 (field 3 (bytes 2 w ++ bytes 2 n)) (field 1 (bytes 4 num)) stands_head

  pub head_3 : Holds (headed sheet 0 3 4)
  unfolding bytes
  head_3 = (field_tag sheet 0 3 (bytes 2 w ++ bytes 2 n) stands_3, field_size sheet 0 3 (bytes 2 w ++ bytes 2 n) stands_3 (omega arith))

  pub head_1 : Holds (headed sheet 7 1 4)
  unfolding bytes
  head_1 = (field_tag sheet 7 1 (bytes 4 num) stands_1, field_size sheet 7 1 (bytes 4 num) stands_1 (omega arith))

  pub head_4 : Holds (headed sheet (14 + shows * (5 + 4 * w)) 4 0)
  head_4 = (field_tag sheet _ 4 [] stands_end, field_size sheet _ 4 [] stands_end (omega arith))

  module _ (hw : w < 65536) (hn : n < 65536) (hnum : num < 4294967296) where
    pub words_printed : words_in sheet ≡ w
    unfolding words_in
    words_printed = number_2 sheet 3 w hw (stands_left sheet 3 (bytes 2 w) (bytes 2 n) (field_body sheet 0 3 (bytes 2 w ++ bytes 2 n) stands_3))

    pub pages_printed : pages_in sheet ≡ n
    unfolding pages_in
    pages_printed = number_2 sheet 5 n hn (stands_moved sheet (bytes 2 n) (omega (arith, length_bytes 2 w)) (stands_right sheet 3 (bytes 2 w) (bytes 2 n) (field_body sheet 0 3 (bytes 2 w ++ bytes 2 n) stands_3)))

    pub number_printed : number_in sheet ≡ num
    unfolding number_in
    number_printed = number_4 sheet 10 num hnum (field_body sheet 7 1 (bytes 4 num) stands_1)

    pub count_printed : count_in sheet ≡ shows
    unfolding count_in
    count_printed = rw (words_printed, length_printed) (ap (λ (m : ℕ). m / (5 + 4 * w)) (omega arith) ∙ mul-div_cancel shows {n = 5 + 4 * w} (omega arith))

    pub place_printed : (k : ℕ) → place_of sheet k ≡ 14 + k * (5 + 4 * w)
    unfolding place_of
    place_printed k = rw words_printed

    -- 2 + 4 · W must fit its two bytes
    module _ (small : w < 16384) (hword : (p j : ℕ) → p < n → j < w → word p j < 4294967296) where
      module _ (p : ℕ) (hp : p < n) (t : T (shown w word p)) where
        abbrev rank : ℕ
        rank = count p (shown w word)

        abbrev body : List ℕ
        body = bytes 2 p ++ runs w (λ j. bytes 4 (word p j))

        length_body : length body ≡ 2 + 4 * w
        length_body = length-append (bytes 2 p) (runs w (λ j. bytes 4 (word p j))) ∙ omega (arith, length_bytes 2 p, length_runs w 4 (λ j. bytes 4 (word p j)) (λ i l. length_bytes 4 (word p i)))

        stands_2 : Stands sheet (place_of sheet rank) (field 2 body)
        unfolding page_field
        stands_2 = stands_moved sheet (field 2 body) (sym (place_printed rank)) (stands_page p hp t)

        head_2 : Holds (headed sheet (place_of sheet rank) 2 (2 + 4 * w))
        head_2 = (field_tag sheet (place_of sheet rank) 2 body stands_2, field_size sheet (place_of sheet rank) 2 body stands_2 (omega (arith, length_body)) ∙ length_body)

        page_at_holds : page_in sheet rank ≡ p
        unfolding page_in
        page_at_holds = number_2 sheet (place_of sheet rank + 3) p (omega arith) (stands_left sheet (place_of sheet rank + 3) (bytes 2 p) (runs w (λ j. bytes 4 (word p j))) (field_body sheet (place_of sheet rank) 2 body stands_2))

        stands_words : Stands sheet (place_of sheet rank + 5) (runs w (λ j. bytes 4 (word p j)))
        stands_words = stands_moved sheet (runs w (λ j. bytes 4 (word p j))) (omega (arith, length_bytes 2 p)) (stands_right sheet (place_of sheet rank + 3) (bytes 2 p) (runs w (λ j. bytes 4 (word p j))) (field_body sheet (place_of sheet rank) 2 body stands_2))

        word_at : (j : ℕ) → j < w → word_in sheet rank j ≡ word p j
        unfolding word_in
        word_at j h = number_4 sheet (place_of sheet rank + 5 + 4 * j) (word p j) (hword p j hp h)
            (stands_moved sheet (bytes 4 (word p j)) (omega (arith, length_runs j 4 (λ i. bytes 4 (word p i)) (λ i l. length_bytes 4 (word p i)))) (stands_run sheet (place_of sheet rank + 5) w (λ i. bytes 4 (word p i)) stands_words j h))

      -- the k-th field is that of the page with k shown below it
      pub record Kth (k p : ℕ) : Type 0 where
        pub below : p < n
        pub on : T (shown w word p)
        pub rank : count p (shown w word) ≡ k
        pub page : page_in sheet k ≡ p
        pub words : (j : ℕ) → j < w → word_in sheet k j ≡ word p j

      pub kth : (k : ℕ) → k < shows → (p : ℕ) × Kth k p
      kth k h = let r = nth n (shown w word) k h in let q = r.3 in
          (r.0, record { below = r.1; on = r.2; rank = q; page = rw q at (page_at_holds r.0 r.1 r.2); words = λ j l. rw q at (word_at r.0 r.1 r.2 j l) })

      shown_not : (p : ℕ) → T (shown w word p) → ¬ (Holds (blank w (word p)))
      shown_not p t b = T_not (test (blank w (word p))) t (complete (blank w (word p)) b)

      -- pages rise
      rises : (k : ℕ) → k < shows → least_in sheet k ≤ page_in sheet k
      rises zero h = omega arith
      rises (suc k) h = let a = (kth k (omega (arith, h))).1 in let b = (kth (suc k) h).1 in elim (dec_lt (kth k (omega (arith, h))).0 (kth (suc k) h).0) [
        | yes l ↦ omega (arith, a.page, b.page, l)
        | no l ↦ absurd (omega (arith, a.rank, b.rank, count_mono (shown w word) (kth (suc k) h).0 (kth k (omega (arith, h))).0 (omega (arith, l))))
      ]

      fits_printed : (k : ℕ) → k < shows → Holds (page_fits sheet k)
      unfolding page_fits page_in word_in
      fits_printed k h = let p = (kth k h).0 in let q = (kth k h).1 in (
        rw (words_printed, ← q.rank) (head_2 p q.below q.on),
        (
          omega (arith, q.page, q.below, pages_printed),
          (
            λ l. omega (arith, l, rises k h),
            λ b. shown_not p q.on (λ j l. sym (q.words j l) ∙ b j (omega (arith, l, words_printed))),
          ),
        ),
      )

      -- what an export prints is of the form
      pub form_printed : 0 < num → Holds (form sheet)
      unfolding form
      form_printed pos = (
        omega (arith, length_printed),
        (
          head_3,
          (
            head_1,
            (
              omega (arith, number_printed, pos),
              (
                rw (count_printed, words_printed) length_printed,
                (
                  (λ k l. fits_printed k (omega (arith, l, count_printed))),
                  rw (count_printed, place_printed shows) head_4,
                ),
              ),
            ),
          ),
        ),
      )

      -- so parsing it gives back its sizes, its number and how many pages are not all zeros ..
      pub parsed_printed : 0 < num → parsed sheet ≡ Some (record { words = w; pages = n; number = num; count = shows })
      unfolding parsed
      parsed_printed pos = rw (told (form sheet) (form_printed pos), words_printed, pages_printed, number_printed, count_printed)

      -- .. and the design's words
      pub text_printed : (p j : ℕ) → p < n → j < w → text_in sheet p j ≡ word p j
      unfolding text_in
      text_printed p j hp hj = rw count_printed (elim (find_cases shows (λ k. eqb (page_in sheet k) p) 0) [
        | inl f ↦
            let k = find shows (λ k. eqb (page_in sheet k) p) 0 in
            let h : k < shows = omega (arith, f.inside) in
            let q = (kth k h).1 in
            let e : (kth k h).0 ≡ p = sym q.page ∙ eqb→eq (page_in sheet k) p f.passes in
            rw (lt-ltb k shows h) (q.words j hj ∙ ap (λ (i : ℕ). word i j) e)
        | inr f ↦
            let k = find shows (λ k. eqb (page_in sheet k) p) 0 in
            rw (le-ltb k shows (omega (arith, f.0))) (sym (off p hp (λ t. f.1 (count p (shown w word)) (omega arith) (omega (arith, count_on (shown w word) p t, count_mono (shown w word) (suc p) n hp)) (eq→T (page_at_holds p hp t))) j hj))
      ])
        where
          off : (p : ℕ) → p < n → ¬ (T (shown w word p)) → (j : ℕ) → j < w → word p j ≡ 0
          off p hp t j hj = go (test (blank w (word p))) refl
            where
              go : (b : Bool) → test (blank w (word p)) ≡ b → word p j ≡ 0
              go true e = sound (blank w (word p)) (rw e tt) j hj
              go false e = absurd (t (rw e tt))
