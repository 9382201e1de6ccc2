-- Laws of the search of a map of marks: what its answers tell, and which record is the nearest free one.
use mathlib.Core.Path.{◌≡◌, refl, ap, sym, ◌∙◌, subst}
use mathlib.Core.Bool.{Bool, true}
use mathlib.Core.List.{List}
use mathlib.Core.Logic.{inl, inr}
use Prim.Native.Nat.{ℕ, suc, ◌+◌, ◌-◌, ◌*◌, ◌/◌, ◌%◌, ◌^◌, ◌<◌, ◌≤◌, min, max}
use native.Mathlib.Nat.{min-eq_left, min-eq_right, max-eq_left, max-eq_right}
use native.Mathlib.Omega.{arith}
use native.Mathlib.Decide.{dec_lt, dec_le, ℕ_discrete}
use lib.Count.{count_trailing_zeros}
use lib.Dec.{T, eqb, eqb→eq, ltb, ltb→lt, lt→ltb, leb, leb→le, le→leb}
use Rattle.tables.specs.Base.{if, at, find}
use Rattle.tables.specs.Rule.{each, test}
use Rattle.tables.specs.Rule.{same as same_as}
use Rattle.tables.specs.Turn.{said_yes}
use Rattle.tables.specs.Laws.{and_left, and_right, and_intro, or_cases, or_left, or_right, eq→T, if_true, if_false}
use Rattle.tables.specs.FindLaws.{find_at, find_none, find_cases}
use Rattle.tables.specs.Bits.{bit}
use Rattle.tables.specs.BitLaws.{bit_le}
use Rattle.tables.specs.Marks.{bit_of}
use Rattle.model.specs.declared.sizes.Sizes.{Sizes}
use Rattle.model.specs.Lines.{FREE}
use Rattle.model.specs.Parts.{is_free, free_below, free_above, nearest}
use Rattle.leaves.specs.FreeMap.{told_by, on_free}
use Rattle.leaves.specs.Near.{Farther, below_found, above_found, none_near}
use Rattle.leaves.specs.Search.{marked, first_mark, last_mark, mark_around, Around}
use Rattle.leaves.proofs.WordBits.{bit_of_zero, trailing_on, past_length}

-- ── what is found ──
module _ (n : ℕ) (p : ℕ → Bool) (i r : ℕ) (e : r ≡ find n p i) where
  pub find_off : (k : ℕ) → i ≤ k → k < r → ¬ T (p k)
  find_off k h l t = elim (find_cases n p i) [ inl f ↦ f.first k h (omega (arith, e, l)) t | inr f ↦ f.1 k h (omega (arith, e, l, f.0)) t ]

  pub find_on : r < i + n → T (p r)
  find_on h = elim (find_cases n p i) [ inl f ↦ subst (λ (x : ℕ). T (p x)) (sym e) f.passes | inr f ↦ absurd (omega (arith, e, h, f.0)) ]

  pub find_from : i ≤ r
  find_from = elim (find_cases n p i) [ inl f ↦ omega (arith, e, f.from) | inr f ↦ omega (arith, e, f.0) ]

  pub find_most : r ≤ i + n
  find_most = elim (find_cases n p i) [ inl f ↦ omega (arith, e, f.inside) | inr f ↦ omega (arith, e, f.0) ]

module _ (map : List ℕ) where
  -- no number from a up to b is marked
  abbrev pub Off : ℕ → ℕ → Type 0
  Off a b = (i : ℕ) → a ≤ i → i < b → ¬ (bit_of map i ≡ 1)

  -- a word of 0 has no mark
  pub word_off : (i : ℕ) → at map (i / 32) ≡ 0 → ¬ (bit_of map i ≡ 1)
  word_off i e b = let n : bit_of map i ≡ 0 = rw e (bit_of_zero (i % 32)) in omega (arith, b, n)

  -- a run of words that are 0
  pub run_zero : (a n : ℕ) {b : Bool} → b ≡ test (each n (λ k. same_as (at map (a + k)) 0)) → b ≡ true → (w : ℕ) → a ≤ w → w < a + n → at map w ≡ 0
  run_zero a n e t w h l = let s : a + (w - a) ≡ w = omega arith in rw s at (said_yes (each n (λ k. same_as (at map (a + k)) 0)) e t (w - a) (omega arith))

  -- ── the first mark ──
  module _ (a b : ℕ) where
    pub first_found : (x : ℕ) → a ≤ x → x < b → Off a x → bit_of map x ≡ 1 → x ≡ first_mark map a b
    first_found x h l f e = sym (find_at (b - a) (marked map) a x h (omega arith) (eq→T e) (λ k c d t. f k c d (eqb→eq _ _ t)))

    pub first_none : a ≤ b → Off a b → b ≡ first_mark map a b
    first_none h f = sym (find_none (b - a) (marked map) a (λ k c d t. f k c (omega arith) (eqb→eq _ _ t)) ∙ omega arith)

    pub first_least : (x : ℕ) → a ≤ x → a ≤ b → Off a x → bit_of map x ≡ 1 → min x b ≡ first_mark map a b
    first_least x h l f e = elim (dec_lt x b) [
      | yes c ↦ min-eq_left (omega arith) ∙ first_found x h c f e
      | no c ↦ min-eq_right (omega arith) ∙ first_none l (λ i d g. f i d (omega arith))
    ]

    pub first_empty : b ≤ a → a ≡ first_mark map a b
    first_empty h = sym (find_none (b - a) (marked map) a (λ k c d. absurd (omega arith)) ∙ omega arith)

    module _ (r : ℕ) (e : r ≡ first_mark map a b) where
      pub first_off : Off a r
      first_off i h l q = find_off (b - a) (marked map) a r e i h l (eq→T q)

      pub first_on : r < b → bit_of map r ≡ 1
      first_on h = eqb→eq _ _ (find_on (b - a) (marked map) a r e (omega (arith, h, find_from (b - a) (marked map) a r e)))

      pub first_from : a ≤ r
      first_from = find_from (b - a) (marked map) a r e

  -- ── the last mark ──
  module _ (a b : ℕ) where
    abbrev below : ℕ → Bool
    below k = marked map (b - suc k)

    pub last_found : (x : ℕ) → a < x → x ≤ b → Off x b → bit_of map (x - 1) ≡ 1 → x ≡ last_mark map a b
    last_found x h l f e =
        let s : b - suc (b - x) ≡ x - 1 = omega arith in
        let q : find (b - a) below 0 ≡ b - x = find_at (b - a) below 0 (b - x) (omega arith) (omega arith) (rw s (eq→T e)) (λ k c d t. f (b - suc k) (omega arith) (omega arith) (eqb→eq _ _ t)) in
        omega (arith, q)

    pub last_none : a ≤ b → Off a b → a ≡ last_mark map a b
    last_none h f =
        let q : find (b - a) below 0 ≡ 0 + (b - a) = find_none (b - a) below 0 (λ k c d t. f (b - suc k) (omega arith) (omega arith) (eqb→eq _ _ t)) in
        omega (arith, q)

    pub last_most : (x : ℕ) → x ≤ b → a ≤ b → Off x b → bit_of map (x - 1) ≡ 1 → max x a ≡ last_mark map a b
    last_most x h l f e = elim (dec_lt x a) [
      | yes c ↦ max-eq_right (omega arith) ∙ last_none l (λ i d g. f i (omega arith) g)
      | no c ↦ max-eq_left (omega arith) ∙ elim (ℕ_discrete x a) [
        | yes s ↦ s ∙ last_none l (λ i d g. f i (omega arith) g)
        | no s ↦ last_found x (omega arith) h f e
      ]
    ]

    pub last_empty : b ≤ a → b ≡ last_mark map a b
    last_empty h = let q : find (b - a) below 0 ≡ 0 + (b - a) = find_none (b - a) below 0 (λ k c d. absurd (omega arith)) in omega (arith, q)

    module _ (r : ℕ) (e : r ≡ last_mark map a b) where
      pub last_off : Off r b
      last_off i h l q =
          let s : b - suc (b - suc i) ≡ i = omega arith in
          find_off (b - a) below 0 (find (b - a) below 0) refl (b - suc i) (omega arith) (omega (arith, e)) (rw s (eq→T q))

      pub last_on : a < r → bit_of map (r - 1) ≡ 1
      last_on h =
          let k = find (b - a) below 0 in
          let s : b - suc k ≡ r - 1 = omega (arith, e) in
          rw s at (eqb→eq (bit_of map (b - suc k)) 1 (find_on (b - a) below 0 k refl (omega (arith, e, h))))

      pub last_to : r ≤ b
      last_to = omega (arith, e)

  -- ── one word, from a place up and from a place down ──
  module _ (w b p : ℕ) (inside : b < 32) where
    abbrev on_up : ℕ → Bool
    on_up k = eqb (bit k (at map w)) 1

    abbrev on_down : ℕ → Bool
    on_down k = eqb (bit (b - k) (at map w)) 1

    here : (k : ℕ) → k < 32 → bit k (at map w) ≡ 1 → bit_of map (w * 32 + k) ≡ 1
    here k h e = let d : (w * 32 + k) / 32 ≡ w = omega arith in let m : (w * 32 + k) % 32 ≡ k = omega arith in rw (d, m) e

    module _ (e : p ≡ find (32 - b) on_up b) where
      pub up_most : p ≤ 32
      up_most = omega (arith, inside, find_most (32 - b) on_up b p e)

      pub up_least : b ≤ p
      up_least = find_from (32 - b) on_up b p e

      pub up_off : Off (w * 32 + b) (w * 32 + p)
      up_off i h l q = let d : i / 32 ≡ w = omega (arith, h, l, up_most) in find_off (32 - b) on_up b p e (i % 32) (omega (arith, h, d)) (omega (arith, l, d)) (rw d at (eq→T q))

      pub up_on : p < 32 → bit_of map (w * 32 + p) ≡ 1
      up_on h = here p h (eqb→eq _ _ (find_on (32 - b) on_up b p e (omega (arith, h, inside))))

    module _ (e : p ≡ find (suc b) on_down 0) where
      pub down_most : p ≤ suc b
      down_most = omega (arith, find_most (suc b) on_down 0 p e)

      pub down_off : Off (w * 32 + suc b - p) (w * 32 + suc b)
      down_off i h l q =
          let d : i / 32 ≡ w = omega (arith, h, l, down_most, inside) in
          let m : b - (b - i % 32) ≡ i % 32 = omega (arith, l, d) in
          find_off (suc b) on_down 0 p e (b - i % 32) (omega arith) (omega (arith, h, l, d, down_most)) (rw m (rw d at (eq→T q)))

      pub down_on : p ≤ b → bit_of map (w * 32 + (b - p)) ≡ 1
      down_on h = here (b - p) (omega (arith, inside)) (eqb→eq _ _ (find_on (suc b) on_down 0 p e (omega (arith, h))))

  -- a word that is not 0 has a bit on
  some_on : (v : ℕ) → 0 < v → v < 2 ^ 32 → (k : ℕ) × (k < 32) × (bit k v ≡ 1)
  some_on v p h =
      let t = trailing_on 32 v p h in
      elim (dec_lt (count_trailing_zeros 32 v) 32) [ yes l ↦ (count_trailing_zeros 32 v, l, t) | no l ↦ absurd (omega (arith, t, past_length 32 (count_trailing_zeros 32 v) v h (omega arith))) ]

  module _ (w : ℕ) (some : 0 < at map w) (fits : at map w < 2 ^ 32) where
    pub up_some : (p : ℕ) → p ≡ find 32 (λ k. eqb (bit k (at map w)) 1) 0 → p < 32
    up_some p e = let k = some_on (at map w) some fits in elim (dec_lt p 32) [ yes l ↦ l | no l ↦ absurd (find_off 32 (λ j. eqb (bit j (at map w)) 1) 0 p e k.0 (omega arith) (omega (arith, l, k.1)) (eq→T k.2)) ]

    pub down_some : (p : ℕ) → p ≡ find 32 (λ k. eqb (bit (31 - k) (at map w)) 1) 0 → p ≤ 31
    down_some p e =
        let k = some_on (at map w) some fits in
        let m : 31 - (31 - k.0) ≡ k.0 = omega (arith, k.1) in
        elim (dec_le p 31) [ yes l ↦ l | no l ↦ absurd (find_off 32 (λ j. eqb (bit (31 - j) (at map w)) 1) 0 p e (31 - k.0) (omega arith) (omega (arith, l)) (rw m (eq→T k.2))) ]

  -- ── the words passed, from one up and from one down ──
  module _ (a b r : ℕ) where
    module _ (e : r ≡ find (b - a) (λ w. ltb 0 (at map w)) a) where
      pub up_zero : (w : ℕ) → a ≤ w → w < r → at map w ≡ 0
      up_zero w h l = elim (dec_le 1 (at map w)) [ yes c ↦ absurd (find_off (b - a) (λ k. ltb 0 (at map k)) a r e w h l (lt→ltb 0 (at map w) c)) | no c ↦ omega arith ]

      pub up_more : r < b → 0 < at map r
      up_more h = ltb→lt 0 (at map r) (find_on (b - a) (λ k. ltb 0 (at map k)) a r e (omega (arith, h, find_from (b - a) (λ k. ltb 0 (at map k)) a r e)))

      pub up_from : a ≤ r
      up_from = find_from (b - a) (λ k. ltb 0 (at map k)) a r e

    module _ (e : r ≡ b - find (b - a) (λ k. ltb 0 (at map (b - suc k))) 0) where
      abbrev passed : ℕ
      passed = find (b - a) (λ k. ltb 0 (at map (b - suc k))) 0

      pub down_zero : (w : ℕ) → r ≤ w → w < b → at map w ≡ 0
      down_zero w h l =
          let s : b - suc (b - suc w) ≡ w = omega arith in
          elim (dec_le 1 (at map w)) [ yes c ↦ absurd (find_off (b - a) (λ k. ltb 0 (at map (b - suc k))) 0 passed refl (b - suc w) (omega arith) (omega (arith, e, h, l)) (rw s (lt→ltb 0 (at map w) c))) | no c ↦ omega arith ]

      pub down_more : a < r → 0 < at map (r - 1)
      down_more h =
          let s : b - suc passed ≡ r - 1 = omega (arith, e) in
          rw s at (ltb→lt 0 (at map (b - suc passed)) (find_on (b - a) (λ k. ltb 0 (at map (b - suc k))) 0 passed refl (omega (arith, e, h))))

      pub down_to : r ≤ b
      down_to = omega (arith, e)

  -- ── the words passed around word w ──
  module _ (n w k : ℕ) (e : k ≡ find n (mark_around map w) 0) where
    none : (j : ℕ) → j < k → ¬ T (mark_around map w j)
    none j h = find_off n (mark_around map w) 0 k e j (omega arith) h

    pub below_zero : (j : ℕ) → j < k → at map (w - j) ≡ 0
    below_zero j h = elim (dec_le 1 (at map (w - j))) [
      | yes c ↦ absurd (none j h (or_left (ltb 0 (at map (w - j))) (ltb 0 (at map (w + j))) (lt→ltb 0 (at map (w - j)) c)))
      | no c ↦ omega arith
    ]

    pub above_zero : (j : ℕ) → j < k → at map (w + j) ≡ 0
    above_zero j h = elim (dec_le 1 (at map (w + j))) [
      | yes c ↦ absurd (none j h (or_right (ltb 0 (at map (w - j))) (ltb 0 (at map (w + j))) (lt→ltb 0 (at map (w + j)) c)))
      | no c ↦ omega arith
    ]

    -- no number of these words is marked
    pub words_off : Off ((suc w - k) * 32) ((w + k) * 32)
    words_off i h l = elim (dec_le (i / 32) w) [
      | yes c ↦ let s : w - (w - i / 32) ≡ i / 32 = omega arith in word_off i (rw s at (below_zero (w - i / 32) (omega arith)))
      | no c ↦ let s : w + (i / 32 - w) ≡ i / 32 = omega arith in word_off i (rw s at (above_zero (i / 32 - w) (omega arith)))
    ]

-- ── the lower of two numbers ──
pub least_left : (a b r : ℕ) → r ≡ if (ltb a b) a b → r ≤ a
least_left a b r e = elim (dec_lt a b) [ yes h ↦ omega (arith, e ∙ if_true (ltb a b) a b (lt→ltb a b h)) | no h ↦ omega (arith, e ∙ if_false (ltb a b) a b (λ t. h (ltb→lt a b t))) ]

pub least_right : (a b r : ℕ) → r ≡ if (ltb a b) a b → r ≤ b
least_right a b r e = elim (dec_lt a b) [ yes h ↦ omega (arith, e ∙ if_true (ltb a b) a b (lt→ltb a b h)) | no h ↦ omega (arith, e ∙ if_false (ltb a b) a b (λ t. h (ltb→lt a b t))) ]

pub least_both : (a b r i : ℕ) → r ≡ if (ltb a b) a b → i < a → i < b → i < r
least_both a b r i e l m = elim (dec_lt a b) [ yes h ↦ omega (arith, e ∙ if_true (ltb a b) a b (lt→ltb a b h)) | no h ↦ omega (arith, e ∙ if_false (ltb a b) a b (λ t. h (ltb→lt a b t))) ]

-- ── the nearest free record ──
module _ (z : Sizes) (map : List ℕ) where
  abbrev pub free : ℕ → Bool
  free i = is_free z (told_by map) i

  same : (i : ℕ) → marked map i ≡ eqb (told_by map i) FREE
  same i = on_free (bit_of map i) (bit_le (i % 32) (at map (i / 32)))

  pub on_is_free : (i : ℕ) → i < z.records → bit_of map i ≡ 1 → T (free i)
  on_is_free i h e = and_intro (ltb i z.records) (eqb (told_by map i) FREE) (lt→ltb i z.records h) (subst T (same i) (eq→T e))

  pub off_not_free : (i : ℕ) → ¬ (bit_of map i ≡ 1) → ¬ T (free i)
  off_not_free i f t = f (eqb→eq _ _ (subst T (sym (same i)) (and_right (ltb i z.records) (eqb (told_by map i) FREE) t)))

  pub free_below_holds : (i : ℕ) → T (free i) → i < z.records
  free_below_holds i t = ltb→lt i z.records (and_left (ltb i z.records) (eqb (told_by map i) FREE) t)

  -- none is free between two marks, or two ends
  pub between : (r below above : ℕ) → Around z map r below above → (a b : ℕ) → Off map a below → Off map above b → (i : ℕ) → a ≤ i → i < b → ¬ T (free i)
  between r below above q a b f g i h l = elim (dec_lt i below) [
    | yes c ↦ off_not_free i (f i h c)
    | no c ↦ elim (dec_lt i above) [ yes d ↦ q.none i (omega arith) d | no d ↦ off_not_free i (g i (omega arith) l) ]
  ]

  module _ (r : ℕ) where
    -- none nearer than d
    farther : (d : ℕ) → ((i : ℕ) → r < i + d → i < r + d → ¬ T (free i)) → Farther z (told_by map) r d
    unfolding Farther
    farther d f k h t = elim (or_cases (free_below z (told_by map) r k) (free_above z (told_by map) r k) t) [
      | inl u ↦ let l : k ≤ r = leb→le k r (and_left (leb k r) (free (r - k)) u) in f (r - k) (omega arith) (omega arith) (and_right (leb k r) (free (r - k)) u)
      | inr u ↦ f (r + k) (omega arith) (omega arith) u
    ]

    pub nearest_low : (x : ℕ) → x ≤ r → T (free x) → ((i : ℕ) → x < i → i + x < r + r → ¬ T (free i)) → x ≡ nearest z (told_by map) r
    nearest_low x h t f =
        let s : r - (r - x) ≡ x = omega arith in
        sym s ∙ below_found z (told_by map) r (r - x) (omega arith) (farther (r - x) (λ i a b. f i (omega arith) (omega arith))) (and_intro (leb (r - x) r) (free (r - (r - x))) (le→leb (r - x) r (omega arith)) (rw s t))

    pub nearest_high : (x : ℕ) → r ≤ x → T (free x) → ((i : ℕ) → r + r ≤ i + x → i < x → ¬ T (free i)) → x ≡ nearest z (told_by map) r
    nearest_high x h t f = elim (ℕ_discrete x r) [
      | yes e ↦ nearest_low x (omega arith) t (λ i a b. absurd (omega arith))
      | no e ↦
          let s : r + (x - r) ≡ x = omega arith in
          let lower : ¬ T (free_below z (told_by map) r (x - r)) = λ u. f (r - (x - r)) (omega (arith, leb→le (x - r) r (and_left (leb (x - r) r) (free (r - (x - r))) u))) (omega arith) (and_right (leb (x - r) r) (free (r - (x - r))) u) in
          sym s ∙ above_found z (told_by map) r (x - r) (omega (arith, free_below_holds x t)) (farther (x - r) (λ i a b. f i (omega arith) (omega arith))) lower (rw s t)
    ]

    pub nearest_none : ((i : ℕ) → ¬ T (free i)) → (r + r + z.records + 1) % z.records ≡ nearest z (told_by map) r
    nearest_none f =
        let s : r + r + z.records + 1 ≡ r + suc (r + z.records) = omega arith in
        ap (λ (n : ℕ). n % z.records) s ∙ none_near z (told_by map) r (suc (r + z.records)) refl (farther (suc (r + z.records)) (λ i a b. f i))
