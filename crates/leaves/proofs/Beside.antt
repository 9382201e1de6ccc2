-- Laws of the marks close to a number: what two words show, and which record is then the nearest free one.
use mathlib.Core.Path.{◌≡◌, refl, ap, sym, ◌∙◌, subst}
use mathlib.Core.Bool.{Bool}
use mathlib.Core.List.{List}
use mathlib.Core.Logic.{◌⊎◌, inl, inr}
use Prim.Native.Nat.{ℕ, suc, ◌+◌, ◌-◌, ◌*◌, ◌/◌, ◌%◌, ◌^◌, ◌<◌, ◌≤◌}
use native.Mathlib.Omega.{arith}
use native.Mathlib.Decide.{dec_lt, dec_le}
use lib.Dec.{T, eqb→eq, ltb, ltb→lt, lt→ltb}
use Rattle.tables.specs.Base.{at, find}
use Rattle.tables.specs.Bits.{bit}
use Rattle.tables.specs.FindLaws.{find_at, find_none}
use Rattle.tables.specs.Laws.{eq→T, if_true, if_false}
use Rattle.tables.specs.Marks.{bit_of}
use Rattle.model.specs.declared.sizes.Sizes.{Sizes}
use Rattle.model.specs.Parts.{nearest}
use Rattle.leaves.specs.FreeMap.{told_by}
use Rattle.leaves.specs.Search.{marked, first_mark, or_none, ahead, span, behind}
use Rattle.leaves.proofs.WordBits.{low_half, high_half}
use Rattle.leaves.proofs.Searched.{Off, find_off, find_on, first_found, first_none, first_off, first_on, first_from, on_is_free, off_not_free, nearest_low, nearest_high}

-- ── a count below n, or none ──
module _ (n : ℕ) (p : ℕ → Bool) where
  pub is_found : (k : ℕ) → k < n → T (p k) → ((j : ℕ) → j < k → ¬ T (p j)) → k ≡ or_none n (find n p 0)
  is_found k h t f = let e : find n p 0 ≡ k = find_at n p 0 k (omega arith) (omega arith) t (λ j a b. f j b) in sym (ap (or_none n) e ∙ if_true (ltb k n) k 65536 (lt→ltb k n h))

  pub is_none : ((k : ℕ) → k < n → ¬ T (p k)) → 65536 ≡ or_none n (find n p 0)
  is_none f = let e : find n p 0 ≡ n = find_none n p 0 (λ k a b. f k (omega arith)) ∙ omega arith in sym (ap (or_none n) e ∙ if_false (ltb n n) n 65536 (λ t. omega (arith, ltb→lt n n t)))

  module _ (r : ℕ) (e : r ≡ or_none n (find n p 0)) where
    abbrev first : ℕ
    first = find n p 0

    it : first < n → r ≡ first
    it h = e ∙ if_true (ltb first n) first 65536 (lt→ltb first n h)

    pub passed_off : (k : ℕ) → k < r → k < n → ¬ T (p k)
    passed_off k h l = elim (dec_lt first n) [
      | yes c ↦ find_off n p 0 first refl k (omega arith) (omega (arith, h, it c))
      | no c ↦ find_off n p 0 first refl k (omega arith) (omega (arith, l, c))
    ]

    pub most : n ≤ 65536 → r ≤ 65536
    most h = elim (dec_lt first n) [ yes c ↦ omega (arith, c, it c, h) | no c ↦ omega (arith, e ∙ if_false (ltb first n) first 65536 (λ t. c (ltb→lt first n t))) ]

    pub found_on : r < 65536 → (r < n) × T (p r)
    found_on h = elim (dec_lt first n) [
      | yes c ↦ (omega (arith, c, it c), subst (λ (x : ℕ). T (p x)) (sym (it c)) (find_on n p 0 first refl (omega (arith, c))))
      | no c ↦ absurd (omega (arith, h, e ∙ if_false (ltb first n) first 65536 (λ t. c (ltb→lt first n t))))
    ]

-- ── two words of a map as one ──
module _ (map : List ℕ) (w v : ℕ) (fits : at map w < 2 ^ 32) (e : v ≡ at map (w + 1) * 4294967296 + at map w) where
  pub two_bits : (j : ℕ) → j < 64 → bit j v ≡ bit_of map (w * 32 + j)
  two_bits j h = elim (dec_lt j 32) [
    | yes c ↦
        let d : (w * 32 + j) / 32 ≡ w = omega arith in
        let m : (w * 32 + j) % 32 ≡ j = omega arith in
        rw (d, m) (ap (bit j) e ∙ low_half (at map (w + 1)) (at map w) fits j c)
    | no c ↦
        let d : (w * 32 + j) / 32 ≡ w + 1 = omega arith in
        let m : (w * 32 + j) % 32 ≡ j - 32 = omega arith in
        let s : 32 + (j - 32) ≡ j = omega arith in
        rw (d, m) (ap (bit j) e ∙ ap (λ (x : ℕ). bit x (at map (w + 1) * 4294967296 + at map w)) (sym s) ∙ high_half (at map (w + 1)) (at map w) fits (j - 32))
  ]

-- ── how far down two words reach ──
pub span_low : (i : ℕ) → i < 32 → span i ≡ i
span_low i h = if_true (ltb i 32) i (32 + i % 32) (lt→ltb i 32 h)

pub span_high : (i : ℕ) → ¬ (i < 32) → span i ≡ 32 + i % 32
span_high i h = if_false (ltb i 32) i (32 + i % 32) (λ t. h (ltb→lt i 32 t))

span_le : (i : ℕ) → span i ≤ i
span_le i = elim (dec_lt i 32) [ yes h ↦ omega (arith, span_low i h) | no h ↦ omega (arith, span_high i h) ]

-- ── what the counts tell ──
module _ (map : List ℕ) (i : ℕ) where
  module _ (up : ℕ) (e : up ≡ ahead map i) where
    pub ahead_off : (j : ℕ) → i ≤ j → j < i + up → j < i / 32 * 32 + 64 → ¬ (bit_of map j ≡ 1)
    ahead_off j a b c q = let s : i + (j - i) ≡ j = omega arith in passed_off (64 - i % 32) (λ k. marked map (i + k)) up e (j - i) (omega arith) (omega arith) (rw s (eq→T q))

    pub ahead_on : up < 65536 → (up < 64 - i % 32) × (bit_of map (i + up) ≡ 1)
    ahead_on h = let f = found_on (64 - i % 32) (λ k. marked map (i + k)) up e h in (f.0, eqb→eq _ _ f.1)

    pub ahead_most : up ≤ 65536
    ahead_most = most (64 - i % 32) (λ k. marked map (i + k)) up e (omega arith)

  module _ (down : ℕ) (e : down ≡ behind map i) where
    pub behind_off : (j : ℕ) → j ≤ i → i < j + down → i ≤ j + span i → ¬ (bit_of map j ≡ 1)
    behind_off j a b c q = let s : i - (i - j) ≡ j = omega arith in passed_off (suc (span i)) (λ k. marked map (i - k)) down e (i - j) (omega arith) (omega arith) (rw s (eq→T q))

    pub behind_on : down < 65536 → (down ≤ span i) × (bit_of map (i - down) ≡ 1)
    behind_on h = let f = found_on (suc (span i)) (λ k. marked map (i - k)) down e h in (omega (arith, f.0), eqb→eq _ _ f.1)

-- ── the nearest free record, where it is close ──
module _ (z : Sizes) (map : List ℕ) (r down up : ℕ) (inside : r < z.records) (d : down ≡ behind map r) (u : up ≡ ahead map r) where
  pub close_below : down ≤ up → down ≤ 33 → (down ≤ r) × (r - down ≡ nearest z (told_by map) r)
  close_below l c =
      let f = behind_on map r down d (omega arith) in
      let m = span_le r in (
        omega (arith, f.0, m),
        nearest_low z map r (r - down) (omega arith) (on_is_free z map (r - down) (omega arith) f.1) (λ i a b. off_not_free z map i (elim (dec_le i r) [
          | yes h ↦ behind_off map r down d i h (omega (arith, a, f.0, m)) (omega (arith, a, f.0, m))
          | no h ↦ ahead_off map r up u i (omega arith) (omega (arith, b, l, f.0, m)) (omega (arith, b, c, f.0, m))
        ])),
      )

  pub close_above : up < down → (up ≤ 32 + r % 32) ⊎ (r < 32) → r + up < z.records → z.records < 65536 → r + up ≡ nearest z (told_by map) r
  close_above l s h most =
      let f = ahead_on map r up u (omega arith) in
      nearest_high z map r (r + up) (omega arith) (on_is_free z map (r + up) h f.1) (λ i a b. off_not_free z map i (elim (dec_le r i) [
        | yes g ↦ ahead_off map r up u i g b (omega (arith, b, f.0))
        | no g ↦ behind_off map r down d i (omega arith) (omega arith) (reach i a)
      ]))
    where
      reach : (i : ℕ) → r + r ≤ i + (r + up) → r ≤ i + span r
      reach i a = elim (dec_lt r 32) [
        | yes g ↦ omega (arith, span_low r g)
        | no g ↦ elim s [ inl t ↦ omega (arith, t, a, span_high r g) | inr t ↦ absurd (g t) ]
      ]

-- ── the first mark from a number up: close, or past the words that were looked at ──
module _ (map : List ℕ) (i up n : ℕ) (u : up ≡ ahead map i) where
  pub close_first : i + up < n → n < 65536 → i + up ≡ first_mark map i n
  close_first h l = let f = ahead_on map i up u (omega arith) in first_found map i n (i + up) (omega arith) h (λ j a b. ahead_off map i up u j a b (omega (arith, b, f.0))) f.1

  pub close_none : i < n → n ≤ i + up → n ≤ i / 32 * 32 + 64 → n ≡ first_mark map i n
  close_none l far h = first_none map i n (omega arith) (λ j a b. ahead_off map i up u j a (omega arith) (omega arith))

  module _ (far : n ≤ i + up) (x : ℕ) (e : x ≡ first_mark map (i / 32 * 32 + 64) n) where
    past : (m : ℕ) → m ≤ n → m ≤ x → Off map i m
    past m h l j a b = elim (dec_lt j (i / 32 * 32 + 64)) [ yes c ↦ ahead_off map i up u j a (omega arith) c | no c ↦ first_off map (i / 32 * 32 + 64) n x e j (omega arith) (omega arith) ]

    pub later_first : x < n → x ≡ first_mark map i n
    later_first h = first_found map i n x (omega (arith, first_from map (i / 32 * 32 + 64) n x e)) h (past x (omega arith) (omega arith)) (first_on map (i / 32 * 32 + 64) n x e h)

    pub later_none : i < n → ¬ (x < n) → n ≡ first_mark map i n
    later_none l h = first_none map i n (omega arith) (past n (omega arith) (omega arith))
