-- `behind` meets its contract: the zeros at the top of the shifted pair are the numbers passed.
use mathlib.Core.Path.{◌≡◌, ap, sym, ◌∙◌}
use mathlib.Core.List.{List}
use Prim.Native.Nat.{ℕ, suc, ◌+◌, ◌-◌, ◌*◌, ◌/◌, ◌%◌, ◌^◌, ◌<◌, ◌≤◌}
use native.Mathlib.Omega.{arith}
use native.Mathlib.Decide.{dec_lt, dec_le}
use lib.Count.{count_leading_zeros}
use lib.Dec.{eqb, eqb→eq}
use Rattle.tables.specs.Base.{if, at}
use Rattle.tables.specs.Bits.{bit}
use Rattle.tables.specs.Laws.{eq→T, if_true, if_false}
use Rattle.tables.specs.Marks.{bit_of}
use Rattle.leaves.specs.Search.{marked, span, behind}
use Rattle.leaves.proofs.WordBits.{bit_of_zero, low_half, high_half, down_none, down_inside, down_found, down_passed}
use Rattle.leaves.proofs.Beside.{is_found, is_none, two_bits, span_low, span_high}
use Rattle.leaves.proofs.close.behind.Goals as goal

module _ (map : List ℕ) (i l v : ℕ) (fits : l < 2 ^ 32) (before : l ≡ if (eqb (i / 32) 0) 0 (at map (i / 32 - 1))) (e : v ≡ at map (i / 32) * 4294967296 + l) where
  abbrev place : ℕ
  place = 32 + i % 32

  -- in the first word
  module _ (h : i < 32) where
    none_before : l ≡ 0
    none_before = let s : i / 32 ≡ 0 = omega arith in before ∙ if_true (eqb (i / 32) 0) 0 (at map (i / 32 - 1)) (eq→T s)

    own : (k : ℕ) → k ≤ i → bit (place - k) v ≡ bit_of map (i - k)
    own k c =
        let s : place - k ≡ 32 + (i - k) = omega arith in
        let d : (i - k) / 32 ≡ i / 32 = omega arith in
        let m : (i - k) % 32 ≡ i - k = omega arith in
        rw (d, m) (ap (λ (x : ℕ). bit x v) s ∙ ap (bit (32 + (i - k))) e ∙ high_half (at map (i / 32)) l fits (i - k))

    none : (k : ℕ) → i < k → k ≤ place → bit (place - k) v ≡ 0
    none k c g = ap (bit (place - k)) e ∙ low_half (at map (i / 32)) l fits (place - k) (omega arith) ∙ ap (bit (place - k)) none_before ∙ bit_of_zero (place - k)

  -- in a later one
  later : ¬ (i < 32) → (k : ℕ) → k ≤ place → bit (place - k) v ≡ bit_of map (i - k)
  later h k c =
      let n : ¬ (i / 32 ≡ 0) = λ q. omega (arith, q, h) in
      let q : l ≡ at map (i / 32 - 1) = before ∙ if_false (eqb (i / 32) 0) 0 (at map (i / 32 - 1)) (λ t. n (eqb→eq (i / 32) 0 t)) in
      let s : i / 32 - 1 + 1 ≡ i / 32 = omega (arith, h) in
      let t : (i / 32 - 1) * 32 + (place - k) ≡ i - k = omega (arith, h, c) in
      let f : v ≡ at map (i / 32 - 1 + 1) * 4294967296 + at map (i / 32 - 1) = rw (s, ← q) e in
      two_bits map (i / 32 - 1) v (rw (← q) fits) f (place - k) (omega arith) ∙ ap (bit_of map) t

  shown : (k : ℕ) → k ≤ span i → bit (place - k) v ≡ bit_of map (i - k)
  shown k c = elim (dec_lt i 32) [ yes h ↦ own h k (omega (arith, c, span_low i h)) | no h ↦ later h k (omega (arith, c, span_high i h)) ]

  hidden : (k : ℕ) → span i < k → k ≤ place → bit (place - k) v ≡ 0
  hidden k c g = elim (dec_lt i 32) [ yes h ↦ none h k (omega (arith, c, span_low i h)) g | no h ↦ absurd (omega (arith, c, g, span_high i h)) ]

  span-most : span i ≤ place
  span-most = elim (dec_lt i 32) [ yes h ↦ omega (arith, span_low i h) | no h ↦ omega (arith, span_high i h) ]

  abbrev rest : ℕ
  rest = v * 2 ^ (31 - i % 32) % 2 ^ 64

  top : 31 - i % 32 + suc place ≡ 64
  top = omega arith

  none-on : rest ≡ 0 → 65536 ≡ behind map i
  none-on z = is_none (suc (span i)) (λ k. marked map (i - k)) (λ k h t. omega (arith, eqb→eq (bit_of map (i - k)) 1 t, shown k (omega arith), down_none 64 v place (31 - i % 32) top z k (omega (arith, h, span-most))))

  first_on : ¬ (rest ≡ 0) → count_leading_zeros 64 rest ≡ behind map i
  first_on some =
      let k = count_leading_zeros 64 rest in
      let g = down_inside 64 v place (31 - i % 32) top some in
      let f = down_found 64 v place (31 - i % 32) top some in
      let c : k ≤ span i = elim (dec_le k (span i)) [ yes a ↦ a | no a ↦ absurd (omega (arith, f, hidden k (omega arith) g)) ] in
      is_found (suc (span i)) (λ j. marked map (i - j)) k (omega arith) (eq→T (sym (shown k c) ∙ f)) (λ j h t. omega (arith, eqb→eq (bit_of map (i - j)) 1 t, shown j (omega (arith, h, c)), down_passed 64 v place (31 - i % 32) top some j h))

pub returns-then-rest-eq0 : goal.returns-then-rest-eq0
returns-then-rest-eq0 c =
    let a = c.args in
    none-on a.map.now a.i c.word_before.result c.pair.result c.word_before.type_inv c.word_before.ensures c.pair.ensures c.if-rest-eq0.true

pub returns : goal.returns
returns c =
    let a = c.args in
    first_on a.map.now a.i c.word_before.result c.pair.result c.word_before.type_inv c.word_before.ensures c.pair.ensures c.if-rest-eq0.false
