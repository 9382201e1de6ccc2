-- Counting along a loop: one more number, one more bit, one more row.
use mathlib.Core.Path.{◌≡◌, refl, ap, sym, ◌∙◌}
use mathlib.Core.Bool.{Bool, true, false, ◌&&◌}
use mathlib.Core.List.{List}
use Prim.Native.Nat.{ℕ, zero, suc, ◌+◌, ◌-◌, ◌*◌, ◌/◌, ◌^◌, ◌<◌, ◌≤◌}
use native.Mathlib.Nat.{mul-add-div_right, div-eq_of_lt, pow-le-pow_right}
use native.Mathlib.Numerals.{add-one}
use native.Mathlib.Omega.{arith}
use native.Mathlib.Decide.{ℕ_discrete}
use lib.Dec.{eqb}
use lib.ListN.{length, set, length-set}
use lib.Seq.{get_or-set_same, get_or-set_other}
use mir.Val.{bool_byte}
use borrow.Author.Tests.{eq-eqb, ne_eqb, lt-ltb, le-ltb}
use Rattle.tables.specs.Base.{at, if, count}
use Rattle.tables.specs.Bits.{bits}
use Rattle.tables.specs.BitLaws.{bits_none, bits_suc, bits_lt}
use Rattle.tables.specs.Laws.{count_same, count_bound}
use Rattle.tables.specs.CountLaws.{count_none, count_row}
use Rattle.tables.specs.Rule.{same, each, Holds, test, told, untold}
use Rattle.model.specs.Lines.{FREE, LIVE}
use Rattle.rules.specs.Passes.{live_page, used_page, used_pages, used_table, free_record}

pub one_le : (b : Bool) → if b 1 0 ≤ 1
one_le true = omega arith
one_le false = omega arith

pub count_start : (p : ℕ → Bool) → 0 ≡ count 0 p
unfolding count
count_start p = refl

pub count_next : (i n x : ℕ) (p : ℕ → Bool) → n ≡ count i p → x ≡ if (p i) 1 0 → n + x ≡ count (i + 1) p
unfolding count
count_next i n x p e f = rw (add-one i, e, f)

pub count_end : (i n x : ℕ) (p : ℕ → Bool) → x ≡ count i p → i ≤ n → n ≤ i → x ≡ count n p
count_end i n x p e h l = let q : i ≡ n = omega arith in e ∙ ap (λ (m : ℕ). count m p) q

-- what is counted so far is at most as much as was looked at
pub count_few : (i n : ℕ) (p : ℕ → Bool) → n ≡ count i p → n ≤ i
count_few i n p e = omega (arith, count_bound i p)

-- ── the bits of a word, from the last down ──
module _ (p : ℕ → Bool) (from count : ℕ) where
  pub word_start : 0 ≡ bits 0 p (from + (count - 0))
  word_start = sym (bits_none p (from + (count - 0)))

  module _ (n word : ℕ) (h : n < count) (e : word ≡ bits n p (from + (count - n))) where
    pub word_small : count ≤ 32 → 2 * word + 1 < 4294967296
    word_small most = let s : bits n p (from + (count - n)) < 2 ^ n = bits_lt n p (from + (count - n)) in let u : n ≤ 31 = omega arith in let z : 0 < 2 = omega arith in let t : 2 ^ n ≤ 2 ^ 31 = pow-le-pow_right z u in omega arith

    pub word_next : (b : ℕ) → b ≡ if (p (from + (count - 1 - n))) 1 0 → b + 2 * word ≡ bits (n + 1) p (from + (count - (n + 1)))
    word_next b f =
        let i : from + (count - suc n) ≡ from + (count - 1 - n) = omega arith in
        let j : suc (from + (count - 1 - n)) ≡ from + (count - n) = omega arith in
        rw (add-one n, i, bits_suc n p (from + (count - 1 - n)), j, f, e)

  pub word_end : (n word : ℕ) → n ≤ count → count ≤ n → word ≡ bits n p (from + (count - n)) → word ≡ bits count p from
  word_end n word h l e = let q : n ≡ count = omega arith in let z : from + (count - count) ≡ from = omega arith in rw (q, z) at e

-- tests that agree on the records of the word, and none beyond
bits_same : (n : ℕ) (p q : ℕ → Bool) (i : ℕ) → ((r : ℕ) → i ≤ r → r < i + n → p r ≡ q r) → bits n p i ≡ bits n q i
bits_same zero p q i h = bits_none p i ∙ sym (bits_none q i)
bits_same (suc n) p q i h = rw (bits_suc n p i, bits_suc n q i, h i (omega arith) (omega arith), bits_same n p q (suc i) (λ r a b. h r (omega arith) (omega arith)))

bits_off : (n : ℕ) (p : ℕ → Bool) (i : ℕ) → ((r : ℕ) → i ≤ r → p r ≡ false) → bits n p i ≡ 0
bits_off zero p i h = bits_none p i
bits_off (suc n) p i h = rw (bits_suc n p i, h i (omega arith), bits_off n p (suc i) (λ r a. h r (omega arith)))

bits_cut : (n k : ℕ) (p : ℕ → Bool) (i : ℕ) → ((r : ℕ) → i + n ≤ r → p r ≡ false) → bits (n + k) p i ≡ bits n p i
bits_cut zero k p i h = let e : zero + k ≡ k = omega arith in rw (e, bits_none p i) (bits_off k p i (λ r a. h r (omega arith)))
bits_cut (suc n) k p i h = let e : suc n + k ≡ suc (n + k) = omega arith in rw (e, bits_suc (n + k) p i, bits_suc n p i, bits_cut n k p (suc i) (λ r a. h r (omega arith)))

-- the word of 32 records, where there are so many, and where there are fewer
module _ (records from : ℕ) (states : List ℕ) where
  abbrev free : ℕ → Bool
  free r = eqb (at states r) FREE

  there : (r : ℕ) → r < records → free r ≡ free_record records states r
  there r h = rw (lt-ltb r records h) refl

  past : (r : ℕ) → records ≤ r → free_record records states r ≡ false
  past r h = rw (le-ltb r records h) refl

  pub whole_word : from + 32 ≤ records → bits 32 (λ r. eqb (at states r) FREE) from ≡ bits 32 (free_record records states) from
  whole_word h = bits_same 32 (λ r. eqb (at states r) FREE) (free_record records states) from (λ r a b. there r (omega arith))

  pub last_word : from ≤ records → records < from + 32 → bits (records - from) (λ r. eqb (at states r) FREE) from ≡ bits 32 (free_record records states) from
  last_word h l =
      let e : records - from + (32 - (records - from)) ≡ 32 = omega arith in
      bits_same (records - from) (λ r. eqb (at states r) FREE) (free_record records states) from (λ r a b. there r (omega arith)) ∙ sym (rw e at (bits_cut (records - from) (32 - (records - from)) (free_record records states) from (λ r a. past r (omega arith))))

-- ── a page with a live address ──
module _ (a : ℕ) (state : ℕ → ℕ) where
  pub no_address : a ≡ 0 → ◌≡◌ {A = ℕ} 0 (if (test (live_page a state)) 1 0)
  no_address z = rw (untold (live_page a state) (λ h. omega (arith, z, h.1)))

  module _ (some : ¬ (a ≡ 0)) where
    pub is_live : bool_byte (eqb (state (a - 1)) LIVE) ≡ if (test (live_page a state)) 1 0
    is_live = elim (ℕ_discrete (state (a - 1)) LIVE) [
      | yes h ↦ rw (eq-eqb _ _ h, told (live_page a state) (a - 1, omega arith, h))
      | no d ↦ rw (ne_eqb _ _ d, untold (live_page a state) (λ h. d (let e : a ≡ suc h.0 = h.1 in let q : a - 1 ≡ h.0 = omega arith in rw q h.2)))
    ]

-- ── each account's used pages, slot by slot ──
module _ (pages : ℕ) (account active maps addresses states : List ℕ) where
  -- the first s slots are counted
  pub record Totals (slots : ℕ) (t : List ℕ) (s : ℕ) : Type 0 where
    pub within : s ≤ slots
    pub sized : length t ≡ 16
    pub counted : (q : ℕ) → q < 16 → at t q ≡ used_pages pages (s * pages) q account active maps addresses states

  abbrev used : ℕ → ℕ → Bool
  used s i = used_page (at active s) (at maps i) (at addresses i) (at states)

  abbrev counts : ℕ → ℕ → Bool
  counts q i = eqb (at account (i / pages)) q && used (i / pages) i

  pub totals_start : (slots : ℕ) (t : List ℕ) → length t ≡ 16 → Holds (each 16 (λ q. same (at t q) 0)) → Totals slots t 0
  totals_start slots t l z = record { within = omega arith; sized = l; counted = λ q h. z q h ∙ count_start (counts q) ∙ ap (λ (m : ℕ). count m (counts q)) (zero_times pages) }
    where
      zero_times : (n : ℕ) → 0 ≡ 0 * n
      zero_times n = omega arith

  pub totals_few : (slots : ℕ) (t : List ℕ) (s : ℕ) → Totals slots t s → (q : ℕ) → q < 16 → at t q ≤ s * pages
  totals_few slots t s p q h = count_few (s * pages) (at t q) (counts q) (p.counted q h)

  module _ (pos : 0 < pages) (slots : ℕ) (t : List ℕ) (s : ℕ) (p : Totals slots t s) (less : s < slots) where
    in_row : (i : ℕ) → i < pages → (s * pages + i) / pages ≡ s
    in_row i h = mul-add-div_right pos s i ∙ (let e : i / pages ≡ 0 = div-eq_of_lt h in omega arith)

    row : (q : ℕ) → count ((s + 1) * pages) (counts q) ≡ count (s * pages) (counts q) + count pages (λ i. eqb (at account s) q && used s (s * pages + i))
    row q = rw (add-one s, count_row s pages (counts q)) (ap (λ (m : ℕ). count (s * pages) (counts q) + m)
        (count_same pages (λ i. counts q (s * pages + i)) (λ i. eqb (at account s) q && used s (s * pages + i)) (λ i h. ap (λ (x : ℕ). eqb (at account x) q && used x (s * pages + i)) (in_row i h))))

    mine : (q : ℕ) → at account s ≡ q → count pages (λ i. eqb (at account s) q && used s (s * pages + i)) ≡ count pages (λ i. used s (s * pages + i))
    mine q e = rw (eq-eqb (at account s) q e)

    others : (q : ℕ) → ¬ (at account s ≡ q) → count pages (λ i. eqb (at account s) q && used s (s * pages + i)) ≡ 0
    others q e = rw (ne_eqb (at account s) q e) (count_none pages (λ i. false) (λ i h x. x))

    pub totals_next : (x : ℕ) → at account s < 16 → x ≡ count pages (λ i. used_page (at active s) (at maps (s * pages + i)) (at addresses (s * pages + i)) (at states))
        → Totals slots (set t (at account s) (at t (at account s) + x)) (s + 1)
    totals_next x h e = record {
      within = omega arith;
      sized = length-set t a (at t a + x) ∙ p.sized;
      counted = λ q l. elim (ℕ_discrete a q) [
        | yes f ↦ (let k : at (set t a (at t a + x)) q ≡ at t q + x = rw (← f) (get_or-set_same t a (at t a + x) 0 (omega (arith, p.sized))) in omega (arith, k, p.counted q l, row q, mine q f))
        | no f ↦ (let k : at (set t a (at t a + x)) q ≡ at t q = get_or-set_other t a q (at t a + x) 0 (λ y. f (sym y)) in omega (arith, k, p.counted q l, row q, others q f))
      ];
    }
      where
        a : ℕ
        a = at account s

  pub totals_end : (slots : ℕ) (t : List ℕ) (s : ℕ) → Totals slots t s → slots ≤ s → Holds (used_table slots pages account active maps addresses states t)
  totals_end slots t s p l q h = let e : s ≡ slots = omega (arith, p.within) in rw e at (p.counted q h)
