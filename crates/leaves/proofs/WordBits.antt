-- The bits of a word of n bits and the counts of zeros at its ends: a word shifted down, a word shifted up, two words as one.
use mathlib.Core.Path.{◌≡◌, refl, ap, sym, ◌∙◌}
use Prim.Native.Nat.{ℕ, zero, suc, ◌+◌, ◌-◌, ◌*◌, ◌/◌, ◌%◌, ◌^◌, ◌<◌, ◌≤◌}
use native.Mathlib.Nat.{not-suc-le-zero, le_of_suc-le-suc, lt_of_le_of_lt, pow-suc, zero-div, mul_assoc, div-eq_of_lt, mod-lt}
use native.Mathlib.Omega.{arith}
use native.Mathlib.Decide.{dec_le}
use lib.Count.{count_trailing_zeros, under, count_leading_zeros, leading_top}
use lib.Pow.{pow-add, pow_pos, shr-shr, shl-shr, shr_lt, shr_le, field, mod-mod-pow}
use lib.Pow.{high as high-of, low as low_of}
use Rattle.tables.specs.Bits.{bit}
use Rattle.tables.specs.BitLaws.{bit_zero, bit_suc}
use Rattle.tables.specs.Marks.{rest_off}

pub bit_of_zero : (k : ℕ) → bit k 0 ≡ 0
unfolding bit
bit_of_zero k = ap (λ (n : ℕ). n % 2) (zero-div (2 ^ k))

-- above its length a number has no bit on
pub past_length : (m j v : ℕ) → v < 2 ^ m → m ≤ j → bit j v ≡ 0
past_length m j v h l = rest_off m j v (div-eq_of_lt h) l

-- ── the lowest bit that is on ──
pub trailing_on : (d v : ℕ) → 0 < v → v < 2 ^ d → bit (count_trailing_zeros d v) v ≡ 1
unfolding count_trailing_zeros
trailing_on zero v p h = absurd (omega arith)
trailing_on (suc d) v p h = let e : 2 ^ suc d ≡ 2 ^ d * 2 = pow-suc 2 d in go (v % 2) refl (λ q. trailing_on d (v / 2) (omega arith) (omega arith))
  where
    go : (r : ℕ) → v % 2 ≡ r → (v % 2 ≡ 0 → bit (count_trailing_zeros d (v / 2)) (v / 2) ≡ 1) → bit (under r (count_trailing_zeros d (v / 2))) v ≡ 1
    go zero e ih = bit_suc (count_trailing_zeros d (v / 2)) v ∙ ih e
    go (suc r) e ih = bit_zero v ∙ omega arith

pub trailing_off : (d v j : ℕ) → j < count_trailing_zeros d v → bit j v ≡ 0
unfolding count_trailing_zeros
trailing_off zero v j h = absurd (not-suc-le-zero h)
trailing_off (suc d) v j h = go (λ i. trailing_off d (v / 2) i) (v % 2) refl j h
  where
    go : ((i : ℕ) → i < count_trailing_zeros d (v / 2) → bit i (v / 2) ≡ 0) → (r : ℕ) → v % 2 ≡ r → (i : ℕ) → i < under r (count_trailing_zeros d (v / 2)) → bit i v ≡ 0
    go f zero e zero l = bit_zero v ∙ e
    go f zero e (suc i) l = bit_suc i v ∙ f i (le_of_suc-le-suc l)
    go f (suc r) e i l = absurd (not-suc-le-zero l)

-- ── the highest bit that is on ──
pub top_on : (j v : ℕ) → 2 ^ j ≤ v → v < 2 ^ suc j → bit j v ≡ 1
top_on zero v h l = bit_zero v ∙ omega arith
top_on (suc j) v h l = let e : 2 ^ suc j ≡ 2 ^ j * 2 = pow-suc 2 j in let f : 2 ^ suc (suc j) ≡ 2 ^ suc j * 2 = pow-suc 2 (suc j) in bit_suc j v ∙ top_on j (v / 2) (omega arith) (omega arith)

module _ (n v j : ℕ) (pos : 0 < v) (fits : v < 2 ^ n) where
  pub leading_on : count_leading_zeros n v + suc j ≡ n → bit j v ≡ 1
  leading_on e = let t = leading_top n v pos fits in let q : j ≡ t.0 = omega (arith, t.1) in rw q (top_on t.0 v t.2 t.3)

  pub leading_off : n < count_leading_zeros n v + suc j → bit j v ≡ 0
  leading_off l = let t = leading_top n v pos fits in past_length (suc t.0) j v t.3 (omega (arith, t.1))

-- ── a word shifted down ──
pub down_bit : (b k v : ℕ) → bit k (v / 2 ^ b) ≡ bit (b + k) v
unfolding bit
down_bit b k v = ap (λ (n : ℕ). n % 2) (shr-shr v b k)

-- ── a word shifted up, as code computes it ──
-- the bits below 2 ^ w stay
low_bit : (j k v : ℕ) → bit k (v % 2 ^ (suc j + k)) ≡ bit k v
unfolding bit
low_bit j k v = let e : suc j ≡ j + 1 = omega arith in ap (λ (n : ℕ). n % 2) (field v (suc j) k) ∙ ap (λ (n : ℕ). v / 2 ^ k % 2 ^ n % 2) e ∙ mod-mod-pow (v / 2 ^ k) j 1

up : (s k v : ℕ) → bit (s + k) (v * 2 ^ s) ≡ bit k v
up s k v = sym (down_bit s k (v * 2 ^ s)) ∙ ap (bit k) (shl-shr v s)

pub up_bit : (n s k v : ℕ) → s + k < n → bit (s + k) (v * 2 ^ s % 2 ^ n) ≡ bit k v
up_bit n s k v h = let e : suc (n - suc (s + k)) + (s + k) ≡ n = omega arith in ap (λ (m : ℕ). bit (s + k) (v * 2 ^ s % 2 ^ m)) (sym e) ∙ low_bit (n - suc (s + k)) (s + k) (v * 2 ^ s) ∙ up s k v

-- below the shift there is nothing
pub up_below : (n s k v : ℕ) → k < s → s ≤ n → bit k (v * 2 ^ s % 2 ^ n) ≡ 0
unfolding bit
up_below n s k v h l =
    let e : suc (n - suc k) + k ≡ n = omega arith in
    let d : s ≡ suc (s - suc k) + k = omega arith in
    ap (λ (m : ℕ). bit k (v * 2 ^ s % 2 ^ m)) (sym e) ∙ low_bit (n - suc k) k (v * 2 ^ s) ∙ ap (λ (m : ℕ). bit k (v * 2 ^ m)) d ∙ even (s - suc k)
  where
    even : (n : ℕ) → bit k (v * 2 ^ (suc n + k)) ≡ 0
    even n =
        let p : v * 2 ^ (suc n + k) ≡ v * 2 ^ suc n * 2 ^ k = ap (λ (x : ℕ). v * x) (pow-add 2 (suc n) k) ∙ sym (mul_assoc v (2 ^ suc n) (2 ^ k)) in
        let q : 2 ^ suc n ≡ 2 ^ n * 2 = pow-suc 2 n in
        ap (λ (x : ℕ). x / 2 ^ k % 2) p ∙ ap (λ (x : ℕ). x % 2) (shl-shr (v * 2 ^ suc n) k) ∙ ap (λ (x : ℕ). v * x % 2) q ∙ ap (λ (x : ℕ). x % 2) (sym (mul_assoc v (2 ^ n) 2)) ∙ omega arith

-- ── the first bit on from bit b up: the zeros at the end of the word shifted down ──
module _ (n v b : ℕ) (inside : b < n) (fits : v < 2 ^ n) (some : ¬ (v / 2 ^ b ≡ 0)) where
  abbrev zeros_up : ℕ
  zeros_up = count_trailing_zeros n (v / 2 ^ b)

  ends_on : bit zeros_up (v / 2 ^ b) ≡ 1
  ends_on = trailing_on n (v / 2 ^ b) (omega (arith, some)) (lt_of_le_of_lt (shr_le v b) fits)

  pub up_inside : b + zeros_up < n
  up_inside =
      let e : n - b + b ≡ n = omega arith in
      elim (dec_le (n - b) zeros_up) [ yes h ↦ absurd (omega (arith, ends_on, past_length (n - b) zeros_up (v / 2 ^ b) (shr_lt (n - b) b (rw e fits)) h)) | no h ↦ omega arith ]

  pub up_found : bit (b + zeros_up) v ≡ 1
  up_found = sym (down_bit b zeros_up v) ∙ ends_on

  pub up_passed : (k : ℕ) → k < zeros_up → bit (b + k) v ≡ 0
  up_passed k h = sym (down_bit b k v) ∙ trailing_off n (v / 2 ^ b) k h

-- nothing is left from bit b up
pub up_none : (b k v : ℕ) → v / 2 ^ b ≡ 0 → bit (b + k) v ≡ 0
up_none b k v e = rest_off b (b + k) v e (omega arith)

-- ── the first bit on from bit b down: the zeros at the top of the word shifted up, its bit b at the top ──
module _ (n v b s : ℕ) (top : s + suc b ≡ n) where
  abbrev shifted : ℕ
  shifted = v * 2 ^ s % 2 ^ n

  moved : (k : ℕ) → k ≤ b → bit (s + (b - k)) shifted ≡ bit (b - k) v
  moved k h = up_bit n s (b - k) v (omega arith)

  pub down_none : shifted ≡ 0 → (k : ℕ) → k ≤ b → bit (b - k) v ≡ 0
  down_none e k h = sym (moved k h) ∙ ap (bit (s + (b - k))) e ∙ bit_of_zero (s + (b - k))

  module _ (some : ¬ (shifted ≡ 0)) where
    abbrev zeros_down : ℕ
    zeros_down = count_leading_zeros n shifted

    fits : shifted < 2 ^ n
    fits = mod-lt (v * 2 ^ s) (pow_pos n)

    pos : 0 < shifted
    pos = omega (arith, some)

    short : zeros_down < n
    short = omega (arith, (leading_top n shifted pos fits).1)

    starts_on : bit (n - suc zeros_down) shifted ≡ 1
    starts_on = leading_on n shifted (n - suc zeros_down) pos fits (omega (arith, short))

    pub down_inside : zeros_down ≤ b
    down_inside = elim (dec_le zeros_down b) [ yes h ↦ h | no h ↦ absurd (omega (arith, starts_on, up_below n s (n - suc zeros_down) v (omega (arith, h, short, top)) (omega arith))) ]

    pub down_found : bit (b - zeros_down) v ≡ 1
    down_found = let e : s + (b - zeros_down) ≡ n - suc zeros_down = omega (arith, down_inside, top) in sym (moved zeros_down down_inside) ∙ ap (λ (j : ℕ). bit j shifted) e ∙ starts_on

    pub down_passed : (k : ℕ) → k < zeros_down → bit (b - k) v ≡ 0
    down_passed k h = sym (moved k (omega (arith, h, down_inside))) ∙ leading_off n shifted (s + (b - k)) pos fits (omega (arith, h, down_inside, top))

-- ── two words as one ──
module _ (high low : ℕ) (fits : low < 2 ^ 32) where
  abbrev both : ℕ
  both = high * 4294967296 + low

  pub low_half : (j : ℕ) → j < 32 → bit j both ≡ bit j low
  low_half j h = let e : suc (31 - j) + j ≡ 32 = omega arith in sym (low_bit (31 - j) j both) ∙ ap (λ (m : ℕ). bit j (both % 2 ^ m)) e ∙ ap (bit j) (low_of high 32 fits)

  pub high_half : (j : ℕ) → bit (32 + j) both ≡ bit j high
  high_half j = sym (down_bit 32 j both) ∙ ap (bit j) (high-of high 32 fits)
