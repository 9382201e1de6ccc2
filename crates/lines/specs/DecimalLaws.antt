-- Laws of numbers in decimal: read back, they are the number; no zero stands in front of a number above 0; how long they are.
use Rattle.std.specs.Prelude.{◌≡◌, refl, List, [], ◌∷◌, ◌++◌, ◌⊎◌, ℕ, zero, suc, ◌+◌, ◌-◌, ◌*◌, ◌/◌, ◌%◌, ◌^◌, ◌<◌, ◌≤◌, length}
use Rattle.std.proofs.Common.{ap, sym, ◌∙◌, inl, inr, pow-suc, suc-add, arith, length-append, lt-ltb, le-ltb}
use Rattle.std.proofs.Math.Decide.{dec_lt}
use Rattle.std.proofs.Math.ListN.{get_or-append}
use Rattle.tables.specs.Base.{at}
use Rattle.lines.specs.Decimal.{digit, digits, decimal, read}

-- ── the two cases of the definition ──
digits_small : (k n : ℕ) → n < 10 → digits k n ≡ digit n ∷ []
unfolding digits
digits_small zero n h = refl
digits_small (suc k) n h = rw (lt-ltb n 10 h)

digits_large : (k n : ℕ) → 10 ≤ n → digits (suc k) n ≡ digits k (n / 10) ++ digit (n % 10) ∷ []
unfolding digits
digits_large k n h = rw (le-ltb n 10 h)

-- a number is below 10, or it is not
small_or_large : (n : ℕ) → (n < 10) ⊎ (10 ≤ n)
small_or_large n = elim (dec_lt n 10) [ yes h ↦ inl h | no h ↦ inr (omega arith) ]

-- one digit more than enough changes nothing
digits_more : (k n : ℕ) → n ≤ k → digits (suc k) n ≡ digits k n
digits_more zero n h = digits_small 1 n (omega arith) ∙ sym (digits_small 0 n (omega arith))
digits_more (suc k) n h = elim (small_or_large n) [
  | inl s ↦ digits_small (suc (suc k)) n s ∙ sym (digits_small (suc k) n s)
  | inr l ↦ digits_large (suc k) n l ∙ ap (λ (ds : List ℕ). ds ++ digit (n % 10) ∷ []) (digits_more k (n / 10) (omega arith)) ∙ sym (digits_large k n l)
]

digits_enough : (more n : ℕ) → digits (more + n) n ≡ decimal n
unfolding decimal
digits_enough zero n = ap (λ (k : ℕ). digits k n) (omega arith)
digits_enough (suc more) n = ap (λ (k : ℕ). digits k n) (suc-add more n) ∙ digits_more (more + n) n (omega arith) ∙ digits_enough more n

pub decimal_small : (n : ℕ) → n < 10 → decimal n ≡ digit n ∷ []
unfolding decimal
decimal_small n h = digits_small n n h

pub decimal_large : (n : ℕ) → 10 ≤ n → decimal n ≡ decimal (n / 10) ++ digit (n % 10) ∷ []
unfolding decimal
decimal_large (suc k) l = digits_large k (suc k) l ∙ ap (λ (ds : List ℕ). ds ++ digit (suc k % 10) ∷ []) (rest k l)
  where
    rest : (j : ℕ) → 10 ≤ suc j → digits j (suc j / 10) ≡ decimal (suc j / 10)
    rest j h = let e : j ≡ j - suc j / 10 + suc j / 10 = omega arith in ap (λ (i : ℕ). digits i (suc j / 10)) e ∙ digits_enough (j - suc j / 10) (suc j / 10)
decimal_large zero l = absurd (omega arith)

-- what holds of each digit alone, and of a number once it holds of the number before its last digit, holds of every number
pub by_digits {ℓ} : (P : ℕ → Type ℓ) → ((n : ℕ) → n < 10 → P n) → ((n : ℕ) → 10 ≤ n → P (n / 10) → P n) → (n : ℕ) → P n
by_digits P one more n = go n n (omega arith)
  where
    go : (k n : ℕ) → n ≤ k → P n
    go zero n h = one n (omega arith)
    go (suc k) n h = elim (small_or_large n) [ inl s ↦ one n s | inr l ↦ more n l (go k (n / 10) (omega arith)) ]

-- ── read back, it is the number ──
read_last_holds : (value : ℕ) (text : List ℕ) (byte : ℕ) → read value (text ++ byte ∷ []) ≡ read value text * 10 + (byte - 48)
unfolding read
read_last_holds value [] byte = refl
read_last_holds value (b ∷ text) byte = read_last_holds (value * 10 + (b - 48)) text byte

pub read_decimal : (n : ℕ) → read 0 (decimal n) ≡ n
unfolding read
read_decimal = by_digits (λ n. read 0 (decimal n) ≡ n) one more
  where
    one : (n : ℕ) → n < 10 → read 0 (decimal n) ≡ n
    one n h = rw (decimal_small n h) (omega arith)

    more : (n : ℕ) → 10 ≤ n → read 0 (decimal (n / 10)) ≡ n / 10 → read 0 (decimal n) ≡ n
    more n h e = rw (decimal_large n h, read_last_holds 0 (decimal (n / 10)) (digit (n % 10)), e) (omega arith)

pub one_digit : (n : ℕ) → n < 10 → length (decimal n) ≡ 1
one_digit n h = ap length (decimal_small n h)

pub one_more : (n : ℕ) → 10 ≤ n → length (decimal n) ≡ length (decimal (n / 10)) + 1
one_more n h = ap length (decimal_large n h) ∙ length-append (decimal (n / 10)) (digit (n % 10) ∷ [])

-- ── every byte is a digit, there is one at least, and the first is `0` of the number 0 alone ──
pub decimal_some : (n : ℕ) → 0 < length (decimal n)
decimal_some n = elim (small_or_large n) [ inl s ↦ omega (arith, one_digit n s) | inr l ↦ omega (arith, one_more n l) ]

pub no_zero_first : (n : ℕ) → at (decimal n) 0 ≡ digit 0 → n ≡ 0
no_zero_first = by_digits (λ n. at (decimal n) 0 ≡ digit 0 → n ≡ 0) one more
  where
    one : (n : ℕ) → n < 10 → at (decimal n) 0 ≡ digit 0 → n ≡ 0
    one n h e = let f : 48 + n ≡ 48 = rw (decimal_small n h) at e in omega arith

    more : (n : ℕ) → 10 ≤ n → (at (decimal (n / 10)) 0 ≡ digit 0 → n / 10 ≡ 0) → at (decimal n) 0 ≡ digit 0 → n ≡ 0
    more n h f e =
        let g : at (decimal (n / 10)) 0 ≡ digit 0 = sym (get_or-append (decimal (n / 10)) (digit (n % 10) ∷ []) 0 0 (decimal_some (n / 10))) ∙ (rw (decimal_large n h) at e) in
        omega (arith, f g)

-- ── how many digits: a number below 10 ^ k has at most k ──
pub decimal_length : (k n : ℕ) → n < 10 ^ suc k → length (decimal n) ≤ suc k
decimal_length zero n h = omega (arith, one_digit n (omega arith))
decimal_length (suc k) n h = elim (small_or_large n) [
  | inl s ↦ omega (arith, one_digit n s)
  | inr l ↦ let b : n < 10 ^ suc k * 10 = rw (pow-suc 10 (suc k)) at h in omega (arith, one_more n l, decimal_length k (n / 10) (omega arith))
]

-- of 64 bits, and of 32
pub digits_64 : (n : ℕ) → n < 18446744073709551616 → length (decimal n) ≤ 20
digits_64 n h = decimal_length 19 n (omega arith)

pub digits_32 : (n : ℕ) → n < 4294967296 → length (decimal n) ≤ 10
digits_32 n h = decimal_length 9 n (omega arith)
