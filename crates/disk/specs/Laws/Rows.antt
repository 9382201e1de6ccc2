-- Laws of a table's sectors: which entries a sector holds, as code cuts them out; and the table after all of its sectors were taken.
use Rattle.std.specs.Prelude.{◌≡◌, ◌⊎◌, List, ltb, length}
use Rattle.std.proofs.Math.Path.{refl, ap, sym}
use Rattle.std.proofs.Common.{◌∙◌, div-add-mod', div-lt_iff_lt-mul, mul-le-mul_left, mul_assoc, not-suc-le-zero, lt-ltb, le-ltb}
use Rattle.std.proofs.Math.Logic.{inl, inr}
use Prim.Native.Nat.{ℕ, zero, suc, ◌+◌, ◌-◌, ◌*◌, ◌/◌, ◌%◌, ◌<◌, ◌≤◌}
use native.Mathlib.Omega.{arith}
use Rattle.std.proofs.Math.Nat.{mod-lt}
use Rattle.std.proofs.Math.Decide.{dec_lt, ℕ_discrete}
use Rattle.std.proofs.Math.Arith.{digits_div, digits_mod}
use Rattle.tables.specs.Base.{at, if, tab}
use Rattle.tables.specs.Rule.{Holds}
use Rattle.tables.specs.Store.{store, at_store, length_store}
use Rattle.tables.specs.StoreLoops.{between, store_same, inside_part, inside_rest, part_fits}
use Rattle.tables.specs.TabLaws.{tab_same, tab_entries}
use Rattle.journal.specs.Device.{Content, Sectors}
use Rattle.layout.specs.Rows.{per_row, sector_of, word_of, row_sector, read_rows}
use Rattle.disk.specs.Taken.{in_sector, taken, taken_all}

-- ── a sector's piece of its row ──
-- which entry of the row comes first, how many there are, and which entry of the table that is
abbrev pub first_of : ℕ → ℕ → ℕ
first_of n y = y % per_row n * 128

unfoldable pub count_of : ℕ → ℕ → ℕ
count_of n y = let rest = n - first_of n y in if (ltb rest 128) rest 128

abbrev pub start_of : ℕ → ℕ → ℕ
start_of n y = y / per_row n * n + first_of n y

-- As code cuts it out. Where a row has no entries, neither has the piece.
pub record Cut (n y start count : ℕ) : Type 0 where
  pub from : 0 < n → start ≡ start_of n y
  pub many : count ≡ count_of n y
  pub small : start + 128 < 18446744073709551616

-- ── numbers ──
pub per_row_holds : (n : ℕ) → 0 < n → (0 < per_row n) × (n ≤ per_row n * 128) × (per_row n * 128 < n + 128)
unfolding per_row
per_row_holds n h = (omega arith, omega arith, omega arith)

pub first_below : (n y : ℕ) → 0 < n → first_of n y < n
first_below n y h = let p = per_row_holds n h in omega (arith, mod-lt y p.0, p.2)

-- rows are no more than the sectors that they take
pub row_small : (n y : ℕ) → 0 < n → y / per_row n * n ≤ 128 * y
row_small n y h =
    let p = per_row_holds n h in
    let q = y / per_row n in
    let a : q * n ≤ q * (per_row n * 128) = mul-le-mul_left q p.1 in
    let b : q * (per_row n * 128) ≡ q * per_row n * 128 = sym (mul_assoc q (per_row n) 128) in
    omega (arith, a, b, div-add-mod' y (per_row n))

-- at most 128 entries, and none past the row
count_cases : (n y : ℕ) → ((n - first_of n y < 128) × (count_of n y ≡ n - first_of n y)) ⊎ ((128 ≤ n - first_of n y) × (count_of n y ≡ 128))
unfolding count_of
count_cases n y = elim (dec_lt (n - first_of n y) 128) [
  | yes l ↦ inl (l, rw (lt-ltb (n - first_of n y) 128 l))
  | no l ↦ let g : 128 ≤ n - first_of n y = omega arith in inr (g, rw (le-ltb (n - first_of n y) 128 g))
]

pub count_rest : (n y : ℕ) → n - first_of n y < 128 → n - first_of n y ≡ count_of n y
unfolding count_of
count_rest n y l = rw (lt-ltb (n - first_of n y) 128 l)

pub count_full : (n y : ℕ) → 128 ≤ n - first_of n y → 128 ≡ count_of n y
unfolding count_of
count_full n y l = rw (le-ltb (n - first_of n y) 128 l)

-- none where a row has no entries
pub count_none : (y : ℕ) → 0 ≡ count_of 0 y
count_none y = elim (count_cases 0 y) [ inl x ↦ omega (arith, x.1) | inr x ↦ absurd (omega (arith, x.0)) ]

-- ── a sector that is filled ──
module _ (n y start count : ℕ) (cut : Cut n y start count) where
  word_of_holds : (table : List ℕ) (j : ℕ) → j < 128 → if (ltb j count) (at table (start + j)) 0 ≡ if (ltb (first_of n y + j) n) (at table (y / per_row n * n + (first_of n y + j))) 0
  word_of_holds table j h = elim (dec_lt (first_of n y + j) n) [
    | yes l ↦
        let small : j < count = elim (count_cases n y) [ inl x ↦ omega (arith, cut.many, x.1) | inr x ↦ omega (arith, cut.many, x.1) ] in
        let e : start + j ≡ y / per_row n * n + (first_of n y + j) = omega (arith, cut.from (omega arith)) in
        rw (lt-ltb j count small, lt-ltb (first_of n y + j) n l, e)
    | no l ↦
        let large : count ≤ j = elim (count_cases n y) [ inl x ↦ omega (arith, cut.many, x.1) | inr x ↦ omega (arith, cut.many, x.1, x.0) ] in
        rw (le-ltb j count large, le-ltb (first_of n y + j) n (omega arith))
  ]

  pub filled_row : (table : List ℕ) → tab 128 (λ j. if (ltb j count) (at table (start + j)) 0) 0 ≡ row_sector n table y
  unfolding row_sector
  filled_row table = tab_same 128 (λ j. if (ltb j count) (at table (start + j)) 0) (λ j. if (ltb (first_of n y + j) n) (at table (y / per_row n * n + (first_of n y + j))) 0) (word_of_holds table)

-- ── the piece as code cuts it out ──
pub cut_none : (n y : ℕ) → n ≡ 0 → Cut n y 0 0
cut_none n y e = record { from = λ h. absurd (omega arith); many = rw e (count_none y); small = omega arith }

module _ (n y : ℕ) (some : 0 < n) (n-small : n < 4294967296) (y-small : y < 4294967296) where
  pub first_fits : first_of n y < 18446744073709551616
  first_fits = omega (arith, first_below n y some)

  pub row_fits : y / per_row n * n < 18446744073709551616
  row_fits = omega (arith, row_small n y some)

  pub start_fits : start_of n y + 128 < 18446744073709551616
  start_fits = omega (arith, row_small n y some, first_below n y some)

  pub cut_rest : n - first_of n y < 128 → Cut n y (start_of n y) (n - first_of n y)
  cut_rest l = record { from = λ h. refl; many = count_rest n y l; small = start_fits }

  pub cut_full : 128 ≤ n - first_of n y → Cut n y (start_of n y) 128
  cut_full l = record { from = λ h. refl; many = count_full n y l; small = start_fits }

-- ── which entries a sector holds ──
-- where to stop: at the piece's end, or at the table's
pub record End (start count len end : ℕ) : Type 0 where
  pub in_piece : end ≤ start + count
  pub in_table : end ≤ len
  pub both : (i : ℕ) → i < len → i < start + count → i < end

module _ (n y : ℕ) (some : 0 < n) where
  -- where entry i is in sector y, its row is that of the sector, and so is its piece of the row
  row_of : (i : ℕ) → sector_of n i ≡ y → (y / per_row n ≡ i / n) × (y % per_row n ≡ i % n / 128)
  unfolding sector_of
  row_of i e =
      let p = per_row_holds n some in
      let d : i % n / 128 < per_row n = omega (arith, mod-lt i some, p.1) in
      let q : y / per_row n ≡ i / n = ap (λ (x : ℕ). x / per_row n) (sym e) ∙ digits_div (i / n) d in
      let r : y % per_row n ≡ i % n / 128 = ap (λ (x : ℕ). x % per_row n) (sym e) ∙ digits_mod (i / n) d in
      (q, r)

  pub held_inside : (i : ℕ) → sector_of n i ≡ y → (start_of n y ≤ i) × (i < start_of n y + count_of n y)
  held_inside i e =
      let r = row_of i e in
      let a : y / per_row n * n ≡ i / n * n = ap (λ (x : ℕ). x * n) r.0 in
      let b : i / n * n + i % n ≡ i = div-add-mod' i n in
      let low : start_of n y ≤ i = omega (arith, a, b, r.1) in
      (low, elim (count_cases n y) [ inl x ↦ omega (arith, a, b, r.1, x.1, mod-lt i some) | inr x ↦ omega (arith, a, b, r.1, x.1) ])

  -- .. and back
  inside_row : (i : ℕ) → start_of n y ≤ i → i < start_of n y + count_of n y → Holds (between (y / per_row n * n) (y / per_row n * n + n) i)
  inside_row i a b = (λ h. omega arith, elim (count_cases n y) [ inl x ↦ omega (arith, b, x.1, first_below n y some) | inr x ↦ omega (arith, b, x.1, x.0) ])

  pub inside_held : (i : ℕ) → start_of n y ≤ i → i < start_of n y + count_of n y → (sector_of n i ≡ y) × (word_of n i ≡ i - start_of n y)
  unfolding sector_of word_of
  inside_held i a b =
      let t = inside_row i a b in
      let q : i / n ≡ y / per_row n = inside_part n (y / per_row n) some i t in
      let r : y / per_row n * n + i % n ≡ i = inside_rest n (y / per_row n) some i t in
      let c : count_of n y ≤ 128 = elim (count_cases n y) [ inl x ↦ omega (arith, x.0, x.1) | inr x ↦ omega (arith, x.1) ] in
      let d : i % n / 128 ≡ y % per_row n = omega (arith, a, b, c, r) in
      (rw (q, d) (div-add-mod' y (per_row n)), omega (arith, a, b, c, r))

-- ── a sector that is taken ──
module _ (n y start count end : ℕ) (c : Content) (table : List ℕ) (cut : Cut n y start count) (stop : End start count (length table) end) where
  pub taken_piece : store table (between start end) (λ i. at c (i - start)) ≡ taken n y c table
  unfolding taken
  taken_piece = store_same table (between start end) (in_sector n y) (λ i. at c (i - start)) (λ i. at c (word_of n i)) to back same_word
    where
      -- a piece that holds an entry is of a row that has some
      some : (i : ℕ) → Holds (between start end i) → 0 < n
      some i h = elim (dec_lt 0 n) [ yes s ↦ s | no s ↦ let z : n ≡ 0 = omega arith in let m : count ≡ 0 = cut.many ∙ ap (λ (k : ℕ). count_of k y) z ∙ sym (count_none y) in absurd (h.0 (omega (arith, h.1, m, stop.in_piece))) ]

      inside : (i : ℕ) → Holds (between start end i) → (sector_of n i ≡ y) × (word_of n i ≡ i - start_of n y)
      inside i h = let s = some i h in inside_held n y s i (omega (arith, h.0, cut.from s)) (omega (arith, h.1, cut.from s, cut.many, stop.in_piece))

      to : (i : ℕ) → i < length table → Holds (between start end i) → Holds (in_sector n y i)
      to i l h = (some i h, (inside i h).0)

      back : (i : ℕ) → i < length table → Holds (in_sector n y i) → Holds (between start end i)
      back i l h = let e = cut.from h.0 in let b = held_inside n y h.0 i h.1 in (λ x. omega (arith, x, b.0, e), stop.both i l (omega (arith, b.1, e, cut.many)))

      same_word : (i : ℕ) → i < length table → Holds (in_sector n y i) → at c (i - start) ≡ at c (word_of n i)
      same_word i l h = let w = (inside i (back i l h)).1 in ap (at c) (sym (w ∙ ap (λ (k : ℕ). i - k) (sym (cut.from h.0))))

-- what the code asks of a piece that was cut out
pub cut_count : {n y start count : ℕ} → Cut n y start count → count ≤ 128
cut_count {n} {y} cut = elim (count_cases n y) [ inl x ↦ omega (arith, cut.many, x.0, x.1) | inr x ↦ omega (arith, cut.many, x.1) ]

-- ── the table after all of its sectors were taken ──
module _ (n : ℕ) (f : Sectors) (table : List ℕ) (some : 0 < n) where
  pub length_taken : (k : ℕ) → length (taken_all n f k table) ≡ length table
  unfolding taken_all taken
  length_taken zero = refl
  length_taken (suc k) = length_store (taken_all n f k table) (in_sector n k) (λ i. at (f k) (word_of n i)) ∙ length_taken k

  -- an entry of a sector that was taken is as that sector has it
  pub at_taken : (k i : ℕ) → i < length table → sector_of n i < k → at (taken_all n f k table) i ≡ at (f (sector_of n i)) (word_of n i)
  unfolding taken_all taken
  at_taken zero i l h = absurd (not-suc-le-zero h)
  at_taken (suc k) i l h = elim (at_store (taken_all n f k table) (in_sector n k) (λ j. at (f k) (word_of n j)) i (omega (arith, l, length_taken k))) [
    | inl x ↦ x.1 ∙ ap (λ (y : ℕ). at (f y) (word_of n i)) (sym x.0.1)
    | inr x ↦ x.1 ∙ at_taken k i l (elim (ℕ_discrete (sector_of n i) k) [ yes e ↦ absurd (x.0 (some, e)) | no e ↦ omega (arith, h, e) ])
  ]

-- every entry of r rows is in one of their sectors
pub in_sectors : (n r i : ℕ) → 0 < n → i < r * n → sector_of n i < r * per_row n
unfolding sector_of
in_sectors n r i some h =
    let p = per_row_holds n some in
    let q : i / n < r = (div-lt_iff_lt-mul some).1 h in
    let d : i % n / 128 < per_row n = omega (arith, mod-lt i some, p.1) in
    let m : i / n * per_row n + per_row n ≤ r * per_row n = part_fits r (per_row n) (i / n) q in
    omega (arith, m, d)

-- A table of r rows, whatever it held, is what the sectors say once each of them was taken.
pub taken_is : (n r : ℕ) (f : Sectors) (table : List ℕ) → 0 < n → length table ≡ r * n → taken_all n f (r * per_row n) table ≡ read_rows n (r * n) f
unfolding read_rows
taken_is n r f table some long = tab_entries (r * n) (λ i. at (f (sector_of n i)) (word_of n i)) (taken_all n f (r * per_row n) table) (length_taken n f table some (r * per_row n) ∙ long)
    (λ i h. at_taken n f table some (r * per_row n) i (omega (arith, h, long)) (in_sectors n r i some h))
