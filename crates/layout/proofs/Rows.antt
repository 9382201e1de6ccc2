-- A table of rows in sectors, over the width of a row: where entry i stands, what stands there, and the table read back.
use mathlib.Core.Path.{◌≡◌, refl, ap, sym, ◌∙◌}
use mathlib.Core.Bool.{Bool, true, false}
use mathlib.Core.List.{List}
use Prim.Native.Nat.{ℕ, ◌+◌, ◌*◌, ◌/◌, ◌%◌, ◌<◌}
use native.Mathlib.Nat.{div-lt_iff_lt-mul, div-add-mod', div-eq_of_lt, mod-lt, mod-eq_of_lt, mul-add-div_right, mul-add-mod_self_right, add-zero}
use native.Mathlib.Omega.{arith}
use lib.Dec.{T, ltb, lt→ltb, ltb→lt}
use lib.ListN.{length}
use Rattle.tables.specs.Base.{at, if}
use Rattle.tables.specs.Laws.{at_tab0, if_true}
use Rattle.tables.specs.TabLaws.{tab_entries, tab_same}
use Rattle.journal.specs.Device.{Sectors, sector_words}
use Rattle.layout.specs.Rows.{per_row, sector_of, word_of, row_sector, read_rows}

-- place k of row r, of rows of m
pub row_is : {m : ℕ} → 0 < m → (r k : ℕ) → k < m → (r * m + k) / m ≡ r
row_is {m} pos r k h = mul-add-div_right pos r k ∙ ap (λ (n : ℕ). r + n) (div-eq_of_lt h) ∙ add-zero r

pub place_is : (m r k : ℕ) → k < m → (r * m + k) % m ≡ k
place_is m r k h = mul-add-mod_self_right r m k ∙ mod-eq_of_lt h

-- a place of a row below c is below c rows
pub rows_below : {m : ℕ} → 0 < m → (c r k : ℕ) → r < c → k < m → r * m + k < c * m
rows_below {m} pos c r k hr hk = (div-lt_iff_lt-mul {k = m} {x = r * m + k} {y = c} pos).0 (rw (row_is pos r k hk) hr)

if_alike : {a b : ℕ} (t : Bool) → (T t → a ≡ b) → if t a 0 ≡ if t b 0
if_alike true f = f tt
if_alike false f = refl

module _ (n : ℕ) (pos : 0 < n) where
  pub some_sectors : 0 < per_row n
  unfolding per_row
  some_sectors = omega arith

  -- which piece of its row has entry i
  piece_below : (i : ℕ) → i % n / 128 < per_row n
  unfolding per_row
  piece_below i = omega (arith, mod-lt i pos)

  -- entry i's sector is one of the table's
  pub sector_below : (c i : ℕ) → i < c * n → sector_of n i < c * per_row n
  unfolding sector_of
  sector_below c i h = rows_below some_sectors c (i / n) (i % n / 128) ((div-lt_iff_lt-mul pos).1 h) (piece_below i)

  -- word j of sector y
  abbrev word : List ℕ → ℕ → ℕ → ℕ
  word l y j = if (ltb (y % per_row n * 128 + j) n) (at l (y / per_row n * n + (y % per_row n * 128 + j))) 0

  -- entry i stands in its sector, at its word
  pub stands : (l : List ℕ) (i : ℕ) → at (row_sector n l (sector_of n i)) (word_of n i) ≡ at l i
  unfolding sector_of word_of row_sector
  stands l i =
      let k = i % n in
      let a : sector_of n i / per_row n ≡ i / n = row_is some_sectors (i / n) (k / 128) (piece_below i) in
      let b : sector_of n i % per_row n ≡ k / 128 = place_is (per_row n) (i / n) (k / 128) (piece_below i) in
      let c : k / 128 * 128 + k % 128 ≡ k = div-add-mod' k 128 in
      at_tab0 sector_words (word l (sector_of n i)) (k % 128) 0 (mod-lt k (omega arith))
      ∙ rw (a, b, c) (if_true (ltb k n) (at l (i / n * n + k)) 0 (lt→ltb k n (mod-lt i pos)) ∙ ap (at l) (div-add-mod' i n))

  -- The table read back from its sectors is the table.
  pub rows_back : (c : ℕ) (l : List ℕ) (f : Sectors) → length l ≡ c * n → ((y : ℕ) → y < c * per_row n → f y ≡ row_sector n l y) → read_rows n (c * n) f ≡ l
  unfolding read_rows
  rows_back c l f e g = sym (tab_entries (c * n) (λ i. at (f (sector_of n i)) (word_of n i)) l e (λ i h. sym (rw (g (sector_of n i) (sector_below c i h)) (stands l i))))

  -- A sector whose row has the same entries is the same.
  pub same_sector : (l m : List ℕ) (y : ℕ) → ((i : ℕ) → i / n ≡ y / per_row n → at l i ≡ at m i) → row_sector n l y ≡ row_sector n m y
  unfolding row_sector
  same_sector l m y f = tab_same sector_words (word l y) (word m y) (λ j h. let k = y % per_row n * 128 + j in if_alike (ltb k n) (λ t. f (y / per_row n * n + k) (row_is pos (y / per_row n) k (ltb→lt k n t))))
