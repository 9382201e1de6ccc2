-- Tables by rows, and rules that are alike number by number.
use mathlib.Core.Path.{◌≡◌, ◌∙◌, subst}
use Prim.Native.Nat.{ℕ, suc, min, ◌+◌, ◌*◌, ◌/◌, ◌%◌, ◌<◌, ◌≤◌}
use native.Mathlib.Nat.{mod-lt, div-add-mod', div-lt_iff_lt-mul, mul-add-div_right, div-eq_of_lt, mul-le-mul_right, suc-mul}
use native.Mathlib.Omega.{arith}
use lib.ListN.{replicate}
use Rattle.tables.specs.Base.{at}
use Rattle.tables.specs.Rule.{Rule, same, each, Holds, test, alike, sound, complete}
use Rattle.tables.specs.Laws.{at_zeros}

-- a table of zeros
pub all_zero : (n : ℕ) → Holds (each n (λ r. same (at (replicate n 0) r) 0))
all_zero n r h = at_zeros n r

-- the words of a bit for each of r
pub words_told : {q : ℕ} (r : ℕ) → q ≡ r / 32 + min 1 (r % 32) → q ≡ (r + 31) / 32
words_told r e = omega arith

-- ── pages by slot ──
module _ (slots pages : ℕ) (pos : 0 < pages) (P : ℕ → ℕ → Type 0) where
  -- what holds of each page of each row holds of each page
  pub by_row : ((s : ℕ) → s < slots → (p : ℕ) → p < pages → P s (s * pages + p)) → (i : ℕ) → i < slots * pages → P (i / pages) i
  by_row f i h = subst (λ (x : ℕ). P (i / pages) x) (div-add-mod' i pages) (f (i / pages) ((div-lt_iff_lt-mul pos).1 h) (i % pages) (mod-lt i pos))

  in_slot : (s p : ℕ) → p < pages → (s * pages + p) / pages ≡ s
  in_slot s p h = mul-add-div_right pos s p ∙ (let e : p / pages ≡ 0 = div-eq_of_lt h in omega arith)

  inside : (s p : ℕ) → s < slots → p < pages → s * pages + p < slots * pages
  inside s p h l = let k : suc s * pages ≤ slots * pages = mul-le-mul_right pages h in let e : suc s * pages ≡ s * pages + pages = suc-mul s pages in omega arith

  -- .. and back
  pub of_row : ((i : ℕ) → i < slots * pages → P (i / pages) i) → (s : ℕ) → s < slots → (p : ℕ) → p < pages → P s (s * pages + p)
  of_row f s h p l = subst (λ (x : ℕ). P x (s * pages + p)) (in_slot s p l) (f (s * pages + p) (inside s p h l))

-- ── equal rules, number by number ──
pub each_same : (n : ℕ) (f g : ℕ → Rule) → ((i : ℕ) → i < n → test (f i) ≡ test (g i)) → test (each n f) ≡ test (each n g)
each_same n f g e = alike (each n f) (each n g) (λ h i l. sound (g i) (rw (← e i l) (complete (f i) (h i l)))) (λ h i l. sound (f i) (rw (e i l) (complete (g i) (h i l))))
