-- A list of n numbers as a loop of code fills it: its first i entries stand.
use Rattle.std.specs.Prelude.{◌≡◌, List, ℕ, ◌+◌, ◌<◌, ◌≤◌, length, set}
use Rattle.std.proofs.Common.{◌∙◌, arith, not-suc-le-zero, length-set, get_or-set_same, get_or-set_other}
use Rattle.std.proofs.Math.Decide.{ℕ_discrete}
use Rattle.tables.specs.Base.{at, tab}
use Rattle.tables.specs.TabLaws.{tab_entries}

pub record Filling (n : ℕ) (f : ℕ → ℕ) (i : ℕ) (l : List ℕ) : Type 0 where
  pub long : length l ≡ n
  pub stands : (k : ℕ) → k < i → at l k ≡ f k

pub filling_none : (n : ℕ) (f : ℕ → ℕ) (l : List ℕ) → length l ≡ n → Filling n f 0 l
filling_none n f l e = record { long = e; stands = λ k h. absurd (not-suc-le-zero h) }

pub filling_next : {n : ℕ} {f : ℕ → ℕ} {l : List ℕ} (i x : ℕ) → i < n → x ≡ f i → Filling n f i l → Filling n f (i + 1) (set l i x)
filling_next {n} {f} {l} i x h e s = record {
  long = length-set l i x ∙ s.long;
  stands = λ k b. elim (ℕ_discrete k i) [
    | yes c ↦ rw c (get_or-set_same l i x 0 (omega (arith, s.long)) ∙ e)
    | no c ↦ get_or-set_other l i k x 0 c ∙ s.stands k (omega arith)
  ];
}

pub filling_to : {n : ℕ} {f : ℕ → ℕ} {l : List ℕ} {i : ℕ} (j : ℕ) → i ≡ j → Filling n f i l → Filling n f j l
filling_to j e s = rw e at s

pub filling_whole : {n : ℕ} {f : ℕ → ℕ} {l : List ℕ} (i : ℕ) → n ≤ i → Filling n f i l → l ≡ tab n f 0
filling_whole {n} {f} {l} i h s = tab_entries n f l s.long (λ k b. s.stands k (omega arith))
