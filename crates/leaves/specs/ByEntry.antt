-- A table told by its entries: what a loop that sets a table anew holds on to, and the equation at its end.
use Rattle.std.specs.Prelude.{◌≡◌, refl, List, ℕ, ◌+◌, ◌<◌, ◌≤◌, length, set, replicate}
use Rattle.std.proofs.Common.{sym, ◌∙◌, arith, length-set, ext_get_or, get_or-set_same, get_or-set_other}
use Rattle.std.proofs.Math.Decide.{ℕ_discrete, dec_lt}
use Rattle.std.proofs.lemmas.List.{length-replicate}
use Rattle.tables.specs.Base.{at, tab}
use Rattle.tables.specs.Laws.{at_tab0, length_tab, at_zeros}

-- n entries, entry i being f i
pub record Filled (n : ℕ) (f : ℕ → ℕ) (l : List ℕ) : Type 0 where
  pub long : length l ≡ n
  pub entries : (i : ℕ) → i < n → at l i ≡ f i

module _ {n : ℕ} {f : ℕ → ℕ} {l : List ℕ} (d : Filled n f l) where
  pub filled_is : (m : List ℕ) → Filled n f m → l ≡ m
  filled_is m e = ext_get_or 0 l m (d.long ∙ sym e.long) (λ i h. let k : i < n = omega (arith, d.long) in d.entries i k ∙ sym (e.entries i k))

  pub filled_tab : l ≡ tab n f 0
  filled_tab = filled_is (tab n f 0) (record { long = length_tab n f 0; entries = λ i h. at_tab0 n f i 0 h })

  pub filled_by : {m : List ℕ} → m ≡ l → Filled n f m
  filled_by e = rw e d

  -- other entries, equal to these
  pub filled_same : (g : ℕ → ℕ) → ((i : ℕ) → i < n → f i ≡ g i) → Filled n g l
  filled_same g e = record { long = d.long; entries = λ i h. d.entries i h ∙ e i h }

  -- one entry stored
  pub filled_set : (g : ℕ → ℕ) (j x : ℕ) → x ≡ g j → ((i : ℕ) → i < n → ¬ (i ≡ j) → f i ≡ g i) → Filled n g (set l j x)
  filled_set g j x e o = record {
    long = length-set l j x ∙ d.long;
    entries = λ i h. elim (ℕ_discrete i j) [
      | yes c ↦ rw c (get_or-set_same l j x 0 (omega (arith, c, h, d.long)) ∙ e)
      | no c ↦ get_or-set_other l j i x 0 c ∙ d.entries i h ∙ o i h c
    ];
  }

pub filled_zeros : (n : ℕ) (f : ℕ → ℕ) → ((i : ℕ) → i < n → 0 ≡ f i) → Filled n f (replicate n 0)
filled_zeros n f e = record { long = length-replicate n 0; entries = λ i h. at_zeros n i ∙ e i h }

-- ── a table filled from its first entry up ──
pub record Begun (n : ℕ) (f : ℕ → ℕ) (k : ℕ) (l : List ℕ) : Type 0 where
  pub long : length l ≡ n
  pub so_far : (i : ℕ) → i < k → at l i ≡ f i

pub begun_none : (f : ℕ → ℕ) (l : List ℕ) → Begun (length l) f 0 l
begun_none f l = record { long = refl; so_far = λ i h. absurd (omega (arith, h)) }

module _ {n : ℕ} {f : ℕ → ℕ} {k : ℕ} {l : List ℕ} (d : Begun n f k l) where
  pub begun_on : k < n → (x : ℕ) → x ≡ f k → Begun n f (k + 1) (set l k x)
  begun_on lt x e = record {
    long = length-set l k x ∙ d.long;
    so_far = λ i h. elim (ℕ_discrete i k) [
      | yes c ↦ rw c (get_or-set_same l k x 0 (omega (arith, lt, d.long)) ∙ e)
      | no c ↦ get_or-set_other l k i x 0 c ∙ d.so_far i (omega (arith, h, c))
    ];
  }

  pub begun_by : {m : List ℕ} → m ≡ l → Begun n f k m
  begun_by e = rw e d

  pub begun_all : n ≤ k → Filled n f l
  begun_all h = record { long = d.long; entries = λ i g. d.so_far i (omega (arith, h, g)) }

-- a table of zeros that a loop starts from
pub filled_start : {l : List ℕ} {n : ℕ} (m : ℕ) (f : ℕ → ℕ) → l ≡ replicate n 0 → m ≡ n → ((i : ℕ) → 0 ≡ f i) → Filled m f l
filled_start {l} {n} m f e q z = rw (q, e) (filled_zeros n f (λ i h. z i))

-- ── a table of zeros filled from its first entry up: the others are zeros still ──
pub record Rising (n : ℕ) (f : ℕ → ℕ) (k : ℕ) (l : List ℕ) : Type 0 where
  pub begun : Begun n f k l
  pub still : (i : ℕ) → k ≤ i → i < n → at l i ≡ 0

pub rising_none : (f : ℕ → ℕ) (l : List ℕ) → ((i : ℕ) → i < length l → at l i ≡ 0) → Rising (length l) f 0 l
rising_none f l z = record { begun = begun_none f l; still = λ i a h. z i h }

module _ {n : ℕ} {f : ℕ → ℕ} {k : ℕ} {l : List ℕ} (d : Rising n f k l) where
  pub rising_on : k < n → (x : ℕ) → x ≡ f k → Rising n f (k + 1) (set l k x)
  rising_on lt x e = record {
    begun = begun_on d.begun lt x e;
    still = λ i a h. get_or-set_other l k i x 0 (λ c. omega (arith, a, c)) ∙ d.still i (omega (arith, a)) h;
  }

  -- where zeros are right for the others, all are
  pub rising_all : ((i : ℕ) → k ≤ i → 0 ≡ f i) → Filled n f l
  rising_all z = record {
    long = d.begun.long;
    entries = λ i h. elim (dec_lt i k) [ yes g ↦ d.begun.so_far i g | no g ↦ d.still i (omega (arith, g)) h ∙ z i (omega (arith, g)) ];
  }
