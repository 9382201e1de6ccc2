-- The states and owners that a pass over the maps gives: after k entries, the records that these list are filed under their slots.
use Rattle.std.specs.Prelude.{◌≡◌, refl, Bool, true, false, List, ℕ, suc, ◌+◌, ◌-◌, ◌/◌, ◌<◌, T, eqb, set}
use Rattle.std.proofs.Common.{ap, sym, ◌∙◌, add-one, arith, eqb→eq}
use Rattle.std.proofs.Math.Bool.{or-false}
use borrow.Author.Tests.{ne_eqb}
use Rattle.tables.specs.Base.{if, any, find, tab}
use Rattle.tables.specs.Laws.{any_elim, any_intro, found, eq→T, if_true}
use Rattle.tables.specs.FindLaws.{find_at}
use Rattle.tables.specs.Rule.{Holds}
use Rattle.model.specs.Rules.{once}
use Rattle.model.specs.Lines.{FREE, FILED}
use Rattle.leaves.specs.ByEntry.{Filled, filled_same, filled_set}

-- one of the first n entries lists the record; the first that does
abbrev pub listed : ℕ → (ℕ → ℕ) → ℕ → Bool
listed n map r = any n λ i. eqb (map i) (suc r)

abbrev pub lister : ℕ → (ℕ → ℕ) → ℕ → ℕ
lister n map r = find n (λ i. eqb (map i) (suc r)) 0

-- listed ones filed, others free
abbrev pub state_by : ℕ → (ℕ → ℕ) → ℕ → ℕ
state_by n map r = if (listed n map r) FILED FREE

abbrev pub owner_by : ℕ → ℕ → (ℕ → ℕ) → ℕ → ℕ
owner_by n pages map r = if (listed n map r) (lister n map r / pages) 0

abbrev pub filed_states : ℕ → ℕ → (ℕ → ℕ) → List ℕ
filed_states records n map = tab records (state_by n map) 0

abbrev pub filed_owners : ℕ → ℕ → ℕ → (ℕ → ℕ) → List ℕ
filed_owners records n pages map = tab records (owner_by n pages map) 0

-- ── before the first entry ──
pub state_none : (map : ℕ → ℕ) (r : ℕ) → 0 ≡ state_by 0 map r
unfolding any
state_none map r = refl

pub owner_none : (pages : ℕ) (map : ℕ → ℕ) (r : ℕ) → 0 ≡ owner_by 0 pages map r
unfolding any
owner_none pages map r = refl

module _ (map : ℕ → ℕ) (k r : ℕ) where
  abbrev lists : ℕ → Bool
  lists i = eqb (map i) (suc r)

  -- ── a record that entry k does not list ──
  listed_other : ¬ (map k ≡ suc r) → listed k map r ≡ listed (k + 1) map r
  unfolding any
  listed_other d = rw (add-one k, ne_eqb (map k) (suc r) d) (sym (or-false (any k lists)))

  lister_other : T (listed k map r) → lister k map r ≡ lister (k + 1) map r
  lister_other t =
      let s = any_elim k lists t in
      let f = found k lists 0 s.0 (omega arith) (omega (arith, s.1)) s.2 in
      sym (find_at (k + 1) lists 0 (find k lists 0) (omega arith) (omega (arith, f.inside)) f.passes f.first)

  pub state_other : ¬ (map k ≡ suc r) → state_by k map r ≡ state_by (k + 1) map r
  state_other d = ap (λ (b : Bool). if b FILED FREE) (listed_other d)

  pub owner_other : (pages : ℕ) → ¬ (map k ≡ suc r) → owner_by k pages map r ≡ owner_by (k + 1) pages map r
  owner_other pages d = go (listed k map r) refl
    where
      go : (b : Bool) → listed k map r ≡ b → owner_by k pages map r ≡ owner_by (k + 1) pages map r
      go true e = rw (← listed_other d, e) (ap (λ (n : ℕ). n / pages) (lister_other (rw e tt)))
      go false e = rw (← listed_other d, e)

  -- ── the record that it lists ──
  listed_on : map k ≡ suc r → T (listed (k + 1) map r)
  listed_on e = any_intro (k + 1) lists k (omega arith) (eq→T e)

  pub state_on : map k ≡ suc r → FILED ≡ state_by (k + 1) map r
  state_on e = sym (if_true (listed (k + 1) map r) FILED FREE (listed_on e))

  -- no entry before it does
  pub owner_on : (n pages : ℕ) → Holds (once n map) → k < n → map k ≡ suc r → k / pages ≡ owner_by (k + 1) pages map r
  owner_on n pages o h e =
      let f : lister (k + 1) map r ≡ k = find_at (k + 1) lists 0 k (omega arith) (omega arith) (eq→T e) (λ j a b t. omega (arith, o j (omega (arith, b, h)) k h r (eqb→eq _ _ t) e, b)) in
      ap (λ (j : ℕ). j / pages) (sym f) ∙ sym (if_true (listed (k + 1) map r) (lister (k + 1) map r / pages) 0 (listed_on e))

-- ── a turn of the pass ──
module _ (map : ℕ → ℕ) (k : ℕ) {n : ℕ} {l : List ℕ} where
  pub state_turn : Filled n (state_by k map) l → ¬ (map k ≡ 0) → Filled n (state_by (k + 1) map) (set l (map k - 1) FILED)
  state_turn d nz = filled_set d (state_by (k + 1) map) (map k - 1) FILED (state_on map k (map k - 1) (omega arith)) (λ i h e. state_other map k i (λ c. e (omega (arith, c))))

  pub state_pass : Filled n (state_by k map) l → map k ≡ 0 → Filled n (state_by (k + 1) map) l
  state_pass d z = filled_same d (state_by (k + 1) map) (λ i h. state_other map k i (λ c. omega (arith, c, z)))

  module _ (pages : ℕ) where
    pub owner_turn : (m : ℕ) → Holds (once m map) → k < m → Filled n (owner_by k pages map) l → ¬ (map k ≡ 0) → Filled n (owner_by (k + 1) pages map) (set l (map k - 1) (k / pages))
    owner_turn m o h d nz = filled_set d (owner_by (k + 1) pages map) (map k - 1) (k / pages) (owner_on map k (map k - 1) m pages o h (omega arith)) (λ i l e. owner_other map k i pages (λ c. e (omega (arith, c))))

    pub owner_pass : Filled n (owner_by k pages map) l → map k ≡ 0 → Filled n (owner_by (k + 1) pages map) l
    owner_pass d z = filled_same d (owner_by (k + 1) pages map) (λ i h. owner_other map k i pages (λ c. omega (arith, c, z)))
