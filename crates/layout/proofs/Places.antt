-- Which table has a home sector, over the table's number: every sector behind the header is one sector of one table.
use mathlib.Core.Path.{◌≡◌, refl, ap, sym, ◌∙◌}
use Prim.Native.Nat.{ℕ, zero, suc, ◌+◌, ◌-◌, ◌<◌, ◌≤◌}
use native.Mathlib.Nat.{add-zero, add-suc, add-sub_of_le, add-sub_cancel_left}
use native.Mathlib.Omega.{arith}
use native.Mathlib.Decide.{dec_lt, ℕ_discrete}
use lib.Dec.{ltb, lt→ltb, ltb→lt}
use Rattle.tables.specs.FindLaws.{find_at, find_none}
use Rattle.tables.specs.Laws.{if_false}
use Rattle.model.specs.declared.sizes.Sizes.{Sizes}
use Rattle.model.specs.State.{Disk}
use Rattle.layout.specs.Rows.{row_sector}
use Rattle.layout.specs.Laid.{Table, records, maps, numbers, accounts, limits, parents, highest, place, table, width, sectors_of, before, begins, room, header, table_at, table_of, laid}

-- the order of the tables, there and back
pub table_place : (t : Table) → table (place t) ≡ t
unfolding table place
table_place records = refl
table_place maps = refl
table_place numbers = refl
table_place accounts = refl
table_place limits = refl
table_place parents = refl
table_place highest = refl

pub place_below : (t : Table) → place t < 7
unfolding place
place_below records = omega arith
place_below maps = omega arith
place_below numbers = omega arith
place_below accounts = omega arith
place_below limits = omega arith
place_below parents = omega arith
place_below highest = omega arith

pub place_table : (k : ℕ) → k < 7 → place (table k) ≡ k
unfolding table place
place_table zero h = refl
place_table (suc zero) h = refl
place_table (suc (suc zero)) h = refl
place_table (suc (suc (suc zero))) h = refl
place_table (suc (suc (suc (suc zero)))) h = refl
place_table (suc (suc (suc (suc (suc zero))))) h = refl
place_table (suc (suc (suc (suc (suc (suc k)))))) h = omega arith

module _ (z : Sizes) where
  -- later tables begin later, and none at the header
  grows : (j d : ℕ) → before z j ≤ before z (j + d)
  unfolding before
  grows j zero = rw (add-zero j) (omega arith)
  grows j (suc d) = rw (add-suc j d) (omega (arith, grows j d))

  pub rises : {j k : ℕ} → j ≤ k → before z j ≤ before z k
  rises {j} {k} h = rw (add-sub_of_le h) at (grows j (k - j))

  pub begins_late : (k : ℕ) → 0 < before z k
  unfolding before
  begins_late k = let h : before z 0 ≤ before z k = rises {j = 0} {k = k} (omega arith) in omega arith

  -- a sector from where table k begins to where the next one does is of table k
  pub table_is : (k x : ℕ) → k < 7 → before z k ≤ x → x < before z (suc k) → table_at z x ≡ table k
  unfolding table_at
  table_is k x small from to = ap table (elim (ℕ_discrete k 6) [
    | yes e ↦ find_none 6 (λ j. ltb x (before z (suc j))) 0 (λ j h l t. earlier j (omega arith) (ltb→lt x (before z (suc j)) t)) ∙ sym e
    | no e ↦ find_at 6 (λ j. ltb x (before z (suc j))) 0 k (omega arith) (omega arith) (lt→ltb x (before z (suc k)) to) (λ j h l t. earlier j l (ltb→lt x (before z (suc j)) t))
  ])
    where
      earlier : (j : ℕ) → j < k → ¬ (x < before z (suc j))
      earlier j l h = omega (arith, rises {j = suc j} {k = k} l)

  -- sector y of a table
  module _ (t : Table) (y : ℕ) (there : y < sectors_of z t) where
    pub ends : begins z t + y < before z (suc (place t))
    unfolding before
    ends = rw (table_place t) (omega arith)

    pub table_of_holds : table_at z (begins z t + y) ≡ t
    table_of_holds = table_is (place t) (begins z t + y) (place_below t) (omega arith) ends ∙ table_place t

    pub is_home : begins z t + y < room z
    unfolding room
    is_home = omega (arith, ends, rises {j = suc (place t)} {k = 7} (place_below t))

    pub behind_header : 0 < begins z t + y
    behind_header = omega (arith, begins_late (place t))

    -- what it holds
    pub holds : (d : Disk) → laid z d (begins z t + y) ≡ row_sector (width z t) (table_of d t) y
    unfolding laid
    holds d = let x = begins z t + y in
        if_false (ltb x 1) (header z) (row_sector (width z (table_at z x)) (table_of d (table_at z x)) (x - begins z (table_at z x))) (λ h. omega (arith, ltb→lt x 1 h, behind_header))
        ∙ rw (table_of_holds, add-sub_cancel_left)

  -- a home sector behind the header, as a sector of its table
  pub record Spot (x : ℕ) : Type 0 where
    pub of : Table
    pub sector : ℕ
    pub there : sector < sectors_of z of
    pub is : x ≡ begins z of + sector

  -- which of the first m tables has it
  which : (m x : ℕ) → 0 < x → x < before z m → (k : ℕ) × (k < m) × (before z k ≤ x) × (x < before z (suc k))
  unfolding before
  which zero x pos h = absurd (omega arith)
  which (suc m) x pos h = elim (dec_lt x (before z m)) [ yes l ↦ (let r = which m x pos l in (r.0, omega (arith, r.1), r.2, r.3)) | no l ↦ (m, omega arith, omega arith, h) ]

  pub spot : (x : ℕ) → 0 < x → x < room z → Spot x
  unfolding room before
  spot x pos h = let r = which 7 x pos h in let p = place_table r.0 r.1 in record {
    of = table r.0;
    sector = x - before z r.0;
    there = omega (arith, r.2, r.3);
    is = rw p (sym (add-sub_of_le r.2));
  }
