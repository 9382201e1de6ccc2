-- A store into one row of one table is covered by that row's sectors.
use mathlib.Core.Path.{◌≡◌, refl, ap, sym, ◌∙◌, subst}
use mathlib.Core.Logic.{inl, inr}
use mathlib.Core.List.{List, ◌++◌}
use Prim.Native.Nat.{ℕ, zero, suc, ◌+◌, ◌*◌, ◌/◌, ◌%◌, ◌<◌}
use native.Mathlib.Nat.{mod-lt, div-add-mod', div-eq_of_lt, one-mul}
use native.Mathlib.Omega.{arith}
use native.Mathlib.Decide.{dec_lt, ℕ_discrete}
use lib.Dec.{eqb}
use lib.ListN.{length, get_or-eq_default}
use Rattle.tables.specs.Base.{at, if}
use Rattle.tables.specs.Laws.{if_yes, if_no}
use Rattle.tables.specs.Rule.{Rule, Holds, same}
use Rattle.tables.specs.Store.{store, at_store, length_store}
use Rattle.model.specs.declared.sizes.Sizes.{Sizes}
use Rattle.model.specs.Sizes.{sizes_fit}
use Rattle.model.specs.State.{Disk}
use Rattle.layout.specs.Rows.{per_row, row_sector}
use Rattle.layout.specs.Laid.{Table, records, maps, numbers, accounts, limits, parents, highest, place, table, width, rows, sectors_of, begins, table_of, laid}
use Rattle.layout.specs.Touched.{row_at}
use Rattle.layout.specs.Claims.{In, Covers}
use Rattle.layout.proofs.Rows.{some_sectors, same_sector}
use Rattle.layout.proofs.Places.{table_place, spot, holds}
use Rattle.layout.proofs.Sized.{width_some}
use Rattle.layout.proofs.Members.{in_tab, in_front, in_behind}

-- the disk part with these tables
unfoldable pub disk_of : (Table → List ℕ) → Disk
disk_of f = record { records = f records; numbers = f numbers; accounts = f accounts; maps = f maps; limits = f limits; parents = f parents; highest = f highest }

table_in : (f : Table → List ℕ) (t : Table) → table_of (disk_of f) t ≡ f t
unfolding disk_of table_of
table_in f records = refl
table_in f maps = refl
table_in f numbers = refl
table_in f accounts = refl
table_in f limits = refl
table_in f parents = refl
table_in f highest = refl

-- a store into one table
unfoldable pub into : Table → (List ℕ → List ℕ) → Disk → Disk
into t g d = disk_of (λ u. if (eqb (place u) (place t)) (g (table_of d u)) (table_of d u))

module _ (z : Sizes) (fit : Holds (sizes_fit z)) where
  -- every sector of a table is in its row
  in_row : (t : Table) (y : ℕ) → In (begins z t + y) (row_at z t (y / per_row (width z t)))
  unfolding row_at
  in_row t y = let m = per_row (width z t) in
      rw (div-add-mod' y m) at (in_tab m (λ p. begins z t + (y / m * m + p)) 0 (y % m) (omega arith) (omega (arith, mod-lt y (some_sectors (width z t) (width_some z fit t)))))

  -- A store into row r of one table is covered by that row's sectors.
  module _ (t : Table) (r : ℕ) (g : List ℕ → List ℕ)
      (keeps : (l : List ℕ) (y : ℕ) → y < sectors_of z t → ¬ (y / per_row (width z t) ≡ r) → row_sector (width z t) (g l) y ≡ row_sector (width z t) l y) where
    other_rows : (l : List ℕ) (y : ℕ) → y < sectors_of z t → ¬ In (begins z t + y) (row_at z t r) → row_sector (width z t) (g l) y ≡ row_sector (width z t) l y
    other_rows l y there out = keeps l y there (λ e. out (rw e at (in_row t y)))

    kept : (d : Disk) (u : Table) (y : ℕ) → y < sectors_of z u → ¬ In (begins z u + y) (row_at z t r) → row_sector (width z u) (table_of (into t g d) u) y ≡ row_sector (width z u) (table_of d u) y
    unfolding into
    kept d u y there out = elim (ℕ_discrete (place u) (place t)) [
      | yes e ↦ rw (table_in, if_yes (place u) (place t) (g (table_of d u)) (table_of d u) e)
          (subst (λ (v : Table). y < sectors_of z v → ¬ In (begins z v + y) (row_at z t r) → row_sector (width z v) (g (table_of d u)) y ≡ row_sector (width z v) (table_of d u) y)
          (sym (table_place t) ∙ ap table (sym e) ∙ table_place u) (other_rows (table_of d u) y) there out)
      | no e ↦ rw (table_in, if_no (place u) (place t) (g (table_of d u)) (table_of d u) e)
    ]

    covers_row : Covers z (row_at z t r) (into t g)
    unfolding laid
    covers_row d zero h out = refl
    covers_row d (suc x) h out = let p = spot z (suc x) (omega arith) h in
        rw p.is (holds z p.of p.sector p.there (into t g d) ∙ kept d p.of p.sector p.there (rw p.is at out) ∙ sym (holds z p.of p.sector p.there d))

  -- new entries in one row alone
  pub covers_part : (t : Table) (r : ℕ) (w : ℕ → ℕ) → Covers z (row_at z t r) (into t (λ l. store l (λ i. same (i / width z t) r) w))
  covers_part t r w = covers_row t r (λ l. store l rule w) (λ l y there ne. same_sector (width z t) (width_some z fit t) (store l rule w) l y (λ i e. untouched l i (λ c. ne (sym e ∙ c))))
    where
      rule : ℕ → Rule
      rule i = same (i / width z t) r

      untouched : (l : List ℕ) (i : ℕ) → ¬ (i / width z t ≡ r) → at (store l rule w) i ≡ at l i
      untouched l i ne = elim (dec_lt i (length l)) [
        | yes h ↦ elim (at_store l rule w i h) [ inl a ↦ absurd (ne a.0) | inr a ↦ a.1 ]
        | no h ↦ get_or-eq_default (store l rule w) 0 (omega (arith, length_store l rule w)) ∙ sym (get_or-eq_default l 0 (omega arith))
      ]

  -- a table of one row, whatever is stored into it
  pub covers_whole : (t : Table) → rows z t ≡ 1 → (g : List ℕ → List ℕ) → Covers z (row_at z t 0) (into t g)
  covers_whole t one g = covers_row t 0 g (λ l y there ne. absurd (ne (div-eq_of_lt (rw (one, one-mul) at there))))

  -- two stores that are one
  pub covers_both : (xs ys : List ℕ) (f g : Disk → Disk) → Covers z xs f → Covers z ys g → Covers z (xs ++ ys) (λ d. f (g d))
  covers_both xs ys f g a b d x h out = a (g d) x h (λ k. out (in_front xs ys x k)) ∙ b d x h (λ k. out (in_behind xs ys x k))
