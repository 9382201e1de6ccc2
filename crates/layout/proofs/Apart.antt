-- No two rows share a sector, and every row stands behind the header, in the home sectors.
use mathlib.Core.Path.{◌≡◌, ap, sym, ◌∙◌}
use Prim.Native.Nat.{ℕ, ◌+◌, ◌-◌, ◌*◌, ◌/◌, ◌<◌}
use native.Mathlib.Nat.{add-sub_cancel_left}
use native.Mathlib.Omega.{arith}
use Rattle.tables.specs.Rule.{Holds}
use Rattle.model.specs.declared.sizes.Sizes.{Sizes}
use Rattle.model.specs.Sizes.{sizes_fit}
use Rattle.layout.specs.Rows.{per_row}
use Rattle.layout.specs.Laid.{Table, width, rows, sectors_of, begins, room, table_at}
use Rattle.layout.specs.Touched.{row_at}
use Rattle.layout.specs.Claims.{In, Apart, Inside}
use Rattle.layout.proofs.Rows.{row_is, rows_below, some_sectors}
use Rattle.layout.proofs.Places.{table_of_holds, is_home, behind_header}
use Rattle.layout.proofs.Sized.{width_some}
use Rattle.layout.proofs.Members.{of_tab}

module _ (z : Sizes) (fit : Holds (sizes_fit z)) where
  -- which row of a table has a sector
  abbrev row_of : ℕ → Table → ℕ
  row_of x t = (x - begins z t) / per_row (width z t)

  module _ (t : Table) (r x : ℕ) (there : r < rows z t) (here : In x (row_at z t r)) where
    -- piece p of row r
    piece : (p : ℕ) × (p < per_row (width z t)) × (x ≡ begins z t + (r * per_row (width z t) + p))
    unfolding row_at
    piece = let m = of_tab (per_row (width z t)) (λ p. begins z t + (r * per_row (width z t) + p)) 0 x here in (m.0, omega (arith, m.2), m.3)

    abbrev sector : ℕ
    sector = r * per_row (width z t) + piece.0

    sector_there : sector < sectors_of z t
    sector_there = rows_below (some_sectors (width z t) (width_some z fit t)) (rows z t) r piece.0 there piece.1

    its_table : table_at z x ≡ t
    its_table = ap (table_at z) piece.2 ∙ table_of_holds z t sector sector_there

    its_row : row_of x t ≡ r
    its_row = rw piece.2 (rw (add-sub_cancel_left (begins z t) sector) (row_is (some_sectors (width z t) (width_some z fit t)) r piece.0 piece.1))

    stands_inside : (0 < x) × (x < room z)
    stands_inside = (rw piece.2 (behind_header z t sector sector_there), rw piece.2 (is_home z t sector sector_there))

-- Two rows that share a sector are one row of one table.
pub apart : Apart
apart z fit t t' r r' x h h' i i' =
    let e : t ≡ t' = sym (its_table z fit t r x h i) ∙ its_table z fit t' r' x h' i' in
    (e, sym (its_row z fit t r x h i) ∙ ap (row_of z fit x) e ∙ its_row z fit t' r' x h' i')

-- Every row stands behind the header, in the home sectors.
pub inside : Inside
inside z fit t r x there here = stands_inside z fit t r x there here
