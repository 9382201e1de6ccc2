-- `sectors_of` meets its contract: by what its three callees ensure; the product fits.
use mathlib.Core.Path.{◌≡◌}
use Prim.Native.Nat.{ℕ, ◌*◌}
use native.Mathlib.Omega.{arith}
use Rattle.layout.specs.Rows.{per_row}
use Rattle.layout.specs.Laid.{table}
use Rattle.disk.specs.Laws.Header.{limits}
use Rattle.disk.specs.Laws.Places.{width_small, sectors_small}
use Rattle.disk.proofs.places.sectors_of.Goals as goal

-- the product, by its two factors
product : {r w o : ℕ} {a b : ℕ} → r ≡ a → w ≡ b → o ≡ per_row w → r * o ≡ a * per_row b
product p q e = rw (e, p, q)

pub per_row-one-requires : goal.per_row-one-requires
per_row-one-requires c =
    omega (arith, c.width_of-width.ensures, width_small c.args.sizes (limits c.args.sizes c.requires) (table c.args.t))

pub overflow_mul-result : goal.overflow_mul-result
overflow_mul-result c =
    omega (arith, product c.rows_of-rows.ensures c.width_of-width.ensures c.per_row-one.ensures, sectors_small c.args.sizes (limits c.args.sizes c.requires) (table c.args.t))

pub returns : goal.returns
returns c =
    product c.rows_of-rows.ensures c.width_of-width.ensures c.per_row-one.ensures
