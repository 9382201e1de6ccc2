-- What is read back is what was laid down.
use mathlib.Core.Path.{◌≡◌, ◌∙◌}
use Prim.Native.Nat.{ℕ, ◌+◌, ◌*◌, ◌<◌}
use native.Mathlib.Omega.{arith}
use lib.ListN.{length}
use Rattle.tables.specs.Rule.{Holds}
use Rattle.journal.specs.Device.{Sectors}
use Rattle.model.specs.declared.sizes.Sizes.{Sizes}
use Rattle.model.specs.Sizes.{sizes_fit}
use Rattle.model.specs.State.{Disk}
use Rattle.model.specs.Step.{disk_lengths}
use Rattle.layout.specs.Laid.{Table, records, maps, numbers, accounts, limits, parents, highest, width, rows, begins, room, table_of, laid, read_table, read_disk}
use Rattle.layout.specs.Claims.{ReadBack}
use Rattle.layout.proofs.Rows.{rows_back}
use Rattle.layout.proofs.Places.{is_home, holds}
use Rattle.layout.proofs.Sized.{width_some}

-- every table has as many entries as its rows
long : (z : Sizes) (d : Disk) → Holds (disk_lengths z d) → (t : Table) → length (table_of d t) ≡ rows z t * width z t
unfolding table_of rows width
long z d h records = omega arith
long z d h maps = omega arith
long z d h numbers = omega arith
long z d h accounts = omega arith
long z d h limits = omega arith
long z d h parents = omega arith
long z d h highest = omega arith

module _ (z : Sizes) (d : Disk) (f : Sectors) (fit : Holds (sizes_fit z)) (lengths : Holds (disk_lengths z d)) (same : (x : ℕ) → x < room z → f x ≡ laid z d x) where
  table_back : (t : Table) → read_table z f t ≡ table_of d t
  unfolding read_table
  table_back t = rows_back (width z t) (width_some z fit t) (rows z t) (table_of d t) (λ y. f (begins z t + y)) (long z d lengths t)
      (λ y there. same (begins z t + y) (is_home z t y there) ∙ holds z t y there d)

  back : read_disk z f ≡ d
  unfolding read_disk table_of
  back = let r = table_back records in let m = table_back maps in let n = table_back numbers in let a = table_back accounts in
      let l = table_back limits in let p = table_back parents in let h = table_back highest in rw (r, n, a, m, l, p, h)

-- What is read back is what was laid down.
pub read_back_holds : ReadBack
read_back_holds z d f fit lengths same = back z d f fit lengths same
