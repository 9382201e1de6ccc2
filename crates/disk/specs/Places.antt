-- Where things are, for given sizes: how many home sectors there are, and where a table's rows are.
use Rattle.std.specs.Prelude.{◌&&◌, ℕ, ltb}
use Rattle.tables.specs.Base.{if}
use Rattle.tables.specs.Rule.{test}
use Rattle.model.specs.declared.sizes.Sizes.{Sizes}
use Rattle.layout.specs.Rows.{per_row}
use Rattle.layout.specs.Laid.{table, width, rows, begins, room}
use Rattle.disk.specs.declared.places.Place.{Place}
use Rattle.disk.specs.Header.{disk_fits}

-- how many home sectors there are; 0 for sizes out of limits
unfoldable pub room_of : Sizes → ℕ
room_of z = if (test (disk_fits z)) (room z) 0

-- Where table t is, by its order on the disk; zeros for sizes out of limits, and past the last table.
unfoldable pub place_of : Sizes → ℕ → Place
place_of z t =
    let there : Place = record { begins = begins z (table t); rows = rows z (table t); width = width z (table t); sectors = per_row (width z (table t)) } in
    if (test (disk_fits z) && ltb t 7) there (record { begins = 0; rows = 0; width = 0; sectors = 0 })
