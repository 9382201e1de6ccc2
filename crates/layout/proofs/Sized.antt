-- Sizes that fit: every row has an entry and takes 8 sectors at most, and every sector has its 128 words. A header says the sizes.
use mathlib.Core.Path.{◌≡◌, refl, ap}
use Prim.Native.Nat.{◌<◌, ◌≤◌}
use native.Mathlib.Nat.{mul-le-mul_left}
use native.Mathlib.Omega.{arith}
use lib.Dec.{ltb}
use lib.ListN.{length}
use Rattle.tables.specs.Base.{at}
use Rattle.tables.specs.Laws.{length_tab, if_elim}
use Rattle.tables.specs.Rule.{Holds}
use Rattle.journal.specs.Device.{Content, sector_words}
use Rattle.model.specs.declared.sizes.Sizes.{Sizes}
use Rattle.model.specs.Sizes.{sizes_fit}
use Rattle.layout.specs.Rows.{per_row, row_sector}
use Rattle.layout.specs.Laid.{Table, records, maps, numbers, accounts, limits, parents, highest, table, width, rows, before, room, header, table_at, laid, read_table, read_disk}
use Rattle.layout.specs.Claims.{HeaderSays, OtherFrames, LaidWhole, Small}

-- every row has an entry
pub width_some : (z : Sizes) → Holds (sizes_fit z) → (t : Table) → 0 < width z t
unfolding width
width_some z fit records = omega arith
width_some z fit maps = omega arith
width_some z fit numbers = omega arith
width_some z fit accounts = omega arith
width_some z fit limits = omega arith
width_some z fit parents = omega arith
width_some z fit highest = omega arith

pub few_sectors : (z : Sizes) → Holds (sizes_fit z) → (t : Table) → per_row (width z t) ≤ 8
unfolding width per_row
few_sectors z fit records = omega arith
few_sectors z fit maps = omega arith
few_sectors z fit numbers = omega arith
few_sectors z fit accounts = omega arith
few_sectors z fit limits = omega arith
few_sectors z fit parents = omega arith
few_sectors z fit highest = omega arith

pub small : Small
unfolding room before table rows width per_row
small z fit =
    let two : per_row z.pages ≤ 2 = omega arith in
    (few_sectors z fit, omega (arith, mul-le-mul_left z.records (few_sectors z fit records), mul-le-mul_left z.slots two))

-- Every sector has its 128 words.
pub laid_whole : LaidWhole
unfolding laid header row_sector
laid_whole z d x = if_elim (λ (c : Content). length c ≡ sector_words) (ltb x 1) (header z) _ (λ t. refl) (λ t. length_tab sector_words _ 0)

-- The header says the sizes that belong to a disk.
pub header_says : HeaderSays
unfolding header
header_says z z' e = (ap (λ (c : Content). at c 3) e, ap (λ (c : Content). at c 4) e, ap (λ (c : Content). at c 5) e, ap (λ (c : Content). at c 6) e, ap (λ (c : Content). at c 7) e)

-- F and B are no part of a disk.
pub other_frames : OtherFrames
unfolding header room before rows width laid table_at read_disk read_table
other_frames w r f f' s n q b b' = (refl, refl, λ d x. refl, λ g. refl)
