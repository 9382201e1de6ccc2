-- Laws of where things are: tables by their order, and numbers that fit.
use Rattle.std.specs.Prelude.{◌≡◌, true, false}
use Rattle.std.proofs.Math.Path.{refl}
use Rattle.std.proofs.Common.{ap, sym, ◌∙◌, mul-le-mul}
use Rattle.std.proofs.Math.Bool.{and-false}
use Prim.Native.Nat.{ℕ, zero, suc, ◌+◌, ◌*◌, ◌<◌, ◌≤◌}
use native.Mathlib.Omega.{arith}
use borrow.Author.Tests.{lt-ltb, le-ltb}
use Rattle.tables.specs.Rule.{test}
use Rattle.model.specs.declared.sizes.Sizes.{Sizes}
use Rattle.layout.specs.Rows.{per_row}
use Rattle.layout.specs.Laid.{Table, records, maps, numbers, accounts, limits, parents, highest, place, table, width, rows, sectors_of, before, room}
use Rattle.disk.specs.declared.places.Place.{Place}
use Rattle.disk.specs.Header.{disk_fits}
use Rattle.disk.specs.Places.{room_of, place_of}
use Rattle.disk.specs.Laws.Header.{Limits}

-- ── tables by their order ──
pub place_table : (t : ℕ) → t < 7 → place (table t) ≡ t
unfolding place table
place_table zero h = refl
place_table (suc zero) h = refl
place_table (suc (suc zero)) h = refl
place_table (suc (suc (suc zero))) h = refl
place_table (suc (suc (suc (suc zero)))) h = refl
place_table (suc (suc (suc (suc (suc zero))))) h = refl
place_table (suc (suc (suc (suc (suc (suc zero)))))) h = refl
place_table (suc (suc (suc (suc (suc (suc (suc t))))))) h = absurd (omega (arith, h))

module _ (z : Sizes) where
  pub width_words : (t : ℕ) → t ≡ 0 → z.words ≡ width z (table t)
  unfolding width table
  width_words t e = rw e

  pub width_pages : (t : ℕ) → t ≡ 1 → z.pages ≡ width z (table t)
  unfolding width table
  width_pages t e = rw e

  pub width_slots : (t : ℕ) → ¬ (t ≡ 0) → ¬ (t ≡ 1) → t < 4 → z.slots ≡ width z (table t)
  unfolding width table
  width_slots zero a b h = absurd (a refl)
  width_slots (suc zero) a b h = absurd (b refl)
  width_slots (suc (suc zero)) a b h = refl
  width_slots (suc (suc (suc zero))) a b h = refl
  width_slots (suc (suc (suc (suc t)))) a b h = absurd (omega (arith, h))

  pub width_accounts : (t : ℕ) → 4 ≤ t → t < 6 → z.accounts ≡ width z (table t)
  unfolding width table
  width_accounts zero a h = absurd (omega (arith, a))
  width_accounts (suc zero) a h = absurd (omega (arith, a))
  width_accounts (suc (suc zero)) a h = absurd (omega (arith, a))
  width_accounts (suc (suc (suc zero))) a h = absurd (omega (arith, a))
  width_accounts (suc (suc (suc (suc zero)))) a h = refl
  width_accounts (suc (suc (suc (suc (suc zero))))) a h = refl
  width_accounts (suc (suc (suc (suc (suc (suc t)))))) a h = absurd (omega (arith, h))

  past_five : (t : ℕ) → 6 ≤ t → table t ≡ highest
  unfolding table
  past_five zero a = absurd (omega (arith, a))
  past_five (suc zero) a = absurd (omega (arith, a))
  past_five (suc (suc zero)) a = absurd (omega (arith, a))
  past_five (suc (suc (suc zero))) a = absurd (omega (arith, a))
  past_five (suc (suc (suc (suc zero)))) a = absurd (omega (arith, a))
  past_five (suc (suc (suc (suc (suc zero))))) a = absurd (omega (arith, a))
  past_five (suc (suc (suc (suc (suc (suc t)))))) a = refl

  pub width_one : (t : ℕ) → 6 ≤ t → 1 ≡ width z (table t)
  unfolding width
  width_one t a = rw (past_five t a)

  pub rows_records : (t : ℕ) → t ≡ 0 → z.records ≡ rows z (table t)
  unfolding rows table
  rows_records t e = rw e

  pub rows_slots : (t : ℕ) → t ≡ 1 → z.slots ≡ rows z (table t)
  unfolding rows table
  rows_slots t e = rw e

  pub rows_one : (t : ℕ) → ¬ (t ≡ 0) → ¬ (t ≡ 1) → 1 ≡ rows z (table t)
  unfolding rows table
  rows_one zero a b = absurd (a refl)
  rows_one (suc zero) a b = absurd (b refl)
  rows_one (suc (suc zero)) a b = refl
  rows_one (suc (suc (suc zero))) a b = refl
  rows_one (suc (suc (suc (suc zero)))) a b = refl
  rows_one (suc (suc (suc (suc (suc zero))))) a b = refl
  rows_one (suc (suc (suc (suc (suc (suc t)))))) a b = refl

-- ── numbers that fit ──
module _ (z : Sizes) (l : Limits z) where
  pub width_small : (t : Table) → width z t ≤ 1024
  unfolding width
  width_small records = l.words
  width_small maps = omega (arith, l.pages)
  width_small numbers = omega (arith, l.slots)
  width_small accounts = omega (arith, l.slots)
  width_small limits = omega (arith, l.accounts)
  width_small parents = omega (arith, l.accounts)
  width_small highest = omega arith

  pub rows_small : (t : Table) → rows z t ≤ 4096
  unfolding rows
  rows_small records = l.records
  rows_small maps = omega (arith, l.slots)
  rows_small numbers = omega arith
  rows_small accounts = omega arith
  rows_small limits = omega arith
  rows_small parents = omega arith
  rows_small highest = omega arith

  pub per_row_small : (t : Table) → per_row (width z t) ≤ 8
  unfolding per_row
  per_row_small t = omega (arith, width_small t)

  pub sectors_small : (t : Table) → sectors_of z t ≤ 32768
  sectors_small t = mul-le-mul (rows_small t) (per_row_small t)

  pub before_small : (k : ℕ) → before z k ≤ 1 + k * 32768
  unfolding before
  before_small zero = omega arith
  before_small (suc k) = omega (arith, before_small k, sectors_small (table k))

-- one table more
before_suc : (z : Sizes) (k : ℕ) → before z (suc k) ≡ before z k + sectors_of z (table k)
unfolding before
before_suc z k = refl

pub before_next : (z : Sizes) (k : ℕ) → before z k + sectors_of z (table k) ≡ before z (k + 1)
before_next z k = sym (before_suc z k) ∙ ap (before z) (omega arith)

pub before_none : (z : Sizes) → 1 ≡ before z 0
unfolding before
before_none z = refl

-- ── the answers ──
module _ (z : Sizes) where
  pub room_yes : true ≡ test (disk_fits z) → before z 7 ≡ room_of z
  unfolding room_of room
  room_yes t = rw (← t)

  pub room_no : false ≡ test (disk_fits z) → 0 ≡ room_of z
  unfolding room_of
  room_no t = rw (← t)

  abbrev nowhere : Place
  nowhere = record { begins = 0; rows = 0; width = 0; sectors = 0 }

  pub place_past : (t : ℕ) → 7 ≤ t → nowhere ≡ place_of z t
  unfolding place_of
  place_past t h = rw (le-ltb t 7 h, and-false (test (disk_fits z)))

  pub place_out : (t : ℕ) → false ≡ test (disk_fits z) → nowhere ≡ place_of z t
  unfolding place_of
  place_out t e = rw (← e)

  pub place_there : (t : ℕ) → t < 7 → true ≡ test (disk_fits z) → (b r w o : ℕ) → b ≡ before z t → r ≡ rows z (table t) → w ≡ width z (table t) → o ≡ per_row (width z (table t)) → ◌≡◌ {A = Place} (record { begins = b; rows = r; width = w; sectors = o }) (place_of z t)
  unfolding place_of
  place_there t h e b r w o p q s u = rw (← e, lt-ltb t 7 h, place_table t h, p, q, s, u)
