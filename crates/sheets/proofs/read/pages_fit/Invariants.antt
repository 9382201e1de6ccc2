use mathlib.Core.Path.{◌≡◌}
use Prim.Native.Nat.{ℕ, ◌<◌}
use Rattle.tables.specs.Rule.{Holds}
use Rattle.sheets.specs.Sheet.{place_of, least_in, page_fits}
use Rattle.sheets.proofs.read.pages_fit.Given as goal

abbrev pub invariant-loop : goal.invariant-loop
invariant-loop l = (l.from ≡ place_of l.s l.counter) × (l.least ≡ least_in l.s l.counter) × ((j : ℕ) → j < l.counter → Holds (page_fits l.s j))
