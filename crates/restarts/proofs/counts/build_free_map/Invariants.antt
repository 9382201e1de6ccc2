use mathlib.Core.Path.{◌≡◌}
use lib.Dec.{eqb}
use Rattle.tables.specs.Base.{at, count}
use Rattle.model.specs.Lines.{FREE}
use Rattle.leaves.specs.FreeMap.{free_map_table}
use Rattle.restarts.specs.Counts.{passed}
use Rattle.restarts.proofs.counts.build_free_map.Given as goal

abbrev pub invariant-loop-r : goal.invariant-loop-r
invariant-loop-r l = (l.free ≡ count l.r (λ x. eqb (at l.states x) FREE)) × (l.map ≡ free_map_table l.fn.sizes (passed l.r (at l.states)))
