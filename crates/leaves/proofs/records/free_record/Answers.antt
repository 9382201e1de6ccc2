-- `free_record` meets its contract: the bit of a leaving record is off, and goes on.
use mathlib.Core.Path.{ap, sym, ◌∙◌}
use mathlib.Core.List.{List}
use Prim.Native.Nat.{ℕ}
use native.Mathlib.Omega.{arith}
use Rattle.tables.specs.Base.{at}
use Rattle.leaves.specs.FreeMap.{free_map_table}
use Rattle.leaves.specs.Freed.{word_fits, off_now, map_freed}
use Rattle.leaves.proofs.Along.{along, freeing}
use Rattle.leaves.proofs.records.free_record.Goals as goal

pub set_mark-requires : goal.set_mark-requires
set_mark-requires c = let a = c.args in
    (word_fits a.sizes a.states.now a.map.now c.requires.2 a.r c.requires.0, off_now a.sizes a.states.now a.map.now c.requires.2 a.r c.requires.0 (λ e. omega (arith, c.requires.1, e)))

pub move_record-requires : goal.move_record-requires
move_record-requires c = along _ _ _ c.requires.1 freeing

pub returns : goal.returns
returns c =
    let a = c.args in (
      c.move_record.ensures,
      c.put.ensures,
      c.set_mark.ensures ∙ map_freed a.sizes a.states.now a.map.now c.requires.2 a.r c.requires.0 (λ e. omega (arith, c.requires.1, e)) ∙ ap (λ (l : List ℕ). free_map_table a.sizes (at l)) (sym c.move_record.ensures),
    )
