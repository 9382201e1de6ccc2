-- The record that a fault takes: the free map tells it, and it is free.
use mathlib.Core.Path.{◌≡◌, ap, ◌∙◌}
use mathlib.Core.List.{List}
use Prim.Native.Nat.{ℕ, ◌/◌, ◌<◌}
use lib.Dec.{T, eqb, eqb→eq}
use lib.ListN.{length}
use Rattle.tables.specs.Base.{at, any}
use Rattle.tables.specs.CountLaws.{count_some}
use Rattle.tables.specs.Rule.{test}
use Rattle.model.specs.declared.sizes.Sizes.{Sizes}
use Rattle.model.specs.declared.frame.Pool.{Pool}
use Rattle.model.specs.Lines.{FREE, NULLED, allowed}
use Rattle.model.specs.State.{free_count}
use Rattle.model.specs.Parts.{pick}
use Rattle.model.specs.Laws.Choice.{pick_below, pick_free}
use Rattle.model.specs.Laws.Fit.{Within}
use Rattle.tables.specs.Marks.{bit_of}
use Rattle.leaves.specs.FreeMap.{told_by, free_map_table, free_map, bit_on, word_inside}
use Rattle.leaves.specs.Picks.{pick_told}
use Rattle.pages.specs.Needs.{Pooled}

pub may_null : T (allowed FREE NULLED)
unfolding allowed test any
may_null = tt

module _ (z : Sizes) (pool : Pool) (addresses states map : List ℕ) (i : ℕ) (w : Within z) (po : Pooled z pool states map) where
  abbrev pub chosen : ℕ
  chosen = pick z (at addresses) (at states) pool.hand i

  pub map_told : map ≡ free_map_table z (at states)
  map_told = free_map z (at states) map po.long po.bits

  pub chosen_told : pick z (at addresses) (told_by map) pool.hand i ≡ chosen
  chosen_told = ap (λ (m : List ℕ). pick z (at addresses) (told_by m) pool.hand i) map_told ∙ pick_told z (at addresses) (at states) pool.hand i w.records

  pub chosen_below : chosen < z.records
  chosen_below = pick_below z (at addresses) (at states) pool.hand i w.records

  pub chosen_inside : chosen / 32 < length map
  chosen_inside = rw po.long (word_inside z chosen chosen_below)

  module _ (free : 0 < pool.free) where
    pub chosen_free : at states chosen ≡ FREE
    unfolding free_count
    chosen_free = let c = count_some z.records (λ q. eqb (at states q) FREE) (rw po.free at free) in pick_free z (at addresses) (at states) pool.hand i c.0 c.1 po.hand (eqb→eq _ _ c.2)

    pub chosen_on : bit_of map chosen ≡ 1
    chosen_on = ap (λ (m : List ℕ). bit_of m chosen) map_told ∙ bit_on z chosen chosen_below (at states) chosen_free

    pub chosen_may : T (allowed (at states chosen) NULLED)
    chosen_may = rw chosen_free may_null
