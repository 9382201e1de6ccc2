-- The record that an import takes, by the free map.
use mathlib.Core.Path.{◌≡◌, refl, ap, sym, ◌∙◌}
use mathlib.Core.List.{List}
use Prim.Native.Nat.{ℕ, zero, suc, ◌-◌, ◌/◌, ◌%◌, ◌^◌, ◌<◌}
use native.Mathlib.Omega.{arith}
use lib.Dec.{T, eqb, eqb→eq}
use lib.ListN.{length, set}
use Rattle.tables.specs.Base.{at, any}
use Rattle.tables.specs.CountLaws.{count_some}
use Rattle.tables.specs.Rule.{test}
use Rattle.tables.specs.Laws.{length_tab}
use Rattle.tables.specs.Marks.{bit_of}
use Rattle.model.specs.declared.sizes.Sizes.{Sizes}
use Rattle.model.specs.Lines.{FREE, FILED, allowed}
use Rattle.model.specs.State.{free_count, free_word, map_words}
use Rattle.model.specs.Parts.{picked}
use Rattle.model.specs.Laws.Index.{split_set}
use mathlib.Core.Logic.{inl, inr}
use Rattle.leaves.specs.FreeMap.{told_by, free_map_table, bit_on, word_inside, free_map_clear}
use Rattle.leaves.specs.Picks.{hand_told, nearest_told}
use Rattle.model.specs.Laws.Takes.{picked_below, picked_free}
use Rattle.carrying.specs.Seen.{Choice}

picked_told : (z : Sizes) (state : ℕ → ℕ) (hand : ℕ) → 0 < z.records → (a : ℕ) → picked z (told_by (free_map_table z state)) hand a ≡ picked z state hand a
picked_told z state hand pos zero = hand_told z state hand pos
picked_told z state hand pos (suc r) = nearest_told z state r

-- the twelfth line
may_file : T (allowed FREE FILED)
unfolding allowed test any
may_file = tt

module _ (z : Sizes) (hand a : ℕ) (states map : List ℕ) (k : Choice z hand a states map) where
  abbrev r : ℕ
  r = picked z (at states) hand a

  pub chosen_told : {x : ℕ} → x ≡ picked z (told_by map) hand a → x ≡ r
  chosen_told e = e ∙ ap (λ (m : List ℕ). picked z (told_by m) hand a) k.told ∙ picked_told z (at states) hand k.sizes.records a

  pub chosen_below : r < z.records
  chosen_below = picked_below z (at states) hand k.sizes.records a

  pub map_long : length map ≡ map_words z
  map_long = ap length k.told ∙ length_tab (map_words z) (free_word z (at states)) 0

  pub chosen_inside : r / 32 < length map
  chosen_inside = rw map_long (word_inside z r chosen_below)

  pub chosen_free : at states r ≡ FREE
  unfolding free_count
  chosen_free = let c = count_some z.records (λ q. eqb (at states q) FREE) k.some in picked_free z (at states) hand c.0 c.1 k.hand_below (eqb→eq (at states c.0) FREE c.2) a

  -- so it may be filed
  pub chosen_may : T (allowed (at states r) FILED)
  chosen_may = rw chosen_free may_file

  pub chosen_on : bit_of map r ≡ 1
  chosen_on = ap (λ (m : List ℕ). bit_of m r) k.told ∙ bit_on z r chosen_below (at states) chosen_free

  pub map_after : set map (r / 32) (at map (r / 32) - 2 ^ (r % 32)) ≡ free_map_table z (at (set states r FILED))
  map_after = ap (λ (m : List ℕ). set m (r / 32) (at m (r / 32) - 2 ^ (r % 32))) k.told
      ∙ free_map_clear z r chosen_below (at states) (at (set states r FILED))
      (λ x d. elim (split_set states r FILED x (rw k.states_long chosen_below)) [ inl y ↦ absurd (d y.0) | inr y ↦ sym y.1 ])
      chosen_free
      (λ e. elim (split_set states r FILED r (rw k.states_long chosen_below)) [ inl y ↦ omega (arith, y.1, e) | inr y ↦ y.0 refl ])
