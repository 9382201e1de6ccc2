-- The slot's leaving records made free: what becomes of the states, the slots, the free map and the count.
use Rattle.std.specs.Prelude.{◌≡◌, List, ℕ, suc, ◌+◌, ◌/◌, ◌%◌, ◌^◌, ◌<◌, length, set}
use Rattle.std.proofs.Common.{ap, sym, ◌∙◌, get_or-set_same, get_or-set_other}
use Rattle.tables.specs.Laws.{length_tab}
use Rattle.tables.specs.Base.{at}
use Rattle.tables.specs.Rule.{Rule, same, below, non, ◌and◌}
use Rattle.tables.specs.Store.{store}
use Rattle.tables.specs.StoreLoops.{Turned}
use Rattle.model.specs.declared.sizes.Sizes.{Sizes}
use Rattle.model.specs.Lines.{FREE, LEAVING}
use Rattle.model.specs.State.{free_count}
use Rattle.tables.specs.Marks.{bit_of}
use Rattle.leaves.specs.FreeMap.{free_map_table, word_inside, bit_off, free_map_set}
use Rattle.leaves.specs.Counts.{free_more}

-- one state a record, and the map of these states
pub record MapFits (z : Sizes) (states map : List ℕ) : Type 0 where
  pub states_long : length states ≡ z.records
  pub told : map ≡ free_map_table z (at states)

-- a leaving record of the slot
abbrev pub leaver_of : List ℕ → List ℕ → ℕ → ℕ → Rule
leaver_of states owners s r = same (at states r) LEAVING and same (at owners r) s

-- .. from record a up
abbrev pub leaver_from : List ℕ → List ℕ → ℕ → ℕ → ℕ → Rule
leaver_from states owners s a r = non (below r a) and leaver_of states owners s r

pub record Freed (z : Sizes) (s : ℕ) (states owners states' owners' map' : List ℕ) (n : ℕ) : Type 0 where
  pub the_states : states' ≡ store states (leaver_of states owners s) (λ r. FREE)
  pub the_owners : owners' ≡ store owners (leaver_of states owners s) (λ r. 0)
  pub the_map : map' ≡ free_map_table z (at states')
  pub the_count : n ≡ free_count z (at states')

-- the same in turns: those of the records below r are made free
pub record Freeing (z : Sizes) (s : ℕ) (states₀ owners₀ : List ℕ) (r : ℕ) (states owners map : List ℕ) (n : ℕ) : Type 0 where
  pub the_states : Turned states₀ (leaver_of states₀ owners₀ s) (λ k. FREE) r states
  pub the_owners : Turned owners₀ (leaver_of states₀ owners₀ s) (λ k. 0) r owners
  pub fits : MapFits z states map
  pub the_count : n ≡ free_count z (at states)

-- .. from the turns below a to those below b, with so many more free records
abbrev pub FreedOn : Sizes → ℕ → ℕ → ℕ → List ℕ → List ℕ → List ℕ → List ℕ → List ℕ → List ℕ → ℕ → Type 0
FreedOn z s a b states owners map states' owners' map' n = (states₀ owners₀ : List ℕ) (m : ℕ) → Freeing z s states₀ owners₀ a states owners map m → Freeing z s states₀ owners₀ b states' owners' map' (m + n)

-- ── one record of a map that fits ──
module _ (z : Sizes) (states map : List ℕ) (fits : MapFits z states map) (r : ℕ) (inside : r < z.records) where
  pub word_fits : r / 32 < length map
  word_fits = rw (fits.told, length_tab) (word_inside z r inside)

  pub off_now : ¬ (at states r ≡ FREE) → bit_of map r ≡ 0
  off_now d = rw fits.told (bit_off z r inside (at states) d)

  stays : (x i : ℕ) → ¬ (i ≡ r) → at states i ≡ at (set states r x) i
  stays x i d = sym (get_or-set_other states r i x 0 d)

  new : (x : ℕ) → at (set states r x) r ≡ x
  new x = get_or-set_same states r x 0 (rw fits.states_long inside)

  -- the map once the record is free
  pub map_freed : ¬ (at states r ≡ FREE) → set map (r / 32) (at map (r / 32) + 2 ^ (r % 32)) ≡ free_map_table z (at (set states r FREE))
  map_freed d = ap (λ (m : List ℕ). set m (r / 32) (at m (r / 32) + 2 ^ (r % 32))) fits.told ∙ free_map_set z r inside (at states) (at (set states r FREE)) (stays FREE) d (new FREE)

  -- the count of free records then
  pub count_freed : ¬ (at states r ≡ FREE) → free_count z (at (set states r FREE)) ≡ suc (free_count z (at states))
  count_freed d = free_more z (at states) (at (set states r FREE)) r inside (stays FREE) d (new FREE)
