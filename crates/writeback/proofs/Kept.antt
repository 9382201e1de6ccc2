-- The counts over the full state: an event that changes nothing they count leaves the tables of counts as they were.
use mathlib.Core.Path.{◌≡◌, ap, sym, ◌∙◌}
use Prim.Native.Nat.{ℕ, ◌<◌}
use native.Mathlib.Decide.{ℕ_discrete}
use lib.Dec.{eqb, ltb}
use borrow.Author.Tests.{eq-eqb, ne_eqb}
use Rattle.tables.specs.Base.{tab}
use Rattle.tables.specs.TabLaws.{tab_entries}
use Rattle.tables.specs.Rule.{Holds, test, alike}
use Rattle.model.specs.declared.sizes.Sizes.{Sizes}
use Rattle.model.specs.Lines.{FREE}
use Rattle.model.specs.State.{State, Files, Frames, files, frames, slot_of, all_pages, map_words, payer, charged, used_of, free_word}
use Rattle.model.specs.Setters.{counted}
use Rattle.model.specs.Laws.Fit.{Fit}
use Rattle.model.specs.Laws.Ruled.{OfCounts}
use Rattle.leaves.specs.Counts.{counts, counts_same, free_same}
use Rattle.leaves.specs.FreeMap.{free_map_same}

-- a page counts alike: charged alike where its design is active, listed alike where it is not
module _ (z : Sizes) (v v' : Files) (c c' : Frames) (i : ℕ) where
  pub counts_alike : v.active (slot_of z i) ≡ v'.active (slot_of z i) → (v.active (slot_of z i) ≡ 1 → test (charged z v c i) ≡ test (charged z v' c' i)) → (¬ (v.active (slot_of z i) ≡ 1) → v.map i ≡ v'.map i) → counts z v c i ≡ counts z v' c' i
  counts_alike a f g = elim (ℕ_discrete (v.active (slot_of z i)) 1) [
    | yes e ↦ rw (eq-eqb _ _ e, eq-eqb _ _ (sym a ∙ e)) (f e)
    | no e ↦ rw (ne_eqb _ _ e, ne_eqb _ _ (λ h. e (a ∙ h))) (ap (ltb 0) (g e))
  ]

  pub charged_alike : (Holds (charged z v c i) → Holds (charged z v' c' i)) → (Holds (charged z v' c' i) → Holds (charged z v c i)) → test (charged z v c i) ≡ test (charged z v' c' i)
  charged_alike to from = alike (charged z v c i) (charged z v' c' i) to from

module _ (z : Sizes) (st : State) (fit : Fit z st) (ruled : OfCounts z st) where
  -- the tables of counts are those of the definition
  pub used_is : st.memory.used ≡ tab z.accounts (used_of z (files st) (frames st)) 0
  used_is = tab_entries z.accounts (used_of z (files st) (frames st)) st.memory.used fit.memory.used ruled.used

  pub map_is : st.memory.held.free_map ≡ tab (map_words z) (free_word z (files st).state) 0
  map_is = tab_entries (map_words z) (free_word z (files st).state) st.memory.held.free_map fit.memory.free_map ruled.free_map

  module _ (x : State) where
    -- the used counts stay
    pub used_kept : ((s : ℕ) → payer (files st) s ≡ payer (files x) s) → ((i : ℕ) → i < all_pages z → counts z (files st) (frames st) i ≡ counts z (files x) (frames x) i)
        → (counted z x).memory.used ≡ st.memory.used
    unfolding counted
    used_kept pays f = sym (used_is ∙ counts_same z (files st) (files x) (frames st) (frames x) pays f)

    -- the free records stay
    module _ (f : (r : ℕ) → r < z.records → eqb ((files st).state r) FREE ≡ eqb ((files x).state r) FREE) where
      pub map_kept : (counted z x).memory.held.free_map ≡ st.memory.held.free_map
      unfolding counted
      map_kept = sym (map_is ∙ free_map_same z (files st).state (files x).state f)

      pub pool_kept : x.memory.held.pool.hand ≡ st.memory.held.pool.hand → (counted z x).memory.held.pool ≡ st.memory.held.pool
      unfolding counted
      pool_kept e = λ k. record { hand = e k; free = sym (ruled.free ∙ free_same z (files st).state (files x).state f) k }
