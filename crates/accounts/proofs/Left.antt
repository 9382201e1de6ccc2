-- Limit and move over the full state: the limits and the used counts change, the free map and the count of free records stay.
use mathlib.Core.Path.{◌≡◌, sym}
use mathlib.Core.List.{List}
use Prim.Native.Nat.{ℕ}
use Rattle.model.specs.declared.sizes.Sizes.{Sizes}
use Rattle.model.specs.declared.event.Account.TheVariants.{Limit, Move}
use Rattle.model.specs.declared.event.Event.TheVariants as Event
use lib.ListN.{set}
use Rattle.model.specs.State.{State, files, free_count}
use Rattle.model.specs.Setters.{on_disk, on_held, set_limits, set_used, set_free, set_free_map, counted}
use Rattle.model.specs.Accounts
use Rattle.model.specs.Accounts.{shifted}
use Rattle.model.specs.Step.{carried}
use Rattle.model.specs.Laws.Ruled.{OfCounts}
use Rattle.model.specs.Laws.Fit.{Fit}
use Rattle.leaves.specs.FreeMap.{free_map_table, free_map}
use Rattle.accounts.proofs.Carried.{used_then}

-- other limits and used counts
abbrev pub after : State → List ℕ → List ℕ → State
after st limits used = set_used used (on_disk (set_limits limits) st)

module _ (z : Sizes) (st : State) (f : Fit z st) (k : OfCounts z st) where
  relimited : (limits : List ℕ) → counted z (on_disk (set_limits limits) st) ≡ after st limits (used_then z st limits)
  unfolding counted
  relimited limits = sym (λ x. set_used (used_then z st limits) (on_held (λ h. set_free (n x) (set_free_map (m x) h)) (on_disk (set_limits limits) st)))
    where
      m : st.memory.held.free_map ≡ free_map_table z (files st).state
      m = free_map z (files st).state st.memory.held.free_map f.memory.free_map k.free_map

      n : st.memory.held.pool.free ≡ free_count z (files st).state
      n = k.free

  pub limit_left : (q n : ℕ) → carried z st (Event.Account (Limit q n)) ≡ after st (set st.disk.limits q n) (used_then z st (set st.disk.limits q n))
  unfolding carried Accounts.limit
  limit_left q n = relimited (set st.disk.limits q n)

  pub move_left : (g t m : ℕ) → carried z st (Event.Account (Move g t m)) ≡ after st (shifted st.disk.limits g t m) (used_then z st (shifted st.disk.limits g t m))
  unfolding carried Accounts.move
  move_left g t m = relimited (shifted st.disk.limits g t m)
