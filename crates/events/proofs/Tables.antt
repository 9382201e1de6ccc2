-- The tables that the chip's part of an event leaves, beside those that it does not look at, are the state tended.
use mathlib.Core.Path.{◌≡◌}
use mathlib.Core.Bool.{Bool, true, false}
use mathlib.Core.List.{List}
use Prim.Native.Nat.{ℕ}
use Rattle.tables.specs.Base.{if}
use Rattle.tables.specs.Rule.{test}
use Rattle.model.specs.declared.sizes.Sizes.{Sizes}
use Rattle.model.specs.declared.frame.Frame.{Frame}
use Rattle.model.specs.State.{Core, Chip, State}
use Rattle.model.specs.Setters.{on_core, set_chip}
use Rattle.model.specs.Chip.{place_of, found, take_copy, arrives}
use Rattle.model.specs.Writeback.{record_in}
use Rattle.events.specs.declared.chore.Chore.{Chore}
use Rattle.events.specs.declared.chore.Chore.TheVariants.{Rest, Take, Put, Drop, Forget}
use Rattle.events.specs.Chores.{tended}
use Rattle.events.specs.Tends.{seen_tend}

module _ (z : Sizes) (told : ℕ) (k : Chip) (x : State) where
  -- what it sees of the state
  abbrev pub sees : State
  sees = seen_tend x.memory.core.frames x.disk.records x.memory.core.words x.memory.core.removal_list x.memory.held.addresses x.memory.held.states

  -- the state with these tables in place of its own
  abbrev pub with : List Frame → List ℕ → List ℕ → Chip → State
  with fs ws rl chip = set_chip chip (on_core (λ c. record { frames = fs; words = ws; free_queue = c.free_queue; removal_list = rl }) x)

  -- the core seen, or the whole one, with the copy taken if the test says so
  abbrev by : ℕ → Bool → Core → Core
  by f t o = if t (take_copy z k f (place_of z k (record_in z x f)) o) o

  taking : (f : ℕ) (t : Bool) {fs : List Frame} {ws rl : List ℕ} {chip : Chip} → fs ≡ (by f t sees.memory.core).frames → ws ≡ (by f t sees.memory.core).words → rl ≡ (by f t sees.memory.core).removal_list → chip ≡ k
      → with fs ws rl chip ≡ set_chip k (on_core (by f t) x)
  unfolding take_copy
  taking f true p q r d = λ i. with (p i) (q i) (r i) (d i)
  taking f false p q r d = λ i. with (p i) (q i) (r i) (d i)

  pub tables_tended : (chore : Chore) {fs : List Frame} {ws rl : List ℕ} {chip : Chip} → (let t = tended z chore told k sees in (fs ≡ t.memory.core.frames) × ((ws ≡ t.memory.core.words) × ((rl ≡ t.memory.core.removal_list) × (chip ≡ t.memory.chip))))
      → with fs ws rl chip ≡ tended z chore told k x
  unfolding arrives
  tables_tended Rest (a, (b, (c, d))) = λ i. with (a i) (b i) (c i) (d i)
  tables_tended (Take f) (a, (b, (c, d))) = taking f (test (found z k x f)) a b c d
  tables_tended (Put r) (a, (b, (c, d))) = λ i. with (a i) (b i) (c i) (d i)
  tables_tended Drop (a, (b, (c, d))) = λ i. with (a i) (b i) (c i) (d i)
  tables_tended Forget (a, (b, (c, d))) = λ i. with (a i) (b i) (c i) (d i)
