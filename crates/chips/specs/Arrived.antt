-- For callers: what arrives in a frame is known from the tables that `take_copy` is passed.
use Rattle.std.specs.Prelude.{◌≡◌, Bool, [], ℕ}
use Rattle.std.proofs.Math.Path.{refl}
use Rattle.std.proofs.Math.Bool.{true, false}
use Rattle.tables.specs.Base.{if}
use Rattle.tables.specs.Rule.{test}
use Rattle.model.specs.declared.sizes.Sizes.{Sizes}
use Rattle.model.specs.State.{Core, Chip, State}
use Rattle.model.specs.Setters.{set_frames, set_words, set_removal_list}
use Rattle.model.specs.Lent.{chip_of}
use Rattle.model.specs.Writeback.{record_in}
use Rattle.model.specs.Chip.{place_of, found, take_copy, arrives}
use Rattle.chips.specs.Seen.{seen_take}

module _ (z : Sizes) (k : Chip) (st : State) (f : ℕ) where
  -- the state as `take_copy` sees it
  abbrev pub seen_of : State
  seen_of = seen_take st.memory.core.frames st.memory.core.words st.memory.core.removal_list st.memory.held.addresses

  abbrev core : Core
  core = seen_of.memory.core

  abbrev place : ℕ
  place = place_of z k (record_in z st f)

  -- what it leaves
  abbrev pub left_by : Core
  left_by = arrives z (chip_of k.words k.copies []) seen_of f core

  pub arrives_by : arrives z k st f st.memory.core ≡ set_frames left_by.frames (set_words left_by.words (set_removal_list left_by.removal_list st.memory.core))
  unfolding arrives take_copy place_of
  arrives_by = go (test (found z k st f))
    where
      go : (t : Bool) → if t (take_copy z k f place st.memory.core) st.memory.core
          ≡ set_frames (if t (take_copy z k f place core) core).frames (set_words (if t (take_copy z k f place core) core).words (set_removal_list (if t (take_copy z k f place core) core).removal_list st.memory.core))
      go true = refl
      go false = refl
