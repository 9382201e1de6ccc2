-- What the chip's part of an event sees and needs, once the event's own work is done.
use Rattle.std.specs.Prelude.{List, ◌≡◌, ℕ, ◌*◌, ◌<◌, length}
use Rattle.tables.specs.Base.{at}
use Rattle.model.specs.declared.sizes.Sizes.{Sizes}
use Rattle.model.specs.declared.frame.Frame.{Frame}
use Rattle.model.specs.State.{Chip, State}
use Rattle.model.specs.Setters.{on_disk, on_core, on_held, set_records, set_frames, set_words, set_removal_list, set_addresses, set_states}
use Rattle.model.specs.Lent.{no_state}
use Rattle.model.specs.Laws.Fit.{Within, ChipFit}
use Rattle.chips.specs.Seen.{Awaiting}
use Rattle.events.specs.declared.chore.Chore.{Chore}
use Rattle.events.specs.declared.chore.Chore.TheVariants.{Rest, Take, Put, Drop, Forget}

-- the tables that it reads and changes, as a state
abbrev pub seen_tend : List Frame → List ℕ → List ℕ → List ℕ → List ℕ → List ℕ → State
seen_tend frames records words list addresses states =
    on_disk (set_records records) (on_core (λ c. set_frames frames (set_words words (set_removal_list list c))) (on_held (λ h. set_addresses addresses (set_states states h)) no_state))

-- .. as they are passed
abbrev pub entered_tend : List Frame → List ℕ → List ℕ → List ℕ → List ℕ → List ℕ → State
entered_tend = seen_tend

-- a frame that may take a copy, and a record whose words go in
abbrev pub Needed : Sizes → Chip → List Frame → List ℕ → List ℕ → Chore → Type 0
Needed z k fs words list Rest = Unit {0}
Needed z k fs words list (Take f) = Awaiting z f fs words list k.words k.copies
Needed z k fs words list (Put r) = r < z.records
Needed z k fs words list Drop = Unit {0}
Needed z k fs words list Forget = Unit {0}

pub record Tending (z : Sizes) (chore : Chore) (told : ℕ) (k : Chip) (fs : List Frame) (rs words list : List ℕ) : Type 0 where
  pub sizes : Within z
  pub chip : ChipFit z k
  pub next : at k.next 0 < z.chip
  pub records : length rs ≡ z.records * z.words
  pub told_below : told < 65536
  pub needed : Needed z k fs words list chore
