-- (02) With and without the chip: "In lists of demand 3, from restarts of like disks to the next cut, a read accepted with and without it shows the same word, if the accepted writes, truncations, creates and imports before it were the same list."
use Rattle.std.specs.Prelude.{◌≡◌, List, [], ℕ, T}
use Rattle.tables.specs.Rule.{Holds}
use Rattle.model.specs.declared.sizes.Sizes.{Sizes}
use Rattle.model.specs.declared.event.Page.TheVariants.{Read}
use Rattle.model.specs.declared.event.Event.TheVariants as Event
use Rattle.model.specs.Sizes.{sizes_fit}
use Rattle.model.specs.State.{Disk, Memory, State}
use Rattle.model.specs.Setters.{set_chip}
use Rattle.model.specs.Chip.{empty_chip}
use Rattle.model.specs.Rules.{disk_rules}
use Rattle.model.specs.Step.{step, look, disk_lengths, memory_lengths}
use Rattle.model.specs.Acts.{Act, World, legal, run, start}
use Rattle.woven.specs.Woven.{Since, run_by, legal_by, along, alike}

-- the keeper itself: nothing is changed after an act
abbrev pub itself : State → State
itself st = st

-- the keeper without the chip: the same keeper, whose chip is emptied after each act, so that no fault finds a copy
abbrev pub without : Sizes → State → State
without z st = set_chip (empty_chip z) st

-- a pack that keeps the disk rules, and any memory
pub record Pack (z : Sizes) (pack : Disk) (junk : Memory) : Type 0 where
  pub sizes : Holds (sizes_fit z)
  pub lengths : Holds (disk_lengths z pack)
  pub memory : Holds (memory_lengths z junk)
  pub rules : Holds (disk_rules z (record { disk = pack; memory = junk }))

-- before the first restart nothing is woven
abbrev pub from_start : Disk → Since
from_start pack = record { disk = pack; list = [] }

-- what both accept shows the same: a read its word, a page look its words
pub record SameSeen (z : Sizes) (w w' : World) : Type 0 where
  pub reads : (s p n : ℕ) → (let o = step z w.state (Event.Page (Read s p n)) in let o' = step z w'.state (Event.Page (Read s p n)) in
      o.answer.refusal ≡ 0 → o'.answer.refusal ≡ 0 → o.answer.result ≡ o'.answer.result)
  pub looks : (s p : ℕ) → (let o = look z w.state s p in let o' = look z w'.state s p in o.answer.refusal ≡ 0 → o'.answer.refusal ≡ 0 → o.left ≡ o'.left)

-- a list with the chip and one without it, both restarted since their last cut: the restarts found like disks, and what was woven since is the same list
abbrev pub ChipUnseen : Type 0
ChipUnseen = (z : Sizes) (pack pack' : Disk) (junk junk' : Memory) (acts acts' : List Act) → Pack z pack junk → Pack z pack' junk'
    → T (legal z (start z pack junk) acts) → T (legal_by z (without z) (start z pack' junk') acts')
    → (let w = run z (start z pack junk) acts in let w' = run_by z (without z) (start z pack' junk') acts' in
    let c = along z itself (start z pack junk) (from_start pack) acts in let c' = along z (without z) (start z pack' junk') (from_start pack') acts' in
    T w.up → T w'.up → Holds (alike z c.disk c'.disk) → c.list ≡ c'.list → SameSeen z w w')
