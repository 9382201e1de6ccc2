-- What an event is given once questions 1 and 2 said yes, the chip with the other tables.
use Rattle.tables.specs.Rule.{Holds}
use Rattle.model.specs.declared.sizes.Sizes.{Sizes}
use Rattle.model.specs.State.{State}
use Rattle.model.specs.Rules.{all_rules}
use Rattle.model.specs.Laws.Ruled.{Ruled, ruled, ChipIn, chip_ruled}
use Rattle.model.specs.Laws.Fit.{Fit, fit, ChipFit, chip_fits}
use Rattle.model.specs.Step.{all_fit}

pub record KeptWhole (z : Sizes) (st : State) : Type 0 where
  pub fits : Fit z st
  pub rules : Ruled z st
  pub chip : ChipFit z st.memory.chip
  pub copies : ChipIn z st

pub kept_whole : (z : Sizes) (st : State) → Holds (all_fit z st) → Holds (all_rules z st) → KeptWhole z st
kept_whole z st f r = record { fits = fit z st f; rules = ruled z st r; chip = chip_fits z st f; copies = chip_ruled z st r }
