-- What an event is given once questions 1 and 2 said yes.
use Rattle.tables.specs.Rule.{Holds}
use Rattle.model.specs.declared.sizes.Sizes.{Sizes}
use Rattle.model.specs.State.{State}
use Rattle.model.specs.Rules.{all_rules}
use Rattle.model.specs.Laws.Ruled.{Ruled, ruled}
use Rattle.model.specs.Laws.Fit.{Fit, fit}
use Rattle.model.specs.Step.{all_fit}

pub record Kept (z : Sizes) (st : State) : Type 0 where
  pub fits : Fit z st
  pub rules : Ruled z st

pub kept : (z : Sizes) (st : State) → Holds (all_fit z st) → Holds (all_rules z st) → Kept z st
kept z st f r = record { fits = fit z st f; rules = ruled z st r }
