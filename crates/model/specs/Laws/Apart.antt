-- Questions 1 and 2 in two parts: those of all tables but the chip's, which most of the code asks, and those of the chip.
use Rattle.std.specs.Prelude.{◌≡◌}
use Rattle.tables.specs.Rule.{Rule, Holds, test, alike, ◌and◌}
use Rattle.model.specs.declared.sizes.Sizes.{Sizes}
use Rattle.model.specs.Sizes.{sizes_fit}
use Rattle.model.specs.State.{State}
use Rattle.model.specs.Rules.{disk_rules, table_rules, chip_rules, memory_rules, all_rules}
use Rattle.model.specs.Step.{disk_lengths, table_lengths, chip_lengths, all_fit}
use Rattle.model.specs.Laws.Fit.{Fit, within, sizes_fit_holds, disk_fit, fit_disk, memory_fit, fit_memory}
use Rattle.model.specs.Laws.Ruled.{Ruled, disk_ruled, rules_disk, tables_ruled_holds, rules_tables}

-- question 1 but for the chip
unfoldable pub tables_fit : Sizes → State → Rule
tables_fit z st = sizes_fit z and disk_lengths z st.disk and table_lengths z st.memory

-- question 2 but for the chip
unfoldable pub tables_ruled : Sizes → State → Rule
tables_ruled z st = disk_rules z st and table_rules z st

module _ (z : Sizes) (st : State) where
  pub fit_apart : Holds (tables_fit z st) → Fit z st
  unfolding tables_fit
  fit_apart h = record { sizes = within z h.0; disk = disk_fit z st.disk h.1.0; memory = memory_fit z st.memory h.1.1 }

  pub apart_fit : Fit z st → Holds (tables_fit z st)
  unfolding tables_fit
  apart_fit h = (sizes_fit_holds z h.sizes, (fit_disk z st.disk h.disk, fit_memory z st.memory h.memory))

  pub ruled_apart : Holds (tables_ruled z st) → Ruled z st
  unfolding tables_ruled
  ruled_apart h = tables_ruled_holds z st (disk_ruled z st h.0) h.1

  pub apart_ruled : Ruled z st → Holds (tables_ruled z st)
  unfolding tables_ruled
  apart_ruled r = (rules_disk z st r.disk, rules_tables z st r)

  -- the two parts are the question
  pub both_fit : test (tables_fit z st and chip_lengths z st.memory.chip) ≡ test (all_fit z st)
  unfolding tables_fit all_fit
  both_fit = alike (tables_fit z st and chip_lengths z st.memory.chip) (all_fit z st) (λ h. (h.0.0, (h.0.1.0, (h.0.1.1, h.1)))) (λ h. ((h.0, (h.1.0, h.1.1.0)), h.1.1.1))

  pub both_ruled : test (tables_ruled z st and chip_rules z st) ≡ test (all_rules z st)
  unfolding tables_ruled all_rules memory_rules
  both_ruled = alike (tables_ruled z st and chip_rules z st) (all_rules z st) (λ h. (h.0.0, (h.0.1, h.1))) (λ h. ((h.0, h.1.0), h.1.1))
