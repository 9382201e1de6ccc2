use Rattle.tables.specs.Base.{at}
use Rattle.chips.proofs.Dropping.{Gone}
use Rattle.chips.proofs.drop.drop_stale.Given as goal

abbrev pub invariant-loop-place : goal.invariant-loop-place
invariant-loop-place l = Gone l.sizes (at l.states) l.initial.chip_words l.initial.chip_records l.place l.chip_words l.chip_records
