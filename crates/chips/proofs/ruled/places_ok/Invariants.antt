use Rattle.tables.specs.Base.{at}
use Rattle.tables.specs.Turn.{Passed}
use Rattle.chips.specs.Seen.{place_kept}
use Rattle.chips.proofs.ruled.places_ok.Given as goal

abbrev pub invariant-loop-place : goal.invariant-loop-place
invariant-loop-place l = Passed l.place (λ b. place_kept l.sizes (at l.states) (at l.records) (at l.chip_words) b (at l.chip_records b))
