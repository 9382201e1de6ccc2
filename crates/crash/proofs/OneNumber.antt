-- One number, one design, over every legal list of acts, from a pack that keeps the disk rules and from a finished format; and demand 3 by the number.
use mathlib.Core.List.{List}
use lib.Dec.{T}
use Rattle.model.specs.declared.sizes.Sizes.{Sizes}
use Rattle.model.specs.Laws.Ruled as R
use Rattle.model.specs.Laws.Fit.{within, disk_fit}
use Rattle.model.specs.Ledger.{unwritten}
use Rattle.model.specs.State.{Disk, Memory, files}
use Rattle.model.specs.Restart.{formatted}
use Rattle.model.specs.Acts.{Act, World, legal, run, start}
use Rattle.model.specs.OneNumber.{OneNumber, OneNumberFormatted}
use Rattle.invariant.proofs.RestartedRecords.{format_disk}
use Rattle.crash.proofs.Writes.{In}
use Rattle.crash.proofs.Steps.{Good}
use Rattle.crash.proofs.Start.{start_good, format_good}
use Rattle.crash.proofs.Demand3.{run_keeps, demand3, demand3_from_pack}
use Rattle.crash.proofs.Births.{Born, run_born}
use Rattle.crash.proofs.Updates.{BornUpdates, run_updates}
use Rattle.crash.proofs.Given.{view, Given}
use Rattle.crash.proofs.GivenAlong.{run_given}
use Rattle.crash.proofs.GivenStart.{start_given}
use Rattle.crash.proofs.ByNumber.{one_each, by_number_holds, by_number_from_pack}

-- what the two claims rest on, after a list
module _ (z : Sizes) (pack : Disk) (junk : Memory) (acts : List Act) (good : Good z (start z pack junk)) (rules : R.OnDisk z (files (record { disk = pack; memory = junk }))) (t : T (legal z (start z pack junk) acts)) where
  abbrev w₀ : World
  w₀ = start z pack junk

  abbrev w : World
  w = run z w₀ acts

  keeps : Good z w
  keeps = run_keeps z acts w₀ t good

  given : Given z w.up (view w)
  given = run_given z acts w₀ t good first
    where
      first : Given z w₀.up (view w₀)
      first = unfold start in start_given z pack junk rules

  born : Born w
  unfolding start unwritten In
  born = run_born z acts w₀ t good (λ y i. absurd i)

  updates : BornUpdates w.ledger
  unfolding start unwritten
  updates = run_updates z acts w₀ t good tt

-- from any pack that keeps the disk rules
pub one_number_holds : OneNumber
one_number_holds z pack junk acts sizes disk lengths rules t =
    let r = R.disk_ruled z (record { disk = pack; memory = junk }) rules in
    let good = start_good z pack junk sizes (disk_fit z pack disk) lengths r in
    let claim = (demand3_from_pack z pack junk acts sizes disk lengths rules t).1.disk in
    let w = run z (start z pack junk) acts in
    let k = keeps z pack junk acts good r t in
    let g = given z pack junk acts good r t in
    let b = born z pack junk acts good r t in
    let u = updates z pack junk acts good r t in
    (one_each z w k g b u, by_number_from_pack z w k g b u claim)

-- from a finished format
pub one_number_formatted : OneNumberFormatted
one_number_formatted z parents junk acts sizes low lengths t =
    let good = format_good z parents junk sizes low lengths in
    let claim = (demand3 z parents junk acts sizes low lengths t).disk in
    let w = run z (start z (formatted z parents) junk) acts in
    let r = format_disk z (within z sizes) parents low junk in
    let k = keeps z (formatted z parents) junk acts good r t in
    let g = given z (formatted z parents) junk acts good r t in
    let b = born z (formatted z parents) junk acts good r t in
    let u = updates z (formatted z parents) junk acts good r t in
    (one_each z w k g b u, by_number_holds z w k g b u claim)
