use Rattle.model.specs.Import.{sheet_of}
use Rattle.carrying.specs.Seen.{seen}
use Rattle.carrying.proofs.Going.{Going}
use Rattle.carrying.proofs.pages.carry_pages.Given as goal

abbrev pub invariant-loop-k : goal.invariant-loop-k
invariant-loop-k l =
    Going l.sizes (seen l.hand l.initial.states l.initial.owners) l.slot (sheet_of l.sheet) l.initial.records l.initial.entries l.k l.records l.states l.owners l.map l.entries l.last
