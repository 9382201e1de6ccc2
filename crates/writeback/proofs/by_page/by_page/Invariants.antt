use Rattle.leaves.specs.Packed.{unpacked}
use Rattle.writeback.specs.ByPage.{ByPage}
use Rattle.writeback.proofs.by_page.by_page.Given as goal

abbrev pub invariant-loop-f : goal.invariant-loop-f
invariant-loop-f l = ByPage l.f l.pages l.slot (unpacked l.frames) l.table
