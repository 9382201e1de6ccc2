use mathlib.Core.Bool.{Bool, ◌&&◌}
use mathlib.Core.Path.{◌≡◌}
use mathlib.Core.List.{List}
use Prim.Native.Nat.{ℕ, ◌+◌, ◌*◌, ◌≤◌}
use lib.Dec.{leb}
use Rattle.tables.specs.Base.{at, count}
use Rattle.tables.specs.Rule.{test}
use Rattle.leaves.specs.Packed.{unpacked}
use Rattle.writeback.specs.ByPage.{ByPage, charged_entry}
use Rattle.writeback.specs.Truncate.{Cutting}
use Rattle.writeback.proofs.CutFrames.{CutTurn}
use Rattle.writeback.proofs.truncate.free_frames.Given as goal

-- a page is charged, by its entry
abbrev pub counts : ℕ → ℕ → List ℕ → List ℕ → List ℕ → List ℕ → ℕ → Bool
counts pages slot frames addresses states entries p = test (charged_entry (at entries p) (unpacked frames) addresses states (slot * pages + p))

abbrev pub invariant-loop-p : goal.invariant-loop-p
invariant-loop-p l = record {
  few : l.n ≤ l.p;
  counted : l.n ≡ count l.p (λ q. leb l.k q && counts l.pages l.slot l.frames l.addresses l.states l.entries q);
  turned : (m : ℕ) → ByPage m l.pages l.slot (unpacked l.frames) l.entries → (ready : Cutting m l.pages l.slot l.k (unpacked l.frames) l.initial.free_queue l.initial.removal_list) → CutTurn m l.pages l.slot l.k (unpacked l.frames) l.initial.free_queue l.initial.removal_list ready l.p l.free_queue l.removal_list;
}
