use Prim.Native.Nat.{◌+◌, ◌-◌, ◌*◌, ◌/◌, ◌%◌, ◌≤◌}
use Rattle.tables.specs.Rule.{same}
use Rattle.tables.specs.StoreLoops.{Turned}
use Rattle.sheets.specs.Sheet.{word_in}
use Rattle.carrying.proofs.steps.store_record.Given as goal

abbrev pub invariant-loop-j : goal.invariant-loop-j
invariant-loop-j l = (l.j ≤ l.w) × Turned l.initial.records (λ i. same (i / l.w) l.target) (λ i. word_in l.sheet l.k (i % l.w)) (l.target * l.w + l.j) l.records

abbrev pub decreases-loop-j : goal.decreases-loop-j
decreases-loop-j l = l.w - l.j
