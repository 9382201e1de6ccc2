use Prim.Native.Nat.{◌+◌, ◌*◌, ◌%◌}
use Rattle.tables.specs.StoreLoops.{Turned, between}
use Rattle.sheets.specs.Sheet.{word_in}
use Rattle.carrying.proofs.steps.store_words.Given as goal

abbrev pub invariant-loop-j : goal.invariant-loop-j
invariant-loop-j l =
    Turned l.initial.records (between (l.target * l.w + l.first) (l.target * l.w + l.first + l.n)) (λ i. word_in l.sheet l.k (i % l.w)) (l.target * l.w + l.first + l.j) l.records
