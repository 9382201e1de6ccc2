use mathlib.Core.Path.{◌≡◌}
use Prim.Native.Nat.{◌+◌}
use Rattle.tables.specs.Base.{at}
use Rattle.sheets.specs.Sheet.{bytes, runs, laid}
use Rattle.sheets.proofs.print.put_words.Given as goal

abbrev pub invariant-loop-j : goal.invariant-loop-j
invariant-loop-j l = (l.b ≡ laid l.initial.b l.from (runs l.j (λ k. bytes 4 (at l.words (l.base + k)))))
