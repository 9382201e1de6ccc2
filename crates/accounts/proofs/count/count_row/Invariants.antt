use mathlib.Core.Path.{◌≡◌}
use Prim.Native.Nat.{◌+◌, ◌*◌}
use Rattle.tables.specs.Base.{at, count}
use Rattle.rules.specs.Passes.{used_page}
use Rattle.accounts.proofs.count.count_row.Given as goal

abbrev pub invariant-loop-p : goal.invariant-loop-p
invariant-loop-p l = l.used ≡ count l.p (λ k. used_page l.active (at l.maps (l.s * l.pages + k)) (at l.addresses (l.s * l.pages + k)) (at l.states))
