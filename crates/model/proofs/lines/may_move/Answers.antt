-- `may_move` meets its contract: the checker computes that the code's table, whole, is that of the lines, and a law gives its cells.
use mathlib.Core.Path.{◌≡◌, sym}
use mathlib.Core.Bool.{Bool, false}
use mathlib.Core.List.{List, []}
use mathlib.Core.Logic.{⊎_elim}
use Prim.Native.Nat.{ℕ, ◌<◌}
use native.Mathlib.Omega.{arith}
use lib.ListN.{length, get_or}
use Rattle.tables.specs.Base.{all, any, tab}
use Rattle.tables.specs.Laws.{at_tab0}
use Rattle.tables.specs.Rule.{Rule, ◌and◌, each, below, test, sound, untold}
use Rattle.model.specs.Lines.{STATES, lines, line, led, allowed}
use Rattle.model.proofs.lines.may_move.Goals as goal

-- state by state, what the lines allow
abbrev table : List (List Bool)
table = tab STATES (λ i. tab STATES (allowed i) 0) 0

cell : (i j : ℕ) → i < STATES → j < STATES → get_or (get_or table i []) j false ≡ allowed i j
cell i j h k = rw (at_tab0 STATES (λ a. tab STATES (allowed a) 0) i [] h) (at_tab0 STATES (allowed i) j false k)

-- each line leads from a state to a state
inside : Rule
inside = each (length lines) λ k. let l = get_or lines k (line 0 0) in below l.from STATES and below l.to STATES

pub returns-then-j-lt-STATES : goal.returns-then-j-lt-STATES
unfolding test any tab allowed
returns-then-j-lt-STATES c = let s = c.args in cell s.from s.to c.if-i-lt-STATES.true c.if-j-lt-STATES.true

pub returns-else-i-lt-STATES : goal.returns-else-i-lt-STATES
unfolding test all allowed inside
returns-else-i-lt-STATES c = let s = c.args in sym (untold (led s.from s.to) (λ l. let b = sound inside tt l.0 l.1 in
    ⊎_elim (λ w. omega (arith, l.2, b, w.1)) (λ w. omega (arith, l.2, b, w)) c.else-i-lt-STATES.either))
