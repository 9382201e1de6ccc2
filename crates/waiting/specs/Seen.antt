-- The table that a join reads, as a state: no definition of it looks at the others.
use Rattle.std.specs.Prelude.{List, ℕ}
use Rattle.model.specs.State.{State}
use Rattle.model.specs.Setters.{set_line}
use Rattle.model.specs.Lent.{no_state}

abbrev pub seen_line : List ℕ → State
seen_line line = set_line line no_state

-- .. as it is passed
abbrev pub entered_line : List ℕ → State
entered_line = seen_line
