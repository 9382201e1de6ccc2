-- `move_record` meets its contract: past the end `set` stores nothing.
use mathlib.Core.Path.{sym}
use lib.Seq.{set_out}
use Rattle.leaves.proofs.states.move_record.Goals as goal

pub returns-else-r-states : goal.returns-else-r-states
returns-else-r-states c = sym (set_out _ _ _ c.if-r-states.false)
