-- `make_nulled` meets its contract: live to nulled is a line, and a nulled record stays as it is.
use mathlib.Core.Path.{sym, ◌∙◌}
use Rattle.writeback.proofs.Moves.{live_nulled}
use Rattle.writeback.proofs.claim.make_nulled.Goals as goal

pub move_record-requires : goal.move_record-requires
move_record-requires c = rw (sym c.at.ensures ∙ c.if-at-eq-LIVE.true) live_nulled
