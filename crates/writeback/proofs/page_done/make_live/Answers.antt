-- `make_live` meets its contract: nulled to live is a line, and a live record stays as it is.
use mathlib.Core.Path.{sym, ◌∙◌}
use Rattle.writeback.proofs.Moves.{nulled_live}
use Rattle.writeback.proofs.page_done.make_live.Goals as goal

pub move_record-requires : goal.move_record-requires
move_record-requires c = rw (sym c.at.ensures ∙ c.if-at-eq-NULLED.true) nulled_live
