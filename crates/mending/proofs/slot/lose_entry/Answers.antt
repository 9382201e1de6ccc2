-- `lose_entry` meets its contract: the entry is lost and listed.
use native.Mathlib.Omega.{arith}
use Rattle.mending.specs.Passes.{row_room}
use Rattle.mending.proofs.slot.lose_entry.Goals as goal

pub note-requires : goal.note-requires
note-requires c =
    (row_room c.args.maps.now c.args.changes.now c.args.n c.args.i c.requires.4 c.requires.0 (λ e. omega (arith, e, c.requires.3)), c.requires.1, c.requires.2)
