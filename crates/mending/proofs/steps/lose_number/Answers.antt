-- `lose_number` meets its contract: the number is lost and listed.
use native.Mathlib.Omega.{arith}
use Rattle.mending.specs.Passes.{row_room}
use Rattle.mending.proofs.steps.lose_number.Goals as goal

pub note-requires : goal.note-requires
note-requires c =
    (row_room c.args.numbers.now c.args.changes.now c.args.n c.args.s c.requires.4 c.requires.0 (λ e. omega (arith, e, c.requires.3)), c.requires.1, c.requires.2)
