-- `account_above` meets its contract: the account is lost and listed, or all is as it was.
use native.Mathlib.Omega.{arith}
use Rattle.mending.specs.Passes.{row_room}
use Rattle.mending.proofs.slot.account_above.Goals as goal

pub note-requires : goal.note-requires
note-requires c =
    (row_room c.args.accounts.now c.args.changes.now c.args.n c.args.s c.requires.3 c.requires.0 (λ e. omega (arith, e, c.from-old.ensures, c.if-most-old.true)), c.requires.1, c.requires.2)
