-- By the mark, where the state asks for it.
use mathlib.Core.Path.{◌∙◌}
use Rattle.tables.specs.Marks.{bit_of}
use Rattle.rules.proofs.Entries.{asked_for, not_asked_for}
use Rattle.rules.proofs.records.held_by.Goals as goal

pub returns-then-state : goal.returns-then-state
returns-then-state c =
    let args = c.args in
    c.is_marked.ensures ∙ asked_for args.state 2 3 (bit_of args.held.now args.r) c.if-state.true

pub returns : goal.returns
returns c =
    not_asked_for c.args.state 2 3 (bit_of c.args.held.now c.args.r) c.if-state.false
