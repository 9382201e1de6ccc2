-- An entry that names nothing passes; another as the record that it names.
use Rattle.tables.specs.Base.{at}
use Rattle.tables.specs.Turn.{named_none}
use Rattle.rules.proofs.Entries.{held_told}
use Rattle.rules.proofs.pages.held.Goals as goal

pub returns-then-address-eq0 : goal.returns-then-address-eq0
returns-then-address-eq0 c = named_none _ _ c.if-address-eq0.true

pub returns : goal.returns
returns c =
    let args = c.args in
    let if1 = c.if-address-eq0 in
    held_told args.s args.address (at args.states.now) (at args.owners.now) if1.false
