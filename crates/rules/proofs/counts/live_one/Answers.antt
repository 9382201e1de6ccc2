-- By the address, then by the state of its record.
use mathlib.Core.Path.{◌∙◌}
use Rattle.tables.specs.Base.{at}
use Rattle.rules.proofs.Tally.{no_address, is_live}
use Rattle.rules.proofs.counts.live_one.Goals as goal

pub returns-then-address-eq0 : goal.returns-then-address-eq0
returns-then-address-eq0 c =
    let args = c.args in
    no_address args.address (at args.states.now) c.if-address-eq0.true

pub returns : goal.returns
returns c =
    let args = c.args in
    c.from.ensures ∙ is_live args.address (at args.states.now) c.if-address-eq0.false
