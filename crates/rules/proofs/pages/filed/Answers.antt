-- An entry that names nothing passes; another as the record that it names.
use Rattle.tables.specs.Base.{at}
use Rattle.tables.specs.Turn.{named_none, yes_so}
use Rattle.tables.specs.Rule.{named}
use Rattle.rules.specs.Passes.{filed_record}
use Rattle.rules.proofs.Entries.{filed_told}
use Rattle.rules.proofs.pages.filed.Goals as goal

pub returns-then-map-eq0 : goal.returns-then-map-eq0
returns-then-map-eq0 c = named_none _ _ c.if-map-eq0.true

pub returns-then-active-eq1 : goal.returns-then-active-eq1
returns-then-active-eq1 c =
    yes_so (named c.args.map (filed_record c.args.s (at c.args.states.now) (at c.args.owners.now) c.args.active)) (λ r e d. absurd (d c.if-active-eq1.true))

pub returns : goal.returns
returns c =
    let args = c.args in
    let if1 = c.if-map-eq0 in
    filed_told args.s args.map (at args.states.now) (at args.owners.now) if1.false args.active c.if-active-eq1.false
