-- An entry that names nothing passes; another as the record that it names.
use mathlib.Core.Path.{◌∙◌}
use mathlib.Core.Logic.{inl}
use Rattle.tables.specs.Base.{at}
use Rattle.tables.specs.Turn.{named_none, yes_so}
use Rattle.tables.specs.Rule.{named}
use Rattle.rules.specs.Passes.{imaged_record}
use Rattle.rules.proofs.Entries.{imaged_told}
use Rattle.rules.proofs.pages.imaged.Goals as goal

pub returns-then-image-eq0 : goal.returns-then-image-eq0
returns-then-image-eq0 c = named_none _ _ c.if-image-eq0.true

pub returns-then-address-image : goal.returns-then-address-image
returns-then-address-image c =
    yes_so (named c.args.image (imaged_record c.args.s (at c.args.states.now) (at c.args.owners.now) c.args.address)) (λ r e. inl (c.if-address-image.true ∙ e))

pub returns : goal.returns
returns c =
    let args = c.args in
    let if1 = c.if-image-eq0 in
    imaged_told args.s args.image (at args.states.now) (at args.owners.now) if1.false args.address c.if-address-image.false
