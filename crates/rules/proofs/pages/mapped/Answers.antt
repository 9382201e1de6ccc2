-- An entry that names nothing passes; another as the record that it names.
use mathlib.Core.Path.{◌∙◌}
use mathlib.Core.Logic.{inl}
use Rattle.tables.specs.Base.{at}
use Rattle.tables.specs.Turn.{named_none, yes_so}
use Rattle.tables.specs.Rule.{named}
use Rattle.rules.specs.Passes.{mapped_record}
use Rattle.rules.proofs.Entries.{mapped_told}
use Rattle.rules.proofs.pages.mapped.Goals as goal

pub returns-then-map-eq0 : goal.returns-then-map-eq0
returns-then-map-eq0 c = named_none _ _ c.if-map-eq0.true

pub returns-then-active-ne1 : goal.returns-then-active-ne1
returns-then-active-ne1 c =
    yes_so (named c.args.map (mapped_record c.args.s (at c.args.states.now) (at c.args.owners.now) c.args.active c.args.address)) (λ r e on. absurd (c.if-active-ne1.true on))

pub returns-then-address-map : goal.returns-then-address-map
returns-then-address-map c =
    let args = c.args in
    yes_so (named args.map (mapped_record args.s (at args.states.now) (at args.owners.now) args.active args.address)) (λ r e on. inl (c.if-address-map.true ∙ e))

pub returns : goal.returns
returns c =
    let args = c.args in
    let if3 = c.if-address-map in
    let if2 = c.if-active-ne1 in
    let if1 = c.if-map-eq0 in
    mapped_told args.s args.map (at args.states.now) (at args.owners.now) if1.false args.active args.address if2.false if3.false
