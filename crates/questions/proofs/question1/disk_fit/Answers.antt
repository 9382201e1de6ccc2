-- The sizes first.
use mathlib.Core.Path.{sym, ◌∙◌}
use Rattle.model.specs.Sizes.{sizes_fit}
use Rattle.tables.specs.Turn.{learn, first_no_holds, second_told}
use Rattle.questions.proofs.question1.disk_fit.Goals as goal

pub returns-then-not-sizes_fit : goal.returns-then-not-sizes_fit
returns-then-not-sizes_fit c =
    let args = c.args in
    first_no_holds (sizes_fit args.z) _ (sym c.if-not-sizes_fit.true ∙ c.sizes_fit.ensures)

pub disk_lengths_fit-requires : goal.disk_lengths_fit-requires
disk_lengths_fit-requires c =
    let args = c.args in
    learn (sizes_fit args.z) (sym c.if-not-sizes_fit.false ∙ c.sizes_fit.ensures)

pub returns : goal.returns
returns c =
    let args = c.args in
    second_told (sizes_fit args.z) _ _ (learn (sizes_fit args.z) (sym c.if-not-sizes_fit.false ∙ c.sizes_fit.ensures)) c.disk_lengths_fit.ensures
