-- `lent_fit` meets its contract: question 1 of the other tables, the line's length, and the chip's.
use mathlib.Core.Path.{refl, sym, ◌∙◌}
use mathlib.Core.Bool.{true, false}
use mathlib.Core.List.{List}
use lib.ListN.{replicate, length-replicate}
use Rattle.tables.specs.Rule.{Holds, test}
use Rattle.tables.specs.Turn.{learn}
use Rattle.model.specs.declared.frame.Frame.{Frame}
use Rattle.model.specs.declared.frame.Pool.{Pool}
use Rattle.model.specs.State.{Chip, State, no_frame}
use Rattle.model.specs.Lent.{tables_read, chip_of, no_pool}
use Rattle.model.specs.Step.{chip_lengths}
use Rattle.model.specs.Laws.Fit.{sizes_fit_holds}
use Rattle.model.specs.Laws.Apart.{tables_fit, fit_apart}
use Rattle.calls.specs.Lined.{fit_told_all}
use Rattle.calls.proofs.lent.lent_fit.Goals as goal

pub returns-then-not-all_fit : goal.returns-then-not-all_fit
returns-then-not-all_fit c =
    let others : List Frame → Pool → State = λ frames pool.
    let a = c.args in
    tables_read frames pool a.disk a.memory in
    let chip : Chip = let a = c.args in chip_of a.memory.chip_words.now a.memory.chip_records.now a.memory.chip_next.now in
    let a = c.args in
    λ frames pool e. fit_told_all a.sizes (others frames pool) a.memory.line.now chip false (test (chip_lengths a.sizes chip)) (sym c.if-not-all_fit.true ∙ c.all_fit.ensures frames pool e) refl

pub chip_fit-requires : goal.chip_fit-requires
chip_fit-requires c =
    let others : List Frame → Pool → State = λ frames pool.
    let a = c.args in
    tables_read frames pool a.disk a.memory in
    let a = c.args in
    let frames = replicate a.lent no_frame in
    let st = others frames no_pool in
    let h : Holds (tables_fit a.sizes st) = learn (tables_fit a.sizes st) (sym c.if-not-all_fit.false ∙ c.all_fit.ensures frames no_pool (length-replicate a.lent no_frame)) in
    sizes_fit_holds a.sizes (fit_apart a.sizes st h).sizes

pub returns : goal.returns
returns c =
    let others : List Frame → Pool → State = λ frames pool.
    let a = c.args in
    tables_read frames pool a.disk a.memory in
    let chip : Chip = let a = c.args in chip_of a.memory.chip_words.now a.memory.chip_records.now a.memory.chip_next.now in
    let a = c.args in
    λ frames pool e. fit_told_all a.sizes (others frames pool) a.memory.line.now chip true c.chip_fit.result (sym c.if-not-all_fit.false ∙ c.all_fit.ensures frames pool e) c.chip_fit.ensures
