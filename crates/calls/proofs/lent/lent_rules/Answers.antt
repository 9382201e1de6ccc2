-- `lent_rules` meets its contract: question 2 of the other tables, the line's rule, and the chip's.
use native.Mathlib.Omega.{arith}
use lib.ListN.{take}
use Rattle.model.specs.State.{Chip, State}
use Rattle.model.specs.Rules.{chip_rules}
use Rattle.model.specs.Lent.{tables_read, chip_of, all_read}
use Rattle.model.specs.Laws.Fit.{Fit, fit, chip_fits}
use Rattle.model.specs.Laws.Bounds.{pages_most}
use Rattle.leaves.specs.Packed.{unpacked}
use Rattle.calls.specs.Lined.{fit_quiet, ruled_told_all}
use Rattle.calls.proofs.lent.lent_rules.Goals as goal

pub overflow_mul-pages : goal.overflow_mul-pages
overflow_mul-pages c =
    let lent : State =
    let a = c.args in
    all_read (take a.lent (unpacked a.frames.now)) a.pool a.disk a.memory in
    let fits : Fit c.args.sizes lent = fit c.args.sizes lent c.requires in
    omega (arith, pages_most c.args.sizes fits.sizes)

pub all_rules-requires : goal.all_rules-requires
all_rules-requires c =
    let others : State =
    let a = c.args in
    tables_read (take a.lent (unpacked a.frames.now)) a.pool a.disk a.memory in
    let chip : Chip = let a = c.args in chip_of a.memory.chip_words.now a.memory.chip_records.now a.memory.chip_next.now in
    fit_quiet c.args.sizes others c.args.memory.line.now chip c.requires

pub queue-requires : goal.queue-requires
queue-requires c =
    let lent : State =
    let a = c.args in
    all_read (take a.lent (unpacked a.frames.now)) a.pool a.disk a.memory in
    let fits : Fit c.args.sizes lent = fit c.args.sizes lent c.requires in
    (omega (arith, fits.memory.line), omega (arith, pages_most c.args.sizes fits.sizes))

pub chip_ruled-requires : goal.chip_ruled-requires
chip_ruled-requires c =
    let lent : State =
    let a = c.args in
    all_read (take a.lent (unpacked a.frames.now)) a.pool a.disk a.memory in
    let fits : Fit c.args.sizes lent = fit c.args.sizes lent c.requires in
    let f = fits in
    (f.sizes, f.disk.records, f.memory.states, chip_fits c.args.sizes lent c.requires)

pub returns : goal.returns
unfolding chip_rules
returns c =
    let others : State =
    let a = c.args in
    tables_read (take a.lent (unpacked a.frames.now)) a.pool a.disk a.memory in
    let chip : Chip = let a = c.args in chip_of a.memory.chip_words.now a.memory.chip_records.now a.memory.chip_next.now in
    ruled_told_all c.args.sizes others c.args.memory.line.now chip c.all_rules.result c.queue.result c.chip_ruled.result c.all_rules.ensures c.queue.ensures c.chip_ruled.ensures
