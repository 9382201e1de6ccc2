-- `look` meets its contract: test by test.
use mathlib.Core.Path.{sym, ◌∙◌}
use native.Mathlib.Omega.{arith}
use Rattle.disk.specs.Laws.Header.{Begun, look_blank, look_first, look_second, look_version, look_damaged, look_sizes, look_ours}
use Rattle.disk.proofs.header.look.Goals as goal

pub returns-then-zeros_from : goal.returns-then-zeros_from
returns-then-zeros_from c =
    look_blank c.args.sizes c.args.words.now (sym c.if-zeros_from.true ∙ c.zeros_from.ensures)

pub returns-then-words-ne-MAGIC1 : goal.returns-then-words-ne-MAGIC1
returns-then-words-ne-MAGIC1 c =
    look_first c.args.sizes c.args.words.now (sym c.if-zeros_from.false ∙ c.zeros_from.ensures) (omega arith)

pub returns-then-words-ne-MAGIC2 : goal.returns-then-words-ne-MAGIC2
returns-then-words-ne-MAGIC2 c =
    look_second c.args.sizes c.args.words.now (sym c.if-zeros_from.false ∙ c.zeros_from.ensures) (omega arith) (omega arith)

pub returns-then-words-ne-VERSION : goal.returns-then-words-ne-VERSION
returns-then-words-ne-VERSION c =
    look_version c.args.sizes c.args.words.now (sym c.if-zeros_from.false ∙ c.zeros_from.ensures) (omega arith) (omega arith) (omega arith)

-- the magic and the version are there
pub returns-then-not-zeros_from : goal.returns-then-not-zeros_from
returns-then-not-zeros_from c =
    let b : Begun c.args.sizes c.args.words.now = record { some = sym c.if-zeros_from.false ∙ c.zeros_from.ensures; first = omega arith; second = omega arith; version = omega arith } in
    look_damaged c.args.sizes c.args.words.now b (sym c.if-not-zeros_from.true ∙ c.zeros_from-2.ensures)

pub returns-then-not-sizes_in : goal.returns-then-not-sizes_in
returns-then-not-sizes_in c =
    let b : Begun c.args.sizes c.args.words.now = record { some = sym c.if-zeros_from.false ∙ c.zeros_from.ensures; first = omega arith; second = omega arith; version = omega arith } in
    look_sizes c.args.sizes c.args.words.now b (sym c.if-not-zeros_from.false ∙ c.zeros_from-2.ensures) (sym c.if-not-sizes_in.true ∙ c.sizes_in.ensures)

pub returns : goal.returns
returns c =
    let b : Begun c.args.sizes c.args.words.now = record { some = sym c.if-zeros_from.false ∙ c.zeros_from.ensures; first = omega arith; second = omega arith; version = omega arith } in
    look_ours c.args.sizes c.args.words.now b (sym c.if-not-zeros_from.false ∙ c.zeros_from-2.ensures) (sym c.if-not-sizes_in.false ∙ c.sizes_in.ensures)
