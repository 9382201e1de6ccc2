-- `journal_look` meets its contract: test by test.
use Rattle.std.proofs.Common.{sym, ◌∙◌, arith}
use Rattle.journal.specs.Laws.Looks.{look_foreign, look_over_area, look_over_sector, look_no_home, look_not_zero, look_store}
use Rattle.journal.proofs.journal_look.Goals as goal

pub returns-then-words-ne-MAGIC : goal.returns-then-words-ne-MAGIC
returns-then-words-ne-MAGIC c =
    look_foreign c.args.most c.args.room c.args.words.now (omega arith)

pub returns-then-count-most : goal.returns-then-count-most
returns-then-count-most c =
    look_over_area c.args.most c.args.room c.args.words.now (omega arith) (omega arith)

pub returns-then-count-gt125 : goal.returns-then-count-gt125
returns-then-count-gt125 c =
    look_over_sector c.args.most c.args.room c.args.words.now (omega arith) (omega arith) (omega arith)

pub returns-then-not-homes_there : goal.returns-then-not-homes_there
returns-then-not-homes_there c =
    look_no_home c.args.most c.args.room c.args.words.now (record { magic = omega arith; in_area = omega arith; in_sector_holds = omega arith }) (sym c.if-not-homes_there.true ∙ c.homes_there.ensures)

pub returns-then-not-zeros_behind : goal.returns-then-not-zeros_behind
returns-then-not-zeros_behind c =
    look_not_zero c.args.most c.args.room c.args.words.now (record { magic = omega arith; in_area = omega arith; in_sector_holds = omega arith })
    (sym c.if-not-homes_there.false ∙ c.homes_there.ensures) (sym c.if-not-zeros_behind.true ∙ c.zeros_behind.ensures)

-- all tests pass
pub returns : goal.returns
returns c =
    look_store c.args.most c.args.room c.args.words.now (record { magic = omega arith; in_area = omega arith; in_sector_holds = omega arith })
    (sym c.if-not-homes_there.false ∙ c.homes_there.ensures) (sym c.if-not-zeros_behind.false ∙ c.zeros_behind.ensures)
