-- `journal_ask` meets its contract: test by test.
use Rattle.std.proofs.Common.{◌-◌, sym, refl, ◌∙◌, arith}
use Rattle.journal.specs.Steps.{past}
use Rattle.journal.specs.Laws.Asks.{ask_content, ask_past, past_home, past_done}
use Rattle.journal.proofs.journal_ask.Goals as goal

pub returns-then-at-count : goal.returns-then-at-count
returns-then-at-count c =
    ask_content c.args.count c.args.at (omega arith)

pub returns-then-past-eq0 : goal.returns-then-past-eq0
unfolding past
returns-then-past-eq0 c =
    sym (ask_past c.args.count c.args.at 0 (omega arith) (omega arith))

pub returns-then-past-eq1 : goal.returns-then-past-eq1
unfolding past
returns-then-past-eq1 c =
    sym (ask_past c.args.count c.args.at 1 (omega arith) (omega arith))

pub returns-then-past-eq2 : goal.returns-then-past-eq2
unfolding past
returns-then-past-eq2 c =
    sym (ask_past c.args.count c.args.at 2 (omega arith) (omega arith))

pub returns-then-home-count : goal.returns-then-home-count
returns-then-home-count c =
    let k = c.args.at - c.args.count in
    past_home c.args.count k (k - 3) (omega arith) (omega arith) ∙ sym (ask_past c.args.count c.args.at k (omega arith) refl)

pub returns : goal.returns
returns c =
    let k = c.args.at - c.args.count in
    past_done c.args.count k (k - 3) (omega arith) (omega arith) ∙ sym (ask_past c.args.count c.args.at k (omega arith) refl)
