-- `journal_commit` meets its contract: the words of the home sectors, zeros behind the last, and then the first three.
use Rattle.std.proofs.Common.{ℕ, ◌+◌, set, sym, subst, arith}
use Rattle.journal.specs.Laws.Commits.{Filled, filled_none, filled_next, filled_whole}
use Rattle.journal.proofs.journal_commit.Goals as goal

pub loop-i-init : goal.loop-i-init
loop-i-init c = filled_none _ _ (omega arith)

pub loop-i-preserved : goal.loop-i-preserved
loop-i-preserved c =
    subst (λ (x : ℕ). Filled c.args.homes.now (c.loop-i.i + 1) (set c.loop-i.words (3 + c.loop-i.i) x)) (sym c.entry_or_zero.ensures) (filled_next c.args.homes.now c.loop-i.i c.loop-i.words c.loop-i.invariant (omega (arith, c.loop-i-test.true)))

pub returns : goal.returns
returns c =
    filled_whole c.args.sequence c.args.homes.now c.loop-i.words c.loop-i.i (omega (arith, c.loop-i-test.false)) c.requires c.loop-i.invariant
