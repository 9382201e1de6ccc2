-- `waiting_chore` meets its contract: kind by kind; whether a frame is queued tells what a turn may do.
use mathlib.Core.Path.{refl, sym, ap, ◌∙◌}
use borrow.Author.Tests.{eq-eqb, ne_eqb}
use Rattle.tables.specs.Base.{at}
use Rattle.events.specs.declared.chore.Chore.TheVariants.{Take}
use Rattle.events.proofs.chore.waiting_chore.Goals as goal

pub returns-then-at-eq0 : goal.returns-then-at-eq0
returns-then-at-eq0 c =
    rw c.in-Turn.is (rw (eq-eqb (at c.args.free_queue.now 0) 0 (sym c.at.ensures ∙ c.if-at-eq0.true)) refl)

pub returns-else-at-eq0 : goal.returns-else-at-eq0
returns-else-at-eq0 c =
    rw c.in-Turn.is (rw (ne_eqb (at c.args.free_queue.now 0) 0 (λ h. c.if-at-eq0.false (c.at.ensures ∙ h))) (ap Take c.first.ensures))
