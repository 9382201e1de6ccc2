-- By whether the entry names a page.
use borrow.Author.Tests.{eq-eqb, ne_eqb}
use Rattle.rules.proofs.frames.address_of.Goals as goal

pub returns-then-page-eq0 : goal.returns-then-page-eq0
returns-then-page-eq0 c = rw (eq-eqb c.args.page 0 c.if-page-eq0.true)

pub returns : goal.returns
returns c = rw (ne_eqb c.args.page 0 c.if-page-eq0.false)
