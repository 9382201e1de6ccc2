-- `writeback_chore` meets its contract: kind by kind; a good transfer tells its record.
use mathlib.Core.Path.{refl, ap, ◌∙◌}
use Prim.Native.Nat.{pred}
use borrow.Author.Tests.{eq-eqb, ne_eqb}
use Rattle.tables.specs.Base.{at}
use Rattle.model.specs.declared.frame.Frame.{Frame}
use Rattle.events.specs.declared.chore.Chore.TheVariants.{Put}
use Rattle.events.proofs.chore.writeback_chore.Goals as goal

pub returns-then-good-eq1 : goal.returns-then-good-eq1
returns-then-good-eq1 c =
    rw c.in-PageDone.is (rw (eq-eqb _ 1 c.if-good-eq1.true) (ap Put (c.record_of.ensures.is ∙ ap (λ (x : Frame). pred (at c.args.addresses.now (pred x.page))) c.frame_at-old.ensures)))

pub returns-else-good-eq1 : goal.returns-else-good-eq1
returns-else-good-eq1 c =
    rw c.in-PageDone.is (rw (ne_eqb _ 1 c.if-good-eq1.false) refl)
