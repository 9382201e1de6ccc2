-- `is_shared` meets its contract: by the entry, then by the count of what it names.
use Rattle.std.proofs.Common.{not, ℕ, ap, ◌∙◌, arith}
use lib.Dec.{eqb}
use borrow.Author.Tests.{eq-eqb}
use Rattle.tables.specs.Turn.{not_so}
use Rattle.mending.specs.Passes.{of_shared, shared_one}
use Rattle.mending.proofs.named.is_shared.Goals as goal

pub returns-then-entry-ne0 : goal.returns-then-entry-ne0
returns-then-entry-ne0 c =
    rw c.from.ensures at (ap (λ (n : ℕ). eqb n 2) c.at.ensures) ∙ shared_one c.args.named.now c.args.entry c.if-entry-ne0.true

pub returns-else-entry-ne0 : goal.returns-else-entry-ne0
returns-else-entry-ne0 c =
    ap not (eq-eqb c.args.entry 0 c.if-entry-ne0.false) ∙ not_so (of_shared c.args.named.now c.args.entry) (λ h. omega (arith, h.1, c.if-entry-ne0.false))
