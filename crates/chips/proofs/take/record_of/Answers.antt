-- `record_of` meets its contract.
use mathlib.Core.Path.{ap, ◌∙◌}
use Prim.Native.Nat.{pred}
use Rattle.tables.specs.Base.{at}
use Rattle.chips.proofs.take.record_of.Goals as goal

pub returns : goal.returns
returns c =
    record {
      within = c.named-2.ensures.within;
      is = c.named-2.ensures.is ∙ ap pred (c.at.ensures ∙ ap (at c.args.addresses.now) c.named.ensures.is);
    }
