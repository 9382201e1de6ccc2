-- `chip_fit` meets its contract: the three tests are the rule's; the product is small.
use mathlib.Core.Bool.{and_assoc}
use native.Mathlib.Omega.{arith}
use Prim.Native.Nat.{◌*◌}
use lib.Dec.{eqb}
use lib.ListN.{length}
use Rattle.tables.specs.Rule.{test}
use Rattle.model.specs.Laws.Fit.{within}
use Rattle.calls.specs.Lined.{chip_words_most}
use Rattle.calls.proofs.lent.chip_fit.Goals as goal

pub overflow_mul-result : goal.overflow_mul-result
overflow_mul-result c = omega (arith, chip_words_most c.args.sizes (within c.args.sizes c.requires))

pub returns : goal.returns
unfolding test
returns c =
    let a = c.args in let z = a.sizes in
    and_assoc (eqb (length a.memory.chip_words.now) (z.chip * z.words)) (eqb (length a.memory.chip_records.now) z.chip) (eqb (length a.memory.chip_next.now) 1)
