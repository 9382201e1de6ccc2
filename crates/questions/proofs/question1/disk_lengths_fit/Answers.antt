-- The seven tests are the rule's; the products are small.
use mathlib.Core.Bool.{and_assoc}
use native.Mathlib.Omega.{arith}
use Rattle.tables.specs.Rule.{test}
use Rattle.model.specs.Laws.Fit.{within}
use Rattle.model.specs.Laws.Bounds.{pages_most, record_words_most}
use Rattle.questions.proofs.question1.disk_lengths_fit.Goals as goal

pub overflow_mul-result : goal.overflow_mul-result
overflow_mul-result c = omega (arith, record_words_most c.args.z (within c.args.z c.requires))

pub overflow_mul-result-2 : goal.overflow_mul-result-2
overflow_mul-result-2 c =
    let args = c.args in let pre = c.requires in
    omega (arith, pages_most args.z (within args.z pre))

pub returns : goal.returns
unfolding test
returns c = simp and_assoc
