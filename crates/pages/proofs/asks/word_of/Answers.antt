-- `word_of` meets its contract: the place is far below what a word holds.
use native.Mathlib.Omega.{arith}
use Rattle.model.specs.Laws.Bounds.{frame_most}
use Rattle.pages.proofs.asks.word_of.Goals as goal

pub overflow_mul-result : goal.overflow_mul-result
overflow_mul-result c = omega (arith, frame_most c.args.sizes c.requires.0 c.args.frame c.requires.1)

pub overflow_add-result : goal.overflow_add-result
overflow_add-result c = omega (arith, frame_most c.args.sizes c.requires.0 c.args.frame c.requires.1, c.requires.0.words_most)
