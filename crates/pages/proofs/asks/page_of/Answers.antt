-- `page_of` meets its contract: the place is far below what a word holds.
use native.Mathlib.Omega.{arith}
use Rattle.model.specs.Laws.Bounds.{slot_most}
use Rattle.pages.proofs.asks.page_of.Goals as goal

pub overflow_mul-result : goal.overflow_mul-result
overflow_mul-result c = omega (arith, slot_most c.args.sizes c.requires.0 c.args.slot c.requires.1)

pub overflow_add-result : goal.overflow_add-result
overflow_add-result c = omega (arith, slot_most c.args.sizes c.requires.0 c.args.slot c.requires.1, c.requires.0.pages_most)
