-- The twelve tests are the rule's; the products are small.
use Prim.Native.Nat.{◌+◌, ◌*◌, ◌/◌}
use lib.Dec.{eqb}
use lib.ListN.{length}
use native.Mathlib.Omega.{arith}
use Rattle.tables.specs.Queue.{packed}
use Rattle.tables.specs.Rule.{test}
use Rattle.model.specs.Laws.Fit.{within}
use Rattle.model.specs.Laws.Bounds.{pages_most, frame_words_most}
use Rattle.questions.proofs.GroupLaws.{twelve}
use Rattle.questions.proofs.Shapes.{words_told}
use Rattle.questions.proofs.question1.memory_lengths_fit.Goals as goal

pub overflow_mul-pages : goal.overflow_mul-pages
overflow_mul-pages c = omega (arith, pages_most c.args.z (within c.args.z c.requires))

pub overflow_mul-result : goal.overflow_mul-result
overflow_mul-result c =
    let args = c.args in let pre = c.requires in
    omega (arith, frame_words_most args.z (within args.z pre))

pub returns : goal.returns
unfolding test packed
returns c =
    let args = c.args in let z = args.z in
    λ frames pool e. rw (e, words_told z.records c.div_ceil.ensures) (
    twelve (eqb args.count z.frames) (eqb (length args.memory.frame_words.now) (z.frames * z.words)) (eqb (length args.memory.free_queue.now) z.frames) (eqb (length args.memory.removal_list.now) z.frames)
    (eqb (length args.memory.addresses.now) (z.slots * z.pages)) (eqb (length args.memory.states.now) z.records) (eqb (length args.memory.owners.now) z.records) (eqb (length args.memory.free_map.now) ((z.records + 31) / 32))
    (eqb (length args.memory.active.now) z.slots) (eqb (length args.memory.updating.now) z.slots) (eqb (length args.memory.images.now) (z.slots * z.pages)) (eqb (length args.memory.used.now) z.accounts)
    )
