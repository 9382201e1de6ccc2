-- The four tests.
use Rattle.tables.specs.Turn.{four}
use Rattle.questions.proofs.GroupLaws.{same_told}
use Rattle.questions.proofs.Shapes.{words_told}
use Rattle.questions.proofs.groups.counts.Goals as goal

pub returns : goal.returns
returns c =
    let args = c.args in
    let free-count = c.free_count in
    let hand-fit = c.hand_fit in
    let used-ok = c.used_ok in
    four _ _ _ _ _ _ _ _ hand-fit.ensures (same_told args.pool.free _ free-count.result free-count.ensures) (rw (words_told args.z.records c.div_ceil.ensures) at c.free_map_ok.ensures) used-ok.ensures
