-- The five passes together.
use Rattle.questions.proofs.GroupLaws.{five, five_true}
use Rattle.questions.proofs.groups.disk.Goals as goal

pub returns : goal.returns
returns c =
    let mark-all = c.mark_all in
    (five _ _ _ _ _ _ _ _ _ _ mark-all.ensures.0 c.disk_slots_ok.ensures c.numbers_ok.ensures c.empty_maps_ok.ensures c.parents_ok.ensures, λ e. mark-all.ensures.1 (five_true _ _ _ _ _ e))
