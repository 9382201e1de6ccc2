-- `whole_fields`: at each turn the lines so far and what is printed from there on are what is printed from the first place on.
use Rattle.std.proofs.Common.{◌-◌}
use Rattle.model.specs.Calls.{frames_of}
use Rattle.model.specs.Lent.{all_of}
use Rattle.replay.specs.Output.{Ran}
use Rattle.replay.proofs.whole.whole_fields.Given as goal

abbrev pub invariant-loop-step : goal.invariant-loop-step
invariant-loop-step l = Ran l.input l.fn.out l.out l.from l.count
    (all_of (frames_of l.fn.before.frames 2) l.fn.before.pool l.fn.records l.fn.numbers l.fn.accounts l.fn.maps l.fn.limits l.fn.parents l.fn.highest l.fn.frame_words l.fn.free_queue l.fn.removal_list l.fn.addresses l.fn.states l.fn.owners l.fn.free_map l.fn.active l.fn.updating l.fn.images l.fn.chip_words l.fn.chip_records l.fn.chip_next l.fn.line l.fn.used)
    l.place l.size l.n
    (all_of (frames_of l.held.frames 2) l.held.pool l.records l.numbers l.accounts l.maps l.limits l.parents l.highest l.frame_words l.free_queue l.removal_list l.addresses l.states l.owners l.free_map l.active l.updating l.images l.chip_words l.chip_records l.chip_next l.line l.used)

abbrev pub decreases-loop-step : goal.decreases-loop-step
decreases-loop-step l = 18446744073709551615 - l.n
