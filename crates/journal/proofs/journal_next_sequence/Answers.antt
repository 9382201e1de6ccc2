-- `journal_next_sequence` meets its contract.
use Rattle.journal.specs.Layout.{next_sequence}
use Rattle.journal.proofs.journal_next_sequence.Goals as goal

pub returns : goal.returns
unfolding next_sequence
returns c = c.wrapping_add_u32.ensures.value
