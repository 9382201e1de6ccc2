use Rattle.model.specs.State.{frame_at}
use Rattle.model.specs.Laws.Woven.{woven_page}
use Rattle.leaves.specs.Packed.{unpacked}
use Rattle.rules.proofs.Charges.{Tallied}
use Rattle.accounts.proofs.count.count_frames.Given as goal

abbrev pub invariant-loop-f : goal.invariant-loop-f
invariant-loop-f l = Tallied l.z.pages (λ k. woven_page (frame_at (unpacked l.frames) k)) l.payers l.addresses l.states l.initial.totals l.f l.totals
