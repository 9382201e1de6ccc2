use lib.ListN.{length}
use Rattle.tables.specs.Base.{at}
use Rattle.tables.specs.Rule.{◌and◌, below, named}
use Rattle.tables.specs.Turn.{Passed}
use Rattle.model.specs.State.{frame_at}
use Rattle.model.specs.Laws.Woven.{woven_page}
use Rattle.leaves.specs.Packed.{unpacked}
use Rattle.rules.specs.Passes.{Prefix, address_of, frame_row, clean_frame}
use Rattle.rules.proofs.Charges.{Tallied}
use Rattle.rules.proofs.frames.frames_ok.Given as goal

abbrev pub invariant-loop-f : goal.invariant-loop-f
invariant-loop-f l =
    Passed l.f (λ k. frame_row l.z.pages l.active l.addresses l.states (at l.queued k) (at l.removing k) (frame_at (unpacked l.frames) k) and clean_frame l.z.words (frame_at (unpacked l.frames) k) k l.words l.records l.addresses l.states)
    × Prefix (length l.states) l.z.frames (λ k. address_of (at l.addresses) (frame_at (unpacked l.frames) k).page) (length l.initial.marks) l.marks l.f
    × Tallied l.z.pages (λ k. woven_page (frame_at (unpacked l.frames) k)) l.accounts l.addresses l.states l.initial.totals l.f l.totals
    × Passed l.f (λ k. named (frame_at (unpacked l.frames) k).page λ i. below i (length l.addresses))
