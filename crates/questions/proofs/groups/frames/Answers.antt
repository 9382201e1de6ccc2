-- The queues first; what rests on them after.
use mathlib.Core.Path.{sym, ◌∙◌}
use Prim.Native.Nat.{ℕ}
use native.Mathlib.Omega.{arith}
use lib.ListN.{length-replicate}
use Rattle.tables.specs.Queue as lists
use Rattle.tables.specs.Rule.{◌and◌}
use Rattle.tables.specs.Turn.{learn, unlearn, not_so, both}
use Rattle.tables.specs.Laws.{at_zeros}
use Rattle.leaves.specs.Packed.{unpacked}
use Rattle.rules.proofs.Marked.{not_true}
use Rattle.questions.proofs.Shapes.{all_zero}
use Rattle.questions.proofs.GroupLaws.{both_true, frames_fit, frames_decide}
use Rattle.questions.proofs.groups.frames.Goals as goal

pub returns-then-not-queue : goal.returns-then-not-queue
returns-then-not-queue c =
    let args = c.args in
    (not_so _ (λ h. unlearn (lists.queue _ args.memory.free_queue.now and lists.queue _ args.memory.removal_list.now) (sym c.if-not-queue.true ∙ both _ _ _ _ c.queue.ensures c.queue-2.ensures) h.0.1), not_true)

pub places-queued-requires : goal.places-queued-requires
places-queued-requires c =
    let pre = c.requires in
    (omega (arith, pre.0.free_long, pre.0.within.frames_most), length-replicate {A = ℕ} 64 0, all_zero 64, rw pre.0.free_long (learn (lists.queue _ c.args.memory.free_queue.now) (sym (both_true c.queue.result c.queue-2.result c.if-not-queue.false).0 ∙ c.queue.ensures)))

pub places-removing-requires : goal.places-removing-requires
places-removing-requires c =
    let pre = c.requires in
    (omega (arith, pre.0.removal_long, pre.0.within.frames_most), length-replicate {A = ℕ} 64 0, all_zero 64, rw pre.0.removal_long (learn (lists.queue _ c.args.memory.removal_list.now) (sym (both_true c.queue.result c.queue-2.result c.if-not-queue.false).1 ∙ c.queue-2.ensures)))

pub frames_ok-requires : goal.frames_ok-requires
frames_ok-requires c =
    let a = c.args in (
      frames_fit a.z a.payers.now a.disk.records.now a.memory.frame_words.now a.memory.free_queue.now a.memory.removal_list.now a.memory.addresses.now a.memory.states.now a.memory.active.now c.requires.0 c.requires.1.0 c.requires.2,
      omega (arith, length-replicate {A = ℕ} 128 0, c.requires.0.within.records_most, c.requires.0.states_long),
      λ k h. at_zeros 128 k,
      c.requires.3,
      c.requires.4,
    )

pub returns : goal.returns
returns c =
    let frames-ok = c.frames_ok in
    let places2 = c.places-removing in
    let places = c.places-queued in
    let a = c.args in (
      frames-ok.ensures.0 ∙ frames_decide a.z a.payers.now a.disk.records.now a.memory.frame_words.now a.memory.free_queue.now a.memory.removal_list.now a.memory.addresses.now a.memory.states.now a.memory.active.now
          c.requires.0 (unpacked a.frames.now) places.result places2.result c.requires.1 places.ensures places2.ensures
          (learn (lists.queue _ c.args.memory.free_queue.now) (sym (both_true c.queue.result c.queue-2.result c.if-not-queue.false).0 ∙ c.queue.ensures))
          (learn (lists.queue _ c.args.memory.removal_list.now) (sym (both_true c.queue.result c.queue-2.result c.if-not-queue.false).1 ∙ c.queue-2.ensures)),
      λ e. (frames-ok.ensures.1 e).1,
    )
