-- `fetch` meets its contract: the fault's outcome tells the turn's, and where it found no frame free, all is as it was and the claim's outcome does.
use mathlib.Core.Path.{sym, ◌∙◌}
use native.Mathlib.Omega.{arith}
use Rattle.model.specs.State.{State}
use Rattle.model.specs.Lent.{lined_of}
use Rattle.model.specs.Pool.{taken, deposited}
use Rattle.leaves.specs.Packed.{frames_in, unpacked}
use Rattle.model.specs.Laws.LineLaws.{InFrame}
use Rattle.pages.specs.Faults.{fault_left}
use Rattle.pages.proofs.ItsFrame.{its_in}
use Rattle.dispatch.proofs.FaultLaws.{fault_ready}
use Rattle.waiting.proofs.Turned.{packed_line}
use Rattle.waiting.proofs.Brought.{brought, brought_nulls, claim_asked, brought_by_claim, brought_nulls_by_claim}
use Rattle.waiting.proofs.turn.fetch.Goals as goal

pub nonzero_rem-i : goal.nonzero_rem-i
nonzero_rem-i c = omega (arith, c.requires.0.fits.sizes.pages)

pub fault-done-requires : goal.fault-done-requires
fault-done-requires c =
    let lent : State =
    let a = c.args in
    lined_of (frames_in a.sizes a.frames.now) a.pool a.records.now a.numbers.now a.accounts.now a.maps.now a.limits.now a.parents.now a.highest.now a.frame_words.now a.free_queue.now a.removal_list.now
    a.addresses.now a.states.now a.owners.now a.free_map.now a.active.now a.updating.now a.images.now a.line.now a.used.now in
    fault_ready c.args.sizes lent c.requires.0

pub claim-requires : goal.claim-requires
claim-requires c =
    let lent : State =
    let a = c.args in
    lined_of (frames_in a.sizes a.frames.now) a.pool a.records.now a.numbers.now a.accounts.now a.maps.now a.limits.now a.parents.now a.highest.now a.frame_words.now a.free_queue.now a.removal_list.now
    a.addresses.now a.states.now a.owners.now a.free_map.now a.active.now a.updating.now a.images.now a.line.now a.used.now in
    let absent : ¬ InFrame c.args.sizes lent = λ h. let a = c.args in c.requires.3 (its_in a.sizes (unpacked a.frames.now) a.i (rw c.requires.2 h)) in
    let d = c.fault-done.ensures in
    claim_asked c.args.sizes lent c.requires.0 c.requires.1 absent c.args.i c.requires.2 _ (fault_left (d.frames, (d.words, (d.free_queue, (d.removal_list, (d.addresses, (d.states, (d.owners, (d.free_map, (d.hand, d.free)))))))))) d.answer (c.if-answer-no_frame.true ∙ c.number-no_frame.ensures)

pub returns-then-answer-no_frame : goal.returns-then-answer-no_frame
unfolding taken deposited
returns-then-answer-no_frame c =
    let lent : State =
    let a = c.args in
    lined_of (frames_in a.sizes a.frames.now) a.pool a.records.now a.numbers.now a.accounts.now a.maps.now a.limits.now a.parents.now a.highest.now a.frame_words.now a.free_queue.now a.removal_list.now
    a.addresses.now a.states.now a.owners.now a.free_map.now a.active.now a.updating.now a.images.now a.line.now a.used.now in
    let absent : ¬ InFrame c.args.sizes lent = λ h. let a = c.args in c.requires.3 (its_in a.sizes (unpacked a.frames.now) a.i (rw c.requires.2 h)) in
    let d = c.fault-done.ensures in
    rw c.claimed.ensures (record {
      left = brought_by_claim c.args.sizes lent c.requires.0 c.requires.1 absent c.args.i c.requires.2 _ (fault_left (d.frames, (d.words, (d.free_queue, (d.removal_list, (d.addresses, (d.states, (d.owners, (d.free_map, (d.hand, d.free)))))))))) d.answer (c.if-answer-no_frame.true ∙ c.number-no_frame.ensures)
          (let e = c.claim.ensures in record { answer = e.answer; frames = e.frames; free_queue = e.free_queue; removal_list = e.removal_list; states = e.states; used = e.used });
      nulled = brought_nulls_by_claim c.args.sizes lent c.requires.0 c.requires.1 absent c.args.i c.requires.2 _ (fault_left (d.frames, (d.words, (d.free_queue, (d.removal_list, (d.addresses, (d.states, (d.owners, (d.free_map, (d.hand, d.free)))))))))) d.answer (c.if-answer-no_frame.true ∙ c.number-no_frame.ensures) c.claim.ensures.nulled;
    })

pub settle-requires : goal.settle-requires
settle-requires c =
    let lent : State =
    let a = c.args in
    lined_of (frames_in a.sizes a.frames.now) a.pool a.records.now a.numbers.now a.accounts.now a.maps.now a.limits.now a.parents.now a.highest.now a.frame_words.now a.free_queue.now a.removal_list.now
    a.addresses.now a.states.now a.owners.now a.free_map.now a.active.now a.updating.now a.images.now a.line.now a.used.now in
    packed_line c.args.sizes lent c.requires.0

pub returns : goal.returns
unfolding deposited
returns c =
    let lent : State =
    let a = c.args in
    lined_of (frames_in a.sizes a.frames.now) a.pool a.records.now a.numbers.now a.accounts.now a.maps.now a.limits.now a.parents.now a.highest.now a.frame_words.now a.free_queue.now a.removal_list.now
    a.addresses.now a.states.now a.owners.now a.free_map.now a.active.now a.updating.now a.images.now a.line.now a.used.now in
    let absent : ¬ InFrame c.args.sizes lent = λ h. let a = c.args in c.requires.3 (its_in a.sizes (unpacked a.frames.now) a.i (rw c.requires.2 h)) in
    let d = c.fault-done.ensures in
    rw (c.settle.ensures.done, d.deposited, d.nulled) (record {
      left = brought c.args.sizes lent c.requires.0 c.requires.1 absent c.args.i c.requires.2 _ (fault_left (d.frames, (d.words, (d.free_queue, (d.removal_list, (d.addresses, (d.states, (d.owners, (d.free_map, (d.hand, d.free)))))))))) d.answer (λ h. c.if-answer-no_frame.false (h ∙ sym c.number-no_frame.ensures)) c.settle.ensures.waiting;
      nulled = brought_nulls c.args.sizes lent c.requires.0 c.requires.1 absent c.args.i c.requires.2 _ (fault_left (d.frames, (d.words, (d.free_queue, (d.removal_list, (d.addresses, (d.states, (d.owners, (d.free_map, (d.hand, d.free)))))))))) d.answer (λ h. c.if-answer-no_frame.false (h ∙ sym c.number-no_frame.ensures));
    })
