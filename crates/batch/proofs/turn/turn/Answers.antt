-- `turn` meets its contract: after a yes to questions 1 and 2 the request's own questions answer it.
use mathlib.Core.Path.{refl, sym, ap, ◌∙◌}
use Rattle.model.specs.State.{State}
use Rattle.model.specs.Lent.{all_of}
use Rattle.model.specs.Pool.{taken, deposited}
use Rattle.leaves.specs.Packed.{frames_in}
use Rattle.batch.proofs.Turning.{turned_unknown, turned_known}
use Rattle.batch.proofs.turn.turn.Goals as goal

pub request_at-requires : goal.request_at-requires
request_at-requires c = c.requires.0

pub put_answer-requires : goal.put_answer-requires
put_answer-requires c = c.requires.1

pub returns-in_default : goal.returns-in_default
unfolding taken deposited
returns-in_default c =
    let lent : State =
    let a = c.args in
    all_of (frames_in a.sizes a.frames.now) a.last.pool a.records.now a.numbers.now a.accounts.now a.maps.now a.limits.now a.parents.now a.highest.now
    a.frame_words.now a.free_queue.now a.removal_list.now a.addresses.now a.states.now a.owners.now a.free_map.now a.active.now a.updating.now a.images.now a.chip_words.now a.chip_records.now a.chip_next.now a.line.now a.used.now in
    let a = c.args in
    rw c.from-answer.ensures (record {
      turned = turned_unknown a.sizes a.requests.now a.answers.now a.k a.last.answer lent c.requires.2 _ c.request_at.ensures (sym c.in_default.is ∙ c.decode-decoded.ensures.0) (rw c.from-answer.ensures at c.put_answer.ensures);
      pool = refl;
    })

pub carry_whole-out-requires : goal.carry_whole-out-requires
carry_whole-out-requires c =
    c.requires.2

pub put_answer-requires-2 : goal.put_answer-requires-2
put_answer-requires-2 c =
    c.requires.1

pub returns : goal.returns
returns c =
    let lent : State =
    let a = c.args in
    all_of (frames_in a.sizes a.frames.now) a.last.pool a.records.now a.numbers.now a.accounts.now a.maps.now a.limits.now a.parents.now a.highest.now
    a.frame_words.now a.free_queue.now a.removal_list.now a.addresses.now a.states.now a.owners.now a.free_map.now a.active.now a.updating.now a.images.now a.chip_words.now a.chip_records.now a.chip_next.now a.line.now a.used.now in
    let a = c.args in
    let e = c.deposit-pool.ensures ∙ ap (deposited c.carry_whole-out.result.deposited) c.take-fewer.ensures in record {
      turned = turned_known a.sizes a.requests.now a.answers.now a.k a.last.answer lent c.requires.2 _ _ _ c.request_at.ensures (sym c.in-Some.is ∙ c.decode-decoded.ensures.0)
          c.carry_whole-out.ensures e c.put_answer-2.ensures;
      pool = e;
    }
