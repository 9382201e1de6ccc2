-- `ask_turns` meets its contract: refused by question 1 or 2, or the requests in turn.
use mathlib.Core.Path.{◌≡◌, refl, sym, ◌∙◌}
use mathlib.Core.List.{List}
use Rattle.model.specs.declared.frame.Frame.{Frame}
use Rattle.model.specs.State.{State}
use Rattle.model.specs.Lent.{all_of}
use Rattle.model.specs.Calls.{frames_of}
use Rattle.model.specs.Pool.{taken, deposited}
use native.Mathlib.Omega.{arith}
use Rattle.model.specs.Refusals.{number_above}
use Rattle.leaves.specs.Packed.{unpacked}
use Rattle.calls.specs.Common.{common}
use Rattle.batch.proofs.Whole.{all_refused, all_turned, packed_first, packed_kept, packed_back}
use Rattle.batch.proofs.asked.ask_turns.Goals as goal

pub common-requires : goal.common-requires
common-requires c = c.requires.0

pub refuse_all-answer-requires : goal.refuse_all-answer-requires
refuse_all-answer-requires c = c.requires.2

pub returns-in-Err : goal.returns-in-Err
unfolding taken deposited
returns-in-Err c =
    let at : List Frame → State = λ l.
    let a = c.args in
    all_of l a.pool a.records.now a.numbers.now a.accounts.now a.maps.now a.limits.now a.parents.now a.highest.now
    a.frame_words.now a.free_queue.now a.removal_list.now a.addresses.now a.states.now a.owners.now a.free_map.now a.active.now a.updating.now a.images.now a.chip_words.now a.chip_records.now a.chip_next.now a.line.now a.used.now in
    let lent : State = at (frames_of (unpacked c.args.frames.now) c.args.lent) in
    let a = c.args in
    record {
      listed = all_refused a.sizes a.requests.now a.answers.now a.n lent _ (c.number.ensures ∙ c.in-Err.ensures) (λ e. omega (arith, number_above c.in-Err.no, c.number.ensures, e)) c.refuse_all-answer.ensures;
      one = λ h. refl;
    }

pub turns-requires : goal.turns-requires
turns-requires c =
    let at : List Frame → State = λ l.
    let a = c.args in
    all_of l a.pool a.records.now a.numbers.now a.accounts.now a.maps.now a.limits.now a.parents.now a.highest.now
    a.frame_words.now a.free_queue.now a.removal_list.now a.addresses.now a.states.now a.owners.now a.free_map.now a.active.now a.updating.now a.images.now a.chip_words.now a.chip_records.now a.chip_next.now a.line.now a.used.now in
    let lent : State = at (frames_of (unpacked c.args.frames.now) c.args.lent) in
    let yes : (common c.args.sizes lent ≡ 0) = sym c.in_default.ensures in
    let a = c.args in
    (c.requires.1, c.requires.2, packed_kept a.sizes at (λ l. refl) a.frames.now a.lent c.requires.0 yes)

pub returns : goal.returns
returns c =
    let at : List Frame → State = λ l.
    let a = c.args in
    all_of l a.pool a.records.now a.numbers.now a.accounts.now a.maps.now a.limits.now a.parents.now a.highest.now
    a.frame_words.now a.free_queue.now a.removal_list.now a.addresses.now a.states.now a.owners.now a.free_map.now a.active.now a.updating.now a.images.now a.chip_words.now a.chip_records.now a.chip_next.now a.line.now a.used.now in
    let lent : State = at (frames_of (unpacked c.args.frames.now) c.args.lent) in
    let yes : (common c.args.sizes lent ≡ 0) = sym c.in_default.ensures in
    let a = c.args in record {
      listed = all_turned a.sizes a.requests.now a.answers.now a.n at _
          (packed_first a.sizes at (λ l. refl) a.frames.now a.lent c.requires.0 yes) c.turns.ensures.listed
          (packed_back a.sizes at (λ l. refl) a.frames.now a.lent c.requires.0 yes c.turns.new.frames c.turns.auto.frames);
      one = c.turns.ensures.one;
    }
