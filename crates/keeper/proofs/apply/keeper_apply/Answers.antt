-- `keeper_apply` meets its contract: the work over the copied frames is the event over the lent ones.
use mathlib.Core.Path.{◌≡◌, sym, ap, subst, ◌∙◌}
use mathlib.Core.List.{List}
use native.Mathlib.Omega.{arith}
use lib.ListN.{length}
use Rattle.model.specs.declared.frame.Frame.{Frame}
use Rattle.model.specs.declared.frame.Pool.{Pool}
use Rattle.model.specs.State.{State}
use Rattle.model.specs.Lent.{all_of}
use Rattle.model.specs.Pool.{taken, deposited}
use Rattle.model.specs.Laws.Own.{leaves}
use Rattle.model.specs.Calls.{frames_of, apply}
use Rattle.keeper.specs.Copies.{loaded}
use Rattle.keeper.proofs.AnyLength.{whole}
use Rattle.keeper.proofs.Refused.{apply_refuses}
use Rattle.keeper.proofs.apply.keeper_apply.Goals as goal

pub returns : goal.returns
returns c =
    let a = c.args in
    let n = c.apply_one-out.new in
    let out = c.apply_one-out.result in
    let lent = length a.frames.now in
    let before : List Frame → Pool → State = λ f p. all_of f p
    a.records.now a.numbers.now a.accounts.now a.maps.now a.limits.now a.parents.now a.highest.now
    a.frame_words.now a.free_queue.now a.removal_list.now a.addresses.now a.states.now a.owners.now a.free_map.now a.active.now a.updating.now a.images.now a.chip_words.now a.chip_records.now a.chip_next.now a.line.now a.used.now in
    let after : List Frame → Pool → State = λ f p. all_of f p
    n.records n.numbers n.accounts n.maps n.limits a.parents.now n.highest
    n.frame_words n.free_queue n.removal_list n.addresses n.states n.owners n.free_map n.active n.updating n.images n.chip_words n.chip_records n.chip_next n.line n.used in
    let long : length out.frames ≡ 64 = omega arith in
    let pooled : c.deposit.new.pool ≡ deposited out.deposited (taken a.sizes out.taken a.pool.now) = c.deposit.ensures ∙ ap (deposited out.deposited) c.take.ensures in
    let work : leaves out.answer (after (frames_of out.frames lent) c.deposit.new.pool) ≡ apply a.sizes (before (frames_of (loaded a.frames.now) lent) a.pool.now) a.request =
    subst (λ (p : Pool). leaves out.answer (after (frames_of out.frames lent) p) ≡ apply a.sizes (before (frames_of (loaded a.frames.now) lent) a.pool.now) a.request) (sym pooled)
    (c.apply_one-out.ensures ∙ ap (λ (l : List Frame). apply a.sizes (before (frames_of l lent) a.pool.now) a.request) c.load-values.ensures) in
    whole a.sizes a.frames.now (before a.frames.now a.pool.now) (λ (st : State). apply a.sizes st a.request) (apply_refuses a.sizes a.request) (after a.frames.now c.deposit.new.pool) out.answer out.frames long work
    c.save.new.frames c.save.ensures
