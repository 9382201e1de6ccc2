-- `keeper_restart` meets its contract: the work over the copied frames is the restart over the lent ones.
use mathlib.Core.Path.{◌≡◌, sym, ap, subst, ◌∙◌}
use mathlib.Core.List.{List}
use native.Mathlib.Omega.{arith}
use lib.ListN.{length}
use Rattle.model.specs.declared.frame.Frame.{Frame}
use Rattle.model.specs.declared.frame.Pool.{Pool}
use Rattle.model.specs.State.{State}
use Rattle.model.specs.Lent.{all_of}
use Rattle.model.specs.Laws.Own.{leaves}
use Rattle.keeper.specs.Copies.{loaded}
use Rattle.model.specs.Step.{restart}
use Rattle.model.specs.Calls.{frames_of}
use Rattle.keeper.proofs.AnyLength.{whole}
use Rattle.keeper.proofs.Refused.{restart_refuses}
use Rattle.keeper.proofs.restart.keeper_restart.Goals as goal

pub returns : goal.returns
returns c =
    let a = c.args in
    let n = c.restart_core-fresh.new in
    let out = c.restart_core-fresh.result in
    let lent = length a.frames.now in
    let before : List Frame → Pool → State = λ f p. all_of f p
    a.records.now a.numbers.now a.accounts.now a.maps.now a.limits.now a.parents.now a.highest.now
    a.frame_words.now a.free_queue.now a.removal_list.now a.addresses.now a.states.now a.owners.now a.free_map.now a.active.now a.updating.now a.images.now a.chip_words.now a.chip_records.now a.chip_next.now a.line.now a.used.now in
    let after : List Frame → Pool → State = λ f p. all_of f p
    a.records.now a.numbers.now a.accounts.now a.maps.now a.limits.now a.parents.now n.highest
    n.frame_words n.free_queue n.removal_list n.addresses n.states n.owners n.free_map n.active n.updating n.images n.chip_words n.chip_records n.chip_next n.line n.used in
    let long : length out.frames ≡ 64 = omega arith in
    let work : leaves out.answer (after (frames_of out.frames lent) c.renew.new.pool) ≡ restart a.sizes (before (frames_of (loaded a.frames.now) lent) a.pool.now) =
    subst (λ (p : Pool). leaves out.answer (after (frames_of out.frames lent) p) ≡ restart a.sizes (before (frames_of (loaded a.frames.now) lent) a.pool.now)) (sym c.renew.ensures)
    (c.restart_core-fresh.ensures ∙ ap (λ (l : List Frame). restart a.sizes (before (frames_of l lent) a.pool.now)) c.load-values.ensures) in
    whole a.sizes a.frames.now (before a.frames.now a.pool.now) (λ (st : State). restart a.sizes st) (restart_refuses a.sizes) (after a.frames.now c.renew.new.pool) out.answer out.frames long work
    c.save.new.frames c.save.ensures
