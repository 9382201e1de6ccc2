-- `keeper_apply_all` meets its contract: the work over the copied frames is the list over the lent ones.
use mathlib.Core.Path.{◌≡◌, sym, ap, subst, ◌∙◌}
use mathlib.Core.List.{List}
use native.Mathlib.Omega.{arith}
use lib.ListN.{length}
use Rattle.model.specs.declared.frame.Frame.{Frame}
use Rattle.model.specs.declared.frame.Pool.{Pool}
use Rattle.model.specs.State.{State}
use Rattle.model.specs.Lent.{all_of}
use Rattle.keeper.specs.Copies.{loaded}
use Rattle.model.specs.Calls.{frames_of}
use Rattle.model.specs.ApplyAll.{Listed, apply_all}
use Rattle.keeper.proofs.AnyList.{whole_list}
use Rattle.keeper.proofs.apply_all.keeper_apply_all.Goals as goal

pub returns : goal.returns
returns c =
    let a = c.args in
    let n = c.apply_all-out.new in
    let out = c.apply_all-out.result in
    let lent = length a.frames.now in
    let before : List Frame → Pool → State = λ f p. all_of f p
    a.records.now a.numbers.now a.accounts.now a.maps.now a.limits.now a.parents.now a.highest.now
    a.frame_words.now a.free_queue.now a.removal_list.now a.addresses.now a.states.now a.owners.now a.free_map.now a.active.now a.updating.now a.images.now a.chip_words.now a.chip_records.now a.chip_next.now a.line.now a.used.now in
    let after : List Frame → Pool → State = λ f p. all_of f p
    n.records n.numbers n.accounts n.maps n.limits a.parents.now n.highest
    n.frame_words n.free_queue n.removal_list n.addresses n.states n.owners n.free_map n.active n.updating n.images n.chip_words n.chip_records n.chip_next n.line n.used in
    let listed : List Frame → Pool → Listed = λ f p. record { answer = out.answer; answers = n.answers; left = after f p } in
    let long : length out.frames ≡ 64 = omega arith in
    let work : listed (frames_of out.frames lent) c.renew.new.pool ≡ apply_all a.sizes a.requests.now a.answers.now (before (frames_of (loaded a.frames.now) lent) a.pool.now) =
    subst (λ (p : Pool). listed (frames_of out.frames lent) p ≡ apply_all a.sizes a.requests.now a.answers.now (before (frames_of (loaded a.frames.now) lent) a.pool.now)) (sym c.renew.ensures)
    (c.apply_all-out.ensures ∙ ap (λ (l : List Frame). apply_all a.sizes a.requests.now a.answers.now (before (frames_of l lent) a.pool.now)) c.load-values.ensures) in
    whole_list a.sizes a.frames.now (before a.frames.now a.pool.now) a.requests.now a.answers.now (after a.frames.now c.renew.new.pool) out.answer n.answers out.frames long work
    c.save.new.frames c.save.ensures
