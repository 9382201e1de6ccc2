-- `carry`: a cut is the restart, any other request the event that it asks for.
use Rattle.std.proofs.Common.{sym, ap, ◌∙◌}
use Rattle.model.specs.declared.sizes.Sizes.{Sizes}
use Rattle.model.specs.Pool.{taken, deposited}
use Rattle.replay.proofs.Carried.{by_restart, by_apply, by_pool}
use Rattle.replay.proofs.machine.carry.Goals as goal

pub returns-then-asked-eq-CUT : goal.returns-then-asked-eq-CUT
returns-then-asked-eq-CUT c = by_restart _ _ c.sizes.ensures c.if-asked-eq-CUT.true c.restart_core.ensures

pub returns : goal.returns
returns c =
    let out = c.apply_one-out in
    by_pool _ (by_apply _ _ c.sizes-2.ensures c.if-asked-eq-CUT.false out.ensures)
    (c.deposit-pool.ensures ∙ ap (deposited out.result.deposited) (c.take-fewer.ensures ∙ ap (λ (x : Sizes). taken x out.result.taken c.args.held.pool) (c.sizes-3.ensures ∙ sym c.sizes-2.ensures)))
