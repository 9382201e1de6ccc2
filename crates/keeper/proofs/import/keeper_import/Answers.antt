-- `keeper_import` meets its contract: the work over the copied frames is the import over the lent ones.
use mathlib.Core.Path.{◌≡◌, sym, subst}
use mathlib.Core.List.{List}
use lib.ListN.{length}
use Rattle.model.specs.declared.frame.Frame.{Frame}
use Rattle.model.specs.declared.frame.Pool.{Pool}
use Rattle.model.specs.State.{State}
use Rattle.model.specs.Lent.{all_of}
use Rattle.model.specs.Laws.Own.{leaves}
use Rattle.keeper.specs.Copies.{loaded}
use Rattle.model.specs.Import.{import}
use Rattle.model.specs.Calls.{frames_of}
use Rattle.keeper.proofs.AnyLength.{kept}
use Rattle.keeper.proofs.Refused.{import_refuses}
use Rattle.keeper.proofs.import.keeper_import.Goals as goal

pub returns : goal.returns
returns c =
    let a = c.args in
    let n = c.import_core-out.new in
    let out = c.import_core-out.result in
    let lent = length a.frames.now in
    let before : List Frame → Pool → State = λ f p. all_of f p
    a.records.now a.numbers.now a.accounts.now a.maps.now a.limits.now a.parents.now a.highest.now
    a.frame_words.now a.free_queue.now a.removal_list.now a.addresses.now a.states.now a.owners.now a.free_map.now a.active.now a.updating.now a.images.now a.chip_words.now a.chip_records.now a.chip_next.now a.line.now a.used.now in
    let after : List Frame → Pool → State = λ f p. all_of f p
    n.records n.numbers n.accounts n.maps a.limits.now a.parents.now n.highest
    a.frame_words.now a.free_queue.now a.removal_list.now a.addresses.now n.states n.owners n.free_map a.active.now a.updating.now a.images.now a.chip_words.now a.chip_records.now a.chip_next.now a.line.now n.used in
    let work : leaves out.answer (after (frames_of (loaded a.frames.now) lent) c.renew.new.pool)
    ≡ import a.sizes (before (frames_of (loaded a.frames.now) lent) a.pool.now) a.slot a.account a.number a.sheet.now =
    subst (λ (p : Pool). leaves out.answer (after (frames_of (loaded a.frames.now) lent) p) ≡ import a.sizes (before (frames_of (loaded a.frames.now) lent) a.pool.now) a.slot a.account a.number a.sheet.now) (sym c.renew.ensures)
    (subst (λ (l : List Frame). leaves out.answer (after (frames_of l lent) out.pool) ≡ import a.sizes (before (frames_of l lent) a.pool.now) a.slot a.account a.number a.sheet.now) c.load-values.ensures c.import_core-out.ensures) in
    kept a.sizes a.frames.now (before a.frames.now a.pool.now) (λ (st : State). import a.sizes st a.slot a.account a.number a.sheet.now) (import_refuses a.sizes a.slot a.account a.number a.sheet.now)
    (after a.frames.now c.renew.new.pool) out.answer work
