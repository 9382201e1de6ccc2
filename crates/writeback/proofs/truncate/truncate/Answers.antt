-- `truncate` meets its contract: each way out by its law.
use mathlib.Core.Bool.{Bool}
use mathlib.Core.Path.{◌≡◌, ap, ◌∙◌}
use Rattle.std.proofs.lemmas.Result.{err_from_is_err_and}
use Rattle.tables.specs.Base.{if}
use Rattle.leaves.specs.Packed.{unpacked}
use Rattle.writeback.specs.Pages.{charges_from}
use Rattle.writeback.proofs.TruncateWork.{live_only, refused, passed, cut_off_holds}
use Rattle.writeback.proofs.truncate.truncate.Goals as goal
use Rattle.writeback.proofs.truncate.truncate.Goals.{then-any, else-any}

pub returns-in_err-any : goal.returns-in_err-any
returns-in_err-any c =
    let p = err_from_is_err_and c.from_residual.result c.from_residual.ensures.1 in
    rw (p.1, p.2) (refused _ _ _ _ _ _ _ _ _ _ _ _ _ _ _ c.in_err-any.ensures.answer)

pub free_frames-charges-requires : goal.free_frames-charges-requires
free_frames-charges-requires c =
    let a = c.args in
    let told = passed a.sizes (unpacked a.frames.now) a.numbers.now a.accounts.now a.limits.now a.parents.now a.free_queue.now a.removal_list.now a.addresses.now a.states.now a.active.now a.used.now a.slot a.k c.in_ok-any.ensures.answer c.requires in
    (told.cutting, c.in_ok-any.ensures.any)

pub clear_frames-requires : goal.clear_frames-requires
clear_frames-requires c =
    let a = c.args in
    let told = passed a.sizes (unpacked a.frames.now) a.numbers.now a.accounts.now a.limits.now a.parents.now a.free_queue.now a.removal_list.now a.addresses.now a.states.now a.active.now a.used.now a.slot a.k c.in_ok-any.ensures.answer c.requires in
    (told.sized, c.in_ok-any.ensures.any)

pub cut_pages-live-requires : goal.cut_pages-live-requires
cut_pages-live-requires c =
    let a = c.args in
    let told = passed a.sizes (unpacked a.frames.now) a.numbers.now a.accounts.now a.limits.now a.parents.now a.free_queue.now a.removal_list.now a.addresses.now a.states.now a.active.now a.used.now a.slot a.k c.in_ok-any.ensures.answer c.requires in
    told.releasing

pub uncharge-requires : goal.uncharge-requires
uncharge-requires c =
    let a = c.args in
    let told = passed a.sizes (unpacked a.frames.now) a.numbers.now a.accounts.now a.limits.now a.parents.now a.free_queue.now a.removal_list.now a.addresses.now a.states.now a.active.now a.used.now a.slot a.k c.in_ok-any.ensures.answer c.requires in
    let counted : (let a = c.args in c.if-any.n ≡ charges_from a.sizes.frames a.sizes.pages a.slot a.k (unpacked a.frames.now) a.addresses.now a.states.now) =
    let a = c.args in
    elim c.if-any.branch [
      | then-any w ↦ w.n-is ∙ c.free_frames-charges.ensures.charges
          ∙ ap (λ (b : Bool). if b (charges_from a.sizes.frames a.sizes.pages a.slot a.k (unpacked a.frames.now) a.addresses.now a.states.now) 0) w.if-any.true
      | else-any w ↦ w.n-is ∙ c.cut_pages-live.ensures.live ∙ live_only a.sizes.frames a.sizes.pages a.slot a.k (unpacked a.frames.now) a.addresses.now a.states.now (c.in_ok-any.ensures.any w.if-any.false)
    ] in
    told.pays _ counted

pub returns : goal.returns
returns c =
    let counted : (let a = c.args in c.if-any.n ≡ charges_from a.sizes.frames a.sizes.pages a.slot a.k (unpacked a.frames.now) a.addresses.now a.states.now) =
    let a = c.args in
    elim c.if-any.branch [
      | then-any w ↦ w.n-is ∙ c.free_frames-charges.ensures.charges
          ∙ ap (λ (b : Bool). if b (charges_from a.sizes.frames a.sizes.pages a.slot a.k (unpacked a.frames.now) a.addresses.now a.states.now) 0) w.if-any.true
      | else-any w ↦ w.n-is ∙ c.cut_pages-live.ensures.live ∙ live_only a.sizes.frames a.sizes.pages a.slot a.k (unpacked a.frames.now) a.addresses.now a.states.now (c.in_ok-any.ensures.any w.if-any.false)
    ] in
    let a = c.args in
    cut_off_holds a.sizes (unpacked a.frames.now) a.numbers.now a.accounts.now a.limits.now a.parents.now a.free_queue.now a.removal_list.now a.addresses.now a.states.now a.active.now a.used.now
    a.slot a.k c.in_ok-any.ensures.answer c.requires _
    counted c.uncharge.ensures c.free_frames-charges.ensures.queues.0 c.free_frames-charges.ensures.queues.1 c.cut_pages-live.ensures.states c.cut_pages-live.ensures.addresses
    c.clear_frames.ensures
