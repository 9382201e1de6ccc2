-- `carry_whole` meets its contract: refused, all is as it was; carried out, the chip tends what the event left.
use mathlib.Core.Path.{◌≡◌, ap, sym, ◌∙◌}
use Prim.Native.Nat.{ℕ, ◌<◌}
use lib.ListN.{take}
use lib.Seq.{get_or-take}
use Rattle.model.specs.State.{Chip, State, frames, frame_at, no_frame}
use Rattle.model.specs.Lent.{state_in, lined_of, all_of, no_chip, chip_of}
use Rattle.model.specs.Pool.{taken, deposited}
use Rattle.model.specs.Laws.Own.{leaves}
use Rattle.model.specs.Laws.Nulled.{nulled_by}
use Rattle.leaves.specs.Packed.{frames_in, unpacked}
use Rattle.invariant.proofs.ChipKept.{Copies}
use Rattle.invariant.proofs.ChipBeside.{beside, own_beside}
use Rattle.invariant.proofs.Kept.{fit_beside, ruled_beside}
use Rattle.events.specs.declared.chore.Chore.{Chore}
use Rattle.events.specs.Chores.{tended}
use Rattle.events.proofs.Tables.{tables_tended}
use Rattle.events.proofs.Carried.{nulls_chip, whole_refused, whole_done, tending}
use Rattle.events.proofs.whole.carry_whole.Goals as goal

pub carry-out-requires : goal.carry-out-requires
carry-out-requires c =
    let lent : State =
    let a = c.args in
    all_of (frames_in a.sizes a.frames.now) a.pool a.records.now a.numbers.now a.accounts.now a.maps.now a.limits.now a.parents.now a.highest.now a.frame_words.now a.free_queue.now a.removal_list.now
    a.addresses.now a.states.now a.owners.now a.free_map.now a.active.now a.updating.now a.images.now a.chip_words.now a.chip_records.now a.chip_next.now a.line.now a.used.now in
    record { fits = fit_beside c.args.sizes lent no_chip c.requires.fits; rules = ruled_beside c.args.sizes lent no_chip c.requires.rules }

-- what the event's own work answered and left, with the chip beside, leads to tending and to the whole
pub tend-requires : goal.tend-requires
tend-requires c =
    let lent : State =
    let a = c.args in
    all_of (frames_in a.sizes a.frames.now) a.pool a.records.now a.numbers.now a.accounts.now a.maps.now a.limits.now a.parents.now a.highest.now a.frame_words.now a.free_queue.now a.removal_list.now
    a.addresses.now a.states.now a.owners.now a.free_map.now a.active.now a.updating.now a.images.now a.chip_words.now a.chip_records.now a.chip_next.now a.line.now a.used.now in
    let alone : State =
    let a = c.args in
    lined_of (frames_in a.sizes a.frames.now) a.pool a.records.now a.numbers.now a.accounts.now a.maps.now a.limits.now a.parents.now a.highest.now a.frame_words.now a.free_queue.now a.removal_list.now
    a.addresses.now a.states.now a.owners.now a.free_map.now a.active.now a.updating.now a.images.now a.line.now a.used.now in
    let chip : Chip = let a = c.args in chip_of a.chip_words.now a.chip_records.now a.chip_next.now in
    let copies : Copies c.args.sizes lent = record { fit = c.requires.chip; rules = c.requires.copies } in
    let same : (f : ℕ) → f < c.args.sizes.frames → frame_at (unpacked c.args.frames.now) f ≡ (frames lent).frame f = λ f h. sym (get_or-take c.args.sizes.frames (unpacked c.args.frames.now) f no_frame h) in
    let nulled : (c.carry-out.result.nulled ≡ nulled_by c.args.sizes lent c.args.event) = c.carry-out.ensures.nulled ∙ sym (nulls_chip chip c.args.sizes alone c.args.event) in
    let h = ap (beside chip) c.carry-out.ensures.left ∙ sym (own_beside chip c.args.sizes alone c.args.event) in
    rw c.chore_of-chore.ensures
    (tending c.args.sizes lent c.requires.fits c.requires.rules copies (unpacked c.args.frames.now) same c.args.event h c.if-answer-eq0.true c.carry-out.result.nulled nulled)

pub returns-then-answer-eq0 : goal.returns-then-answer-eq0
returns-then-answer-eq0 c =
    let lent : State =
    let a = c.args in
    all_of (frames_in a.sizes a.frames.now) a.pool a.records.now a.numbers.now a.accounts.now a.maps.now a.limits.now a.parents.now a.highest.now a.frame_words.now a.free_queue.now a.removal_list.now
    a.addresses.now a.states.now a.owners.now a.free_map.now a.active.now a.updating.now a.images.now a.chip_words.now a.chip_records.now a.chip_next.now a.line.now a.used.now in
    let alone : State =
    let a = c.args in
    lined_of (frames_in a.sizes a.frames.now) a.pool a.records.now a.numbers.now a.accounts.now a.maps.now a.limits.now a.parents.now a.highest.now a.frame_words.now a.free_queue.now a.removal_list.now
    a.addresses.now a.states.now a.owners.now a.free_map.now a.active.now a.updating.now a.images.now a.line.now a.used.now in
    let chip : Chip = let a = c.args in chip_of a.chip_words.now a.chip_records.now a.chip_next.now in
    let copies : Copies c.args.sizes lent = record { fit = c.requires.chip; rules = c.requires.copies } in
    let same : (f : ℕ) → f < c.args.sizes.frames → frame_at (unpacked c.args.frames.now) f ≡ (frames lent).frame f = λ f h. sym (get_or-take c.args.sizes.frames (unpacked c.args.frames.now) f no_frame h) in
    let left : State =
    let a = c.args in
    let o = c.carry-out.result in
    let n = c.carry-out.new in
    state_in chip n.line (take a.sizes.frames (unpacked n.frames)) (deposited o.deposited (taken a.sizes o.taken a.pool)) n.records n.numbers n.accounts n.maps n.limits a.parents.now n.highest
    n.frame_words n.free_queue n.removal_list n.addresses n.states n.owners n.free_map n.active n.updating n.images n.used in
    let nulled : (c.carry-out.result.nulled ≡ nulled_by c.args.sizes lent c.args.event) = c.carry-out.ensures.nulled ∙ sym (nulls_chip chip c.args.sizes alone c.args.event) in
    let h = ap (beside chip) c.carry-out.ensures.left ∙ sym (own_beside chip c.args.sizes alone c.args.event) in
    ap (leaves c.carry-out.result.answer) (tables_tended c.args.sizes c.carry-out.result.nulled chip left c.chore_of-chore.result (let e = c.tend.ensures in (e.frames, (e.words, (e.list, e.chip)))))
    ∙ ap (λ (o : Chore). leaves c.carry-out.result.answer (tended c.args.sizes o c.carry-out.result.nulled chip left)) c.chore_of-chore.ensures
    ∙ (whole_done c.args.sizes lent c.requires.fits c.requires.rules copies (unpacked c.args.frames.now) same c.args.event h c.if-answer-eq0.true c.carry-out.result.nulled nulled)

pub returns-else-answer-eq0 : goal.returns-else-answer-eq0
returns-else-answer-eq0 c =
    let lent : State =
    let a = c.args in
    all_of (frames_in a.sizes a.frames.now) a.pool a.records.now a.numbers.now a.accounts.now a.maps.now a.limits.now a.parents.now a.highest.now a.frame_words.now a.free_queue.now a.removal_list.now
    a.addresses.now a.states.now a.owners.now a.free_map.now a.active.now a.updating.now a.images.now a.chip_words.now a.chip_records.now a.chip_next.now a.line.now a.used.now in
    let alone : State =
    let a = c.args in
    lined_of (frames_in a.sizes a.frames.now) a.pool a.records.now a.numbers.now a.accounts.now a.maps.now a.limits.now a.parents.now a.highest.now a.frame_words.now a.free_queue.now a.removal_list.now
    a.addresses.now a.states.now a.owners.now a.free_map.now a.active.now a.updating.now a.images.now a.line.now a.used.now in
    let chip : Chip = let a = c.args in chip_of a.chip_words.now a.chip_records.now a.chip_next.now in
    let copies : Copies c.args.sizes lent = record { fit = c.requires.chip; rules = c.requires.copies } in
    let same : (f : ℕ) → f < c.args.sizes.frames → frame_at (unpacked c.args.frames.now) f ≡ (frames lent).frame f = λ f h. sym (get_or-take c.args.sizes.frames (unpacked c.args.frames.now) f no_frame h) in
    let h = ap (beside chip) c.carry-out.ensures.left ∙ sym (own_beside chip c.args.sizes alone c.args.event) in
    whole_refused c.args.sizes lent c.requires.fits c.requires.rules copies (unpacked c.args.frames.now) same c.args.event h c.if-answer-eq0.false
