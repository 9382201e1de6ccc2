-- `turn` meets its contract: nobody waits, or the first request's page is in a frame, or it is in none.
use mathlib.Core.List.{List}
use Rattle.model.specs.declared.sizes.Sizes.{Sizes}
use mathlib.Core.Path.{◌≡◌, ap, sym, ◌∙◌}
use Prim.Native.Nat.{ℕ, ◌<◌}
use native.Mathlib.Omega.{arith}
use lib.Dec.{eqb}
use Rattle.tables.specs.QueueLaws.{first_below}
use Rattle.tables.specs.QueueEntries.{size_more, size_zero}
use Rattle.tables.specs.Rule.{test}
use Rattle.model.specs.declared.frame.Frame.{Frame}
use Rattle.model.specs.State.{State, NONE, frame_at}
use Rattle.model.specs.Setters.{set_line}
use Rattle.model.specs.Laws.Bounds.{pages_most}
use Rattle.model.specs.Lent.{lined_of}
use Rattle.model.specs.Pool.{taken, deposited}
use Rattle.leaves.specs.Packed.{frames_in, unpacked}
use Rattle.model.specs.Questions.{still, next_page}
use Rattle.model.specs.Laws.LineLaws.{Waiting, InFrame}
use Rattle.model.specs.Laws.Own.{leaves}
use Rattle.leaves.specs.FrameLaws.{frame_in}
use Rattle.pages.proofs.ItsFrame.{its_some}
use Rattle.dispatch.proofs.PageLaws.{served_ready}
use Rattle.waiting.proofs.Turned.{nobody_own, nobody_nulls, met_own, met_nulls, still_told, packed_line}
use Rattle.waiting.proofs.turn.turn.Goals as goal

-- what the first request's page is in: frame f
abbrev In : Sizes → List ℕ → ℕ → Type 0
In z frames i = frame_in z.frames (unpacked frames) i < z.frames

pub returns-then-at-eq0 : goal.returns-then-at-eq0
unfolding taken deposited
returns-then-at-eq0 c =
    let lent : State =
    let a = c.args in
    lined_of (frames_in a.sizes a.frames.now) a.pool a.records.now a.numbers.now a.accounts.now a.maps.now a.limits.now a.parents.now a.highest.now a.frame_words.now a.free_queue.now a.removal_list.now
    a.addresses.now a.states.now a.owners.now a.free_map.now a.active.now a.updating.now a.images.now a.line.now a.used.now in
    let none = size_zero c.args.line.now (sym c.at.ensures ∙ c.if-at-eq0.true) in
    rw c.told.ensures (record { left = nobody_own c.args.sizes lent none; nulled = nobody_nulls c.args.sizes lent none })

pub frame_of-f-requires : goal.frame_of-f-requires
frame_of-f-requires c =
    let lent : State =
    let a = c.args in
    lined_of (frames_in a.sizes a.frames.now) a.pool a.records.now a.numbers.now a.accounts.now a.maps.now a.limits.now a.parents.now a.highest.now a.frame_words.now a.free_queue.now a.removal_list.now
    a.addresses.now a.states.now a.owners.now a.free_map.now a.active.now a.updating.now a.images.now a.line.now a.used.now in
    let waits : Waiting c.args.sizes lent = size_more c.args.line.now 0 (omega arith) (λ h. c.if-at-eq0.false (c.at.ensures ∙ h)) in
    let k = c.requires in let z = c.args.sizes in
    let b = first_below c.args.line.now k.fits.memory.line k.rules.line waits in
    omega (arith, c.first-i.ensures, b, pages_most z k.fits.sizes)

pub meet-result-requires : goal.meet-result-requires
meet-result-requires c =
    let lent : State =
    let a = c.args in
    lined_of (frames_in a.sizes a.frames.now) a.pool a.records.now a.numbers.now a.accounts.now a.maps.now a.limits.now a.parents.now a.highest.now a.frame_words.now a.free_queue.now a.removal_list.now
    a.addresses.now a.states.now a.owners.now a.free_map.now a.active.now a.updating.now a.images.now a.line.now a.used.now in
    let waits : Waiting c.args.sizes lent = size_more c.args.line.now 0 (omega arith) (λ h. c.if-at-eq0.false (c.at.ensures ∙ h)) in
    (packed_line c.args.sizes lent c.requires, waits)

pub returns-then-f-sizes : goal.returns-then-f-sizes
unfolding taken deposited
returns-then-f-sizes c =
    let lent : State =
    let a = c.args in
    lined_of (frames_in a.sizes a.frames.now) a.pool a.records.now a.numbers.now a.accounts.now a.maps.now a.limits.now a.parents.now a.highest.now a.frame_words.now a.free_queue.now a.removal_list.now
    a.addresses.now a.states.now a.owners.now a.free_map.now a.active.now a.updating.now a.images.now a.line.now a.used.now in
    let waits : Waiting c.args.sizes lent = size_more c.args.line.now 0 (omega arith) (λ h. c.if-at-eq0.false (c.at.ensures ∙ h)) in
    let below : c.frame_of-f.result < c.args.sizes.frames = c.if-f-sizes.true in
    let inside : In c.args.sizes c.args.frames.now c.first-i.result = rw (← c.frame_of-f.ensures) below in
    let in_frame : InFrame c.args.sizes lent = rw (← c.first-i.ensures) (its_some c.args.sizes (unpacked c.args.frames.now) c.first-i.result inside) in
    let told-still : (eqb c.frame_at.result.transfer NONE ≡ test (still c.args.sizes lent (next_page c.args.sizes lent))) =
    let a = c.args in
    ap (λ (x : Frame). eqb x.transfer NONE) (c.frame_at.ensures ∙ ap (frame_at (unpacked a.frames.now)) c.frame_of-f.ensures)
    ∙ still_told a.sizes (unpacked a.frames.now) c.first-i.result (served_ready a.sizes lent c.requires) inside
    ∙ ap (λ (j : ℕ). test (still a.sizes lent j)) c.first-i.ensures in
    rw c.told-then-f-sizes.ensures (record {
      left = (λ x. leaves (record { refusal = 0; result = c.meet-result.ensures.result x }) (set_line (c.meet-result.ensures.line x) lent))
          ∙ met_own c.args.sizes lent waits in_frame (eqb c.frame_at.result.transfer NONE) told-still;
      nulled = met_nulls c.args.sizes lent waits in_frame;
    })

pub fetch-requires : goal.fetch-requires
fetch-requires c =
    let lent : State =
    let a = c.args in
    lined_of (frames_in a.sizes a.frames.now) a.pool a.records.now a.numbers.now a.accounts.now a.maps.now a.limits.now a.parents.now a.highest.now a.frame_words.now a.free_queue.now a.removal_list.now
    a.addresses.now a.states.now a.owners.now a.free_map.now a.active.now a.updating.now a.images.now a.line.now a.used.now in
    let waits : Waiting c.args.sizes lent = size_more c.args.line.now 0 (omega arith) (λ h. c.if-at-eq0.false (c.at.ensures ∙ h)) in
    (c.requires, waits, c.first-i.ensures, λ h. omega (arith, c.if-f-sizes.false, c.frame_of-f.ensures, h))
