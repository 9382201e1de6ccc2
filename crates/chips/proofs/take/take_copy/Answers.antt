-- `take_copy` meets its contract: each way out by its law.
use mathlib.Core.Path.{◌≡◌, ap, sym, ◌∙◌}
use Prim.Native.Nat.{pred}
use native.Mathlib.Omega.{arith}
use lib.ListN.{take, set}
use Rattle.tables.specs.Base.{at}
use Rattle.tables.specs.StoreLoops.{part_fits}
use Rattle.model.specs.declared.frame.Frame.{Frame}
use Rattle.model.specs.Pages.{fresh}
use Rattle.model.specs.State.{frame_at, READING}
use Rattle.leaves.specs.Packed.{unpacked}
use Rattle.leaves.specs.FrameLaws.{frame_take}
use Rattle.chips.proofs.Taking.{no_read, none_there, taken}
use Rattle.chips.proofs.take.take_copy.Goals as goal

pub returns-then-old-ne-READING : goal.returns-then-old-ne-READING
returns-then-old-ne-READING c =
    let a = c.args in
    let left = no_read a.sizes (unpacked a.frames.now) a.frame_words.now a.removal_list.now a.addresses.now a.chip_words.now a.chip_records.now a.f c.requires.inside c.requires.places.copies
    (λ e. c.if-old-ne-READING.true (ap (λ (x : Frame). x.transfer) c.frame_at-old.ensures ∙ e)) in
    record { frames = left.0; words = left.1.0; list = left.1.1 }

pub copy_part-requires : goal.copy_part-requires
copy_part-requires c =
    let a = c.args in
    (c.requires.sizes.words, rw c.requires.places.words (part_fits a.sizes.chip a.sizes.words c.place_of-place.result c.if-place-sizes.true), rw c.requires.words (part_fits a.sizes.frames a.sizes.words a.f c.requires.inside))

pub push_front-requires : goal.push_front-requires
push_front-requires c =
    let reads : (frame_at (unpacked c.args.frames.now) c.args.f).transfer ≡ READING = ap (λ (x : Frame). x.transfer) (sym c.frame_at-old.ensures) ∙ c.if-old-ne-READING.false in
    let in_use : (let a = c.args in frame_at (take a.sizes.frames (unpacked a.frames.now)) a.f ≡ frame_at (unpacked a.frames.now) a.f) = frame_take c.args.sizes.frames (unpacked c.args.frames.now) c.args.f c.requires.inside in
    let awaits : (let a = c.args in (frame_at (take a.sizes.frames (unpacked a.frames.now)) a.f).transfer ≡ READING) = ap (λ (x : Frame). x.transfer) in_use ∙ reads in
    let a = c.args in
    (omega (arith, c.requires.inside, c.requires.sizes.frames_most), rw c.requires.list_long c.requires.list_packed, omega (arith, c.requires.room awaits, c.requires.list_long))

pub served-requires : goal.served-requires
served-requires c =
    let reads : (frame_at (unpacked c.args.frames.now) c.args.f).transfer ≡ READING = ap (λ (x : Frame). x.transfer) (sym c.frame_at-old.ensures) ∙ c.if-old-ne-READING.false in
    let in_use : (let a = c.args in frame_at (take a.sizes.frames (unpacked a.frames.now)) a.f ≡ frame_at (unpacked a.frames.now) a.f) = frame_take c.args.sizes.frames (unpacked c.args.frames.now) c.args.f c.requires.inside in
    let awaits : (let a = c.args in (frame_at (take a.sizes.frames (unpacked a.frames.now)) a.f).transfer ≡ READING) = ap (λ (x : Frame). x.transfer) in_use ∙ reads in
    rw (c.frame_at-old.ensures, ← in_use) (c.requires.paged awaits)

pub returns-then-place-sizes : goal.returns-then-place-sizes
returns-then-place-sizes c =
    let reads : (frame_at (unpacked c.args.frames.now) c.args.f).transfer ≡ READING = ap (λ (x : Frame). x.transfer) (sym c.frame_at-old.ensures) ∙ c.if-old-ne-READING.false in
    let its-record : (let a = c.args in c.record_of-r.result ≡ pred (at a.addresses.now (pred (frame_at (unpacked a.frames.now) a.f).page))) = c.record_of-r.ensures.is ∙ ap (λ (x : Frame). pred (at c.args.addresses.now (pred x.page))) c.frame_at-old.ensures in
    let a = c.args in
    let left = taken a.sizes (unpacked a.frames.now) a.frame_words.now a.removal_list.now a.addresses.now a.chip_words.now a.chip_records.now a.f c.requires.inside c.requires.places.copies
    c.record_of-r.result c.place_of-place.result its-record c.place_of-place.ensures reads c.if-place-sizes.true
    (c.put_frame.ensures ∙ ap (set (unpacked a.frames.now) a.f) (c.served.ensures ∙ ap (λ (x : Frame). fresh (pred x.page)) c.frame_at-old.ensures)) c.copy_part.ensures c.push_front.ensures in
    record { frames = left.0; words = left.1.0; list = left.1.1 }

pub returns-else-place-sizes : goal.returns-else-place-sizes
returns-else-place-sizes c =
    let its-record : (let a = c.args in c.record_of-r.result ≡ pred (at a.addresses.now (pred (frame_at (unpacked a.frames.now) a.f).page))) = c.record_of-r.ensures.is ∙ ap (λ (x : Frame). pred (at c.args.addresses.now (pred x.page))) c.frame_at-old.ensures in
    let a = c.args in
    let left = none_there a.sizes (unpacked a.frames.now) a.frame_words.now a.removal_list.now a.addresses.now a.chip_words.now a.chip_records.now a.f c.requires.inside c.requires.places.copies
    c.record_of-r.result c.place_of-place.result its-record c.place_of-place.ensures c.if-place-sizes.false in
    record { frames = left.0; words = left.1.0; list = left.1.1 }
