-- `page_done` meets its contract: each way out by its law.
use mathlib.Core.Path.{◌≡◌, ap, sym, ◌∙◌}
use Prim.Native.Nat.{pred}
use lib.ListN.{set}
use Rattle.std.proofs.lemmas.Result.{err_from_is_err_and}
use Rattle.tables.specs.Base.{at}
use Rattle.model.specs.declared.frame.Frame.{Frame}
use Rattle.model.specs.Pages.{fresh}
use Rattle.model.specs.State.{frame_at}
use Rattle.leaves.specs.Packed.{unpacked}
use Rattle.writeback.proofs.DoneWork.{Passed, unwritten, passed, refused, read_good_holds, read_failed_holds, write_good_holds, write_failed_holds}
use Rattle.writeback.proofs.page_done.page_done.Goals as goal

pub returns-in_err-ask_done : goal.returns-in_err-ask_done
returns-in_err-ask_done c =
    let p = err_from_is_err_and c.from_residual.result c.from_residual.ensures.1 in
    rw (p.1, p.2) (refused _ _ _ _ _ _ _ _ _ _ _ c.in_err-ask_done.ensures)

pub copy_part-requires : goal.copy_part-requires
copy_part-requires c =
    let told : (let a = c.args in Passed a.sizes (unpacked a.frames.now) a.records.now a.words.now a.free_queue.now a.removal_list.now a.addresses.now a.states.now a.frame) = passed _ _ _ _ _ _ _ _ _ c.args.good c.in_ok-ask_done.ensures c.requires in
    let found : (let a = c.args in c.record_of-r.result ≡ pred (at a.addresses.now (pred (frame_at (unpacked a.frames.now) a.frame).page))) = c.record_of-r.ensures ∙ ap (λ (x : Frame). pred (at c.args.addresses.now (pred x.page))) c.frame_at-old.ensures in
    (c.requires.1.words_some, told.part_record _ found, told.part_frame)

pub push_front-requires : goal.push_front-requires
push_front-requires c =
    let told : (let a = c.args in Passed a.sizes (unpacked a.frames.now) a.records.now a.words.now a.free_queue.now a.removal_list.now a.addresses.now a.states.now a.frame) = passed _ _ _ _ _ _ _ _ _ c.args.good c.in_ok-ask_done.ensures c.requires in
    told.room_list

pub served-requires : goal.served-requires
served-requires c =
    let told : (let a = c.args in Passed a.sizes (unpacked a.frames.now) a.records.now a.words.now a.free_queue.now a.removal_list.now a.addresses.now a.states.now a.frame) = passed _ _ _ _ _ _ _ _ _ c.args.good c.in_ok-ask_done.ensures c.requires in
    rw c.frame_at-old.ensures told.paged

pub returns-then-good-eq1 : goal.returns-then-good-eq1
returns-then-good-eq1 c =
    let found : (let a = c.args in c.record_of-r.result ≡ pred (at a.addresses.now (pred (frame_at (unpacked a.frames.now) a.frame).page))) = c.record_of-r.ensures ∙ ap (λ (x : Frame). pred (at c.args.addresses.now (pred x.page))) c.frame_at-old.ensures in
    read_good_holds _ _ _ _ _ _ _ _ _ _ c.in_ok-ask_done.ensures (ap (λ (x : Frame). x.transfer) (sym c.frame_at-old.ensures) ∙ c.if-old-eq-READING.true) c.if-good-eq1.true
    found c.copy_part.ensures c.push_front.ensures
    (c.put_frame.ensures ∙ ap (set (unpacked c.args.frames.now) c.args.frame) (c.served.ensures ∙ ap (λ (x : Frame). fresh (pred x.page)) c.frame_at-old.ensures))

pub push_back-requires : goal.push_back-requires
push_back-requires c =
    let told : (let a = c.args in Passed a.sizes (unpacked a.frames.now) a.records.now a.words.now a.free_queue.now a.removal_list.now a.addresses.now a.states.now a.frame) = passed _ _ _ _ _ _ _ _ _ c.args.good c.in_ok-ask_done.ensures c.requires in
    told.room_queue

pub returns-then-old-eq-READING : goal.returns-then-old-eq-READING
returns-then-old-eq-READING c =
    read_failed_holds _ _ _ _ _ _ _ _ _ _ c.in_ok-ask_done.ensures (ap (λ (x : Frame). x.transfer) (sym c.frame_at-old.ensures) ∙ c.if-old-eq-READING.true) c.if-good-eq1.false c.push_back.ensures
    (c.put_frame-then-old-eq-READING.ensures ∙ ap (set (unpacked c.args.frames.now) c.args.frame) c.no_frame.ensures)

pub copy_part-requires-then-good-eq1-2 : goal.copy_part-requires-then-good-eq1-2
copy_part-requires-then-good-eq1-2 c =
    let told : (let a = c.args in Passed a.sizes (unpacked a.frames.now) a.records.now a.words.now a.free_queue.now a.removal_list.now a.addresses.now a.states.now a.frame) = passed _ _ _ _ _ _ _ _ _ c.args.good c.in_ok-ask_done.ensures c.requires in
    let found : (let a = c.args in c.record_of-r.result ≡ pred (at a.addresses.now (pred (frame_at (unpacked a.frames.now) a.frame).page))) = c.record_of-r.ensures ∙ ap (λ (x : Frame). pred (at c.args.addresses.now (pred x.page))) c.frame_at-old.ensures in
    (c.requires.1.words_some, told.part_frame, told.part_record _ found)

pub make_live-requires : goal.make_live-requires
make_live-requires c =
    let told : (let a = c.args in Passed a.sizes (unpacked a.frames.now) a.records.now a.words.now a.free_queue.now a.removal_list.now a.addresses.now a.states.now a.frame) = passed _ _ _ _ _ _ _ _ _ c.args.good c.in_ok-ask_done.ensures c.requires in
    let found : (let a = c.args in c.record_of-r.result ≡ pred (at a.addresses.now (pred (frame_at (unpacked a.frames.now) a.frame).page))) = c.record_of-r.ensures ∙ ap (λ (x : Frame). pred (at c.args.addresses.now (pred x.page))) c.frame_at-old.ensures in
    told.moves _ found

pub push_back-requires-then-good-eq1-2 : goal.push_back-requires-then-good-eq1-2
push_back-requires-then-good-eq1-2 c =
    let told : (let a = c.args in Passed a.sizes (unpacked a.frames.now) a.records.now a.words.now a.free_queue.now a.removal_list.now a.addresses.now a.states.now a.frame) = passed _ _ _ _ _ _ _ _ _ c.args.good c.in_ok-ask_done.ensures c.requires in
    told.room_queue

pub returns-then-good-eq1-2 : goal.returns-then-good-eq1-2
returns-then-good-eq1-2 c =
    let found : (let a = c.args in c.record_of-r.result ≡ pred (at a.addresses.now (pred (frame_at (unpacked a.frames.now) a.frame).page))) = c.record_of-r.ensures ∙ ap (λ (x : Frame). pred (at c.args.addresses.now (pred x.page))) c.frame_at-old.ensures in
    write_good_holds _ _ _ _ _ _ _ _ _ _ c.in_ok-ask_done.ensures (λ e. c.if-old-eq-READING.false (ap (λ (x : Frame). x.transfer) c.frame_at-old.ensures ∙ e)) c.if-good-eq1-2.true
    found c.copy_part-then-good-eq1-2.ensures c.make_live.ensures c.push_back-then-good-eq1-2.ensures
    (c.put_frame-then-good-eq1-2.ensures ∙ ap (set (unpacked c.args.frames.now) c.args.frame) c.no_frame-then-good-eq1-2.ensures)

pub push_back-requires-2 : goal.push_back-requires-2
push_back-requires-2 c =
    let told : (let a = c.args in Passed a.sizes (unpacked a.frames.now) a.records.now a.words.now a.free_queue.now a.removal_list.now a.addresses.now a.states.now a.frame) = passed _ _ _ _ _ _ _ _ _ c.args.good c.in_ok-ask_done.ensures c.requires in
    let t = told.room_list in
    (t.0, (_, t.1), t.2)

pub returns : goal.returns
returns c =
    write_failed_holds _ _ _ _ _ _ _ _ _ _ c.in_ok-ask_done.ensures (λ e. c.if-old-eq-READING.false (ap (λ (x : Frame). x.transfer) c.frame_at-old.ensures ∙ e)) c.if-good-eq1-2.false c.push_back-2.ensures
    (c.put_frame-2.ensures ∙ ap (set (unpacked c.args.frames.now) c.args.frame) (c.unwritten.ensures ∙ ap unwritten c.frame_at-old.ensures))
