-- `fault` meets its contract: the questions, then each table by the fault's way.
use mathlib.Core.Path.{refl, ap, ◌∙◌}
use native.Mathlib.Omega.{arith}
use Rattle.tables.specs.Queue.{size, queue}
use Rattle.tables.specs.Rule.{Holds}
use Rattle.model.specs.Laws.Bounds.{page_most}
use Rattle.model.specs.declared.applied.Worked.{Worked}
use Rattle.model.specs.Refusals.{number}
use lib.ListN.{length}
use Prim.Native.Nat.{◌<◌}
use Rattle.leaves.specs.Packed.{unpacked}
use Rattle.pages.proofs.Served.{no_yes}
use Rattle.pages.proofs.Faulted.{FaultAsked, fault_asked, fault_no, fault_none, fault_range, fault_some, fault_record, fault_yes, fault_done, serve_needs}
use Rattle.pages.proofs.fault.fault.Goals as goal

pub returns-in-Err : goal.returns-in-Err
returns-in-Err c =
    let asked : (let a = c.args in FaultAsked a.sizes (unpacked a.frames.now) a.pool a.numbers.now a.words.now a.free_queue.now a.removal_list.now a.addresses.now a.states.now a.owners.now a.free_map.now a.active.now a.slot a.page (number c.in-Err.no)) = fault_asked c.in-Err.ensures in
    let q = asked in
    let l = fault_none q (no_yes c.in-Err.no) in
    let w = c.from.ensures in
    record {
      answer = ap (λ (x : Worked). x.answer) w ∙ fault_no q (no_yes c.in-Err.no);
      deposited = ap (λ (x : Worked). x.deposited) w;
      nulled = ap (λ (x : Worked). x.nulled) w;
      frames = l.frames;
      words = l.words_left;
      free_queue = l.queue_left;
      removal_list = l.list_left;
      addresses = l.addresses_left;
      states = l.states_left;
      owners = l.owners_left;
      free_map = l.map_left_holds;
      hand = rw w l.hand;
      free = rw w l.free;
    }

pub page_of-i-requires : goal.page_of-i-requires
page_of-i-requires c =
    let asked : (let a = c.args in FaultAsked a.sizes (unpacked a.frames.now) a.pool a.numbers.now a.words.now a.free_queue.now a.removal_list.now a.addresses.now a.states.now a.owners.now a.free_map.now a.active.now a.slot a.page 0) = fault_asked c.in_default.ensures in
    let range : (let a = c.args in (a.slot < a.sizes.slots) × (a.page < a.sizes.pages)) = fault_range asked refl in
    let r = range in (c.requires.0.sizes, r.0, r.1)

pub hold-taken-requires : goal.hold-taken-requires
hold-taken-requires c =
    let asked : (let a = c.args in FaultAsked a.sizes (unpacked a.frames.now) a.pool a.numbers.now a.words.now a.free_queue.now a.removal_list.now a.addresses.now a.states.now a.owners.now a.free_map.now a.active.now a.slot a.page 0) = fault_asked c.in_default.ensures in
    let range : (let a = c.args in (a.slot < a.sizes.slots) × (a.page < a.sizes.pages)) = fault_range asked refl in
    let paged-most : c.page_of-i.result < 65535 = let r = range in rw c.page_of-i.ensures (page_most c.args.sizes c.requires.0.sizes c.args.slot c.args.page r.0 r.1) in
    (c.requires.0.sizes, omega (arith, range.0, c.requires.0.sizes.slots_most), paged-most, c.requires.3, fault_record asked refl c.page_of-i.ensures c.way_of-way.ensures c.first-f.ensures)

pub serve-requires : goal.serve-requires
serve-requires c =
    let asked : (let a = c.args in FaultAsked a.sizes (unpacked a.frames.now) a.pool a.numbers.now a.words.now a.free_queue.now a.removal_list.now a.addresses.now a.states.now a.owners.now a.free_map.now a.active.now a.slot a.page 0) = fault_asked c.in_default.ensures in
    let range : (let a = c.args in (a.slot < a.sizes.slots) × (a.page < a.sizes.pages)) = fault_range asked refl in
    let needs-served : (let a = c.args in (c.first-f.result < a.sizes.frames) × Holds (queue (length a.removal_list.now) a.removal_list.now) × (size a.removal_list.now < length a.removal_list.now)) = let a = c.args in serve_needs a.sizes a.free_queue.now a.removal_list.now c.first-f.result c.requires.1 (fault_some asked refl) c.first-f.ensures in
    let r = range in
    let n = needs-served in
    (c.requires.0.sizes, rw c.page_of-i.ensures (page_most c.args.sizes c.requires.0.sizes c.args.slot c.args.page r.0 r.1), n.0, c.requires.2, n.1, n.2)

pub pop-requires : goal.pop-requires
pop-requires c = (c.args.sizes.frames, rw c.requires.1.free_long c.requires.1.free_packed)

pub overflow_cast-f : goal.overflow_cast-f
overflow_cast-f c =
    let asked : (let a = c.args in FaultAsked a.sizes (unpacked a.frames.now) a.pool a.numbers.now a.words.now a.free_queue.now a.removal_list.now a.addresses.now a.states.now a.owners.now a.free_map.now a.active.now a.slot a.page 0) = fault_asked c.in_default.ensures in
    let needs-served : (let a = c.args in (c.first-f.result < a.sizes.frames) × Holds (queue (length a.removal_list.now) a.removal_list.now) × (size a.removal_list.now < length a.removal_list.now)) = let a = c.args in serve_needs a.sizes a.free_queue.now a.removal_list.now c.first-f.result c.requires.1 (fault_some asked refl) c.first-f.ensures in
    omega (arith, needs-served.0, c.requires.0.sizes.frames_most)

pub returns : goal.returns
returns c =
    let asked : (let a = c.args in FaultAsked a.sizes (unpacked a.frames.now) a.pool a.numbers.now a.words.now a.free_queue.now a.removal_list.now a.addresses.now a.states.now a.owners.now a.free_map.now a.active.now a.slot a.page 0) = fault_asked c.in_default.ensures in
    let q = asked in
    let l = fault_done q refl c.page_of-i.ensures c.way_of-way.ensures c.first-f.ensures
    c.requires.0.sizes.pages _ c.hold-taken.result _ _ _ _ _ _ _
    c.serve.ensures.frames c.hold-taken.ensures.taken c.serve.ensures.words c.pop.ensures c.serve.ensures.list c.hold-taken.ensures.addresses c.hold-taken.ensures.states c.hold-taken.ensures.owners c.hold-taken.ensures.map in record {
      answer = c.from-2.ensures ∙ fault_yes q refl c.page_of-i.ensures c.way_of-way.ensures c.first-f.ensures;
      deposited = refl;
      nulled = refl;
      frames = l.frames;
      words = l.words_left;
      free_queue = l.queue_left;
      removal_list = l.list_left;
      addresses = l.addresses_left;
      states = l.states_left;
      owners = l.owners_left;
      free_map = l.map_left_holds;
      hand = l.hand;
      free = l.free;
    }
