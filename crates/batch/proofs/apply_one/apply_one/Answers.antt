-- `apply_one` meets its contract: a list of one request, over the frames packed and unpacked again.
use mathlib.Core.Path.{◌≡◌, refl, sym, ap}
use mathlib.Core.List.{List}
use native.Mathlib.Omega.{arith}
use lib.ListN.{length}
use Rattle.model.specs.declared.frame.Frame.{Frame}
use Rattle.model.specs.State.{State}
use Rattle.model.specs.Lent.{all_of}
use Rattle.model.specs.Calls.{frames_of}
use Rattle.batch.proofs.Whole.{one_applied, packed_long}
use Rattle.batch.proofs.apply_one.apply_one.Goals as goal

pub slice_bounds-ask_turns-end : goal.slice_bounds-ask_turns-end
slice_bounds-ask_turns-end c =
    let long : length c.args.frames ≡ 64 = omega arith in
    let filled : length c.pack_all-packed.result ≡ 64 = packed_long c.args.frames c.pack_all-packed.result long c.pack_all-packed.ensures in
    sym filled

pub slice_bounds-ask_turns-end-3 : goal.slice_bounds-ask_turns-end-3
slice_bounds-ask_turns-end-3 c = sym (ap length c.as_numbers-requests.ensures)

pub ask_turns-out-requires : goal.ask_turns-out-requires
ask_turns-out-requires c =
    let long : length c.args.frames ≡ 64 = omega arith in
    let filled : length c.pack_all-packed.result ≡ 64 = packed_long c.args.frames c.pack_all-packed.result long c.pack_all-packed.ensures in
    (filled, omega (arith, ap length c.as_numbers-requests.ensures), omega arith)

pub returns : goal.returns
returns c =
    let at : List Frame → State = λ l.
    let a = c.args in
    all_of l a.pool a.records.now a.numbers.now a.accounts.now a.maps.now a.limits.now a.parents.now a.highest.now
    a.frame_words.now a.free_queue.now a.removal_list.now a.addresses.now a.states.now a.owners.now a.free_map.now a.active.now a.updating.now a.images.now a.chip_words.now a.chip_records.now a.chip_next.now a.line.now a.used.now in
    let a = c.args in
    one_applied a.sizes a.request at c.as_numbers-requests.result _ c.as_numbers-requests.ensures
    (ap (λ (l : List Frame). frames_of l a.lent) (sym c.pack_all-packed.ensures)) c.ask_turns-out.ensures.listed
    (ap (λ (l : List Frame). frames_of l a.lent) c.unpack_all-frames.ensures) (sym (c.ask_turns-out.ensures.one refl))
