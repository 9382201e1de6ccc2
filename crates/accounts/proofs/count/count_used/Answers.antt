-- `count_used` meets its contract: who pays, then the slots, then the frames.
use mathlib.Core.Path.{sym, ◌∙◌}
use mathlib.Core.List.{List}
use Prim.Native.Nat.{ℕ}
use native.Mathlib.Omega.{arith}
use lib.ListN.{length-replicate}
use Rattle.tables.specs.Laws.{at_zeros}
use Rattle.model.specs.Laws.Bounds.{pages_most}
use Rattle.leaves.specs.Packed.{unpacked}
use Rattle.accounts.proofs.Counted.{payers_enough, payers_few, pages_inside, sums_few, counts}
use Rattle.accounts.proofs.count.count_used.Goals as goal

pub fill_payers-requires : goal.fill_payers-requires
fill_payers-requires c =
    let k = c.requires.0 in
    (omega (arith, length-replicate {A = ℕ} 64 0, k.accounts_long, k.within.slots_most), λ i h. at_zeros 64 i)

pub count_slots-requires : goal.count_slots-requires
count_slots-requires c =
    let payers : List ℕ = c.fill_payers.new.table in
    let a = c.args in let k = c.requires.0 in
    let who = payers_few a.z (unpacked a.frames.now) a.accounts.now a.maps.now a.limits.now a.parents.now a.addresses.now a.states.now a.active.now k payers _ (length-replicate {A = ℕ} 64 0) c.fill_payers.ensures in
    let many = payers_enough a.z (unpacked a.frames.now) a.accounts.now a.maps.now a.limits.now a.parents.now a.addresses.now a.states.now a.active.now k payers _ (length-replicate {A = ℕ} 64 0) c.fill_payers.ensures in (
      k.within.pages,
      many,
      omega (arith, k.active_long),
      k.maps_long,
      k.addresses_long ∙ sym k.maps_long,
      omega (arith, k.maps_long, pages_most a.z k.within),
      rw (k.addresses_long, k.states_long) k.address_fit_holds,
      λ x h. who x (omega (arith, h, many)),
      c.requires.1,
      c.requires.2,
    )

pub count_frames-requires : goal.count_frames-requires
count_frames-requires c =
    let payers : List ℕ = c.fill_payers.new.table in
    let a = c.args in let k = c.requires.0 in (
      omega (arith, k.within.frames_most),
      k.within.pages,
      pages_inside a.z (unpacked a.frames.now) a.accounts.now a.maps.now a.limits.now a.parents.now a.addresses.now a.states.now a.active.now k payers _ (length-replicate {A = ℕ} 64 0) c.fill_payers.ensures,
      rw (k.addresses_long, k.states_long) k.address_fit_holds,
      payers_few a.z (unpacked a.frames.now) a.accounts.now a.maps.now a.limits.now a.parents.now a.addresses.now a.states.now a.active.now k payers _ (length-replicate {A = ℕ} 64 0) c.fill_payers.ensures,
      c.count_slots.auto.totals ∙ c.requires.1,
      sums_few a.z (unpacked a.frames.now) a.accounts.now a.maps.now a.limits.now a.parents.now a.addresses.now a.states.now a.active.now k payers _ (length-replicate {A = ℕ} 64 0) c.fill_payers.ensures c.count_slots.new.totals c.count_slots.ensures,
    )

pub returns : goal.returns
returns c =
    let payers : List ℕ = c.fill_payers.new.table in
    let a = c.args in
    counts a.z (unpacked a.frames.now) a.accounts.now a.maps.now a.limits.now a.parents.now a.addresses.now a.states.now a.active.now c.requires.0 payers _ (length-replicate {A = ℕ} 64 0) c.fill_payers.ensures
    c.count_slots.new.totals c.count_frames.new.totals c.count_slots.ensures c.count_frames.ensures
