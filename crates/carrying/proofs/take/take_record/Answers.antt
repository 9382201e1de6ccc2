-- `take_record` meets its contract: the record chosen is filed, of the slot, and no longer marked as free.
use mathlib.Core.Path.{◌≡◌, ap, sym, ◌∙◌}
use mathlib.Core.List.{List}
use Prim.Native.Nat.{ℕ, suc, ◌-◌, ◌/◌, ◌%◌, ◌^◌, ◌<◌}
use native.Mathlib.Omega.{arith}
use native.Mathlib.Numerals.{add-one}
use lib.ListN.{set}
use Rattle.tables.specs.Base.{at}
use Rattle.model.specs.Lines.{FILED}
use Rattle.model.specs.Parts.{picked}
use Rattle.leaves.specs.FreeMap.{free_map_table}
use Rattle.carrying.proofs.Picked.{chosen_told, chosen_below, map_long, chosen_inside, chosen_on, chosen_may, map_after}
use Rattle.carrying.proofs.take.take_record.Goals as goal

pub choose-taken-requires : goal.choose-taken-requires
choose-taken-requires c =
    let a = c.args in
    let k = c.requires.1 in
    (omega (arith, map_long a.sizes a.hand a.last a.states.now a.map.now k), k.hand_below, omega (arith, k.sizes.records_most), k.last_small)

pub clear_mark-requires : goal.clear_mark-requires
clear_mark-requires c =
    let told : (c.choose-taken.result ≡ picked c.args.sizes (at c.args.states.now) c.args.hand c.args.last) = let a = c.args in chosen_told a.sizes a.hand a.last a.states.now a.map.now c.requires.1 c.choose-taken.ensures in
    let a = c.args in
    (rw told (chosen_inside a.sizes a.hand a.last a.states.now a.map.now c.requires.1), rw told (chosen_on a.sizes a.hand a.last a.states.now a.map.now c.requires.1))

pub move_record-requires : goal.move_record-requires
move_record-requires c =
    let told : (c.choose-taken.result ≡ picked c.args.sizes (at c.args.states.now) c.args.hand c.args.last) = let a = c.args in chosen_told a.sizes a.hand a.last a.states.now a.map.now c.requires.1 c.choose-taken.ensures in
    let a = c.args in
    rw told (chosen_may a.sizes a.hand a.last a.states.now a.map.now c.requires.1)

pub overflow_add-result : goal.overflow_add-result
overflow_add-result c =
    let told : (c.choose-taken.result ≡ picked c.args.sizes (at c.args.states.now) c.args.hand c.args.last) = let a = c.args in chosen_told a.sizes a.hand a.last a.states.now a.map.now c.requires.1 c.choose-taken.ensures in
    let below : c.choose-taken.result < 4097 =
    let a = c.args in
    omega (arith, told, c.requires.1.sizes.records_most, chosen_below a.sizes a.hand a.last a.states.now a.map.now c.requires.1) in
    omega (arith, below)

pub overflow_cast-result : goal.overflow_cast-result
overflow_cast-result c =
    let told : (c.choose-taken.result ≡ picked c.args.sizes (at c.args.states.now) c.args.hand c.args.last) = let a = c.args in chosen_told a.sizes a.hand a.last a.states.now a.map.now c.requires.1 c.choose-taken.ensures in
    let below : c.choose-taken.result < 4097 =
    let a = c.args in
    omega (arith, told, c.requires.1.sizes.records_most, chosen_below a.sizes a.hand a.last a.states.now a.map.now c.requires.1) in
    omega (arith, below)

pub returns : goal.returns
returns c =
    let told : (c.choose-taken.result ≡ picked c.args.sizes (at c.args.states.now) c.args.hand c.args.last) = let a = c.args in chosen_told a.sizes a.hand a.last a.states.now a.map.now c.requires.1 c.choose-taken.ensures in
    let a = c.args in
    let e = told in
    let filed = c.move_record.ensures ∙ ap (λ (n : ℕ). set a.states.now n FILED) e in record {
      taken = add-one c.choose-taken.result ∙ ap suc e;
      states = filed;
      owners = c.put.ensures ∙ ap (λ (n : ℕ). set a.owners.now n a.slot) e;
      map = c.clear_mark.ensures ∙ ap (λ (n : ℕ). set a.map.now (n / 32) (at a.map.now (n / 32) - 2 ^ (n % 32))) e
          ∙ map_after a.sizes a.hand a.last a.states.now a.map.now c.requires.1
          ∙ ap (λ (l : List ℕ). free_map_table a.sizes (at l)) (sym filed);
    }
