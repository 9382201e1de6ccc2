-- `hold` meets its contract: the record that the free map tells is the one of the definition, and it is free.
use mathlib.Core.Path.{◌≡◌, ap, sym, ◌∙◌}
use native.Mathlib.Omega.{arith}
use native.Mathlib.Numerals.{add-one}
use Prim.Native.Nat.{ℕ, suc, ◌<◌}
use lib.ListN.{set}
use Rattle.tables.specs.Base.{at}
use Rattle.model.specs.Lines.{NULLED}
use Rattle.model.specs.Parts.{pick}
use Rattle.pages.specs.Faults.{is_new, cleared}
use Rattle.pages.proofs.Holding.{chosen_told, chosen_below, chosen_inside, chosen_on, chosen_may}
use Rattle.pages.proofs.Ways.{old_way}
use Rattle.pages.proofs.supply.hold.Goals as goal

pub returns-in_default : goal.returns-in_default
returns-in_default g c =
    let a = c.args in
    let w = ap is_new (sym c.way.ensures) ∙ old_way c.way.result c.in_default.not-New in record {
      taken = rw w;
      addresses = rw w;
      states = rw w;
      owners = rw w;
      map = rw w;
    }

pub overflow_add-taken : goal.overflow_add-taken
overflow_add-taken g c =
    let chosen : (let a = c.args in c.pick-record.result ≡ pick a.sizes (at a.addresses.now) (at a.states.now) a.pool.hand a.page) = let a = c.args in c.pick-record.ensures ∙ chosen_told a.sizes a.pool a.addresses.now a.states.now a.free_map.now a.page c.requires.0 c.requires.3 in
    let most : c.pick-record.result < 4096 = let a = c.args in omega (arith, chosen, chosen_below a.sizes a.pool a.addresses.now a.states.now a.free_map.now a.page c.requires.0 c.requires.3, c.requires.0.records_most) in
    omega (arith, most)

pub overflow_cast-taken : goal.overflow_cast-taken
overflow_cast-taken g c =
    let chosen : (let a = c.args in c.pick-record.result ≡ pick a.sizes (at a.addresses.now) (at a.states.now) a.pool.hand a.page) = let a = c.args in c.pick-record.ensures ∙ chosen_told a.sizes a.pool a.addresses.now a.states.now a.free_map.now a.page c.requires.0 c.requires.3 in
    let most : c.pick-record.result < 4096 = let a = c.args in omega (arith, chosen, chosen_below a.sizes a.pool a.addresses.now a.states.now a.free_map.now a.page c.requires.0 c.requires.3, c.requires.0.records_most) in
    omega (arith, most)

pub move_record-requires : goal.move_record-requires
move_record-requires g c =
    let chosen : (let a = c.args in c.pick-record.result ≡ pick a.sizes (at a.addresses.now) (at a.states.now) a.pool.hand a.page) = let a = c.args in c.pick-record.ensures ∙ chosen_told a.sizes a.pool a.addresses.now a.states.now a.free_map.now a.page c.requires.0 c.requires.3 in
    let a = c.args in
    rw chosen (chosen_may a.sizes a.pool a.addresses.now a.states.now a.free_map.now a.page c.requires.0 c.requires.3 (c.requires.4 (ap is_new (sym c.way.ensures ∙ c.in-New.is))))

pub clear_mark-requires : goal.clear_mark-requires
clear_mark-requires g c =
    let chosen : (let a = c.args in c.pick-record.result ≡ pick a.sizes (at a.addresses.now) (at a.states.now) a.pool.hand a.page) = let a = c.args in c.pick-record.ensures ∙ chosen_told a.sizes a.pool a.addresses.now a.states.now a.free_map.now a.page c.requires.0 c.requires.3 in
    let a = c.args in
    (rw chosen (chosen_inside a.sizes a.pool a.addresses.now a.states.now a.free_map.now a.page c.requires.0 c.requires.3), rw chosen (chosen_on a.sizes a.pool a.addresses.now a.states.now a.free_map.now a.page c.requires.0 c.requires.3 (c.requires.4 (ap is_new (sym c.way.ensures ∙ c.in-New.is)))))

pub overflow_cast-result : goal.overflow_cast-result
overflow_cast-result g c =
    let chosen : (let a = c.args in c.pick-record.result ≡ pick a.sizes (at a.addresses.now) (at a.states.now) a.pool.hand a.page) = let a = c.args in c.pick-record.ensures ∙ chosen_told a.sizes a.pool a.addresses.now a.states.now a.free_map.now a.page c.requires.0 c.requires.3 in
    let most : c.pick-record.result < 4096 = let a = c.args in omega (arith, chosen, chosen_below a.sizes a.pool a.addresses.now a.states.now a.free_map.now a.page c.requires.0 c.requires.3, c.requires.0.records_most) in
    omega (arith, most)

pub returns : goal.returns
returns g c =
    let chosen : (let a = c.args in c.pick-record.result ≡ pick a.sizes (at a.addresses.now) (at a.states.now) a.pool.hand a.page) = let a = c.args in c.pick-record.ensures ∙ chosen_told a.sizes a.pool a.addresses.now a.states.now a.free_map.now a.page c.requires.0 c.requires.3 in
    let a = c.args in
    let w = ap is_new (sym c.way.ensures ∙ c.in-New.is) in
    let q = chosen in record {
      taken = rw w (add-one c.pick-record.result ∙ ap suc q);
      addresses = rw w (c.put.ensures ∙ ap (set a.addresses.now a.page) (add-one c.pick-record.result ∙ ap suc q));
      states = rw w (c.move_record.ensures ∙ ap (λ (n : ℕ). set a.states.now n NULLED) q);
      owners = rw w (c.put-2.ensures ∙ ap (λ (n : ℕ). set a.owners.now n a.slot) q);
      map = rw w (c.clear_mark.ensures ∙ ap (cleared a.free_map.now) q);
    }
