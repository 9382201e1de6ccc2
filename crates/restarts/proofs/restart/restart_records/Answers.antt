-- `restart_records` meets its contract: what the passes give is what the restarted state says.
use mathlib.Core.Path.{◌≡◌, ap, sym, ◌∙◌}
use mathlib.Core.List.{List}
use Prim.Native.Nat.{ℕ}
use native.Mathlib.Omega.{arith}
use lib.ListN.{length-replicate}
use Rattle.tables.specs.Laws.{at_zeros}
use Rattle.tables.specs.Base.{at}
use Rattle.model.specs.State.{free_count}
use Rattle.model.specs.Restart.{restarted}
use Rattle.leaves.specs.FreeMap.{free_map_table}
use Rattle.restarts.specs.Filed.{filed_states, filed_owners}
use Rattle.restarts.specs.Counts.{listed_used}
use Rattle.restarts.specs.Restarts.{seen, pool_of, to_file, to_count, by_payers, restarted_states, restarted_owners, restarted_free_map, restarted_pool, restarted_used}
use Rattle.restarts.proofs.restart.restart_records.Goals as goal

pub file_records-requires : goal.file_records-requires
file_records-requires c =
    let a = c.args in to_file a.sizes a.accounts.now a.maps.now a.limits.now a.parents.now a.states.now a.owners.now a.free_map.now a.used.now c.requires

pub fill_payers-requires : goal.fill_payers-requires
fill_payers-requires c =
    (omega (arith, length-replicate {A = ℕ} 64 0, c.requires.accounts_long, c.requires.within.slots_most), λ k h. at_zeros 64 k)

pub count_used-requires : goal.count_used-requires
count_used-requires c =
    let a = c.args in to_count a.sizes a.accounts.now a.maps.now a.limits.now a.parents.now a.states.now a.owners.now a.free_map.now a.used.now c.requires _ _ (length-replicate {A = ℕ} 64 0) c.fill_payers.ensures

pub returns : goal.returns
returns c =
    let u = c.count_used.ensures in
    let f = c.file_records in
    let b = c.build_free_map.ensures in
    let z = c.args.sizes in
    let a = c.args in
    let d = seen a.accounts.now a.maps.now a.limits.now a.parents.now in
    let payers = c.fill_payers.new.table in
    let map = at c.args.maps.now in
    let states : f.new.states ≡ (restarted z d).memory.held.states = f.ensures.states ∙ (λ x. filed_states (c.requires.states_long x) (c.requires.maps_long x) map) ∙ sym (restarted_states z d) in record {
      states = states;
      owners = f.ensures.owners ∙ (λ x. filed_owners (c.requires.states_long x) (c.requires.maps_long x) z.pages map) ∙ sym (restarted_owners z d);
      free = b.map ∙ ap (λ (l : List ℕ). free_map_table z (at l)) states ∙ sym (restarted_free_map z d);
      used = u ∙ (λ x. listed_used (c.requires.used_long x) (c.requires.maps_long x) z.pages (at payers) map)
          ∙ by_payers z a.accounts.now a.maps.now a.limits.now a.parents.now a.states.now a.owners.now a.free_map.now a.used.now c.requires payers _ (length-replicate {A = ℕ} 64 0) c.fill_payers.ensures ∙ sym (restarted_used z d);
      pool = ap pool_of (b.count ∙ ap (λ (l : List ℕ). free_count z (at l)) states) ∙ sym (restarted_pool z d);
    }
