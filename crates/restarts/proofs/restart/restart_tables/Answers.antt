-- `restart_tables` meets its contract: every table is that of the restarted state.
use mathlib.Core.Path.{refl, ap, sym, ◌∙◌}
use native.Mathlib.Omega.{arith}
use lib.ListN.{take}
use Rattle.tables.specs.Base.{tab}
use Rattle.tables.specs.Queue.{packed}
use Rattle.restarts.specs.Restarts.{seen, zeros_of, queued_none, take_frames, pool_room, restarted_frames, restarted_words, restarted_queue, restarted_list, restarted_addresses, restarted_active, restarted_updating, restarted_images}
use Rattle.restarts.proofs.restart.restart_tables.Goals as goal

pub fill_queue-requires : goal.fill_queue-requires
fill_queue-requires c =
    let p = c.requires in omega (arith, p.free_queue_long, p.recorded.within.frames_most)

pub overflow_cast-pool : goal.overflow_cast-pool
overflow_cast-pool c =
    let t = c.restart_records-free in
    omega (arith, pool_room c.args.sizes (seen c.args.accounts.now c.args.maps.now c.args.limits.now c.args.parents.now) t.result c.requires.recorded.within t.ensures.pool)

pub returns : goal.returns
returns c =
    let t = c.restart_records-free.ensures in
    let q = c.fill_queue.ensures in
    let k = c.clear_tables.ensures in
    let z = c.args.sizes in
    let d = seen c.args.accounts.now c.args.maps.now c.args.limits.now c.args.parents.now in
    let p = c.requires in record {
      answer = refl;
      frames = ap (take z.frames) c.no_frames-frames.ensures ∙ take_frames z.frames 64 (omega (arith, p.recorded.within.frames_most)) ∙ sym (restarted_frames z d);
      words = k.words ∙ zeros_of p.words_long ∙ sym (restarted_words z d);
      queue = q ∙ (λ x. packed (p.free_queue_long x) (tab (p.free_queue_long x) (λ f. f) 0)) ∙ sym (restarted_queue z d);
      removing = k.removing ∙ zeros_of p.removal_list_long ∙ queued_none z.frames ∙ sym (restarted_list z d);
      addresses = k.addresses ∙ zeros_of p.addresses_long ∙ sym (restarted_addresses z d);
      states = t.states;
      owners = t.owners;
      free = t.free;
      pool = t.pool;
      active = k.active ∙ zeros_of p.active_long ∙ sym (restarted_active z d);
      updating = k.updating ∙ zeros_of p.updating_long ∙ sym (restarted_updating z d);
      images = k.images ∙ zeros_of p.images_long ∙ sym (restarted_images z d);
      used = t.used;
    }
