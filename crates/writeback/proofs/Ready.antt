-- What questions 1 and 2 give each event that is asked: a state within its sizes that keeps the rules is ready for it.
use mathlib.Core.Path.{◌≡◌, sym, ◌∙◌}
use mathlib.Core.Logic.{◌⊎◌}
use Prim.Native.Nat.{ℕ, suc, ◌+◌, ◌<◌, pred}
use native.Mathlib.Omega.{arith}
use borrow.Author.Tests.{ne_eqb}
use lib.ListN.{length}
use Rattle.tables.specs.Queue.{size}
use Rattle.tables.specs.QueueLaws.{room}
use Rattle.tables.specs.Laws.{not_zero}
use Rattle.model.specs.declared.sizes.Sizes.{Sizes}
use Rattle.model.specs.Lines.{NULLED, LIVE}
use Rattle.model.specs.State.{State, Frames, NONE, files, frames, all_pages}
use Rattle.model.specs.Laws.Fit.{Fit}
use Rattle.model.specs.Laws.Ruled.{Ruled, once_free, once_list}
use Rattle.writeback.specs.Needs.{Sized, Queues, Addressed, Transfers, Mapped}
use Rattle.writeback.proofs.Kept.{map_is}

module _ (z : Sizes) (st : State) (fit : Fit z st) (ruled : Ruled z st) where
  abbrev c : Frames
  c = frames st

  -- ── of several events ──
  pub sized : Sized z
  sized = record { frames_most = fit.sizes.frames_most; pages_some = fit.sizes.pages; pages_most = fit.sizes.pages_most; slots_most = fit.sizes.slots_most }

  pub queues : Queues z.frames st.memory.core.free_queue st.memory.core.removal_list
  queues = record { free_long = fit.memory.free_queue; free_packed = ruled.queues.free_queue; list_long = fit.memory.removal_list; list_packed = ruled.queues.removal_list }

  pub addressed : Addressed z st.memory.held.addresses st.memory.held.states
  addressed = record { long = fit.memory.addresses; inside = λ i r h e. rw fit.memory.states (ruled.records.address_fit_holds i h r e); held_once_holds = ruled.records.held_once_holds }

  pub queue_room : (f : ℕ) → f < z.frames → c.queued f ≡ 0 → size st.memory.core.free_queue < z.frames
  queue_room f h e = omega (arith, fit.memory.free_queue, room st.memory.core.free_queue fit.memory.free_queue ruled.queues.free_queue (once_free z st ruled) f h e)

  pub list_room : (f : ℕ) → f < z.frames → c.removing f ≡ 0 → size st.memory.core.removal_list < z.frames
  list_room f h e = omega (arith, fit.memory.removal_list, room st.memory.core.removal_list fit.memory.removal_list ruled.queues.removal_list (once_list z st ruled) f h e)

  -- the record of a page in a frame
  pub record Paged (f : ℕ) : Type 0 where
    pub index : ℕ
    pub item : ℕ
    pub named : (c.frame f).page ≡ suc index
    pub page_inside : index < all_pages z
    pub holds : (files st).address index ≡ suc item
    pub inside : item < z.records
    pub moves : ((files st).state item ≡ NULLED) ⊎ ((files st).state item ≡ LIVE)

  pub paged : (f : ℕ) → f < z.frames → c.queued f ≡ 0 → Paged f
  paged f h q = record { index = i; item = r; named = n; page_inside = b; holds = a; inside = ruled.records.address_fit_holds i b r a; moves = (ruled.records.held i b r a).1 }
    where
      i : ℕ
      i = pred (c.frame f).page

      n : (c.frame f).page ≡ suc i
      n = not_zero (c.frame f).page (ruled.frames.busy f h q)

      b : i < all_pages z
      b = (ruled.frames.fit f h).0 i n

      r : ℕ
      r = pred ((files st).address i)

      a : (files st).address i ≡ suc r
      a = not_zero ((files st).address i) (ruled.frames.held f h i n).0

  -- ── page done ──
  pub moved : (f : ℕ) → f < z.frames → ¬ ((c.frame f).transfer ≡ NONE) → (c.queued f ≡ 0) × (c.removing f ≡ 0)
  moved f h d = let e : c.queued f + c.removing f + (c.frame f).wired + 1 ≡ 1 = rw (ne_eqb _ _ d) at (ruled.frames.in_one_place_holds f h) in (omega arith, omega arith)

  pub done_ready : Queues z.frames st.memory.core.free_queue st.memory.core.removal_list
      × Transfers z st.memory.core.frames st.disk.records st.memory.core.words st.memory.core.free_queue st.memory.core.removal_list st.memory.held.addresses st.memory.held.states
  done_ready = (
    queues,
    record {
      words_some = fit.sizes.words;
      words_most = fit.sizes.words_most;
      frames_most = fit.sizes.frames_most;
      records_most = fit.sizes.records_most;
      records_long = fit.disk.records;
      words_long = fit.memory.words;
      moving = λ f h d. let m = moved f h d in let p = paged f h m.0 in record { index = p.index; item = p.item; named = p.named; holds = p.holds; inside = p.inside; moves = p.moves; free_room = queue_room f h m.0; list_room = list_room f h m.1 };
    },
  )

  -- ── map done ──
  pub map_ready : Mapped z st.disk.maps st.memory.held.states st.memory.held.owners st.memory.held.free_map st.memory.slots.images
  map_ready = record {
    pages_some = fit.sizes.pages;
    records_most = fit.sizes.records_most;
    maps_long = fit.disk.maps;
    images_long = fit.memory.images;
    states_long = fit.memory.states;
    owners_long = fit.memory.owners;
    told = map_is z st fit ruled.counts;
  }

  -- ── update ──
  pub update_ready : Sized z × Addressed z st.memory.held.addresses st.memory.held.states × (length st.memory.held.owners ≡ length st.memory.held.states) × (length st.memory.slots.images ≡ all_pages z)
  update_ready = (sized, addressed, fit.memory.owners ∙ sym fit.memory.states, fit.memory.images)
