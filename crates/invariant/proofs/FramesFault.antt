-- Fault keeps the rules of queues, frames, counts and lengths.
use mathlib.Core.Path.{◌≡◌, refl, ap, sym, ◌∙◌}
use mathlib.Core.Logic.{◌⊎◌, inl, inr}
use Prim.Native.Nat.{ℕ, suc, ◌+◌, ◌*◌, ◌<◌}
use native.Mathlib.Nat.{suc_inj, mod-lt}
use native.Mathlib.Omega.{arith}
use lib.Dec.{eqb, eqb→eq, T_not}
use lib.ListN.{set, length-set}
use lib.Seq.{get_or-set_same, get_or-set_other}
use Rattle.tables.specs.Base.{at}
use Rattle.tables.specs.Laws.{if_elim, if_no}
use Rattle.tables.specs.CountLaws.{count_some}
use Rattle.tables.specs.Rule.{Holds, test, same, sound, complete}
use Rattle.tables.specs.Store.{length_store}
use Rattle.tables.specs.Queue.{size, first, pop, push_front}
use Rattle.tables.specs.QueueLaws.{first_below, first_once}
use Rattle.tables.specs.Questions.{Asked}
use Rattle.model.specs.declared.sizes.Sizes.{Sizes}
use Rattle.model.specs.declared.frame.Frame.{Frame}
use Rattle.model.specs.declared.event.Page.TheVariants.{Fault}
use Rattle.model.specs.declared.event.Event.TheVariants as Event
use Rattle.model.specs.Lines.{FREE, NULLED, LIVE}
use Rattle.model.specs.State.{Held, State, files, frames, frame_at, all_pages, slot_of, page_of, live, free_count}
use Rattle.model.specs.Setters.{on_held}
use Rattle.model.specs.Questions.{questions}
use Rattle.model.specs.Parts.{pick}
use Rattle.model.specs.Laws.Choice.{pick_below, pick_free}
use Rattle.model.specs.Pages
use Rattle.model.specs.Pages.{awaiting, fresh, fault_frame}
use Rattle.model.specs.Laws.Ruled.{Ruled, once_free, once_list}
use Rattle.model.specs.Laws.Fit.{Fit}
use Rattle.invariant.proofs.Lengths.{HeldFit, long}
use Rattle.invariant.proofs.Framed.{Framed, Framing}
use Rattle.invariant.proofs.Counts.{counted_framed}
use Rattle.invariant.proofs.Seats.{cooler_same, Kept, kept_all}
use Rattle.invariant.proofs.NewSeats.{seat_awaiting, seat_fresh}
use Rattle.invariant.proofs.QueueMoves.{Moved, unmoved, moved_first, moved_front}
use Rattle.invariant.proofs.OneFrame.{one_frame}
use Rattle.invariant.proofs.FrameParts.{part_of, part_fit, part_set, part_other}
use Rattle.invariant.proofs.Stands.{seat_at}
use Rattle.invariant.proofs.Freed.{set_there, set_elsewhere}

module _ (z : Sizes) (st : State) (f : Fit z st) (r : Ruled z st) where
  -- what a held page holds is not free
  held_busy : (i : ℕ) → i < all_pages z → (q : ℕ) → (files st).address i ≡ suc q → ¬ ((files st).state q ≡ FREE)
  held_busy i l q a e = elim (r.records.held i l q a).1 [ inl x ↦ omega (arith, x, e) | inr x ↦ omega (arith, x, e) ]

  -- the first queued frame takes page i, which is in no frame
  module _ (some : 0 < size st.memory.core.free_queue) (i : ℕ) (fit : i < all_pages z) (active : (files st).active (slot_of z i) ≡ 1) (away : (h : ℕ) → h < z.frames → ¬ (((frames st).frame h).page ≡ suc i)) where
    abbrev k : ℕ
    k = first st.memory.core.free_queue

    below : k < z.frames
    below = first_below st.memory.core.free_queue f.memory.free_queue r.queues.free_queue some

    queued : (frames st).queued k ≡ 1
    queued = first_once st.memory.core.free_queue f.memory.free_queue r.queues.free_queue (once_free z st r) some

    removing : (frames st).removing k ≡ 0
    removing = omega (arith, (seat_at z st r k below).place, queued)

    free : Moved z.frames st.memory.core.free_queue (pop st.memory.core.free_queue) k 0
    free = moved_first z.frames st.memory.core.free_queue f.memory.free_queue r.queues.free_queue (once_free z st r) some

    list : Moved z.frames st.memory.core.removal_list (push_front st.memory.core.removal_list k) k 1
    list = moved_front z.frames st.memory.core.removal_list f.memory.removal_list r.queues.removal_list (once_list z st r) k below removing

    there : (g : Frame) → frame_at (set st.memory.core.frames k g) k ≡ g
    there g = set_there z st.memory.core.frames f.memory.frames k below g

    -- the page comes new
    new : (g : Frame) → g.page ≡ suc i → (j : ℕ) → (frame_at (set st.memory.core.frames k g) k).page ≡ suc j → (((frames st).frame k).page ≡ suc j) ⊎ ((h : ℕ) → h < z.frames → ¬ (((frames st).frame h).page ≡ suc j))
    new g p j e = inr (λ h l q. away h l (q ∙ sym (sym p ∙ ap (λ (x : Frame). x.page) (sym (there g)) ∙ e)))

    begin_read_holds : Holds (live (files st) i) → Framing z (Pages.begin_read z st i k)
    unfolding Pages.begin_read
    begin_read_holds lv = one_frame z st (Pages.begin_read z st i k) k 0 0
        (record {
          free = free;
          list = unmoved z.frames st.memory.core.removal_list f.memory.removal_list r.queues.removal_list k 0 removing;
          others = λ h l d. rw (set_elsewhere st.memory.core.frames k (awaiting i) h d) (cooler_same ((frames st).frame h));
          text = λ h l d w lw. refl;
          kept = λ h l d. kept_all z (files st) (at st.disk.records) ((frames st).frame h).page;
          its = rw (there (awaiting i)) (seat_awaiting z (files st) (at st.disk.records) _ i fit active lv);
          page = new (awaiting i) refl;
        }) r.frames r.counts.hand
        (let l = long z st f in record {
          sizes = l.sizes;
          disk = l.disk;
          core = record { frames = length-set st.memory.core.frames k (awaiting i) ∙ f.memory.frames; words = f.memory.words; free_queue = free.long ∙ f.memory.free_queue; removal_list = f.memory.removal_list };
          held = l.held;
          slots = l.slots;
          line = l.line;
        })

    -- served as zeros, after a change y of what is held
    serve : (y : Held) → ((h : ℕ) → h < z.frames → Kept z (files st) (files (on_held (λ o. y) st)) (at st.disk.records) (at st.disk.records) ((frames st).frame h).page) → ¬ (at y.addresses i ≡ 0)
        → ((q : ℕ) → at y.addresses i ≡ suc q → ¬ (at y.states q ≡ LIVE)) → y.pool.hand < z.records → HeldFit z y → Framing z (Pages.serve_zeros z (on_held (λ o. y) st) i k)
    unfolding Pages.serve_zeros
    serve y kept held void hand fits = one_frame z st (Pages.serve_zeros z (on_held (λ o. y) st) i k) k 0 1
        (record {
          free = free;
          list = list;
          others = λ h l d. rw (set_elsewhere st.memory.core.frames k (fresh i) h d) (cooler_same ((frames st).frame h));
          text = λ h l d w lw. part_other z z.frames st.memory.core.words f.memory.words k (λ u. 0) w lw h l d;
          kept = λ h l d. kept h l;
          its = rw (there (fresh i)) (seat_fresh z (files (on_held (λ o. y) st)) (at st.disk.records) _ i fit active held
              (λ q a w lw. part_set z z.frames st.memory.core.words f.memory.words k (λ u. 0) w lw below ∙ sym (if_no (at y.states q) LIVE (at st.disk.records (q * z.words + w)) 0 (void q a))));
          page = new (fresh i) refl;
        }) r.frames hand
        (let l = long z st f in record {
          sizes = l.sizes;
          disk = l.disk;
          core = record {
            frames = length-set st.memory.core.frames k (fresh i) ∙ f.memory.frames;
            words = length_store st.memory.core.words _ _ ∙ f.memory.words;
            free_queue = free.long ∙ f.memory.free_queue;
            removal_list = list.long ∙ f.memory.removal_list;
          };
          held = fits;
          slots = l.slots;
          line = l.line;
        })

    -- the page has an address, which is not live
    serve_held : ¬ (Holds (live (files st) i)) → ¬ ((files st).address i ≡ 0) → Framing z (Pages.serve_zeros z st i k)
    serve_held dead held = serve st.memory.held (λ h l. kept_all z (files st) (at st.disk.records) ((frames st).frame h).page) held (λ q a e. dead (q, a, e)) r.counts.hand (long z st f).held

    -- the page takes record q, which is free
    serve_new : (q : ℕ) → q < z.records → (files st).state q ≡ FREE → Framing z (Pages.serve_zeros z (Pages.take_record z st i q) i k)
    unfolding Pages.take_record
    serve_new q lq fr = serve (Pages.take_record z st i q).memory.held
        (λ h l. record {
          address = λ j p. get_or-set_other st.memory.held.addresses i j (suc q) 0 (λ e. away h l (p ∙ ap suc e));
          state = λ j p o a. get_or-set_other st.memory.held.states q o NULLED 0 (λ e. held_busy j ((seat_at z st r h l).page_fit j p) o a (ap (files st).state e ∙ fr));
          active = λ j p. refl;
          words = λ j p o a w lw. refl;
        }) (λ e. omega (arith, sym given ∙ e)) (λ o a e. omega (arith, sym nulled ∙ ap (at (set st.memory.held.states q NULLED)) (suc_inj (sym given ∙ a)) ∙ e))
        (mod-lt (suc q) f.sizes.records)
        (record { addresses = length-set st.memory.held.addresses i (suc q) ∙ f.memory.addresses; states = length-set st.memory.held.states q NULLED ∙ f.memory.states; owners = length-set st.memory.held.owners q (slot_of z i) ∙ f.memory.owners })
      where
        given : at (set st.memory.held.addresses i (suc q)) i ≡ suc q
        given = get_or-set_same st.memory.held.addresses i (suc q) 0 (rw f.memory.addresses fit)

        nulled : at (set st.memory.held.states q NULLED) q ≡ NULLED
        nulled = get_or-set_same st.memory.held.states q NULLED 0 (rw f.memory.states lq)

  -- a free record is found where one is counted
  found_free : (i : ℕ) → 0 < st.memory.held.pool.free → (files st).state (pick z (files st).address (files st).state st.memory.held.pool.hand i) ≡ FREE
  unfolding free_count
  found_free i h =
      let c = count_some z.records (λ q. eqb ((files st).state q) FREE) (rw r.counts.free at h) in
      pick_free z (files st).address (files st).state st.memory.held.pool.hand i c.0 c.1 r.counts.hand (eqb→eq _ _ c.2)

  pub fault_frames : (s p : ℕ) → Asked (questions z st (Event.Page (Fault s p))) → Framed z (Pages.fault z st s p)
  unfolding Pages.fault fault_frame
  fault_frames s p a = counted_framed z _ (if_elim (Framing z) (test (live (files st) i)) _ _ (λ t. begin_read_holds some i fit active away (sound (live (files st) i) t))
      (λ t. if_elim (Framing z) (test (same ((files st).address i) 0)) _ _
      (λ u. serve_new some i fit active away (pick z (files st).address (files st).state st.memory.held.pool.hand i) (pick_below z (files st).address (files st).state st.memory.held.pool.hand i f.sizes.records) (taken (sound (same ((files st).address i) 0) u)))
      (λ u. serve_held some i fit active away (λ l. T_not (test (live (files st) i)) t (complete (live (files st) i) l)) (λ e. T_not (test (same ((files st).address i) 0)) u (complete (same ((files st).address i) 0) e)))))
    where
      i : ℕ
      i = page_of z s p

      fit : i < all_pages z
      fit = part_fit s z.slots p z.pages a.0.0 a.0.1

      active : (files st).active (slot_of z i) ≡ 1
      active = ap (files st).active (part_of s p z.pages a.0.1) ∙ a.1.1.0

      away : (h : ℕ) → h < z.frames → ¬ (((frames st).frame h).page ≡ suc i)
      away h l e = a.1.1.1.1.0 (h, l, e)

      some : 0 < size st.memory.core.free_queue
      some = a.1.1.1.1.1.1.0

      taken : (files st).address i ≡ 0 → (files st).state (pick z (files st).address (files st).state st.memory.held.pool.hand i) ≡ FREE
      taken e = elim a.1.1.1.1.1.0 [ inl x ↦ absurd (x e) | inr x ↦ found_free i x ]
