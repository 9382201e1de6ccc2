-- Claim keeps the rules of queues, frames, counts and lengths.
use mathlib.Core.Path.{◌≡◌, refl, ap, sym, ◌∙◌}
use mathlib.Core.Bool.{Bool, true, false, not}
use mathlib.Core.Logic.{inl}
use mathlib.Core.List.{List}
use Prim.Native.Nat.{ℕ, suc, ◌<◌, ◌≤◌}
use native.Mathlib.Omega.{arith}
use lib.Dec.{T, eqb, eqb→eq}
use lib.ListN.{length, set, length-set}
use borrow.Author.Tests.{eq-eqb, ne_eqb}
use Rattle.tables.specs.Base.{at, if}
use Rattle.tables.specs.Laws.{if_elim}
use Rattle.tables.specs.Queue.{members, packed, times, size}
use Rattle.tables.specs.QueueLaws.{members_within, members_packed, length_packed, queue_repacked, size_le, size_members}
use Rattle.tables.specs.Questions.{Asked}
use Rattle.model.specs.declared.sizes.Sizes.{Sizes}
use Rattle.model.specs.declared.frame.Frame.{Frame}
use Rattle.model.specs.declared.event.Writeback.TheVariants.{Claim}
use Rattle.model.specs.declared.event.Event.TheVariants as Event
use Rattle.model.specs.Lines.{NULLED}
use Rattle.model.specs.State.{State, files, frames, frame_at, WRITING}
use Rattle.model.specs.Setters.{on_held, on_core, set_states, set_frames, set_removal_list, set_transfer}
use Rattle.model.specs.Questions.{questions}
use Rattle.model.specs.Pages.{on_frame}
use Rattle.model.specs.Writeback
use Rattle.model.specs.Writeback.{Looked, looking, free_frame, record_in, begins_write, zeros}
use Rattle.model.specs.Laws.Ruled.{Ruled, once_list}
use Rattle.model.specs.Laws.Fit.{Fit}
use Rattle.invariant.proofs.Lengths.{Long, long}
use Rattle.invariant.proofs.Framed.{Framed, Framing}
use Rattle.invariant.proofs.Counts.{counted_framed}
use Rattle.invariant.proofs.Seats.{SeatAt, text_of, Cooler, kept_all}
use Rattle.invariant.proofs.NewSeats.{Switched, seat_switched}
use Rattle.invariant.proofs.QueueMoves.{Moved, unmoved}
use Rattle.invariant.proofs.OneFrame.{one_frame}
use Rattle.invariant.proofs.Looks.{Took, looking_takes}
use Rattle.invariant.proofs.Stands.{seat_at}
use Rattle.invariant.proofs.Freed.{set_there, set_elsewhere, freed, state_kept}

-- the frames and the list as the looks leave them
abbrev pub after_looks : Sizes → State → State
after_looks z st = on_core (λ c. set_frames (looking z st).frames (set_removal_list (packed (length c.removal_list) (looking z st).list) c)) st

begun : (a b : Bool) → T (if a (not b) false) → T a
begun true b t = tt
begun false b t = t

module _ (z : Sizes) (st : State) (f : Fit z st) (r : Ruled z st) (some : 0 < size st.memory.core.removal_list) where
  abbrev l : Looked
  l = looking z st

  abbrev k : ℕ
  k = l.taken

  abbrev queue : List ℕ
  queue = st.memory.core.removal_list

  abbrev old : Frame
  old = (frames st).frame k

  took : Took st.memory.core.frames (members queue) (suc (length (members queue))) 0 l
  took = looking_takes z st some

  taken_once : times (members queue) k ≡ suc (times l.list k)
  taken_once = took.left k ∙ rw (eq-eqb k k refl) (omega arith)

  -- the frame taken stood in the list, and so nowhere else
  pub taken_below : k < z.frames
  taken_below = members_within queue f.memory.removal_list r.queues.removal_list k (omega (arith, taken_once))

  its : SeatAt z (files st) (frames st) (at st.disk.records) k
  its = seat_at z st r k taken_below

  removing : (frames st).removing k ≡ 1
  removing = omega (arith, taken_once, once_list z st r k taken_below)

  queued : (frames st).queued k ≡ 0
  queued = omega (arith, its.place, removing)

  unwired : old.wired ≡ 0
  unwired = omega (arith, its.place, removing)

  pub taken_busy : ¬ (old.page ≡ 0)
  taken_busy = its.busy queued

  list_moved : Moved z.frames queue (packed (length queue) l.list) k 0
  list_moved = record {
    rule = queue_repacked queue f.memory.removal_list l.list (λ x h. members_within queue f.memory.removal_list r.queues.removal_list x (omega (arith, took.left x))) fits;
    long = length_packed (length queue) l.list;
    here = rw (members_packed (length queue) l.list fits) (omega (arith, taken_once, removing));
    other = λ x d. rw (members_packed (length queue) l.list fits) (sym (took.left x ∙ rw (ne_eqb x k d) (omega arith)));
  }
    where
      fits : length l.list ≤ length queue
      fits = omega (arith, took.list_long, size_members queue, size_le queue)

  looked_long : Long z (after_looks z st)
  looked_long = (let o = long z st f in record {
    sizes = o.sizes;
    disk = o.disk;
    core = record { frames = took.frames_long ∙ f.memory.frames; words = f.memory.words; free_queue = f.memory.free_queue; removal_list = list_moved.long ∙ f.memory.removal_list };
    held = o.held;
    slots = o.slots;
    line = o.line;
  })

  -- ── unmodified: the frame is freed ──
  claim_freed : Framing z (free_frame k (after_looks z st))
  claim_freed = freed z st f r (after_looks z st) k taken_below queued refl refl list_moved (λ h b d. took.cooler h) (λ h b d. kept_all z (files st) (at st.disk.records) ((frames st).frame h).page) r.counts.hand looked_long

  -- ── modified, all words zero: its address is nulled too ──
  claim_nulled : Framing z (free_frame k (on_held (λ h. set_states (set h.states (record_in z st k) NULLED) h) (after_looks z st)))
  claim_nulled = freed z st f r (on_held (λ h. set_states (set h.states (record_in z st k) NULLED) h) (after_looks z st)) k taken_below queued refl refl list_moved (λ h b d. took.cooler h)
      (λ h b d. record { address = λ i e. refl; state = state_kept z st f r k taken_below taken_busy NULLED h b d; active = λ i e. refl; words = λ i p q a w lw. refl }) r.counts.hand
      (let o = looked_long in record {
        sizes = o.sizes;
        disk = o.disk;
        core = o.core;
        held = record { addresses = f.memory.addresses; states = length-set st.memory.held.states (record_in z st k) NULLED ∙ f.memory.states; owners = f.memory.owners };
        slots = o.slots;
        line = o.line;
      })

  -- ── otherwise a write begins ──
  claim_writes : old.modified ≡ 1 → Framing z (on_core (λ c. on_frame k (set_transfer WRITING) c) (after_looks z st))
  claim_writes on = one_frame z st (on_core (λ c. on_frame k (set_transfer WRITING) c) (after_looks z st)) k 0 0
      (record {
        free = unmoved z.frames st.memory.core.free_queue f.memory.free_queue r.queues.free_queue k 0 queued;
        list = list_moved;
        others = λ h b d. rw (set_elsewhere l.frames k new h d) (took.cooler h);
        text = λ h b d w lw. refl;
        kept = λ h b d. kept_all z (files st) (at st.disk.records) ((frames st).frame h).page;
        its = rw there (seat_switched (rw queued at its) switched);
        page = λ i e. inl (sym c.page ∙ sym (ap (λ (g : Frame). g.page) there) ∙ e);
      }) r.frames r.counts.hand
      (let o = looked_long in record {
        sizes = o.sizes;
        disk = o.disk;
        core = record { frames = length-set l.frames k new ∙ o.core.frames; words = o.core.words; free_queue = o.core.free_queue; removal_list = o.core.removal_list };
        held = o.held;
        slots = o.slots;
        line = o.line;
      })
    where
      new : Frame
      new = set_transfer WRITING (frame_at l.frames k)

      there : frame_at (set l.frames k new) k ≡ new
      there = set_there z l.frames looked_long.core.frames k taken_below new

      c : Cooler (frame_at l.frames k) old
      c = took.cooler k

      switched : Switched z new old 0 (text_of z (frames st) k) (text_of z (frames st) k)
      switched = record {
        page = c.page;
        used = omega (arith, c.used, its.used_fit);
        modified = omega (arith, c.modified, its.modified_fit);
        wired = omega (arith, c.wired, its.wired_fit);
        initial = omega (arith, c.initial, its.initial_fit);
        transfer = omega arith;
        place = omega (arith, c.wired, unwired);
        unread = λ e. omega (arith, e);
        writing = λ e. c.modified ∙ on;
        clean = λ e m. absurd (omega (arith, e));
      }

pub claim_frames : (z : Sizes) (st : State) → Fit z st → Ruled z st → Asked (questions z st (Event.Writeback Claim)) → Framed z (Writeback.claim z st)
unfolding Writeback.claim begins_write
claim_frames z st f r a = counted_framed z _ (if_elim (Framing z) (begins_write z st) _ _
    (λ t. claim_writes z st f r a.0 (eqb→eq _ _ (begun (eqb ((frames st).frame (looking z st).taken).modified 1) (zeros z st (looking z st).taken) t)))
    (λ t. if_elim (Framing z) (eqb ((frames st).frame (looking z st).taken).modified 1) _ _ (λ u. claim_nulled z st f r a.0) (λ u. claim_freed z st f r a.0)))
