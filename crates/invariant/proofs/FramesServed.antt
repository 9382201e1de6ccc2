-- Read, write, wire and unwire keep the rules of queues, frames, counts and lengths.
use mathlib.Core.Path.{◌≡◌, refl, ap, sym, ◌∙◌}
use mathlib.Core.Logic.{inl}
use Prim.Native.Nat.{ℕ, suc, ◌+◌, ◌*◌, ◌<◌}
use native.Mathlib.Omega.{arith}
use native.Mathlib.Decide.{ℕ_discrete}
use mathlib.Core.List.{List}
use lib.Dec.{eqb}
use lib.ListN.{length, set, length-set}
use lib.Seq.{get_or-set_same, get_or-set_other}
use Rattle.tables.specs.Base.{at, if}
use Rattle.tables.specs.Rule.{Holds}
use Rattle.tables.specs.Queue.{push_back, remove}
use Rattle.tables.specs.Questions.{Asked}
use Rattle.model.specs.declared.sizes.Sizes.{Sizes}
use Rattle.model.specs.declared.frame.Frame.{Frame}
use Rattle.model.specs.declared.event.Page.TheVariants.{Read, Write, Wire, Unwire}
use Rattle.model.specs.declared.event.Event.TheVariants as Event
use Rattle.model.specs.State.{Core, State, files, frames, frame_at, no_frame, NONE, READING, page_of, framed}
use Rattle.model.specs.Setters.{on_core, set_words, set_removal_list, set_used_switch, set_modified, set_wired, set_initial}
use Rattle.model.specs.Questions.{questions}
use Rattle.model.specs.Parts.{frame_of}
use Rattle.model.specs.Pages
use Rattle.model.specs.Pages.{on_frame}
use Rattle.model.specs.Laws.Ruled.{Ruled, once_list}
use Rattle.model.specs.Laws.Fit.{Fit}
use Rattle.invariant.proofs.Lengths.{long}
use Rattle.invariant.proofs.Framed.{Framed, Framing}
use Rattle.invariant.proofs.Counts.{counted_framed, core_framed}
use Rattle.invariant.proofs.Seats.{SeatAt, text_of, cooler_same, kept_all}
use Rattle.invariant.proofs.NewSeats.{Switched, seat_switched}
use Rattle.invariant.proofs.QueueMoves.{Moved, unmoved, moved_back, moved_out}
use Rattle.invariant.proofs.OneFrame.{one_frame}
use Rattle.invariant.proofs.FrameParts.{word_other}
use Rattle.invariant.proofs.Stands.{frame_of_holds, unqueued, still_place, seat_at}

module _ (z : Sizes) (st : State) (f : Fit z st) (r : Ruled z st) where
  -- Only the core changes: frame k gets new switches, the list and the frames' words may change.
  module _ (k : ℕ) (below : k < z.frames) (queued : (frames st).queued k ≡ 0) (g : Frame) (list words : List ℕ) (b : ℕ)
      (moved : Moved z.frames st.memory.core.removal_list list k b)
      (long_words : length words ≡ z.frames * z.words) (others : (h : ℕ) → h < z.frames → ¬ (h ≡ k) → (w : ℕ) → w < z.words → at words (h * z.words + w) ≡ text_of z (frames st) h w)
      (sw : Switched z g ((frames st).frame k) b (text_of z (frames st) k) (λ w. at words (k * z.words + w))) where
    abbrev core : Core
    core = record { frames = set st.memory.core.frames k g; words = words; free_queue = st.memory.core.free_queue; removal_list = list }

    there : frame_at (set st.memory.core.frames k g) k ≡ g
    there = get_or-set_same st.memory.core.frames k g no_frame (rw f.memory.frames below)

    elsewhere : (h : ℕ) → ¬ (h ≡ k) → frame_at (set st.memory.core.frames k g) h ≡ frame_at st.memory.core.frames h
    elsewhere h d = get_or-set_other st.memory.core.frames k h g no_frame d

    pub switched_framing : Framing z (on_core (λ c. core) st)
    switched_framing = one_frame z st (on_core (λ c. core) st) k 0 b
        (record {
          free = unmoved z.frames st.memory.core.free_queue f.memory.free_queue r.queues.free_queue k 0 queued;
          list = moved;
          others = λ h l d. rw (elsewhere h d) (cooler_same ((frames st).frame h));
          text = others;
          kept = λ h l d. kept_all z (files st) (at st.disk.records) ((frames st).frame h).page;
          its = rw there (seat_switched (rw queued at (seat_at z st r k below)) sw);
          page = λ i e. inl (sym sw.page ∙ sym (ap (λ (x : Frame). x.page) there) ∙ e);
        }) r.frames r.counts.hand
        (let l = long z st f in record {
          sizes = l.sizes;
          disk = l.disk;
          core = record { frames = length-set st.memory.core.frames k g ∙ f.memory.frames; words = long_words; free_queue = f.memory.free_queue; removal_list = moved.long ∙ f.memory.removal_list };
          held = l.held;
          slots = l.slots;
          line = l.line;
        })

    -- modified is as it was
    pub switched_framed : g.modified ≡ ((frames st).frame k).modified → Framed z (on_core (λ c. core) st)
    switched_framed m = core_framed z st core f r.counts switched_framing (λ h l. elim (ℕ_discrete h k) [ yes e ↦ rw (e, there) (sym sw.page, sym m) | no d ↦ rw (elsewhere h d) (refl, refl) ])

  -- ── a page in a frame ──
  module _ (i : ℕ) (in_frame : Holds (framed z (frames st) i)) where
    abbrev k : ℕ
    k = frame_of z (frames st) i

    abbrev old : Frame
    old = (frames st).frame k

    below : k < z.frames
    below = (frame_of_holds z (frames st) i in_frame).0

    page : old.page ≡ suc i
    page = (frame_of_holds z (frames st) i in_frame).1

    its : SeatAt z (files st) (frames st) (at st.disk.records) k
    its = seat_at z st r k below

    queued : (frames st).queued k ≡ 0
    queued = unqueued its (λ e. omega (arith, e, page))

    -- in service or being written
    read_framed : ((h : ℕ) → h < z.frames → ((frames st).frame h).page ≡ suc i → ¬ (((frames st).frame h).transfer ≡ READING)) → Framed z (on_core (λ c. on_frame k (set_used_switch 1) c) st)
    read_framed arrived = switched_framed k below queued (set_used_switch 1 old) st.memory.core.removal_list st.memory.core.words ((frames st).removing k)
        (unmoved z.frames st.memory.core.removal_list f.memory.removal_list r.queues.removal_list k ((frames st).removing k) refl) f.memory.words (λ h l d w b. refl)
        (record {
          page = refl;
          used = omega arith;
          modified = its.modified_fit;
          wired = its.wired_fit;
          initial = its.initial_fit;
          transfer = its.transfer_fit;
          place = omega (arith, its.place, queued);
          unread = arrived k below page;
          writing = its.writing;
          clean = λ e m. (e, m, λ w l. refl);
        }) refl

    -- in service
    module _ (still : (h : ℕ) → h < z.frames → ((frames st).frame h).page ≡ suc i → ((frames st).frame h).transfer ≡ NONE) where
      none : old.transfer ≡ NONE
      none = still k below page

      place : (frames st).removing k + old.wired ≡ 1
      place = omega (arith, still_place its none, queued)

      no_transfer : (n : ℕ) → n ≡ 1 → n + if (eqb old.transfer NONE) 0 1 ≡ 1
      no_transfer n e = rw (e, none)

      write_framing : (w x : ℕ) → w < z.words → Framing z (on_core (λ c. on_frame k (λ g. set_used_switch 1 (set_modified 1 g)) (set_words (set c.words (k * z.words + w) x) c)) st)
      write_framing w x lw = switched_framing k below queued (set_used_switch 1 (set_modified 1 old)) st.memory.core.removal_list (set st.memory.core.words (k * z.words + w) x) ((frames st).removing k)
          (unmoved z.frames st.memory.core.removal_list f.memory.removal_list r.queues.removal_list k ((frames st).removing k) refl)
          (length-set st.memory.core.words (k * z.words + w) x ∙ f.memory.words) (λ h l d u b. word_other st.memory.core.words z.words k w h u x lw b d)
          (record {
            page = refl;
            used = omega arith;
            modified = omega arith;
            wired = its.wired_fit;
            initial = its.initial_fit;
            transfer = its.transfer_fit;
            place = no_transfer _ place;
            unread = λ e. omega (arith, e, none);
            writing = λ e. absurd (omega (arith, e, none));
            clean = λ e m. absurd (omega (arith, m));
          })

      wire_framed : ¬ (old.wired ≡ 1) → Framed z (on_core (λ c. on_frame k (set_wired 1) (set_removal_list (remove c.removal_list k) c)) st)
      wire_framed off = switched_framed k below queued (set_wired 1 old) (remove st.memory.core.removal_list k) st.memory.core.words 0
          (moved_out z.frames st.memory.core.removal_list f.memory.removal_list r.queues.removal_list (once_list z st r) k (omega (arith, place, off))) f.memory.words (λ h l d w b. refl)
          (record {
            page = refl;
            used = its.used_fit;
            modified = its.modified_fit;
            wired = omega arith;
            initial = its.initial_fit;
            transfer = its.transfer_fit;
            place = no_transfer _ refl;
            unread = λ e. omega (arith, e, none);
            writing = λ e. absurd (omega (arith, e, none));
            clean = λ e m. (e, m, λ w l. refl);
          }) refl

      unwire_framed : old.wired ≡ 1 → Framed z (on_core (λ c. on_frame k (λ g. set_wired 0 (set_initial 0 g)) (set_removal_list (push_back c.removal_list k) c)) st)
      unwire_framed on = switched_framed k below queued (set_wired 0 (set_initial 0 old)) (push_back st.memory.core.removal_list k) st.memory.core.words 1
          (moved_back z.frames st.memory.core.removal_list f.memory.removal_list r.queues.removal_list (once_list z st r) k below (omega (arith, place, on))) f.memory.words (λ h l d w b. refl)
          (record {
            page = refl;
            used = its.used_fit;
            modified = its.modified_fit;
            wired = omega arith;
            initial = omega arith;
            transfer = its.transfer_fit;
            place = no_transfer _ refl;
            unread = λ e. omega (arith, e, none);
            writing = λ e. absurd (omega (arith, e, none));
            clean = λ e m. (e, m, λ w l. refl);
          }) refl

    -- the questions of wire and unwire speak of each frame with that page
    its_wired : ¬ ((h : ℕ) → h < z.frames → ((frames st).frame h).page ≡ suc i → ¬ (((frames st).frame h).wired ≡ 1)) → old.wired ≡ 1
    its_wired n = elim (ℕ_discrete old.wired 1) [ yes e ↦ e | no d ↦ absurd (n (λ h l p e. d (ap (λ (x : ℕ). ((frames st).frame x).wired) (sym (r.frames.once h l k below i p page)) ∙ e))) ]

    its_unwired : ((h : ℕ) → h < z.frames → ((frames st).frame h).page ≡ suc i → ¬ (((frames st).frame h).wired ≡ 1)) → ¬ (old.wired ≡ 1)
    its_unwired u = u k below page

  pub read_frames : (s p w : ℕ) → Asked (questions z st (Event.Page (Read s p w))) → Framed z (Pages.read z st s p)
  unfolding Pages.read
  read_frames s p w a = read_framed (page_of z s p) a.1.1.1.0 a.1.1.1.1.0

  pub write_frames : (s p w x : ℕ) → Asked (questions z st (Event.Page (Write s p w x))) → Framed z (Pages.write z st s p w x)
  unfolding Pages.write
  write_frames s p w x a = counted_framed z _ (write_framing (page_of z s p) a.1.1.1.0 a.1.1.1.1.0 w x a.0.1.1)

  pub wire_frames : (s p : ℕ) → Asked (questions z st (Event.Page (Wire s p))) → Framed z (Pages.wire z st s p)
  unfolding Pages.wire
  wire_frames s p a = let i = page_of z s p in wire_framed i a.1.1.1.0 a.1.1.1.1.0 (its_unwired i a.1.1.1.0 a.1.1.1.1.1.0)

  pub unwire_frames : (s p : ℕ) → Asked (questions z st (Event.Page (Unwire s p))) → Framed z (Pages.unwire z st s p)
  unfolding Pages.unwire
  unwire_frames s p a = let i = page_of z s p in unwire_framed i a.1.1.1.0 a.1.1.1.1.0 (its_wired i a.1.1.1.0 a.1.1.1.1.1.0)
