-- Page done keeps the rules of queues, frames, counts and lengths.
use mathlib.Core.Path.{◌≡◌, refl, ap, sym, ◌∙◌}
use mathlib.Core.Logic.{inl}
use Prim.Native.Nat.{ℕ, suc, ◌+◌, ◌*◌, ◌<◌, pred}
use native.Mathlib.Nat.{suc_inj}
use native.Mathlib.Omega.{arith}
use lib.Dec.{eqb, eqb→eq}
use lib.ListN.{set, length-set}
use Rattle.tables.specs.Base.{at, if}
use Rattle.tables.specs.Laws.{if_elim, if_yes}
use Rattle.tables.specs.Store.{length_store}
use Rattle.tables.specs.Queue.{push_front, push_back}
use Rattle.tables.specs.Questions.{Asked}
use Rattle.model.specs.declared.sizes.Sizes.{Sizes}
use Rattle.model.specs.declared.frame.Frame.{Frame}
use Rattle.model.specs.declared.event.Writeback.TheVariants.{PageDone}
use Rattle.model.specs.declared.event.Event.TheVariants as Event
use Rattle.model.specs.Lines.{LIVE}
use Rattle.model.specs.State.{State, files, frames, frame_at, NONE, READING}
use Rattle.model.specs.Setters.{on_disk, on_held, set_states, set_transfer, set_modified, set_initial}
use Rattle.model.specs.Questions.{questions}
use Rattle.model.specs.Parts.{set_part, word_at}
use Rattle.model.specs.Pages.{fresh}
use Rattle.model.specs.Writeback
use Rattle.model.specs.Writeback.{record_in}
use Rattle.model.specs.Laws.Ruled.{Ruled, once_list}
use Rattle.model.specs.Laws.Fit.{Fit}
use Rattle.invariant.proofs.Lengths.{long}
use Rattle.invariant.proofs.Framed.{Framed, Framing}
use Rattle.invariant.proofs.Counts.{counted_framed}
use Rattle.invariant.proofs.Seats.{SeatAt, cooler_same, kept_all}
use Rattle.invariant.proofs.NewSeats.{seat_fresh}
use Rattle.invariant.proofs.QueueMoves.{Moved, unmoved, moved_back, moved_front}
use Rattle.invariant.proofs.OneFrame.{one_frame}
use Rattle.invariant.proofs.FrameParts.{part_set, part_other}
use Rattle.invariant.proofs.Stands.{moving_place, seat_at}
use Rattle.invariant.proofs.FramesServed.{switched_framing}
use Rattle.invariant.proofs.Freed.{set_there, set_elsewhere, freed, own_page, own_fit, own_record, not_own, state_kept}

module _ (z : Sizes) (st : State) (f : Fit z st) (r : Ruled z st) where
  module _ (k : ℕ) (below : k < z.frames) (moving : ¬ (((frames st).frame k).transfer ≡ NONE)) where
    abbrev old : Frame
    old = (frames st).frame k

    abbrev i₀ : ℕ
    i₀ = pred old.page

    its : SeatAt z (files st) (frames st) (at st.disk.records) k
    its = seat_at z st r k below

    queued : (frames st).queued k ≡ 0
    queued = omega (arith, moving_place its moving)

    removing : (frames st).removing k ≡ 0
    removing = omega (arith, moving_place its moving)

    unwired : old.wired ≡ 0
    unwired = omega (arith, moving_place its moving)

    busy : ¬ (old.page ≡ 0)
    busy = its.busy queued

    -- the list is untouched
    unlisted : Moved z.frames st.memory.core.removal_list st.memory.core.removal_list k 0
    unlisted = unmoved z.frames st.memory.core.removal_list f.memory.removal_list r.queues.removal_list k 0 removing

    -- ── good read ──
    read_clean : old.transfer ≡ READING → (q : ℕ) → (files st).address i₀ ≡ suc q → (w : ℕ) → w < z.words
        → at (set_part z k (word_at z st.disk.records (record_in z st k)) st.memory.core.words) (k * z.words + w) ≡ if (eqb ((files st).state q) LIVE) (at st.disk.records (q * z.words + w)) 0
    read_clean e q a w l =
        let lv = its.reading i₀ (own_page z st f r k below busy) e in
        let s : q ≡ lv.0 = suc_inj (sym a ∙ lv.1) in
        let t : record_in z st k ≡ q = suc_inj (sym (own_record z st f r k below busy) ∙ a) in
        part_set z z.frames st.memory.core.words f.memory.words k (word_at z st.disk.records (record_in z st k)) w l below
        ∙ ap (λ (x : ℕ). at st.disk.records (x * z.words + w)) t
        ∙ sym (if_yes ((files st).state q) LIVE (at st.disk.records (q * z.words + w)) 0 (ap (files st).state s ∙ lv.2))

    pub read_good_holds : old.transfer ≡ READING → Framing z (Writeback.read_good z st k)
    unfolding Writeback.read_good
    read_good_holds e = one_frame z st (Writeback.read_good z st k) k 0 1
        (record {
          free = unmoved z.frames st.memory.core.free_queue f.memory.free_queue r.queues.free_queue k 0 queued;
          list = list;
          others = λ h l d. rw (set_elsewhere st.memory.core.frames k (fresh i₀) h d) (cooler_same ((frames st).frame h));
          text = λ h l d w lw. part_other z z.frames st.memory.core.words f.memory.words k (word_at z st.disk.records (record_in z st k)) w lw h l d;
          kept = λ h l d. kept_all z (files st) (at st.disk.records) ((frames st).frame h).page;
          its = rw there (seat_fresh z (files st) (at st.disk.records) _ i₀ (own_fit z st f r k below busy) (its.active i₀ (own_page z st f r k below busy)) (its.held i₀ (own_page z st f r k below busy)) (read_clean e));
          page = λ i q. inl (own_page z st f r k below busy ∙ sym (ap (λ (g : Frame). g.page) there) ∙ q);
        }) r.frames r.counts.hand
        (let l = long z st f in record {
          sizes = l.sizes;
          disk = l.disk;
          core = record { frames = length-set st.memory.core.frames k (fresh i₀) ∙ f.memory.frames; words = length_store st.memory.core.words _ _ ∙ f.memory.words; free_queue = f.memory.free_queue; removal_list = list.long ∙ f.memory.removal_list };
          held = l.held;
          slots = l.slots;
          line = l.line;
        })
      where
        there : frame_at (set st.memory.core.frames k (fresh i₀)) k ≡ fresh i₀
        there = set_there z st.memory.core.frames f.memory.frames k below (fresh i₀)

        list : Moved z.frames st.memory.core.removal_list (push_front st.memory.core.removal_list k) k 1
        list = moved_front z.frames st.memory.core.removal_list f.memory.removal_list r.queues.removal_list (once_list z st r) k below removing

    -- ── failed read ──
    read_failed_holds : Framing z (Writeback.read_failed z st k)
    unfolding Writeback.read_failed
    read_failed_holds = freed z st f r st k below queued refl refl unlisted (λ h l d. cooler_same ((frames st).frame h)) (λ h l d. kept_all z (files st) (at st.disk.records) ((frames st).frame h).page) r.counts.hand (long z st f)

    -- ── good write ──
    write_good_holds : Framing z (Writeback.write_good z st k)
    unfolding Writeback.write_good Writeback.store_frame
    write_good_holds = freed z st f r (on_held (λ h. set_states (set h.states (record_in z st k) LIVE) h) (on_disk (Writeback.store_frame z st k) st)) k below queued refl refl unlisted (λ h l d. cooler_same ((frames st).frame h))
        (λ h l d. record {
          address = λ i e. refl;
          state = state_kept z st f r k below busy LIVE h l d;
          active = λ i e. refl;
          words = λ i p q a w lw. part_other z z.records st.disk.records f.disk.records (record_in z st k) (word_at z st.memory.core.words k) w lw q
              (r.records.address_fit_holds i ((seat_at z st r h l).page_fit i p) q a) (not_own z st f r k below busy h l d i p q a);
        }) r.counts.hand
        (let l = long z st f in record {
          sizes = l.sizes;
          disk = record { records = length_store st.disk.records _ _ ∙ f.disk.records; numbers = f.disk.numbers; accounts = f.disk.accounts; maps = f.disk.maps; limits = f.disk.limits; parents = f.disk.parents; highest = f.disk.highest };
          core = l.core;
          held = record { addresses = l.held.addresses; states = length-set st.memory.held.states (record_in z st k) LIVE ∙ l.held.states; owners = l.held.owners };
          slots = l.slots;
          line = l.line;
        })

    -- ── failed write ──
    write_failed_holds : Framing z (Writeback.write_failed z st k)
    unfolding Writeback.write_failed
    write_failed_holds = switched_framing z st f r k below queued (set_transfer NONE (set_modified 1 (set_initial 0 old))) (push_back st.memory.core.removal_list k) st.memory.core.words 1
        (moved_back z.frames st.memory.core.removal_list f.memory.removal_list r.queues.removal_list (once_list z st r) k below removing) f.memory.words (λ h l d w b. refl)
        (record {
          page = refl;
          used = its.used_fit;
          modified = omega arith;
          wired = its.wired_fit;
          initial = omega arith;
          transfer = omega arith;
          place = omega (arith, unwired);
          unread = λ e. omega (arith, e);
          writing = λ e. absurd (omega (arith, e));
          clean = λ e m. absurd (omega (arith, m));
        })

  pub page_done_frames : (k good : ℕ) → Asked (questions z st (Event.Writeback (PageDone k good))) → Framed z (Writeback.page_done z st k good)
  unfolding Writeback.page_done
  page_done_frames k good a = counted_framed z _ (if_elim (Framing z) (eqb ((frames st).frame k).transfer READING) _ _
      (λ t. if_elim (Framing z) (eqb good 1) _ _ (λ u. read_good_holds k a.0.0 a.1.0 (eqb→eq _ _ t)) (λ u. read_failed_holds k a.0.0 a.1.0))
      (λ t. if_elim (Framing z) (eqb good 1) _ _ (λ u. write_good_holds k a.0.0 a.1.0) (λ u. write_failed_holds k a.0.0 a.1.0)))
