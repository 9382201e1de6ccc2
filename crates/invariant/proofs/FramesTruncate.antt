-- Truncate keeps the rules of queues, frames, counts and lengths.
use mathlib.Core.Path.{◌≡◌, refl, ap, sym, ◌∙◌}
use mathlib.Core.Bool.{Bool, ◌&&◌}
use mathlib.Core.Logic.{inl}
use mathlib.Core.List.{List, ◌++◌, map}
use Prim.Native.Nat.{ℕ, suc, ◌+◌, ◌*◌, ◌%◌, ◌<◌, ◌≤◌}
use native.Mathlib.Nat.{suc_inj, mod-lt, div-add-mod'}
use native.Mathlib.Omega.{arith}
use native.Mathlib.Decide.{dec_lt}
use lib.Dec.{T, leb, leb→le, le→leb}
use lib.ListN.{length}
use Rattle.tables.specs.Base.{at, if, those, tab}
use Rattle.tables.specs.Laws.{and_left, and_right, and_intro, if_true, if_false, at_tab0, length_tab}
use Rattle.tables.specs.Rule.{Holds, test, sound, complete, decided}
use Rattle.tables.specs.Queue.{members, packed, times, without}
use Rattle.tables.specs.TimesLaws.{Within, times_append, times_map, times_map_none, times_without, within_append}
use Rattle.tables.specs.ThoseLaws.{times_those, those_elim}
use Rattle.tables.specs.QueueLaws.{members_within, members_packed, members_without, length_packed, fits_once, queue_repacked, queue_without}
use Rattle.tables.specs.Store.{store, length_store}
use Rattle.tables.specs.Questions.{Asked}
use Rattle.model.specs.declared.sizes.Sizes.{Sizes}
use Rattle.model.specs.declared.frame.Frame.{Frame}
use Rattle.model.specs.declared.event.Writeback.TheVariants.{Truncate}
use Rattle.model.specs.declared.event.Event.TheVariants as Event
use Rattle.model.specs.Lines.{RELEASED}
use Rattle.model.specs.State.{State, files, frames, no_frame, all_pages, slot_of, page_of, framed}
use Rattle.model.specs.Questions.{questions}
use Rattle.model.specs.Parts.{from_page, frame_of}
use Rattle.model.specs.Writeback
use Rattle.model.specs.Writeback.{cut_frame, cut_frames, cut_record}
use Rattle.model.specs.Laws.Ruled.{Ruled, once_free}
use Rattle.model.specs.Laws.Fit.{Fit}
use Rattle.invariant.proofs.Lengths.{long}
use Rattle.invariant.proofs.Framed.{Framed, Framing}
use Rattle.invariant.proofs.Counts.{counted_framed}
use Rattle.invariant.proofs.Seats.{SeatAt, Kept, seated, seat_kept, cooler_same, text_of}
use Rattle.invariant.proofs.NewSeats.{seat_free}
use Rattle.invariant.proofs.OneFrame.{once_kept}
use Rattle.invariant.proofs.FrameParts.{unstored, part_of, place_of_holds}
use Rattle.invariant.proofs.Stands.{frame_of_holds, unqueued, seat_at}

module _ (z : Sizes) (st : State) (f : Fit z st) (r : Ruled z st) (s k : ℕ) where
  abbrev fq : List ℕ
  fq = st.memory.core.free_queue

  abbrev rl : List ℕ
  rl = st.memory.core.removal_list

  abbrev after : State
  after = record {
    disk = st.disk;
    memory = record {
      core = record {
        frames = tab (length st.memory.core.frames) (λ x. if (test (cut_frame z st s k x)) no_frame ((frames st).frame x)) 0;
        words = st.memory.core.words;
        free_queue = packed (length fq) (members fq ++ cut_frames z st s k);
        removal_list = packed (length rl) (without (λ x. test (cut_frame z st s k x)) (members rl));
      };
      held = record {
        addresses = store st.memory.held.addresses (from_page z s k) (λ i. 0);
        states = store st.memory.held.states (cut_record z st s k) (λ q. RELEASED);
        owners = st.memory.held.owners;
        free_map = st.memory.held.free_map;
        pool = st.memory.held.pool;
      };
      slots = st.memory.slots;
      chip = st.memory.chip;
      line = st.memory.line;
      used = st.memory.used;
    };
  }

  -- page p of the slot is cut off, and in a frame
  abbrev passes : ℕ → Bool
  passes p = leb k p && test (framed z (frames st) (page_of z s p))

  -- its frame
  abbrev its_frame : ℕ → ℕ
  its_frame p = frame_of z (frames st) (page_of z s p)

  abbrev cut_pages : List ℕ
  cut_pages = those z.pages passes 0

  in_frame : (p : ℕ) → 0 < times cut_pages p → (p < z.pages) × (k ≤ p) × (its_frame p < z.frames) × (((frames st).frame (its_frame p)).page ≡ suc (page_of z s p))
  in_frame p h =
      let e = those_elim z.pages passes 0 p h in
      let w = frame_of_holds z (frames st) (page_of z s p) (sound (framed z (frames st) (page_of z s p)) (and_right (leb k p) (test (framed z (frames st) (page_of z s p))) e.2)) in
      (omega (arith, e.1), leb→le k p (and_left (leb k p) (test (framed z (frames st) (page_of z s p))) e.2), w.0, w.1)

  -- the page's place in the slot
  page_is : (i : ℕ) → slot_of z i ≡ s → page_of z s (i % z.pages) ≡ i
  page_is i e = ap (λ (x : ℕ). x * z.pages + i % z.pages) (sym e) ∙ div-add-mod' i z.pages

  page_from : (p : ℕ) → p < z.pages → k ≤ p → Holds (from_page z s k (page_of z s p))
  page_from p l h = (part_of s p z.pages l, λ b. omega (arith, b, place_of_holds s p z.pages l))

  -- ── how often a frame stands among the cut ones ──
  cut_once : (x : ℕ) → x < z.frames → Holds (cut_frame z st s k x) → times (cut_frames z st s k) x ≡ 1
  unfolding cut_frames
  cut_once x l (i, e, (o, d)) = ap (times (map its_frame cut_pages)) (sym its) ∙ times_map its_frame cut_pages p alone ∙ times_those z.pages passes 0 p (omega arith) (omega (arith, small)) ∙ if_true (passes p) 1 0 inside
    where
      p : ℕ
      p = i % z.pages

      small : p < z.pages
      small = mod-lt i f.sizes.pages

      same_page : page_of z s p ≡ i
      same_page = page_is i o

      there : Holds (framed z (frames st) (page_of z s p))
      there = (x, l, e ∙ ap suc (sym same_page))

      inside : T (passes p)
      inside = and_intro (leb k p) (test (framed z (frames st) (page_of z s p))) (le→leb k p (omega (arith, d))) (complete (framed z (frames st) (page_of z s p)) there)

      its : its_frame p ≡ x
      its = let w = frame_of_holds z (frames st) (page_of z s p) there in r.frames.once (its_frame p) w.0 x l i (w.1 ∙ ap suc same_page) e

      alone : (y : ℕ) → 0 < times cut_pages y → its_frame y ≡ its_frame p → y ≡ p
      alone y h q =
          let w = in_frame y h in
          let t : page_of z s y ≡ page_of z s p = suc_inj (sym w.3 ∙ ap (λ (a : ℕ). ((frames st).frame a).page) (q ∙ its) ∙ e ∙ ap suc (sym same_page)) in
          omega (arith, t)

  cut_none : (x : ℕ) → ¬ (Holds (cut_frame z st s k x)) → times (cut_frames z st s k) x ≡ 0
  unfolding cut_frames
  cut_none x d = times_map_none its_frame cut_pages x (λ p h e. let w = in_frame p h in d (page_of z s p, ap (λ (a : ℕ). ((frames st).frame a).page) (sym e) ∙ w.3, page_from p w.0 w.1))

  cut_within : Within z.frames (cut_frames z st s k)
  unfolding cut_frames
  cut_within x h = elim (dec_lt x z.frames) [ yes l ↦ l | no d ↦ absurd (omega (arith, h, times_map_none its_frame cut_pages x (λ p b e. d (rw e at (in_frame p b).2)))) ]

  -- ── the queues ──
  -- a cut frame has a page, and so is not free
  cut_unqueued : (x : ℕ) → x < z.frames → Holds (cut_frame z st s k x) → (frames st).queued x ≡ 0
  cut_unqueued x l c = unqueued (seat_at z st r x l) (λ e. omega (arith, e, c.1))

  joined : (x : ℕ) → times (members fq ++ cut_frames z st s k) x ≡ (frames st).queued x + times (cut_frames z st s k) x
  joined x = times_append (members fq) (cut_frames z st s k) x

  joined_within : Within z.frames (members fq ++ cut_frames z st s k)
  joined_within = within_append z.frames (members fq) (cut_frames z st s k) (members_within fq f.memory.free_queue r.queues.free_queue) cut_within

  joined_fits : length (members fq ++ cut_frames z st s k) ≤ length fq
  joined_fits = fits_once fq f.memory.free_queue (members fq ++ cut_frames z st s k) joined_within (λ x l. elim (decided (cut_frame z st s k x)) [
    | yes c ↦ omega (arith, joined x, cut_unqueued x l c, cut_once x l c)
    | no d ↦ omega (arith, joined x, once_free z st r x l, cut_none x d)
  ])

  queued_after : (x : ℕ) → (frames after).queued x ≡ (frames st).queued x + times (cut_frames z st s k) x
  queued_after x = rw (members_packed (length fq) (members fq ++ cut_frames z st s k) joined_fits) (joined x)

  removing_after : (x : ℕ) → (frames after).removing x ≡ if (test (cut_frame z st s k x)) 0 ((frames st).removing x)
  removing_after x = rw (members_without rl (λ y. test (cut_frame z st s k y))) (times_without (λ y. test (cut_frame z st s k y)) (members rl) x)

  frame_after : (x : ℕ) → x < z.frames → (frames after).frame x ≡ if (test (cut_frame z st s k x)) no_frame ((frames st).frame x)
  frame_after x l = at_tab0 (length st.memory.core.frames) (λ y. if (test (cut_frame z st s k y)) no_frame ((frames st).frame y)) x no_frame (rw f.memory.frames l)

  -- ── a frame that is cut off is free ──
  module _ (x : ℕ) (l : x < z.frames) (c : Holds (cut_frame z st s k x)) where
    cut_frame_holds : (frames after).frame x ≡ no_frame
    cut_frame_holds = frame_after x l ∙ if_true (test (cut_frame z st s k x)) no_frame ((frames st).frame x) (complete (cut_frame z st s k x) c)

    cut_seat : SeatAt z (files after) (frames after) (at st.disk.records) x
    cut_seat = rw (cut_frame_holds, queued, removing) (seat_free z (files after) (at st.disk.records) (text_of z (frames st) x))
      where
        queued : (frames after).queued x ≡ 1
        queued = omega (arith, queued_after x, cut_unqueued x l c, cut_once x l c)

        removing : (frames after).removing x ≡ 0
        removing = removing_after x ∙ if_true (test (cut_frame z st s k x)) 0 ((frames st).removing x) (complete (cut_frame z st s k x) c)

  -- ── any other is as it was ──
  module _ (x : ℕ) (l : x < z.frames) (d : ¬ (Holds (cut_frame z st s k x))) where
    off : ¬ (T (test (cut_frame z st s k x)))
    off t = d (sound (cut_frame z st s k x) t)

    other_frame : (frames after).frame x ≡ (frames st).frame x
    other_frame = frame_after x l ∙ if_false (test (cut_frame z st s k x)) no_frame ((frames st).frame x) off

    -- its page is not cut off, nor its record
    other_kept : Kept z (files st) (files after) (at st.disk.records) (at st.disk.records) ((frames st).frame x).page
    other_kept = record {
      address = λ i e. unstored st.memory.held.addresses (from_page z s k) (λ j. 0) i (rw f.memory.addresses (fit i e)) (λ y. d (i, e, y));
      state = λ i e q a. unstored st.memory.held.states (cut_record z st s k) (λ j. RELEASED) q (rw f.memory.states (r.records.address_fit_holds i (fit i e) q a))
          (λ y. d (y.0, e ∙ ap suc (r.records.held_once_holds i (fit i e) y.0 y.1 q a y.2.1), y.2.0));
      active = λ i e. refl;
      words = λ i e q a w lw. refl;
    }
      where
        fit : (i : ℕ) → ((frames st).frame x).page ≡ suc i → i < all_pages z
        fit = (seat_at z st r x l).page_fit

    other_seat : SeatAt z (files after) (frames after) (at st.disk.records) x
    other_seat = rw other_frame (seat_kept (seat_at z st r x l) (cooler_same ((frames st).frame x)) (omega (arith, queued_after x, cut_none x d)) (removing_after x ∙ if_false (test (cut_frame z st s k x)) 0 ((frames st).removing x) off) (λ w b. refl) other_kept)

  truncate_framing : Framing z after
  truncate_framing = record {
    queues = record {
      free_queue = queue_repacked fq f.memory.free_queue (members fq ++ cut_frames z st s k) joined_within joined_fits;
      removal_list = queue_without rl f.memory.removal_list r.queues.removal_list (λ x. test (cut_frame z st s k x));
    };
    frames = seated z (files after) (frames after) (at st.disk.records) (λ x l. elim (decided (cut_frame z st s k x)) [ yes c ↦ cut_seat x l c | no d ↦ other_seat x l d ])
        (once_kept z (frames st) (frames after) 0
        (λ x i l e. elim (decided (cut_frame z st s k x)) [
          | yes c ↦ absurd (omega (arith, sym (ap (λ (g : Frame). g.page) (cut_frame_holds x l c)) ∙ e))
          | no d ↦ inl (sym (ap (λ (g : Frame). g.page) (other_frame x l d)) ∙ e)
        ]) r.frames.once);
    hand = r.counts.hand;
    lengths = (let o = long z st f in record {
      sizes = o.sizes;
      disk = o.disk;
      core = record {
        frames = length_tab (length st.memory.core.frames) (λ x. if (test (cut_frame z st s k x)) no_frame ((frames st).frame x)) 0 ∙ f.memory.frames;
        words = f.memory.words;
        free_queue = length_packed (length fq) (members fq ++ cut_frames z st s k) ∙ f.memory.free_queue;
        removal_list = length_packed (length rl) (without (λ x. test (cut_frame z st s k x)) (members rl)) ∙ f.memory.removal_list;
      };
      held = record {
        addresses = length_store st.memory.held.addresses (from_page z s k) (λ i. 0) ∙ f.memory.addresses;
        states = length_store st.memory.held.states (cut_record z st s k) (λ q. RELEASED) ∙ f.memory.states;
        owners = f.memory.owners;
      };
      slots = o.slots;
      line = o.line;
    });
  }

  pub truncate_frames : Asked (questions z st (Event.Writeback (Truncate s k))) → Framed z (Writeback.truncate z st s k)
  unfolding Writeback.truncate
  truncate_frames a = counted_framed z _ truncate_framing
