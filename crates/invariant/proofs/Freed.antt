-- A frame freed; and a frame's page with its record, which no other frame's page holds.
use mathlib.Core.Path.{◌≡◌, ap, sym, ◌∙◌}
use mathlib.Core.List.{List}
use Prim.Native.Nat.{ℕ, suc, ◌<◌, pred}
use native.Mathlib.Omega.{arith}
use lib.ListN.{length, set, length-set}
use lib.Seq.{get_or-set_same, get_or-set_other}
use Rattle.tables.specs.Base.{at}
use Rattle.tables.specs.Laws.{not_zero}
use Rattle.model.specs.declared.sizes.Sizes.{Sizes}
use Rattle.model.specs.declared.frame.Frame.{Frame}
use Rattle.model.specs.State.{State, files, frames, frame_at, no_frame, all_pages}
use Rattle.model.specs.Writeback.{free_frame, record_in}
use Rattle.model.specs.Laws.Ruled.{Ruled, once_free}
use Rattle.model.specs.Laws.Fit.{Fit}
use Rattle.invariant.proofs.Lengths.{Long}
use Rattle.invariant.proofs.Framed.{Framing}
use Rattle.invariant.proofs.Seats.{Cooler, Kept, text_of}
use Rattle.invariant.proofs.NewSeats.{seat_free}
use Rattle.invariant.proofs.QueueMoves.{Moved, moved_back}
use Rattle.invariant.proofs.OneFrame.{one_frame}
use Rattle.invariant.proofs.Stands.{seat_at}

-- frame k after its entry is stored, and each other frame
pub set_there : (z : Sizes) (gs : List Frame) → length gs ≡ z.frames → (k : ℕ) → k < z.frames → (g : Frame) → frame_at (set gs k g) k ≡ g
set_there z gs e k l g = get_or-set_same gs k g no_frame (rw e l)

pub set_elsewhere : (gs : List Frame) (k : ℕ) (g : Frame) (h : ℕ) → ¬ (h ≡ k) → frame_at (set gs k g) h ≡ frame_at gs h
set_elsewhere gs k g h d = get_or-set_other gs k h g no_frame d

module _ (z : Sizes) (st : State) (f : Fit z st) (r : Ruled z st) where
  -- A frame is freed. Before that the event may have changed records, the list and the other frames' switches: x is the state then.
  pub freed : (x : State) (k : ℕ) → k < z.frames → (frames st).queued k ≡ 0 → x.memory.core.free_queue ≡ st.memory.core.free_queue → x.memory.core.words ≡ st.memory.core.words
      → Moved z.frames st.memory.core.removal_list x.memory.core.removal_list k 0 → ((h : ℕ) → h < z.frames → ¬ (h ≡ k) → Cooler ((frames x).frame h) ((frames st).frame h))
      → ((h : ℕ) → h < z.frames → ¬ (h ≡ k) → Kept z (files st) (files x) (at st.disk.records) (at x.disk.records) ((frames st).frame h).page) → x.memory.held.pool.hand < z.records → Long z x → Framing z (free_frame k x)
  unfolding free_frame
  freed x k below queued fq ws list others kept hand l = one_frame z st (free_frame k x) k 1 0
      (record {
        free = rw fq (moved_back z.frames st.memory.core.free_queue f.memory.free_queue r.queues.free_queue (once_free z st r) k below queued);
        list = list;
        others = λ h b d. rw (set_elsewhere x.memory.core.frames k no_frame h d) (others h b d);
        text = λ h b d w lw. rw ws;
        kept = kept;
        its = rw there (seat_free z (files x) (at x.disk.records) (text_of z (frames x) k));
        page = λ i e. absurd (omega (arith, sym (ap (λ (g : Frame). g.page) there) ∙ e));
      }) r.frames hand
      (record {
        sizes = l.sizes;
        disk = l.disk;
        core = record {
          frames = length-set x.memory.core.frames k no_frame ∙ l.core.frames;
          words = l.core.words;
          free_queue = rw fq (moved_back z.frames st.memory.core.free_queue f.memory.free_queue r.queues.free_queue (once_free z st r) k below queued).long ∙ f.memory.free_queue;
          removal_list = l.core.removal_list;
        };
        held = l.held;
        slots = l.slots;
        line = l.line;
      })
    where
      there : frame_at (set x.memory.core.frames k no_frame) k ≡ no_frame
      there = set_there z x.memory.core.frames l.core.frames k below no_frame

  -- ── a frame with a page ──
  module _ (k : ℕ) (below : k < z.frames) (busy : ¬ (((frames st).frame k).page ≡ 0)) where
    abbrev i₀ : ℕ
    i₀ = pred ((frames st).frame k).page

    abbrev r₀ : ℕ
    r₀ = record_in z st k

    pub own_page : ((frames st).frame k).page ≡ suc i₀
    own_page = not_zero ((frames st).frame k).page busy

    pub own_fit : i₀ < all_pages z
    own_fit = (seat_at z st r k below).page_fit i₀ own_page

    pub own_record : (files st).address i₀ ≡ suc r₀
    own_record = not_zero ((files st).address i₀) ((seat_at z st r k below).held i₀ own_page)

    -- another frame's page holds another record
    pub not_own : (h : ℕ) → h < z.frames → ¬ (h ≡ k) → (i : ℕ) → ((frames st).frame h).page ≡ suc i → (q : ℕ) → (files st).address i ≡ suc q → ¬ (q ≡ r₀)
    not_own h l d i p q a e =
        let s : i ≡ i₀ = r.records.held_once_holds i ((seat_at z st r h l).page_fit i p) i₀ own_fit r₀ (a ∙ ap suc e) own_record in
        d (r.frames.once h l k below i₀ (p ∙ ap suc s) own_page)

    -- so it keeps its state where the frame's own record changes
    pub state_kept : (x : ℕ) (h : ℕ) → h < z.frames → ¬ (h ≡ k) → (i : ℕ) → ((frames st).frame h).page ≡ suc i → (q : ℕ) → (files st).address i ≡ suc q → at (set st.memory.held.states r₀ x) q ≡ (files st).state q
    state_kept x h l d i p q a = get_or-set_other st.memory.held.states r₀ q x 0 (not_own h l d i p q a)
