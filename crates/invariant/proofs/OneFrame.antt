-- An event that concerns one frame: what it says of that frame, and of what the others hold, gives all rules of queues and frames.
use mathlib.Core.Path.{◌≡◌, sym, ◌∙◌}
use mathlib.Core.Logic.{◌⊎◌, inl, inr}
use Prim.Native.Nat.{ℕ, suc, ◌<◌}
use native.Mathlib.Decide.{ℕ_discrete}
use Rattle.tables.specs.Base.{at}
use Rattle.tables.specs.Rule.{Holds}
use Rattle.model.specs.declared.sizes.Sizes.{Sizes}
use Rattle.model.specs.State.{State, Frames, files, frames}
use Rattle.model.specs.Rules
use Rattle.model.specs.Laws.Ruled.{OfFrames}
use Rattle.invariant.proofs.Lengths.{Long}
use Rattle.invariant.proofs.Framed.{Framing}
use Rattle.invariant.proofs.Seats.{Seat, SeatAt, text_of, seat, seated, Cooler, Kept, seat_kept}
use Rattle.invariant.proofs.QueueMoves.{Moved}

pub record OneFrame (z : Sizes) (st st' : State) (f a b : ℕ) : Type 0 where
  pub free : Moved z.frames st.memory.core.free_queue st'.memory.core.free_queue f a
  pub list : Moved z.frames st.memory.core.removal_list st'.memory.core.removal_list f b
  pub others : (h : ℕ) → h < z.frames → ¬ (h ≡ f) → Cooler ((frames st').frame h) ((frames st).frame h)
  pub text : (h : ℕ) → h < z.frames → ¬ (h ≡ f) → (w : ℕ) → w < z.words → text_of z (frames st') h w ≡ text_of z (frames st) h w
  pub kept : (h : ℕ) → h < z.frames → ¬ (h ≡ f) → Kept z (files st) (files st') (at st.disk.records) (at st'.disk.records) ((frames st).frame h).page
  -- the frame itself: its rules, and its page is as before, or was in no frame
  pub its : Seat z (files st') (at st'.disk.records) ((frames st').frame f) a b (text_of z (frames st') f)
  pub page : (i : ℕ) → ((frames st').frame f).page ≡ suc i → (((frames st).frame f).page ≡ suc i) ⊎ ((h : ℕ) → h < z.frames → ¬ (((frames st).frame h).page ≡ suc i))

-- no page is in two frames: each page in a frame after was in that frame before, or comes new into f
pub once_kept : (z : Sizes) (c c' : Frames) (f : ℕ) → ((h i : ℕ) → h < z.frames → (c'.frame h).page ≡ suc i → ((c.frame h).page ≡ suc i) ⊎ ((h ≡ f) × ((k : ℕ) → k < z.frames → ¬ ((c.frame k).page ≡ suc i))))
    → ((h : ℕ) → h < z.frames → (k : ℕ) → k < z.frames → (i : ℕ) → (c.frame h).page ≡ suc i → (c.frame k).page ≡ suc i → h ≡ k) → (h : ℕ) → h < z.frames → (k : ℕ) → k < z.frames → (i : ℕ) → (c'.frame h).page ≡ suc i → (c'.frame k).page ≡ suc i → h ≡ k
once_kept z c c' f s o h l k m i a b = elim (s h i l a) [
  | inl x ↦ elim (s k i m b) [ inl y ↦ o h l k m i x y | inr y ↦ absurd (y.1 h l x) ]
  | inr x ↦ elim (s k i m b) [ inl y ↦ absurd (x.1 k m y) | inr y ↦ x.0 ∙ sym y.0 ]
]

module _ (z : Sizes) (st st' : State) (f a b : ℕ) (h : OneFrame z st st' f a b) (rules : OfFrames z (files st) (frames st) (at st.disk.records)) where
  one_frame_seats : (x : ℕ) → x < z.frames → SeatAt z (files st') (frames st') (at st'.disk.records) x
  one_frame_seats x l = elim (ℕ_discrete x f) [
    | yes e ↦ rw (e, h.free.here, h.list.here) h.its
    | no d ↦ seat_kept (seat z (files st) (frames st) (at st.disk.records) rules x l) (h.others x l d) (h.free.other x d) (h.list.other x d) (h.text x l d) (h.kept x l d)
  ]

  one_frame_once : Holds (Rules.framed_once z (files st') (frames st'))
  one_frame_once = once_kept z (frames st) (frames st') f
      (λ x i l e. elim (ℕ_discrete x f) [ yes s ↦ (elim (h.page i (rw s at e)) [ inl y ↦ inl (rw s y) | inr y ↦ inr (s, y) ]) | no d ↦ inl (sym (h.others x l d).page ∙ e) ]) rules.once

  pub one_frame : st'.memory.held.pool.hand < z.records → Long z st' → Framing z st'
  one_frame hand long = record {
    queues = record { free_queue = h.free.rule; removal_list = h.list.rule };
    frames = seated z (files st') (frames st') (at st'.disk.records) one_frame_seats one_frame_once;
    hand = hand;
    lengths = long;
  }
