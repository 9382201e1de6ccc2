-- Where a frame stands, by the rules: in which queue, in transfer, wired; and the frame of a page.
use mathlib.Core.Path.{◌≡◌}
use Prim.Native.Nat.{ℕ, suc, ◌+◌, ◌<◌}
use native.Mathlib.Omega.{arith}
use native.Mathlib.Decide.{ℕ_discrete}
use lib.Dec.{eqb, eqb→eq}
use Rattle.tables.specs.Base.{at, find}
use Rattle.tables.specs.Laws.{found, Found, eq→T, if_yes, if_no}
use Rattle.tables.specs.Rule.{Holds}
use Rattle.model.specs.declared.sizes.Sizes.{Sizes}
use Rattle.model.specs.declared.frame.Frame.{Frame}
use Rattle.model.specs.State.{State, Files, Frames, files, frames, NONE, framed}
use Rattle.model.specs.Parts.{frame_of}
use Rattle.model.specs.Laws.Ruled.{Ruled}
use Rattle.invariant.proofs.Seats.{Seat, SeatAt, seat}

-- the frame that a page is in
pub frame_of_holds : (z : Sizes) (c : Frames) (i : ℕ) → Holds (framed z c i) → (frame_of z c i < z.frames) × ((c.frame (frame_of z c i)).page ≡ suc i)
unfolding frame_of
frame_of_holds z c i h =
    let f : Found z.frames (λ k. eqb (c.frame k).page (suc i)) 0 (find z.frames (λ k. eqb (c.frame k).page (suc i)) 0) = found z.frames (λ k. eqb (c.frame k).page (suc i)) 0 h.0 (omega arith) (omega (arith, h.1)) (eq→T h.2) in
    (omega (arith, f.inside), eqb→eq _ _ f.passes)

module _ {z : Sizes} {v : Files} {word : ℕ → ℕ} {g : Frame} {q l : ℕ} {text : ℕ → ℕ} (s : Seat z v word g q l text) where
  -- a frame with a page is not free
  pub unqueued : ¬ (g.page ≡ 0) → q ≡ 0
  unqueued p = elim (ℕ_discrete q 0) [ yes e ↦ e | no d ↦ absurd (p (s.free d).0) ]

  -- no transfer
  pub still_place : g.transfer ≡ NONE → q + l + g.wired ≡ 1
  still_place e = omega (arith, s.place, if_yes {A = ℕ} g.transfer NONE 0 1 e)

  -- in transfer: nowhere else
  pub moving_place : ¬ (g.transfer ≡ NONE) → q + l + g.wired ≡ 0
  moving_place d = omega (arith, s.place, if_no {A = ℕ} g.transfer NONE 0 1 d)

  pub still : 0 < q + l + g.wired → g.transfer ≡ NONE
  still h = elim (ℕ_discrete g.transfer NONE) [ yes e ↦ e | no d ↦ absurd (omega (arith, moving_place d)) ]

module _ (z : Sizes) (st : State) (r : Ruled z st) where
  pub seat_at : (f : ℕ) → f < z.frames → SeatAt z (files st) (frames st) (at st.disk.records) f
  seat_at f l = seat z (files st) (frames st) (at st.disk.records) r.frames f l
