-- A restart's state keeps the rules of queues, frames, counts and lengths, whatever stood in memory.
use mathlib.Core.Path.{◌≡◌, ap, sym, ◌∙◌}
use mathlib.Core.Bool.{true}
use mathlib.Core.List.{List, []}
use Prim.Native.Nat.{ℕ, ◌*◌, ◌<◌, ◌≤◌}
use native.Mathlib.Omega.{arith}
use lib.ListN.{length, length-replicate, get_or-replicate}
use Rattle.tables.specs.Base.{at, tab}
use Rattle.tables.specs.Laws.{length_tab}
use Rattle.tables.specs.TimesLaws.{times_nil}
use Rattle.tables.specs.ThoseLaws.{tab_those, times_those, those_within}
use Rattle.tables.specs.QueueLaws.{length_packed, members_packed, queue_packed}
use Rattle.model.specs.declared.sizes.Sizes.{Sizes}
use Rattle.model.specs.declared.frame.Frame.{Frame}
use Rattle.model.specs.State.{Disk, State, files, frames, LINE, no_frame, all_pages}
use Rattle.model.specs.Restart.{restarted, uncounted}
use Rattle.model.specs.Laws.Fit.{Within, DiskFit}
use Rattle.invariant.proofs.Framed.{Framed, Framing}
use Rattle.invariant.proofs.Counts.{counted_framed}
use Rattle.invariant.proofs.Seats.{SeatAt, seated, text_of}
use Rattle.invariant.proofs.NewSeats.{seat_free}

module _ (z : Sizes) (d : Disk) (within : Within z) (fit : DiskFit z d) where
  -- the free queue 0 to F−1
  abbrev line : List ℕ
  line = tab z.frames (λ f. f) 0

  line_long : length line ≤ z.frames
  line_long = omega (arith, length_tab z.frames (λ (f : ℕ). f) 0)

  abbrev begun : State
  begun = uncounted z d

  empty : (f : ℕ) → f < z.frames → (frames begun).frame f ≡ no_frame
  empty f l = get_or-replicate z.frames f no_frame no_frame l

  queued : (f : ℕ) → f < z.frames → (frames begun).queued f ≡ 1
  queued f l = rw (members_packed z.frames line line_long, tab_those z.frames 0) (times_those z.frames (λ x. true) 0 f (omega arith) (omega arith))

  removing : (f : ℕ) → (frames begun).removing f ≡ 0
  removing f = rw (members_packed z.frames [] (omega arith)) (times_nil f)

  free_seat : (f : ℕ) → f < z.frames → SeatAt z (files begun) (frames begun) (at d.records) f
  free_seat f l = rw (empty f l, queued f l, removing f) (seat_free z (files begun) (at d.records) (text_of z (frames begun) f))

  begun_framing : Framing z begun
  begun_framing = record {
    queues = record {
      free_queue = queue_packed z.frames line line_long (λ x h. omega (arith, those_within z.frames (λ y. true) 0 x (rw (tab_those z.frames 0) at h)));
      removal_list = queue_packed z.frames [] (omega arith) (λ x h. absurd (omega (arith, times_nil x)));
    };
    frames = seated z (files begun) (frames begun) (at d.records) free_seat (λ f l g m i a b. absurd (omega (arith, sym (ap (λ (x : Frame). x.page) (empty f l)) ∙ a)));
    hand = within.records;
    lengths = record {
      sizes = within;
      disk = fit;
      core = record { frames = length-replicate z.frames no_frame; words = length-replicate (z.frames * z.words) 0; free_queue = length_packed z.frames line; removal_list = length_packed z.frames [] };
      held = record { addresses = length-replicate (all_pages z) 0; states = length_tab z.records _ 0; owners = length_tab z.records _ 0 };
      slots = record { active = length-replicate z.slots 0; updating = length-replicate z.slots 0; images = length-replicate (all_pages z) 0 };
      line = length_packed LINE [];
    };
  }

  pub restarted_frames : Framed z (restarted z d)
  unfolding restarted
  restarted_frames = counted_framed z _ begun_framing
