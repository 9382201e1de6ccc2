-- Every event keeps the rules of queues, frames, counts and lengths.
use mathlib.Core.List.{List}
use Prim.Native.Nat.{ℕ}
use Rattle.tables.specs.Questions.{Asked}
use Rattle.model.specs.declared.sizes.Sizes.{Sizes}
use Rattle.model.specs.declared.event.Design.TheVariants.{Create, Delete, Activate, Deactivate}
use Rattle.model.specs.declared.event.Account.TheVariants.{Limit, Move}
use Rattle.model.specs.declared.event.Page.TheVariants.{Fault, Read, Write, Wire, Unwire}
use Rattle.model.specs.declared.event.Writeback.TheVariants.{Claim, Truncate, Update, PageDone, MapDone}
use Rattle.model.specs.declared.event.Waiting.TheVariants.{Join, Turn}
use Rattle.model.specs.declared.event.Event.{Event}
use Rattle.model.specs.declared.event.Event.TheVariants as Event
use Rattle.model.specs.State.{State}
use Rattle.model.specs.Questions.{questions}
use Rattle.model.specs.Setters.{set_line}
use Rattle.model.specs.Line
use Rattle.model.specs.Step.{carried}
use Rattle.model.specs.Laws.Ruled.{Ruled}
use Rattle.model.specs.Laws.Fit.{Fit}
use Rattle.invariant.proofs.Framed.{Framed}
use Rattle.invariant.proofs.Lengths.{long, long_fit}
use Rattle.invariant.proofs.LineKept.{Lined, joined_line, by_turn}
use Rattle.invariant.proofs.FramesServed.{read_frames, write_frames, wire_frames, unwire_frames}
use Rattle.invariant.proofs.FramesFiled.{limit_frames, move_frames, create_frames, delete_frames, activate_frames, deactivate_frames, update_frames, map_done_frames}
use Rattle.invariant.proofs.FramesFault.{fault_frames}
use Rattle.invariant.proofs.FramesClaim.{claim_frames}
use Rattle.invariant.proofs.FramesTruncate.{truncate_frames}
use Rattle.invariant.proofs.FramesDone.{page_done_frames}

module _ (z : Sizes) (st : State) (f : Fit z st) (r : Ruled z st) where
  -- the line alone changes
  lined_frames : (l : List ℕ) → Lined z st l → Framed z (set_line l st)
  lined_frames l h = (let m = f.memory in record {
    queues = record { free_queue = r.queues.free_queue; removal_list = r.queues.removal_list };
    frames = r.frames;
    counts = record { hand = r.counts.hand; free = r.counts.free; free_map = r.counts.free_map; used = r.counts.used };
    lengths = long_fit z (set_line l st) (let o = long z st f in record { sizes = o.sizes; disk = o.disk; core = o.core; held = o.held; slots = o.slots; line = h.0 }) m.free_map m.used;
  })

  pub frames_kept : (e : Event) → Asked (questions z st e) → Framed z (carried z st e)
  unfolding carried Line.join
  frames_kept (Event.Design (Create s q n)) a = create_frames z st f r s q n a
  frames_kept (Event.Design (Delete s)) a = delete_frames z st f r s a
  frames_kept (Event.Design (Activate s)) a = activate_frames z st f r s a
  frames_kept (Event.Design (Deactivate s)) a = deactivate_frames z st f r s a
  frames_kept (Event.Account (Limit q n)) a = limit_frames z st f r q n
  frames_kept (Event.Account (Move g t m)) a = move_frames z st f r g t m
  frames_kept (Event.Page (Fault s p)) a = fault_frames z st f r s p a
  frames_kept (Event.Page (Read s p w)) a = read_frames z st f r s p w a
  frames_kept (Event.Page (Write s p w x)) a = write_frames z st f r s p w x a
  frames_kept (Event.Page (Wire s p)) a = wire_frames z st f r s p a
  frames_kept (Event.Page (Unwire s p)) a = unwire_frames z st f r s p a
  frames_kept (Event.Writeback Claim) a = claim_frames z st f r a
  frames_kept (Event.Writeback (Truncate s k)) a = truncate_frames z st f r s k a
  frames_kept (Event.Writeback (Update s)) a = update_frames z st f r s a
  frames_kept (Event.Writeback (PageDone k good)) a = page_done_frames z st f r k good a
  frames_kept (Event.Writeback (MapDone s good)) a = map_done_frames z st f r s good a
  frames_kept (Event.Waiting (Join s p)) a = lined_frames _ (joined_line z st f r s p a)
  frames_kept (Event.Waiting Turn) a = by_turn z st f r (Framed z) lined_frames (λ k. fault_frames z st f r _ _ k) (λ k. claim_frames z st f r k) a
