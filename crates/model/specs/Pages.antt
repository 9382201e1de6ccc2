-- The events about one page: the state once each is carried out, and its result.
use Rattle.std.specs.Prelude.{ℕ, suc, ◌+◌, ◌*◌, ◌%◌, set}
use Rattle.tables.specs.Base.{at, if}
use Rattle.tables.specs.Queue.{first, pop, push_front, push_back, remove}
use Rattle.tables.specs.Rule.{test, same}
use Rattle.model.specs.declared.sizes.Sizes.{Sizes}
use Rattle.model.specs.declared.frame.Frame.{Frame}
use Rattle.model.specs.Lines.{NULLED}
use Rattle.model.specs.State.{Core, State, files, frames, NONE, READING, frame_at, page_of, slot_of, live}
use Rattle.model.specs.Setters.{on_core, on_held, set_frames, set_words, set_free_queue, set_removal_list, set_addresses, set_states, set_owners, set_hand, set_used_switch, set_modified, set_wired, set_initial, counted}
use Rattle.model.specs.Parts.{set_part, frame_of, pick}

-- one frame changed
abbrev pub on_frame : ℕ → (Frame → Frame) → Core → Core
on_frame f change c = set_frames (set c.frames f (change (frame_at c.frames f))) c

-- a frame in which the page's words are awaited
abbrev pub awaiting : ℕ → Frame
awaiting i = record { page = suc i; used = 0; modified = 0; wired = 0; initial = 0; transfer = READING }

-- a frame in which the page is newly in service: unmodified, initial on, used off
abbrev pub fresh : ℕ → Frame
fresh i = record { page = suc i; used = 0; modified = 0; wired = 0; initial = 1; transfer = NONE }

module _ (z : Sizes) (st : State) where
  -- Live address: a read begins.
  unfoldable pub begin_read : ℕ → ℕ → State
  begin_read i f = on_core (λ c. set_free_queue (pop c.free_queue) (on_frame f (λ g. awaiting i) c)) st

  -- Otherwise the frame is zeroed .. The page is in service, nulled, unmodified, at the list's front, initial on, used off.
  unfoldable pub serve_zeros : ℕ → ℕ → State
  serve_zeros i f = on_core (λ c. set_free_queue (pop c.free_queue) (set_removal_list (push_front c.removal_list f) (on_frame f (λ g. fresh i) (set_words (set_part z f (λ w. 0) c.words) c)))) st

  -- .. and a page with no address takes a free record (`Parts.pick`). The hand then stands just past the record taken.
  unfoldable pub take_record : ℕ → ℕ → State
  take_record i r = on_held (λ h. set_addresses (set h.addresses i (suc r)) (set_states (set h.states r NULLED) (set_owners (set h.owners r (slot_of z i)) (set_hand (suc r % z.records) h)))) st

  -- the page's frame
  abbrev its : ℕ → ℕ → ℕ
  its s p = frame_of z (frames st) (page_of z s p)

  -- Read, write one word: sets used; write also sets modified, even for an equal value.
  unfoldable pub read : ℕ → ℕ → State
  read s p = on_core (λ c. on_frame (its s p) (set_used_switch 1) c) st

  -- Read's result is the word.
  unfoldable pub word_read : ℕ → ℕ → ℕ → ℕ
  word_read s p w = at st.memory.core.words (its s p * z.words + w)

  unfoldable pub write : ℕ → ℕ → ℕ → ℕ → State
  write s p w x = counted z (on_core (λ c. on_frame (its s p) (λ g. set_used_switch 1 (set_modified 1 g)) (set_words (set c.words (its s p * z.words + w) x) c)) st)

  -- Wire takes a frame off the list;
  unfoldable pub wire : ℕ → ℕ → State
  wire s p = on_core (λ c. on_frame (its s p) (set_wired 1) (set_removal_list (remove c.removal_list (its s p)) c)) st

  -- unwire puts it at the end, initial off.
  unfoldable pub unwire : ℕ → ℕ → State
  unwire s p = on_core (λ c. on_frame (its s p) (λ g. set_wired 0 (set_initial 0 g)) (set_removal_list (push_back c.removal_list (its s p)) c)) st

  -- A page look hands back the frame's own part of the lent words and alters no switch: where the part starts.
  unfoldable pub look_start : ℕ → ℕ → ℕ
  look_start s p = its s p * z.words

-- Fault: takes the first queued frame. Result: the frame.
unfoldable pub fault_frame : State → ℕ
fault_frame st = first st.memory.core.free_queue

unfoldable pub fault : Sizes → State → ℕ → ℕ → State
fault z st s p =
    let i = page_of z s p in let f = fault_frame st in let v = files st in
    counted z
    (if (test (live v i)) (begin_read z st i f)
    (if (test (same (v.address i) 0)) (serve_zeros z (take_record z st i (pick z v.address v.state st.memory.held.pool.hand i)) i f)
    (serve_zeros z st i f)))
