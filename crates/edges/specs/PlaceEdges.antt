-- Where a frame stands and which switches are on after each event, as one table under one theorem, by computation.
use Rattle.std.specs.Prelude.{◌≡◌, refl, List, [], ◌∷◌, ◌++◌, ℕ}
use Rattle.model.specs.declared.frame.Frame.{Frame}
use Rattle.model.specs.State.{frame_at, NONE}
use Rattle.model.specs.Acts.{Act}
use Rattle.edges.specs.Lists.{limit, create, activate, deactivate, fault, read, write, wire, unwire, claim, truncate, page_done, restart, join, turn, small, leaves}
use Rattle.edges.specs.Edges.{opened, listing}

-- the removal list and the free queue that a list leaves, and a frame of it
unfoldable list : List Act → List ℕ
unfolding leaves
list acts = (leaves small acts).memory.core.removal_list

unfoldable free : List Act → List ℕ
unfolding leaves
free acts = (leaves small acts).memory.core.free_queue

unfoldable frame : ℕ → List Act → Frame
unfolding leaves
frame f acts = frame_at (leaves small acts).memory.core.frames f

-- page, used, modified, wired, initial; in no transfer
abbrev held : ℕ → ℕ → ℕ → ℕ → ℕ → Frame
held p u m w i = record { page = p; used = u; modified = m; wired = w; initial = i; transfer = NONE }

pub record Places : Type 0 where
  -- Fault: the page is at the list's front, initial on, used off.
  fault_front : list (opened 2 ++ fault 0 1 ∷ []) ≡ 2 ∷ 1 ∷ []
  fault_frame_holds : frame 0 (opened 2) ≡ held 1 0 0 0 1
  -- Read, write one word: sets used; write also sets modified.
  read_used : frame 0 (opened 2 ++ read 0 0 0 ∷ []) ≡ held 1 1 0 0 1
  write_used : frame 0 (opened 2 ++ write 0 0 1 9 ∷ []) ≡ held 1 1 1 0 1
  -- Wire takes a frame off the list (used stays); unwire puts it at the end, initial off.
  wire_off : list (opened 2 ++ fault 0 1 ∷ wire 0 1 ∷ []) ≡ 1 ∷ 0 ∷ []
  wire_frame : frame 0 (opened 2 ++ read 0 0 0 ∷ wire 0 0 ∷ []) ≡ held 1 1 0 1 1
  unwire_end : list (opened 2 ++ fault 0 1 ∷ wire 0 1 ∷ unwire 0 1 ∷ []) ≡ 1 ∷ 2 ∷ []
  unwire_frame : frame 0 (opened 2 ++ read 0 0 0 ∷ wire 0 0 ∷ unwire 0 0 ∷ []) ≡ held 1 1 0 0 0
  -- Truncate: their frames freed in page order.
  cut_order : free (restart ∷ limit 0 2 ∷ create 0 0 7 ∷ activate 0 ∷ fault 0 1 ∷ fault 0 0 ∷ truncate 0 0 ∷ []) ≡ 2 ∷ 1 ∷ []
  -- Good read: list's front. Failed read: free queue's end. Failed write: list's end. Good write: free queue's end.
  read_front : list (listing ++ deactivate 0 ∷ activate 0 ∷ fault 0 1 ∷ fault 0 0 ∷ page_done 0 1 ∷ []) ≡ 1 ∷ 2 ∷ []
  read_failed_holds : free (listing ++ deactivate 0 ∷ activate 0 ∷ fault 0 0 ∷ page_done 1 0 ∷ []) ≡ 1 ∷ 2 ∷ []
  write_failed_holds : list (opened 2 ++ write 0 0 1 9 ∷ claim ∷ fault 0 1 ∷ page_done 0 0 ∷ []) ≡ 2 ∷ 1 ∷ []
  write_good_holds : free (opened 2 ++ write 0 0 1 9 ∷ claim ∷ page_done 0 1 ∷ []) ≡ 2 ∷ 1 ∷ []
  -- A turn that serves sets no switch.
  served_frame : frame 0 (opened 2 ++ join 0 0 ∷ turn ∷ []) ≡ held 1 0 0 0 1

pub places : Places
unfolding list free frame
places = record {
  fault_front = refl;
  fault_frame_holds = refl;
  read_used = refl;
  write_used = refl;
  wire_off = refl;
  wire_frame = refl;
  unwire_end = refl;
  unwire_frame = refl;
  cut_order = refl;
  read_front = refl;
  read_failed_holds = refl;
  write_failed_holds = refl;
  write_good_holds = refl;
  served_frame = refl;
}
