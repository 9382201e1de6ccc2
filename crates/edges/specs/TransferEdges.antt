-- What is answered while a page's write or read is under way (paper 02, wish 4), as one table under one theorem, by computation.
use Rattle.std.specs.Prelude.{◌≡◌, refl, List, [], ◌∷◌, ◌++◌, ℕ}
use Rattle.model.specs.declared.frame.Frame.{Frame}
use Rattle.model.specs.State.{frame_at, no_frame, NONE, WRITING}
use Rattle.model.specs.Step
use Rattle.model.specs.Acts.{Act}
use Rattle.edges.specs.Lists.{fault, read, write, wire, unwire, claim, truncate, page_done, look, small, says, leaves, activate, deactivate}
use Rattle.edges.specs.Edges.{opened, listing}

-- page 0 is being written, in frame 0: its words are 0 and 9
abbrev writing : List Act
writing = opened 2 ++ write 0 0 1 9 ∷ claim ∷ []

-- it is being read, in frame 1
abbrev reading : List Act
reading = listing ++ deactivate 0 ∷ activate 0 ∷ fault 0 0 ∷ []

-- frame 0 with page 0, modified: its used switch, its transfer
abbrev held : ℕ → ℕ → Frame
held u t = record { page = 1; used = u; modified = 1; wired = 0; initial = 0; transfer = t }

-- frame 0 as a list leaves it
unfoldable frame0 : List Act → Frame
unfolding leaves
frame0 acts = frame_at (leaves small acts).memory.core.frames 0

pub record Transfers : Type 0 where
  -- Read and page look shall be accepted while the page's write is under way;
  read_written : says small (writing ++ read 0 0 1 ∷ []) ≡ 0 ∷ 9 ∷ []
  look_written : says small (writing ++ look 0 0 ∷ []) ≡ 0 ∷ 0 ∷ []
  look_words : (Step.look small (leaves small writing) 0 0).left ≡ 0 ∷ 9 ∷ []
  -- (a page in no frame gets 13 first)
  read_out : says small (writing ++ read 0 1 1 ∷ []) ≡ 13 ∷ 0 ∷ []
  -- read then sets used.
  read_used : frame0 (writing ++ read 0 0 1 ∷ []) ≡ held 1 WRITING
  -- Write, wire, unwire, fault and truncate still get 14,
  write_written : says small (writing ++ write 0 0 1 9 ∷ []) ≡ 14 ∷ 0 ∷ []
  wire_written : says small (writing ++ wire 0 0 ∷ []) ≡ 14 ∷ 0 ∷ []
  unwire_written : says small (writing ++ unwire 0 0 ∷ []) ≡ 14 ∷ 0 ∷ []
  fault_written : says small (writing ++ fault 0 0 ∷ []) ≡ 14 ∷ 0 ∷ []
  truncate_written : says small (writing ++ truncate 0 0 ∷ []) ≡ 14 ∷ 0 ∷ []
  truncate_above : says small (writing ++ truncate 0 1 ∷ []) ≡ 0 ∷ 0 ∷ []
  -- and reads under way still get 14 for all.
  read_awaited : says small (reading ++ read 0 0 1 ∷ []) ≡ 14 ∷ 0 ∷ []
  look_awaited : says small (reading ++ look 0 0 ∷ []) ≡ 14 ∷ 0 ∷ []
  write_awaited : says small (reading ++ write 0 0 1 9 ∷ []) ≡ 14 ∷ 0 ∷ []
  wire_awaited : says small (reading ++ wire 0 0 ∷ []) ≡ 14 ∷ 0 ∷ []
  unwire_awaited : says small (reading ++ unwire 0 0 ∷ []) ≡ 14 ∷ 0 ∷ []
  fault_awaited : says small (reading ++ fault 0 0 ∷ []) ≡ 14 ∷ 0 ∷ []
  truncate_awaited : says small (reading ++ truncate 0 0 ∷ []) ≡ 14 ∷ 0 ∷ []
  -- A failed write leaves used as those reads left it: the next claim passes the frame over once. A look leaves used alone.
  failed_read : frame0 (writing ++ read 0 0 1 ∷ page_done 0 0 ∷ []) ≡ held 1 NONE
  failed_unread : frame0 (writing ++ page_done 0 0 ∷ []) ≡ held 0 NONE
  failed_looked : frame0 (writing ++ look 0 0 ∷ page_done 0 0 ∷ []) ≡ held 0 NONE
  claim_read : says small (writing ++ read 0 0 1 ∷ page_done 0 0 ∷ claim ∷ []) ≡ 0 ∷ 2 ∷ []
  claim_unread : says small (writing ++ page_done 0 0 ∷ claim ∷ []) ≡ 0 ∷ 1 ∷ []
  -- A good write frees the frame, used or not.
  good_read : frame0 (writing ++ read 0 0 1 ∷ page_done 0 1 ∷ []) ≡ no_frame

pub transfers : Transfers
unfolding says leaves frame0
transfers = record {
  read_written = refl;
  look_written = refl;
  look_words = refl;
  read_out = refl;
  read_used = refl;
  write_written = refl;
  wire_written = refl;
  unwire_written = refl;
  fault_written = refl;
  truncate_written = refl;
  truncate_above = refl;
  read_awaited = refl;
  look_awaited = refl;
  write_awaited = refl;
  wire_awaited = refl;
  unwire_awaited = refl;
  fault_awaited = refl;
  truncate_awaited = refl;
  failed_read = refl;
  failed_unread = refl;
  failed_looked = refl;
  claim_read = refl;
  claim_unread = refl;
  good_read = refl;
}
