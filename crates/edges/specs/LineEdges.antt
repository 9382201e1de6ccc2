-- Edges of the waiting line (paper 02, wish 6), and that its bound needs each of its premises, as one table under one theorem, by computation.
use Rattle.std.specs.Prelude.{◌≡◌, refl, List, [], ◌∷◌, ◌++◌, ℕ, T, replicate}
use Rattle.tables.specs.Queue.{members}
use Rattle.model.specs.declared.frame.Frame.{Frame}
use Rattle.model.specs.declared.sizes.Sizes.{Sizes}
use Rattle.model.specs.declared.event.Waiting.TheVariants.{Turn}
use Rattle.model.specs.declared.event.Event.TheVariants as Event
use Rattle.model.specs.State.{State, frame_at, WRITING}
use Rattle.model.specs.Setters.{set_used, set_line}
use Rattle.model.specs.Step.{step}
use Rattle.model.specs.Acts.{Act}
use Rattle.edges.specs.Lists.{create, fault, write, wire, claim, page_done, restart, join, turn, small, sized, says, leaves, activate, deactivate}
use Rattle.edges.specs.Edges.{opened, listing, tables, equal}

-- the pages that wait, once the list is carried out
unfoldable waiting : Sizes → List Act → List ℕ
unfolding leaves
waiting z acts = members (leaves z acts).memory.line

-- page 0 is being written, in frame 0; it is being read, in frame 1
abbrev writing : List Act
writing = opened 2 ++ write 0 0 1 9 ∷ claim ∷ []

abbrev reading : List Act
reading = listing ++ deactivate 0 ∷ activate 0 ∷ fault 0 0 ∷ []

-- one frame: page 0 is in it, and page 1 waits
abbrev narrow : Sizes
narrow = sized 4 1

abbrev crowded : List Act
crowded = opened 2 ++ join 0 1 ∷ []

-- .. page 0 modified, and wired
abbrev woven : List Act
woven = opened 2 ++ write 0 0 1 9 ∷ join 0 1 ∷ []

abbrev wired : List Act
wired = opened 2 ++ wire 0 0 ∷ join 0 1 ∷ []

-- .. and a used count that is not what it should be: question 2 says no
abbrev hurt : State
hurt = set_used (9 ∷ []) (leaves narrow crowded)

abbrev turn_of : State → State
turn_of st = (step narrow st (Event.Waiting Turn)).left

unfoldable still_there : List ℕ
unfolding leaves
still_there = members (turn_of (turn_of (turn_of hurt))).memory.line

-- all tables but the line, once a list is carried out
abbrev beside : List Act → List ℕ
beside acts = tables (set_line [] (leaves small acts))

pub record LineEdges : Type 0 where
  -- A turn with nobody waiting changes nothing.
  nobody : says small (opened 2 ++ turn ∷ []) ≡ 0 ∷ 0 ∷ []
  nobody_same : T (equal (tables (leaves small (opened 2 ++ turn ∷ []))) (tables (leaves small (opened 2))))
  -- If its page is in service it is served and leaves, wired or not.
  served : says small (opened 2 ++ join 0 0 ∷ turn ∷ []) ≡ 0 ∷ 1 ∷ []
  served_left : waiting small (opened 2 ++ join 0 0 ∷ turn ∷ []) ≡ []
  served_same : T (equal (beside (opened 2 ++ join 0 0 ∷ turn ∷ [])) (beside (opened 2)))
  served_wired : says small (opened 2 ++ wire 0 0 ∷ join 0 0 ∷ turn ∷ []) ≡ 0 ∷ 1 ∷ []
  -- The same page may wait twice.
  twice : waiting small (opened 2 ++ join 0 0 ∷ join 0 0 ∷ turn ∷ []) ≡ 0 ∷ []
  twice_served : says small (opened 2 ++ join 0 0 ∷ join 0 0 ∷ turn ∷ turn ∷ []) ≡ 0 ∷ 1 ∷ []
  -- If the page is in transfer it goes to the back;
  back_reading : says small (reading ++ join 0 0 ∷ join 0 1 ∷ turn ∷ []) ≡ 0 ∷ 0 ∷ []
  back_read : waiting small (reading ++ join 0 0 ∷ join 0 1 ∷ turn ∷ []) ≡ 1 ∷ 0 ∷ []
  back_same : T (equal (beside (reading ++ join 0 0 ∷ join 0 1 ∷ turn ∷ [])) (beside reading))
  back_writing : says small (writing ++ join 0 0 ∷ join 0 1 ∷ turn ∷ []) ≡ 0 ∷ 0 ∷ []
  back_written : waiting small (writing ++ join 0 0 ∷ join 0 1 ∷ turn ∷ []) ≡ 1 ∷ 0 ∷ []
  -- otherwise the turn faults. If the fault is accepted the request stays first;
  faults : says small (opened 2 ++ join 0 1 ∷ turn ∷ []) ≡ 0 ∷ 0 ∷ []
  faults_first : waiting small (opened 2 ++ join 0 1 ∷ turn ∷ []) ≡ 1 ∷ []
  faults_served : says small (opened 2 ++ join 0 1 ∷ turn ∷ turn ∷ []) ≡ 0 ∷ 1 ∷ []
  -- if it gives 20 the turn claims, the request staying first: a claim that looks and frees, its looks not handed on,
  frees : says narrow (crowded ++ turn ∷ []) ≡ 0 ∷ 0 ∷ []
  frees_first : waiting narrow (crowded ++ turn ∷ []) ≡ 1 ∷ []
  -- and one that begins a write;
  writes : says narrow (woven ++ turn ∷ []) ≡ 0 ∷ 0 ∷ []
  writes_begun : (frame_at (leaves narrow (woven ++ turn ∷ [])).memory.core.frames 0).transfer ≡ WRITING
  -- a refused claim refuses the turn.
  refused : says narrow (wired ++ turn ∷ []) ≡ 21 ∷ 0 ∷ []
  refused_same : T (equal (tables (leaves narrow (wired ++ turn ∷ []))) (tables (leaves narrow wired)))
  -- Any other number from 3 up sends it away and is the turn's result, its answer being 0.
  away_4 : says small (opened 2 ++ join 1 0 ∷ turn ∷ []) ≡ 0 ∷ 4 ∷ []
  away_8 : says small (opened 2 ++ create 1 0 8 ∷ join 1 0 ∷ turn ∷ []) ≡ 0 ∷ 8 ∷ []
  away_19 : says (sized 1 2) (opened 2 ++ join 0 1 ∷ turn ∷ []) ≡ 0 ∷ 19 ∷ []
  away_left : waiting small (opened 2 ++ join 1 0 ∷ turn ∷ []) ≡ []
  away_same : T (equal (beside (opened 2 ++ join 1 0 ∷ turn ∷ [])) (beside (opened 2)))
  -- Joining asks only 1 to 3, then 27.
  joins : says small (opened 2 ++ join 1 2 ∷ []) ≡ 0 ∷ 0 ∷ []
  slot_past : says small (opened 2 ++ join 2 0 ∷ []) ≡ 3 ∷ 0 ∷ []
  page_past : says small (opened 2 ++ join 0 3 ∷ []) ≡ 3 ∷ 0 ∷ []
  last : says small (opened 2 ++ replicate 32 (join 0 1)) ≡ 0 ∷ 0 ∷ []
  full : says small (opened 2 ++ replicate 32 (join 0 1) ++ join 0 0 ∷ []) ≡ 27 ∷ 0 ∷ []
  -- Restart empties the line.
  emptied : waiting small (opened 2 ++ join 0 1 ∷ restart ∷ []) ≡ []
  -- ── within 3 × k turns: met exactly, ──
  second : says narrow (crowded ++ turn ∷ turn ∷ []) ≡ 0 ∷ 0 ∷ []
  third : says narrow (crowded ++ turn ∷ turn ∷ turn ∷ []) ≡ 0 ∷ 1 ∷ []
  -- and after three turns the request still waits where the tables do not pass 2,
  needs_passing : still_there ≡ 1 ∷ []
  -- where all frames are wired,
  needs_unwired : waiting narrow (wired ++ turn ∷ turn ∷ turn ∷ []) ≡ 1 ∷ []
  -- where a done report is not good,
  needs_good : waiting narrow (woven ++ turn ∷ page_done 0 0 ∷ turn ∷ page_done 0 0 ∷ turn ∷ []) ≡ 1 ∷ []
  -- where something else happens,
  needs_alone : waiting narrow (crowded ++ turn ∷ fault 0 2 ∷ turn ∷ fault 0 2 ∷ turn ∷ []) ≡ 1 ∷ []
  -- and where a transfer is under way as a turn starts.
  needs_calm : waiting small (reading ++ join 0 0 ∷ turn ∷ turn ∷ turn ∷ []) ≡ 0 ∷ []

pub line_edges : LineEdges
unfolding says waiting leaves tables equal still_there
line_edges = record {
  nobody = refl;
  nobody_same = tt;
  served = refl;
  served_left = refl;
  served_same = tt;
  served_wired = refl;
  twice = refl;
  twice_served = refl;
  back_reading = refl;
  back_read = refl;
  back_same = tt;
  back_writing = refl;
  back_written = refl;
  faults = refl;
  faults_first = refl;
  faults_served = refl;
  frees = refl;
  frees_first = refl;
  writes = refl;
  writes_begun = refl;
  refused = refl;
  refused_same = tt;
  away_4 = refl;
  away_8 = refl;
  away_19 = refl;
  away_left = refl;
  away_same = tt;
  joins = refl;
  slot_past = refl;
  page_past = refl;
  last = refl;
  full = refl;
  emptied = refl;
  second = refl;
  third = refl;
  needs_passing = refl;
  needs_unwired = refl;
  needs_good = refl;
  needs_alone = refl;
  needs_calm = refl;
}
