-- The questions about a page's frame, in the parts in which the code asks them.
use Rattle.std.specs.Prelude.{Bool, true, false, List, ℕ, suc}
use Rattle.tables.specs.Questions.{Questions, none, ask}
use Rattle.tables.specs.Rule.{Rule, same, non, ◌then◌, each}
use Rattle.model.specs.declared.sizes.Sizes.{Sizes}
use Rattle.model.specs.declared.frame.Frame.{Frame}
use Rattle.model.specs.State.{frame_at, framed, READING}
use Rattle.leaves.specs.FrameLaws.{frames_of, is_still, is_unwired}

-- every frame that the page is in keeps the rule
abbrev pub of_frame : Sizes → List Frame → ℕ → (Frame → Rule) → Rule
of_frame z fs i rule = each z.frames λ f. same (frame_at fs f).page (suc i) then rule (frame_at fs f)

-- what 14 asks of a frame: of a read or a look, that it is not being read; of the others, that it is in no transfer
abbrev pub is_quiet : Bool → Frame → Rule
is_quiet true g = non (same g.transfer READING)
is_quiet false g = is_still g

-- 13 and 14: the page in a frame, and that frame quiet; reads: of a read or a look
abbrev pub frame_asked : Bool → Sizes → List Frame → ℕ → Questions
frame_asked reads z fs i = ask 13 (framed z (frames_of fs) i) (ask 14 (of_frame z fs i (is_quiet reads)) none)

-- .. and 16 of a wire: not wired; 17 of an unwire: wired
abbrev pub unwired_asked : Sizes → List Frame → ℕ → Questions
unwired_asked z fs i = ask 16 (of_frame z fs i is_unwired) none

abbrev pub wired_asked : Sizes → List Frame → ℕ → Questions
wired_asked z fs i = ask 17 (non (of_frame z fs i is_unwired)) none
