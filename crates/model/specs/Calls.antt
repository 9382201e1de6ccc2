-- The calls as a caller makes them: a request of numbers, and frames that are carried in an array of 64.
use Rattle.model.specs.declared.event.Event.{Event}
use Rattle.std.specs.Prelude.{◌≡◌, List, ◌++◌, ℕ, ◌≤◌, length, take, replicate, Option, Some, None}
use Rattle.std.proofs.Common.{arith, length-take, length-append}
use Rattle.std.proofs.lemmas.List.{length-replicate, take-append-le}
use Rattle.tables.specs.Questions.{none, ask, first_no}
use Rattle.tables.specs.Rule.{same}
use Rattle.model.specs.declared.sizes.Sizes.{Sizes}
use Rattle.model.specs.declared.frame.Frame.{Frame}
use Rattle.model.specs.declared.request.Request.{Request}
use Rattle.model.specs.Requests.{decoded, decoded_number}
use Rattle.model.specs.State.{State, no_frame}
use Rattle.model.specs.Step.{Outcome, outcome, asked, step}

-- a kind that is no event gets its number, after 1 and 2
unfoldable pub unknown : Sizes → State → Outcome State
unknown z st = outcome (first_no (asked z st (ask (decoded_number None) (same 0 1) none))) 0 st st

unfoldable pub step_of : Sizes → State → Option Event → Outcome State
step_of z st (Some e) = step z st e
step_of z st None = unknown z st

-- every event, asked for by a request
unfoldable pub apply : Sizes → State → Request → Outcome State
apply z st request = step_of z st (decoded request)

-- the frames that an array of 64 stands for where so many are lent; past 64, where question 1 says no, empty ones
unfoldable pub frames_of : List Frame → ℕ → List Frame
frames_of fs lent = take lent (fs ++ replicate lent no_frame)

pub length_frames : (fs : List Frame) (lent : ℕ) → length (frames_of fs lent) ≡ lent
unfolding frames_of
length_frames fs lent = simp (length-take, length-append, length-replicate) (omega arith)

pub frames_of_holds : (fs : List Frame) (lent : ℕ) → lent ≤ length fs → frames_of fs lent ≡ take lent fs
unfolding frames_of
frames_of_holds fs lent h = take-append-le lent fs (replicate lent no_frame) h
