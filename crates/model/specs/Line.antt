-- The waiting line: joining it, and a turn, which treats the first request. The state once each is carried out, and a turn's result.
use Rattle.std.specs.Prelude.{ℕ, ◌%◌}
use Rattle.tables.specs.Queue.{pop, push_back}
use Rattle.model.specs.declared.sizes.Sizes.{Sizes}
use Rattle.model.specs.State.{State, page_of, slot_of}
use Rattle.model.specs.Setters.{set_line}
use Rattle.model.specs.Questions.{Turning, nobody, serves, goes_back, faults, claims, sends_away, next_page, turning}
use Rattle.model.specs.Pages
use Rattle.model.specs.Writeback

module _ (z : Sizes) (st : State) where
  -- Up to 32 requests, each a slot and a page, wait in order of arrival; the same page may wait twice.
  unfoldable pub join : ℕ → ℕ → State
  join s p = set_line (push_back st.memory.line (page_of z s p)) st

  -- the first request leaves
  abbrev pub leaves : State
  leaves = set_line (pop st.memory.line) st

  -- it goes to the back
  abbrev pub to_back : State
  to_back = set_line (push_back (pop st.memory.line) (next_page z st)) st

  -- A turn with nobody waiting changes nothing. Served, or sent away, the request leaves; a turn that faults or claims leaves it first.
  abbrev pub turned : Turning → State
  turned nobody = st
  turned serves = leaves
  turned goes_back = to_back
  turned faults = Pages.fault z st (slot_of z (next_page z st)) (next_page z st % z.pages)
  turned claims = Writeback.claim z st
  turned (sends_away n) = leaves

  unfoldable pub turn : State
  turn = turned (turning z st)

-- Served gives result 1; the number that sends a request away is the turn's result; all else 0.
abbrev pub treated : Turning → ℕ
treated nobody = 0
treated serves = 1
treated goes_back = 0
treated faults = 0
treated claims = 0
treated (sends_away n) = n

unfoldable pub turn_result : Sizes → State → ℕ
turn_result z st = treated (turning z st)
