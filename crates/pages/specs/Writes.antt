-- What a write asks and counts: a page's first write is charged to the account that pays for its slot.
use Rattle.std.specs.Prelude.{List, ℕ, ◌+◌, set}
use Rattle.tables.specs.Base.{if, at}
use Rattle.tables.specs.Questions.{Questions, none, ask, first_no}
use Rattle.tables.specs.Rule.{Rule, same, ◌or◌, test}
use Rattle.model.specs.declared.sizes.Sizes.{Sizes}
use Rattle.model.specs.declared.event.Event.{Event}
use Rattle.model.specs.declared.event.Page.TheVariants as Page
use Rattle.model.specs.State.{State, files, frames, page_of, charged, payer}
use Rattle.model.specs.Questions.{questions, payable}
use Rattle.model.specs.Step.{outcome}
use Rattle.pages.specs.Faults.{is_live}

abbrev pub writing : ℕ → ℕ → ℕ → ℕ → Event
writing s p w x = Event.Page (Page.Write s p w x)

-- a page in a frame is charged, by that frame's modified switch and its address
abbrev pub is_charged : ℕ → List ℕ → List ℕ → ℕ → Rule
is_charged modified addresses states i = is_live addresses states i or same modified 1

-- 18: the page charged, or used below limit
abbrev pub charge_asked : Sizes → State → ℕ → ℕ → Questions
charge_asked z st s i = ask 18 (charged z (files st) (frames st) i or payable z st s 1) none

-- an account charged with one page more
abbrev pub charged1 : List ℕ → ℕ → List ℕ
charged1 used q = set used q (at used q + 1)

-- the used counts once the write is carried out
unfoldable pub used_then : Sizes → State → ℕ → ℕ → List ℕ
used_then z st s i = if (test (charged z (files st) (frames st) i)) st.memory.used (charged1 st.memory.used (payer (files st) s))

-- .. and carried out or not
abbrev pub used_left : Sizes → State → ℕ → ℕ → ℕ → ℕ → List ℕ
used_left z st s p w x = (outcome (first_no (questions z st (writing s p w x))) 0 st.memory.used (used_then z st s (page_of z s p))).left
