-- Turns and good done reports, one after the other, and the requests that leave the line along them: what the bound on waiting speaks of.
use Rattle.std.specs.Prelude.{◌≡◌, Bool, true, ◌&&◌, List, [], ◌∷◌, ◌⊎◌, ℕ, zero, suc, ◌<◌, eqb}
use Rattle.tables.specs.Base.{if}
use Rattle.tables.specs.Rule.{Rule, same, each, test}
use Rattle.model.specs.declared.sizes.Sizes.{Sizes}
use Rattle.model.specs.declared.event.Writeback.TheVariants.{PageDone, MapDone}
use Rattle.model.specs.declared.event.Waiting.TheVariants.{Turn}
use Rattle.model.specs.declared.event.Event.{Event}
use Rattle.model.specs.State.{State, frames, NONE}
use Rattle.model.specs.Questions.{next_page}
use Rattle.model.specs.Step.{step}

-- only turns and good done reports happen: of a frame's transfer, and of a slot's map update
pub data Deed : Type 0 where
  turn : Deed
  page_done : ℕ → Deed
  map_done : ℕ → Deed

abbrev pub event_of : Deed → Event
event_of turn = Event.Waiting Turn
event_of (page_done f) = Event.Writeback (PageDone f 1)
event_of (map_done s) = Event.Writeback (MapDone s 1)

-- how many of them are turns
abbrev pub turns : List Deed → ℕ
turns [] = 0
turns (turn ∷ ds) = suc (turns ds)
turns (page_done f ∷ ds) = turns ds
turns (map_done s ∷ ds) = turns ds

-- a request that has left the line: its page, and the turn's result: 1, or the number that sent it away
pub record Gone : Type 0 where
  pub page : ℕ
  pub result : ℕ

-- the pages of requests that have left
abbrev pub pages_of : List Gone → List ℕ
pages_of [] = []
pages_of (g ∷ gs) = g.page ∷ pages_of gs

-- the first k of these pages have left, in this order, each served or sent away
abbrev pub Left : ℕ → List ℕ → List Gone → Type 0
Left zero pages gs = Unit {0}
Left (suc k) [] gs = ⊥
Left (suc k) (i ∷ pages) [] = ⊥
Left (suc k) (i ∷ pages) (g ∷ gs) = (g.page ≡ i) × (((g.result ≡ 1) ⊎ (2 < g.result)) × Left k pages gs)

-- no transfer is under way
abbrev pub calm : Sizes → State → Rule
calm z st = each z.frames λ f. same ((frames st).frame f).transfer NONE

module _ (z : Sizes) where
  -- what one of them leaves
  abbrev pub after : State → Deed → State
  after st d = (step z st (event_of d)).left

  -- no transfer is under way as any turn starts
  unfoldable pub calm_turns : State → List Deed → Bool
  calm_turns st [] = true
  calm_turns st (turn ∷ ds) = let rest = calm_turns (after st turn) ds in test (calm z st) && rest
  calm_turns st (page_done f ∷ ds) = calm_turns (after st (page_done f)) ds
  calm_turns st (map_done s ∷ ds) = calm_turns (after st (map_done s)) ds

  -- the requests that leave, in order: a turn's result is above 0 just where the first one leaves
  unfoldable pub gone : State → List Deed → List Gone
  gone st [] = []
  gone st (turn ∷ ds) =
      let rest = gone (after st turn) ds in let n = (step z st (Event.Waiting Turn)).answer.result in
      if (eqb n 0) rest (record { page = next_page z st; result = n } ∷ rest)
  gone st (page_done f ∷ ds) = gone (after st (page_done f)) ds
  gone st (map_done s ∷ ds) = gone (after st (map_done s)) ds

  -- what a list of them leaves
  unfoldable pub after_all : State → List Deed → State
  after_all st [] = st
  after_all st (d ∷ ds) = after_all (after st d) ds

  -- no turn is refused
  abbrev pub NoneRefused : State → List Deed → Type 0
  NoneRefused st [] = Unit {0}
  NoneRefused st (turn ∷ ds) = ((step z st (Event.Waiting Turn)).answer.refusal ≡ 0) × NoneRefused (after st turn) ds
  NoneRefused st (page_done f ∷ ds) = NoneRefused (after st (page_done f)) ds
  NoneRefused st (map_done s ∷ ds) = NoneRefused (after st (map_done s)) ds
