-- The three ways of a fault, by the page's address, its questions in parts, and what it counts down.
use Rattle.std.specs.Prelude.{◌≡◌, refl, Bool, true, false, ◌&&◌, List, ℕ, ◌-◌, ◌/◌, ◌%◌, ◌^◌, eqb, set}
use Rattle.std.proofs.Math.Decide.{ℕ_discrete}
use Rattle.tables.specs.Base.{if, at}
use Rattle.tables.specs.Laws.{if_no}
use Rattle.tables.specs.Queue.{size}
use Rattle.tables.specs.Questions.{Questions, none, ask, first_no}
use Rattle.tables.specs.Rule.{Rule, same, below, non, ◌or◌, names, test}
use Rattle.model.specs.declared.sizes.Sizes.{Sizes}
use Rattle.model.specs.declared.frame.Frame.{Frame}
use Rattle.model.specs.declared.frame.Pool.{Pool}
use Rattle.model.specs.declared.event.Event.TheVariants as Event
use Rattle.model.specs.declared.event.Page.TheVariants as Page
use Rattle.model.specs.Lines.{LIVE}
use Rattle.model.specs.State.{State, files, page_of, framed}
use Rattle.model.specs.Parts.{pick}
use Rattle.model.specs.Questions.{questions}
use Rattle.model.specs.Laws.Own.{own}
use Rattle.leaves.specs.FrameLaws.{frames_of, is_still}
use Rattle.pages.specs.Asks.{of_frame}
use Rattle.pages.specs.declared.supply.Way.{Way}
use Rattle.pages.specs.declared.supply.Way.TheVariants.{New, Held, Live}

-- the page's address is live
abbrev pub is_live : List ℕ → List ℕ → ℕ → Rule
is_live addresses states i = names (at addresses i) λ r. same (at states r) LIVE

-- the way of a page: its address is live; there is none; any other
unfoldable pub way_of : List ℕ → List ℕ → ℕ → Way
way_of addresses states i = if (test (is_live addresses states i)) Live (if (test (same (at addresses i) 0)) New Held)

-- the page has no address
abbrev pub is_new : Way → Bool
is_new New = true
is_new Held = false
is_new Live = false

-- its address is live
abbrev pub is_live_way : Way → Bool
is_live_way New = false
is_live_way Held = false
is_live_way Live = true

-- the way that a number says
abbrev pub numbered : ℕ → Way
numbered n = if (eqb n 0) New (if (eqb n 2) Live Held)

-- .. it is new for 0 alone, and live for 2 alone
pub new_numbered : (n : ℕ) → is_new (numbered n) ≡ eqb n 0
new_numbered n = go (eqb n 0) (eqb n 2)
  where
    go : (a b : Bool) → is_new (if a New (if b Live Held)) ≡ a
    go true b = refl
    go false true = refl
    go false false = refl

pub live_numbered : (n : ℕ) → is_live_way (numbered n) ≡ eqb n 2
live_numbered n = elim (ℕ_discrete n 0) [
  | yes e ↦ rw e refl
  | no e ↦ rw (if_no n 0 New (if (eqb n 2) Live Held) e) (go (eqb n 2))
]
  where
    go : (b : Bool) → is_live_way (if b Live Held) ≡ b
    go true = refl
    go false = refl

-- 14 and 15: the page in no transfer; in no frame
abbrev pub away_asked : Sizes → List Frame → ℕ → Questions
away_asked z fs i = ask 14 (of_frame z fs i is_still) (ask 15 (non (framed z (frames_of fs) i)) none)

-- 19 and 20: a record free, a frame free
abbrev pub supply_asked : ℕ → List ℕ → ℕ → List ℕ → Questions
supply_asked i addresses free queue = ask 19 (non (same (at addresses i) 0) or below 0 free) (ask 20 (below 0 (size queue)) none)

module _ (z : Sizes) (st : State) (s p : ℕ) where
  -- the fault is carried out
  unfoldable pub goes : Bool
  goes = eqb (first_no (questions z st (Event.Page (Page.Fault s p)))) 0

  -- .. and takes a record
  abbrev pub takes : Bool
  takes = goes && test (same ((files st).address (page_of z s p)) 0)

  -- the record taken
  abbrev pub taken : ℕ
  taken = pick z (files st).address (files st).state st.memory.held.pool.hand (page_of z s p)

  -- what the model leaves
  abbrev pub ended : State
  ended = (own z st (Event.Page (Page.Fault s p))).left

-- .. as the contracts name it, by the addresses and states on entry
abbrev pub chosen : Sizes → Pool → List ℕ → List ℕ → ℕ → ℕ
chosen z pool addresses states i = pick z (at addresses) (at states) pool.hand i

-- a record free no more
abbrev pub cleared : List ℕ → ℕ → List ℕ
cleared map r = set map (r / 32) (at map (r / 32) - 2 ^ (r % 32))

-- the free count and the free map that a fault leaves: counted down, where it takes a record
module _ (z : Sizes) (st : State) (s p : ℕ) where
  abbrev pub free_left : ℕ
  free_left = if (takes z st s p) (st.memory.held.pool.free - 1) st.memory.held.pool.free

  abbrev pub map_left : List ℕ
  map_left = if (takes z st s p) (cleared st.memory.held.free_map (taken z st s p)) st.memory.held.free_map

-- What a fault leaves in each table that it changes: what the model leaves; the free records are counted down.
pub record FaultLeft (z : Sizes) (st : State) (s p : ℕ) (fs : List Frame) (pool : Pool) (words queue list addresses states owners map : List ℕ) : Type 0 where
  pub frames : fs ≡ (ended z st s p).memory.core.frames
  pub words_left : words ≡ (ended z st s p).memory.core.words
  pub queue_left : queue ≡ (ended z st s p).memory.core.free_queue
  pub list_left : list ≡ (ended z st s p).memory.core.removal_list
  pub addresses_left : addresses ≡ (ended z st s p).memory.held.addresses
  pub states_left : states ≡ (ended z st s p).memory.held.states
  pub owners_left : owners ≡ (ended z st s p).memory.held.owners
  pub map_left_holds : map ≡ map_left z st s p
  pub hand : pool.hand ≡ (ended z st s p).memory.held.pool.hand
  pub free : pool.free ≡ free_left z st s p

-- .. by these equations, as the contract lists them
pub fault_left : {z : Sizes} {st : State} {s p : ℕ} {fs : List Frame} {pool : Pool} {words queue list addresses states owners map : List ℕ}
    → (fs ≡ (ended z st s p).memory.core.frames) × ((words ≡ (ended z st s p).memory.core.words) × ((queue ≡ (ended z st s p).memory.core.free_queue) × ((list ≡ (ended z st s p).memory.core.removal_list)
    × ((addresses ≡ (ended z st s p).memory.held.addresses) × ((states ≡ (ended z st s p).memory.held.states) × ((owners ≡ (ended z st s p).memory.held.owners)
    × ((map ≡ map_left z st s p) × ((pool.hand ≡ (ended z st s p).memory.held.pool.hand) × (pool.free ≡ free_left z st s p)))))))))
    → FaultLeft z st s p fs pool words queue list addresses states owners map
fault_left (fs, (ws, (fq, (rl, (ads, (ss, (os, (fm, (hand, free))))))))) =
    record { frames = fs; words_left = ws; queue_left = fq; list_left = rl; addresses_left = ads; states_left = ss; owners_left = os; map_left_holds = fm; hand = hand; free = free }
