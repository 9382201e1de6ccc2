-- The words that the theorems are said with, beside the definitions that they speak of.
use Rattle.std.specs.Prelude.{◌≡◌, Bool, true, false, not, ◌&&◌, List, [], ◌∷◌, ◌++◌, ◌⊎◌, ℕ, zero, suc, ◌+◌, ◌-◌, ◌%◌, ◌<◌, ◌≤◌, T, eqb, Option, Some, None}
use Rattle.tables.specs.Rule.{Rule, Holds, same, non, ◌and◌, ◌then◌, each, some}
use Rattle.model.specs.declared.sizes.Sizes.{Sizes}
use Rattle.model.specs.declared.event.Account.TheVariants.{Limit, Move}
use Rattle.model.specs.declared.event.Writeback.TheVariants.{Claim, Truncate, Update, PageDone, MapDone}
use Rattle.model.specs.declared.event.Event.{Event}
use Rattle.model.specs.Lines.{FREE, NULLED, RELEASED, by_event, by_import}
use Rattle.model.specs.State.{State, files, frames, NONE, READING, slot_of, page_of, framed}
use Rattle.model.specs.Rules.{all_rules}
use Rattle.model.specs.Parts.{word_at, by_hand, neighbour}
use Rattle.model.specs.Step.{all_fit, step, restart, look}
use Rattle.model.specs.Requests.{decoded}
use Rattle.model.specs.ApplyAll.{request_at}
use Rattle.model.specs.Import.{import}
use Rattle.model.specs.Export.{export}
use Rattle.model.specs.Stores as S
use Rattle.model.specs.Stores.{Call}
use Rattle.model.specs.Acts.{Act, World, event, looking, importing, exporting, restarting, cutting, cutting_in, act}

-- ── tables that pass ──
-- questions 1 and 2 say yes
abbrev pub passes : Sizes → State → Rule
passes z st = all_fit z st and all_rules z st

abbrev pub Good : Sizes → State → Type 0
Good z st = Holds (passes z st)

-- a frame is not wired
abbrev pub unwired : Sizes → State → Rule
unwired z st = some z.frames λ f. same ((frames st).frame f).wired 0

-- a free record is of slot 0, and a released one of an active slot
abbrev pub tidy : Sizes → State → Rule
tidy z st = each z.records λ r. (same ((files st).state r) FREE then same ((files st).owner r) 0) and (same ((files st).state r) RELEASED then same ((files st).active ((files st).owner r)) 1)

-- ── answers ──
-- an answer that does not blame sizes, lengths or tables
abbrev pub blameless : ℕ → Rule
blameless n = non (same n 1) and non (same n 2)

-- one act in a world: an event, a page look, an import and an export are not answered 1 or 2, a restart is carried out
abbrev pub answered : Sizes → World → Act → Rule
answered z w (event e) = blameless (step z w.state e).answer.refusal
answered z w (looking s p) = blameless (look z w.state s p).answer.refusal
answered z w (importing s q n b) = blameless (import z w.state s q n b).answer.refusal
answered z w (exporting s buffer) = blameless (export z w.state s buffer).answer.refusal
answered z w restarting = same (restart z w.state).answer.refusal 0
answered z w (cutting writes updates junk) = same 0 0
answered z w (cutting_in c k writes updates junk) = same 0 0

-- and each act of a list
abbrev pub all_answered : Sizes → World → List Act → Rule
all_answered z w [] = same 0 0
all_answered z w (a ∷ acts) = answered z w a and all_answered z (act z w a) acts

-- ── the lines ──
-- each record's state stays, or moves along a line
abbrev pub MovedBy : (ℕ → ℕ → Bool) → Sizes → State → State → Type 0
MovedBy line z st st' = (r : ℕ) → r < z.records → ((files st').state r ≡ (files st).state r) ⊎ T (line ((files st).state r) ((files st').state r))

-- one act in a world: an event moves records along the eleven lines, an import along the twelfth alone, a page look and an export along none; a restart and a cut set or lose all states
abbrev pub Moves : Sizes → World → Act → Type 0
Moves z w (event e) = MovedBy by_event z w.state (act z w (event e)).state
Moves z w (looking s p) = (act z w (looking s p)).state ≡ w.state
Moves z w (importing s q n b) = MovedBy by_import z w.state (act z w (importing s q n b)).state
Moves z w (exporting s buffer) = (act z w (exporting s buffer)).state ≡ w.state
Moves z w restarting = Unit {0}
Moves z w (cutting writes updates junk) = Unit {0}
Moves z w (cutting_in c k writes updates junk) = Unit {0}

-- and each act of a list
abbrev pub AllMove : Sizes → World → List Act → Type 0
AllMove z w [] = Unit {0}
AllMove z w (a ∷ acts) = Moves z w a × AllMove z (act z w a) acts

-- ── the limit event ──
abbrev pub is_limit : Event → Bool
is_limit (Event.Account (Limit q n)) = true
is_limit (Event.Account (Move g t m)) = false
is_limit (Event.Design e) = false
is_limit (Event.Page e) = false
is_limit (Event.Writeback e) = false
is_limit (Event.Waiting e) = false

-- a call that is no limit event
abbrev pub no_limit_call : Call → Bool
no_limit_call (S.event e) = not (is_limit e)
no_limit_call (S.importing s q n b) = true

-- an act that is none: another event, a page look, a restart, a cut, also inside another call
abbrev pub no_limit : Act → Bool
no_limit (event e) = not (is_limit e)
no_limit (looking s p) = true
no_limit (importing s q n b) = true
no_limit (exporting s buffer) = true
no_limit restarting = true
no_limit (cutting writes updates junk) = true
no_limit (cutting_in c k writes updates junk) = no_limit_call c

abbrev pub no_limits : List Act → Bool
no_limits [] = true
no_limits (a ∷ acts) = no_limit a && no_limits acts

-- a request for the limit event
abbrev pub asks_limit : Option Event → Bool
asks_limit (Some e) = is_limit e
asks_limit None = false

-- the sum of a table
unfoldable pub sum : List ℕ → ℕ
sum [] = 0
sum (x ∷ xs) = x + sum xs

-- ── a frame in transfer ──
pub record InTransfer (z : Sizes) (st : State) (f : ℕ) : Type 0 where
  pub within : f < z.frames
  pub moving : ¬ (((frames st).frame f).transfer ≡ NONE)

-- the words of frame f, its page and its transfer are what they were
pub record Untouched (z : Sizes) (st st' : State) (f : ℕ) : Type 0 where
  pub words : (w : ℕ) → w < z.words → word_at z st'.memory.core.words f w ≡ word_at z st.memory.core.words f w
  pub page : ((frames st').frame f).page ≡ ((frames st).frame f).page
  pub transfer : ((frames st').frame f).transfer ≡ ((frames st).frame f).transfer

-- an event that is the page done of frame f, good or failed
abbrev pub is_done : ℕ → Event → Bool
is_done f (Event.Writeback (PageDone g good)) = eqb g f
is_done f (Event.Writeback Claim) = false
is_done f (Event.Writeback (Truncate s k)) = false
is_done f (Event.Writeback (Update s)) = false
is_done f (Event.Writeback (MapDone s good)) = false
is_done f (Event.Design e) = false
is_done f (Event.Account e) = false
is_done f (Event.Page e) = false
is_done f (Event.Waiting e) = false

-- a request for it
abbrev pub asks_done : ℕ → Option Event → Bool
asks_done f (Some e) = is_done f e
asks_done f None = false

-- an act that is no cut, no restart and not that page done
abbrev pub other : ℕ → Act → Bool
other f (event e) = not (is_done f e)
other f (looking s p) = true
other f (importing s q n b) = true
other f (exporting s buffer) = true
other f restarting = false
other f (cutting writes updates junk) = false
other f (cutting_in c k writes updates junk) = false

abbrev pub all_other : ℕ → List Act → Bool
all_other f [] = true
all_other f (a ∷ acts) = other f a && all_other f acts

-- a page of an active slot that is in a frame, in service or being written
pub record Present (z : Sizes) (st : State) (s p : ℕ) : Type 0 where
  pub slot : s < z.slots
  pub page : p < z.pages
  pub filled : ¬ ((files st).number s ≡ 0)
  pub active : (files st).active s ≡ 1
  pub framed : Holds (framed z (frames st) (page_of z s p))
  pub arrived : (f : ℕ) → f < z.frames → ((frames st).frame f).page ≡ suc (page_of z s p) → ¬ (((frames st).frame f).transfer ≡ READING)

-- ── the choice of a record ──
-- how far two records are from each other on the line 0 to R−1
abbrev pub apart : ℕ → ℕ → ℕ
apart a b = (a - b) + (b - a)

-- q is the free record nearest to r, the lower of two equally near
pub record Nearest (z : Sizes) (state : ℕ → ℕ) (r q : ℕ) : Type 0 where
  pub below : q < z.records
  pub free : state q ≡ FREE
  pub none_nearer : (x : ℕ) → x < z.records → state x ≡ FREE → apart r q ≤ apart r x
  pub none_lower : (x : ℕ) → x < z.records → state x ≡ FREE → apart r x ≡ apart r q → q ≤ x

-- q is the record that page i takes: it was free; it is the nearest to that of the neighbour (Laws/Choice says who that is), or the hand's; it is the page's then, nulled; and the hand stands just past it
pub record Takes (z : Sizes) (st : State) (i q : ℕ) (st' : State) : Type 0 where
  pub was_free : (files st).state q ≡ FREE
  pub near : (r : ℕ) → neighbour z (files st).address i ≡ suc r → Nearest z (files st).state r q
  pub by_hand_holds : neighbour z (files st).address i ≡ 0 → q ≡ by_hand z (files st).state st.memory.held.pool.hand
  pub address : (files st').address i ≡ suc q
  pub nulled : (files st').state q ≡ NULLED
  pub owner : (files st').owner q ≡ slot_of z i
  pub hand : st'.memory.held.pool.hand ≡ suc q % z.records

-- ── a list of requests as acts ──
-- what a request asks for: an event, or nothing where its kind is no event
abbrev pub acts_of : Option Event → List Act
acts_of (Some e) = event e ∷ []
acts_of None = []

-- the acts of the first k requests
unfoldable pub acts_to : List ℕ → ℕ → List Act
acts_to requests zero = []
acts_to requests (suc k) = acts_to requests k ++ acts_of (decoded (request_at requests k))
