-- The bound on waiting speaks of real lists: all its premises hold of these, and the requests leave as computed.
use Rattle.std.specs.Prelude.{◌≡◌, refl, Bool, true, false, ◌&&◌, List, [], ◌∷◌, ◌++◌, ℕ, ◌*◌, T, leb}
use Rattle.tables.specs.Queue.{members, size}
use Rattle.tables.specs.Rule.{test}
use Rattle.model.specs.declared.sizes.Sizes.{Sizes}
use Rattle.model.specs.State.{State}
use Rattle.model.specs.Acts.{Act}
use Rattle.model.specs.Turns.{Deed, turn, page_done, map_done, turns, Gone, pages_of, calm_turns, gone, after_all}
use Rattle.model.specs.Terms.{passes, unwired}
use Rattle.edges.specs.Lists.{write, wire, update, join, sized, small, leaves, said}
use Rattle.edges.specs.Edges.{opened, listing}

abbrev narrow : Sizes
narrow = sized 4 1

-- a request that has left, as two numbers: its page, and the turn's result
abbrev told : List Gone → List ℕ
told [] = []
told (g ∷ gs) = g.page ∷ g.result ∷ told gs

-- what the bound asks of a state, of the deeds after it, and of the number of requests
unfoldable asked : Sizes → State → List Deed → ℕ → Bool
unfolding said calm_turns
asked z st ds k = test (passes z st) && test (unwired z st) && calm_turns z st ds && leb (3 * k) (turns ds) && leb k (size st.memory.line)

unfoldable bounded : Sizes → List Act → List Deed → ℕ → Bool
unfolding leaves asked
bounded z acts ds k = asked z (leaves z acts) ds k

-- the requests that have left, and those that still wait
unfoldable left : Sizes → List Act → List Deed → List ℕ
unfolding leaves said gone
left z acts ds = told (gone z (leaves z acts) ds)

unfoldable waiting : Sizes → List Act → List Deed → List ℕ
unfolding leaves said after_all
waiting z acts ds = members (after_all z (leaves z acts) ds).memory.line

-- the pages of those that have left, then those that wait: all that stood in the line
unfoldable stood : Sizes → List Act → List Deed → List ℕ
unfolding leaves said gone waiting
stood z acts ds = pages_of (gone z (leaves z acts) ds) ++ waiting z acts ds

-- one frame, page 0 in it, page 1 waits
abbrev crowded : List Act
crowded = opened 2 ++ join 0 1 ∷ []

-- .. page 0 modified, a map update under way
abbrev woven : List Act
woven = opened 2 ++ write 0 0 1 9 ∷ update 0 ∷ join 0 1 ∷ []

-- two frames: a page on the disk waits, and one of an empty slot
abbrev two : List Act
two = listing ++ join 0 0 ∷ join 1 0 ∷ []

-- page 0 is wired, page 1 waits
abbrev half : List Act
half = opened 2 ++ wire 0 0 ∷ join 0 1 ∷ []

pub record TurnsEdges : Type 0 where
  -- A claim that frees, a fault, served.
  crowded_bound : T (bounded narrow crowded (turn ∷ turn ∷ turn ∷ []) 1)
  crowded_left : left narrow crowded (turn ∷ turn ∷ turn ∷ []) ≡ 1 ∷ 1 ∷ []
  crowded_waits : waiting narrow crowded (turn ∷ turn ∷ []) ≡ 1 ∷ []
  -- The write is reported before the next turn; a done of nothing is among them, and the update stays under way.
  woven_bound : T (bounded narrow woven (turn ∷ page_done 0 ∷ turn ∷ page_done 0 ∷ turn ∷ []) 1)
  woven_left : left narrow woven (turn ∷ page_done 0 ∷ turn ∷ page_done 0 ∷ turn ∷ []) ≡ 1 ∷ 1 ∷ []
  -- The read is reported before the next turn; then one is sent away, and turns with nobody waiting follow.
  two_bound : T (bounded small two (turn ∷ page_done 1 ∷ turn ∷ turn ∷ map_done 0 ∷ turn ∷ turn ∷ turn ∷ []) 2)
  two_left : left small two (turn ∷ page_done 1 ∷ turn ∷ turn ∷ map_done 0 ∷ turn ∷ turn ∷ turn ∷ []) ≡ 0 ∷ 1 ∷ 3 ∷ 4 ∷ []
  two_waits : waiting small two (turn ∷ page_done 1 ∷ turn ∷ []) ≡ 3 ∷ []
  two_stood : stood small two (turn ∷ page_done 1 ∷ turn ∷ []) ≡ 0 ∷ 3 ∷ []
  -- One frame of two is wired: the other serves.
  half_wired : T (bounded small half (turn ∷ turn ∷ turn ∷ []) 1)
  half_left : left small half (turn ∷ turn ∷ turn ∷ []) ≡ 1 ∷ 1 ∷ []
  -- Not asked of these: a transfer under way as a turn starts; every frame wired; too few turns; fewer requests.
  woven_moving : bounded narrow woven (turn ∷ turn ∷ turn ∷ []) 1 ≡ false
  all_wired : bounded narrow (opened 2 ++ wire 0 0 ∷ join 0 1 ∷ []) (turn ∷ turn ∷ turn ∷ []) 1 ≡ false
  one_short : bounded narrow crowded (turn ∷ page_done 0 ∷ turn ∷ []) 1 ≡ false
  one_too_many : bounded narrow crowded (turn ∷ turn ∷ turn ∷ turn ∷ turn ∷ turn ∷ []) 2 ≡ false

pub turns_edges : TurnsEdges
unfolding bounded left waiting stood
turns_edges = record {
  crowded_bound = tt;
  crowded_left = refl;
  crowded_waits = refl;
  woven_bound = tt;
  woven_left = refl;
  two_bound = tt;
  two_left = refl;
  two_waits = refl;
  two_stood = refl;
  half_wired = tt;
  half_left = refl;
  woven_moving = refl;
  all_wired = refl;
  one_short = refl;
  one_too_many = refl;
}
