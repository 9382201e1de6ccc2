-- Edges of who pays and of moves, as one table under one theorem, by computation: answers, and the limits and used counts left.
use Rattle.std.specs.Prelude.{◌≡◌, refl, Bool, true, false, List, [], ◌∷◌, ◌++◌, ℕ, ◌+◌, replicate}
use Rattle.model.specs.declared.sizes.Sizes.{Sizes}
use Rattle.model.specs.State.{Disk, State}
use Rattle.model.specs.Setters.{on_disk, set_parents}
use Rattle.model.specs.Restart.{formatted}
use Rattle.model.specs.Step
use Rattle.model.specs.Acts.{Act, legal, run}
use Rattle.edges.specs.Lists.{limit, move, create, delete, activate, fault, write, claim, update, page_done, map_done, turn, restart, said, begin_with, says_from}

-- four accounts
abbrev four : Sizes
four = record { words = 1; records = 6; frames = 4; slots = 3; pages = 3; accounts = 4; chip = 2 }

-- each under the one before it; and a mill, account 1, with two studios
abbrev chain : List ℕ
chain = 0 ∷ 0 ∷ 1 ∷ 2 ∷ []

abbrev studios : List ℕ
studios = 0 ∷ 0 ∷ 1 ∷ 1 ∷ []

-- the limits of the four accounts
abbrev limits : ℕ → ℕ → ℕ → ℕ → List Act
limits a b c d = restart ∷ limit 0 a ∷ limit 1 b ∷ limit 2 c ∷ limit 3 d ∷ []

-- a design of an account, and a page of it that is charged
abbrev design : ℕ → ℕ → List Act
design s q = create s q (7 + s) ∷ activate s ∷ []

abbrev page : ℕ → ℕ → List Act
page s p = fault s p ∷ write s p 0 9 ∷ []

-- answer and result of a list's last act; the used counts, the limits and used counts, and the slots' accounts that it leaves
unfoldable pub told : List ℕ → List Act → List ℕ
unfolding begin_with says_from
told parents acts = says_from four (begin_with four parents) acts

unfoldable pub paid : List ℕ → List Act → List ℕ
unfolding begin_with
paid parents acts = (run four (begin_with four parents) acts).state.memory.used

unfoldable pub shared : List ℕ → List Act → List ℕ
unfolding begin_with
shared parents acts = let st = (run four (begin_with four parents) acts).state in st.disk.limits ++ st.memory.used

unfoldable pub owning : List Act → List ℕ
unfolding begin_with
owning acts = (run four (begin_with four studios) acts).state.disk.accounts

-- a design of studio 2 with one page, of two it may have; the mill has 3
abbrev rented : List Act
rented = limits 4 3 2 0 ++ design 0 2 ++ page 0 0

-- a design of account 1 with one page, all that it may have, and one of account 2 with one page, of two
abbrev tight : List Act
tight = limits 4 1 2 0 ++ design 0 1 ++ page 0 0 ++ design 1 2 ++ page 1 0

-- what a format with these parents answers, and the parents that it leaves
unfoldable pub formatting : List ℕ → List ℕ
unfolding said
formatting parents = let o = Step.format four parents (formatted four []) in o.answer.refusal ∷ o.left.parents

-- what a restart answers on a disk part with these parents
unfoldable pub restarting : List ℕ → ℕ
unfolding said begin_with
restarting parents = (Step.restart four (on_disk (set_parents parents) (begin_with four parents).state)).answer.refusal

-- whether an event may follow that restart
unfoldable pub goes_on : List ℕ → Bool
unfolding said begin_with
goes_on parents = legal four (begin_with four parents) (restart ∷ turn ∷ [])

-- whether a list of acts is legal
unfoldable may_be : List Act → Bool
unfolding said begin_with
may_be acts = legal four (begin_with four studios) acts

pub record PayerEdges : Type 0 where
  -- a chain of three accounts with limits 0: account 0 pays; one on the way with a limit pays instead
  chain_paid : paid chain (limits 2 0 0 0 ++ design 0 3 ++ page 0 0) ≡ 1 ∷ 0 ∷ 0 ∷ 0 ∷ []
  chain_full : told chain (limits 1 0 0 0 ++ design 0 3 ++ page 0 0 ++ page 0 1) ≡ 18 ∷ 0 ∷ []
  chain_midway : paid chain (limits 2 0 1 0 ++ design 0 3 ++ page 0 0) ≡ 0 ∷ 0 ∷ 1 ∷ 0 ∷ []
  chain_two : paid chain (limits 4 1 0 0 ++ design 0 3 ++ page 0 0 ++ design 1 0 ++ page 1 0) ≡ 1 ∷ 1 ∷ 0 ∷ 0 ∷ []
  -- account 0 with limit 0 pays, so every charge gets 18
  none_have : told chain (limits 0 0 0 0 ++ design 0 3 ++ page 0 0) ≡ 18 ∷ 0 ∷ []
  none_own : told chain (limits 0 9 9 9 ++ design 0 0 ++ page 0 0) ≡ 18 ∷ 0 ∷ []
  -- a limit set to 0, and from 0, changes who pays
  limit_from : paid studios (rented ++ limit 2 0 ∷ []) ≡ 0 ∷ 1 ∷ 0 ∷ 0 ∷ []
  limit_to : paid studios (rented ++ limit 2 0 ∷ limit 2 1 ∷ []) ≡ 0 ∷ 0 ∷ 1 ∷ 0 ∷ []
  -- a move that empties the giver: the mill pays for the studio's design, before, after and back again
  moved_before : shared studios rented ≡ 4 ∷ 3 ∷ 2 ∷ 0 ∷ 0 ∷ 0 ∷ 1 ∷ 0 ∷ []
  moved_said : told studios (rented ++ move 2 1 2 ∷ []) ≡ 0 ∷ 0 ∷ []
  moved_after : shared studios (rented ++ move 2 1 2 ∷ []) ≡ 4 ∷ 5 ∷ 0 ∷ 0 ∷ 0 ∷ 1 ∷ 0 ∷ 0 ∷ []
  moved_back : shared studios (rented ++ move 2 1 2 ∷ move 1 2 1 ∷ []) ≡ 4 ∷ 4 ∷ 1 ∷ 0 ∷ 0 ∷ 0 ∷ 1 ∷ 0 ∷ []
  moved_legal : may_be (rented ++ move 2 1 2 ∷ move 1 2 1 ∷ []) ≡ true
  -- a design at rest is counted for who pays too
  filed : paid studios (rented ++ claim ∷ page_done 0 1 ∷ update 0 ∷ map_done 0 1 ∷ limit 2 0 ∷ restart ∷ []) ≡ 0 ∷ 1 ∷ 0 ∷ 0 ∷ []
  -- 3: an account past Q
  range_giver : told studios (rented ++ move 4 1 1 ∷ []) ≡ 3 ∷ 0 ∷ []
  range_taker : told studios (rented ++ move 1 4 1 ∷ []) ≡ 3 ∷ 0 ∷ []
  -- 25: not parent and child (two studios, a grandparent, an account and itself); m is 0; the giver has less; the taker would pass 65,535
  kin_studios : told studios (rented ++ move 2 3 1 ∷ []) ≡ 25 ∷ 0 ∷ []
  kin_grandparent : told studios (rented ++ move 0 2 1 ∷ []) ≡ 25 ∷ 0 ∷ []
  kin_itself : told studios (rented ++ move 1 1 1 ∷ []) ≡ 25 ∷ 0 ∷ []
  kin_first : told studios (rented ++ move 0 0 1 ∷ []) ≡ 25 ∷ 0 ∷ []
  nothing : told studios (rented ++ move 1 2 0 ∷ []) ≡ 25 ∷ 0 ∷ []
  too_much : told studios (rented ++ move 1 2 4 ∷ []) ≡ 25 ∷ 0 ∷ []
  past_all : told studios (rented ++ move 1 2 65536 ∷ []) ≡ 25 ∷ 0 ∷ []
  all_of_it : told studios (rented ++ move 1 2 3 ∷ []) ≡ 0 ∷ 0 ∷ []
  past_most : told studios (rented ++ limit 2 65534 ∷ move 1 2 2 ∷ []) ≡ 25 ∷ 0 ∷ []
  at_most : told studios (rented ++ limit 2 65534 ∷ move 1 2 1 ∷ []) ≡ 0 ∷ 0 ∷ []
  -- 26: the giver keeps less than it has used;
  giver_over : told studios (rented ++ page 0 1 ++ move 2 1 1 ∷ []) ≡ 26 ∷ 0 ∷ []
  -- the taker has less than it has used, though the move makes it better;
  taker_over : told studios (limits 4 3 3 0 ++ design 0 2 ++ page 0 0 ++ page 0 1 ++ page 0 2 ++ limit 2 1 ∷ move 1 2 1 ∷ []) ≡ 26 ∷ 0 ∷ []
  taker_enough : told studios (limits 4 3 3 0 ++ design 0 2 ++ page 0 0 ++ page 0 1 ++ page 0 2 ++ limit 2 1 ∷ move 1 2 2 ∷ []) ≡ 0 ∷ 0 ∷ []
  -- a third account, which pays for the giver's design once the giver is empty;
  third_over : told chain (tight ++ move 2 3 2 ∷ []) ≡ 26 ∷ 0 ∷ []
  third_enough : shared chain (tight ++ limit 1 2 ∷ move 2 3 2 ∷ []) ≡ 4 ∷ 2 ∷ 0 ∷ 2 ∷ 0 ∷ 2 ∷ 0 ∷ 0 ∷ []
  -- an account over its limit that the move does not touch
  other_over : told studios (limits 4 3 3 0 ++ design 0 2 ++ page 0 0 ++ page 0 1 ++ limit 2 1 ∷ move 0 1 1 ∷ []) ≡ 0 ∷ 0 ∷ []
  -- a deleted design leaves its account too: the next event finds the slot empty and the rules kept
  deleted_left : owning (limits 4 3 2 0 ++ create 0 2 7 ∷ delete 0 ∷ []) ≡ 0 ∷ 0 ∷ 0 ∷ []
  deleted_next : told studios (limits 4 3 2 0 ++ create 0 2 7 ∷ delete 0 ∷ create 0 3 8 ∷ []) ≡ 0 ∷ 0 ∷ []
  -- format: 3 for a parent that is not lower, 1 for another length; account 0 is stored under 0
  format_equal : formatting (0 ∷ 0 ∷ 2 ∷ 0 ∷ []) ≡ 3 ∷ 0 ∷ 0 ∷ 0 ∷ 0 ∷ []
  format_higher : formatting (0 ∷ 2 ∷ 0 ∷ 0 ∷ []) ≡ 3 ∷ 0 ∷ 0 ∷ 0 ∷ 0 ∷ []
  format_short : formatting (0 ∷ 0 ∷ 1 ∷ []) ≡ 1 ∷ 0 ∷ 0 ∷ 0 ∷ 0 ∷ []
  format_first : formatting (9 ∷ 0 ∷ 1 ∷ 2 ∷ []) ≡ 0 ∷ 0 ∷ 0 ∷ 1 ∷ 2 ∷ []
  -- 2 for a parent that is not lower; account 0's is never looked at
  restart_equal : restarting (0 ∷ 0 ∷ 2 ∷ 0 ∷ []) ≡ 2
  restart_higher : restarting (0 ∷ 2 ∷ 0 ∷ 0 ∷ []) ≡ 2
  restart_lower : restarting (0 ∷ 0 ∷ 1 ∷ 2 ∷ []) ≡ 0
  restart_first : restarting (9 ∷ 0 ∷ 1 ∷ 2 ∷ []) ≡ 0
  -- after a restart that is refused no event may come
  refused_down : goes_on (0 ∷ 0 ∷ 2 ∷ 0 ∷ []) ≡ false
  restarted_up : goes_on (0 ∷ 0 ∷ 1 ∷ 2 ∷ []) ≡ true

pub payer_edges : PayerEdges
unfolding told paid shared owning formatting restarting goes_on may_be
payer_edges = record {
  chain_paid = refl;
  chain_full = refl;
  chain_midway = refl;
  chain_two = refl;
  none_have = refl;
  none_own = refl;
  limit_from = refl;
  limit_to = refl;
  moved_before = refl;
  moved_said = refl;
  moved_after = refl;
  moved_back = refl;
  moved_legal = refl;
  filed = refl;
  range_giver = refl;
  range_taker = refl;
  kin_studios = refl;
  kin_grandparent = refl;
  kin_itself = refl;
  kin_first = refl;
  nothing = refl;
  too_much = refl;
  past_all = refl;
  all_of_it = refl;
  past_most = refl;
  at_most = refl;
  giver_over = refl;
  taker_over = refl;
  taker_enough = refl;
  third_over = refl;
  third_enough = refl;
  other_over = refl;
  deleted_left = refl;
  deleted_next = refl;
  format_equal = refl;
  format_higher = refl;
  format_short = refl;
  format_first = refl;
  restart_equal = refl;
  restart_higher = refl;
  restart_lower = refl;
  restart_first = refl;
  refused_down = refl;
  restarted_up = refl;
}
