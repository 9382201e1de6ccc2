-- The entries of calls: each names every sector that it changes, and after all of them the disk part is what the calls leave.
use mathlib.Core.Path.{◌≡◌, refl, ap, sym, ◌∙◌}
use mathlib.Core.Bool.{Bool, true, false}
use mathlib.Core.List.{List, [], ◌∷◌}
use Prim.Native.Nat.{ℕ, zero, suc, ◌<◌}
use native.Mathlib.Omega.{arith}
use native.Mathlib.Decide.{ℕ_discrete}
use lib.Dec.{T, eqb}
use lib.ListN.{length, get_or, set}
use lib.Seq.{get_or-set_same}
use borrow.Author.Tests.{eq-eqb, ne_eqb}
use Rattle.tables.specs.Base.{at, if}
use Rattle.tables.specs.Rule.{Holds}
use Rattle.tables.specs.Questions.{first_no, ask, none}
use Rattle.model.specs.declared.sizes.Sizes.{Sizes}
use Rattle.model.specs.Sizes.{sizes_fit}
use Rattle.model.specs.State.{Disk, State}
use Rattle.model.specs.Setters.{raise, set_highest, counted}
use Rattle.model.specs.Rules.{disk_rules}
use Rattle.model.specs.Restart.{highest_of, raised, restarted}
use Rattle.model.specs.Step.{all_fit, outcome, restart}
use Rattle.model.specs.Stores as S
use Rattle.model.specs.Stores.{first, all_of}
use Rattle.model.specs.Acts.{Act, event, looking, importing, exporting, restarting, cutting, cutting_in}
use Rattle.invariant.proofs.Stores.{stores_whole, import_whole}
use Rattle.layout.specs.Laid.{room, laid, highest}
use Rattle.layout.specs.Touched.{row_at}
use Rattle.layout.specs.Claims.{In, CoversAll}
use Rattle.layout.proofs.Covered.{raise_covered, covered}
use Rattle.board.specs.Calls.{Entry, raises, stores_of, sectors_of, in_turn, entries_of, left_by, joined, together}
use Rattle.board.specs.Board.{may_join, left_after}
use Rattle.board.proofs.Becomes.{in_left, in_right, Step}

-- the disk part after the first k entries
unfoldable pub disk_after : Disk → List Entry → ℕ → Disk
disk_after d es zero = d
disk_after d [] (suc k) = d
disk_after d (e ∷ es) (suc k) = disk_after e.disk es k

-- each entry names every sector in which it differs from the one before
abbrev pub Chain : Sizes → Disk → List Entry → Type 0
Chain z d [] = Unit {0}
Chain z d (e ∷ es) = Step z d e × Chain z e.disk es

pub chain_at : (z : Sizes) (d : Disk) (es : List Entry) (k : ℕ) (o : Entry) → Chain z d es → k < length es → Step z (disk_after d es k) (get_or es k o) × ((get_or es k o).disk ≡ disk_after d es (suc k))
unfolding disk_after
chain_at z d [] k o c h = absurd (omega (arith, h))
chain_at z d (e ∷ es) zero o c h = (c.0, refl)
chain_at z d (e ∷ es) (suc k) o c h = chain_at z e.disk es k o c.1 (omega (arith, h))

-- ── an entry for each store ──
pub turn_chain : (z : Sizes) (xss : List (List ℕ)) (fs : List (Disk → Disk)) (d : Disk) → CoversAll z xss fs → Chain z d (in_turn d xss fs)
unfolding in_turn
turn_chain z [] fs d c = tt
turn_chain z (xs ∷ xss) [] d c = tt
turn_chain z (xs ∷ xss) (f ∷ fs) d c = (c.0 d, turn_chain z xss fs (f d) c.1)

pub turn_disk : (z : Sizes) (xss : List (List ℕ)) (fs : List (Disk → Disk)) (d : Disk) (k : ℕ) → CoversAll z xss fs → disk_after d (in_turn d xss fs) k ≡ first k fs d
unfolding in_turn disk_after first
turn_disk z xss fs d zero c = refl
turn_disk z [] [] d (suc k) c = refl
turn_disk z [] (f ∷ fs) d (suc k) c = absurd c
turn_disk z (xs ∷ xss) [] d (suc k) c = absurd c
turn_disk z (xs ∷ xss) (f ∷ fs) d (suc k) c = turn_disk z xss fs (f d) k c.1

pub turn_length : (z : Sizes) (xss : List (List ℕ)) (fs : List (Disk → Disk)) (d : Disk) → CoversAll z xss fs → length (in_turn d xss fs) ≡ length fs
unfolding in_turn
turn_length z [] [] d c = refl
turn_length z [] (f ∷ fs) d c = absurd c
turn_length z (xs ∷ xss) [] d c = absurd c
turn_length z (xs ∷ xss) (f ∷ fs) d c = ap suc (turn_length z xss fs (f d) c.1)

-- a sector that none of the stores changes
pub covers_none : (z : Sizes) (xss : List (List ℕ)) (fs : List (Disk → Disk)) (d : Disk) (x : ℕ) → CoversAll z xss fs → x < room z → ¬ In x (joined xss) → laid z (all_of fs d) x ≡ laid z d x
unfolding joined first
covers_none z [] [] d x c l n = refl
covers_none z [] (f ∷ fs) d x c l n = absurd c
covers_none z (xs ∷ xss) [] d x c l n = absurd c
covers_none z (xs ∷ xss) (f ∷ fs) d x c l n = covers_none z xss fs (f d) x c.1 l (λ i. n (in_right x xs (joined xss) i)) ∙ c.0 d x l (λ i. n (in_left x xs (joined xss) i))

-- ── a restart's store ──
-- a table of one entry that takes the entry it has
same_entry : (l : List ℕ) (n : ℕ) → length l ≡ 1 → n ≡ at l 0 → set l 0 n ≡ l
same_entry [] n h e = absurd (omega (arith, h))
same_entry (x ∷ []) n h e = ap (λ (y : ℕ). y ∷ []) e
same_entry (x ∷ y ∷ l) n h e = absurd (omega (arith, h))

module _ (z : Sizes) (st : State) where
  abbrev asks : ℕ
  asks = first_no (ask 1 (all_fit z st) (ask 2 (disk_rules z st) none))

  -- its store by what the tables have for the highest number after it
  abbrev storing : ℕ → List (Disk → Disk)
  storing n = if (if (eqb n (at st.disk.highest 0)) false true) (raise n ∷ []) []

  raise_stores : length st.disk.highest ≡ 1 → (n : ℕ) → raise n st.disk ≡ all_of (storing n) st.disk
  unfolding first
  raise_stores h n = elim (ℕ_discrete n (at st.disk.highest 0)) [
    | yes e ↦ rw (eq-eqb n (at st.disk.highest 0) e) (ap (λ (l : List ℕ). set_highest l st.disk) (same_entry st.disk.highest n h e))
    | no e ↦ rw (ne_eqb n (at st.disk.highest 0) e) refl
  ]

  pub restart_stores : length st.disk.highest ≡ 1 → (restart z st).left.disk ≡ all_of (stores_of z st restarting) st.disk
  unfolding restart stores_of raises restarted raised counted
  restart_stores h = go asks
    where
      go : (m : ℕ) → (let o = outcome m 0 st (restarted z (raised z st.disk)) in o.left.disk ≡ all_of (storing (at o.left.disk.highest 0)) st.disk)
      go zero = let n = highest_of st.disk z.slots in raise_stores h n ∙ ap (λ (k : ℕ). all_of (storing k) st.disk) (sym (get_or-set_same st.disk.highest 0 n 0 (omega (arith, h))))
      go (suc m) = unfold first in rw (eq-eqb (at st.disk.highest 0) (at st.disk.highest 0) refl) refl

module _ (z : Sizes) (sizes : Holds (sizes_fit z)) where
  -- ── calls one by one ──
  pub act_covers : (st : State) (a : Act) → CoversAll z (sectors_of z st a) (stores_of z st a)
  unfolding sectors_of stores_of
  act_covers st (event e) = covered z sizes st (S.event e)
  act_covers st (importing s q n b) = covered z sizes st (S.importing s q n b)
  act_covers st restarting = go (raises z st) (at (restart z st).left.disk.highest 0)
    where
      go : (b : Bool) (n : ℕ) → CoversAll z (if b (row_at z highest 0 ∷ []) []) (if b (raise n ∷ []) [])
      go true n = (raise_covered z sizes n, tt)
      go false n = tt
  act_covers st (looking s p) = tt
  act_covers st (exporting s buffer) = tt
  act_covers st (cutting writes updates junk) = tt
  act_covers st (cutting_in c k writes updates junk) = tt

  pub act_stores : (st : State) (a : Act) → length st.disk.highest ≡ 1 → (left_by z st a).disk ≡ all_of (stores_of z st a) st.disk
  unfolding left_by stores_of
  act_stores st (event e) h = stores_whole z st e
  act_stores st (importing s q n b) h = import_whole z st s q n b
  act_stores st restarting h = restart_stores z st h
  act_stores st (looking s p) h = unfold first in refl
  act_stores st (exporting s buffer) h = unfold first in refl
  act_stores st (cutting writes updates junk) h = unfold first in refl
  act_stores st (cutting_in c k writes updates junk) h = unfold first in refl

  pub own_chain : (st : State) (a : Act) → Chain z st.disk (entries_of z st a)
  unfolding entries_of
  own_chain st a = turn_chain z (sectors_of z st a) (stores_of z st a) st.disk (act_covers st a)

  pub own_disk : (st : State) (a : Act) (k : ℕ) → disk_after st.disk (entries_of z st a) k ≡ first k (stores_of z st a) st.disk
  unfolding entries_of
  own_disk st a k = turn_disk z (sectors_of z st a) (stores_of z st a) st.disk k (act_covers st a)

  pub own_length : (st : State) (a : Act) → length (entries_of z st a) ≡ length (stores_of z st a)
  unfolding entries_of
  own_length st a = turn_length z (sectors_of z st a) (stores_of z st a) st.disk (act_covers st a)

  -- ── calls that share an entry ──
  pub joined_disk : (acts : List Act) (st : State) → (together z st acts).disk ≡ (left_after z st acts).disk
  unfolding together left_after
  joined_disk [] st = refl
  joined_disk (a ∷ acts) st = joined_disk acts (left_by z st a)

  pub joined_step : (acts : List Act) (st : State) (up : Bool) → T (may_join up acts) → Step z st.disk (together z st acts)
  unfolding together left_by stores_of
  joined_step [] st up t x l n = refl
  joined_step (event e ∷ acts) st up t x l n =
      let own : List (List ℕ) = sectors_of z st (event e) in
      let rest = together z (left_by z st (event e)) acts in
      joined_step acts (left_by z st (event e)) up t x l (λ i. n (in_right x (joined own) rest.sectors i))
      ∙ ap (λ (d : Disk). laid z d x) (stores_whole z st e)
      ∙ covers_none z own (stores_of z st (event e)) st.disk x (act_covers st (event e)) l (λ i. n (in_left x (joined own) rest.sectors i))
  joined_step (looking s p ∷ acts) st up t x l n = absurd t
  joined_step (importing s q m b ∷ acts) st up t x l n = absurd t
  joined_step (exporting s buffer ∷ acts) st up t x l n = absurd t
  joined_step (restarting ∷ acts) st up t x l n = absurd t
  joined_step (cutting writes updates junk ∷ acts) st up t x l n = absurd t
  joined_step (cutting_in c k writes updates junk ∷ acts) st up t x l n = absurd t
