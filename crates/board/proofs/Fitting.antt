-- Every entry of every call fits into the journal: at most 8 sectors, all of them home sectors.
use mathlib.Core.Path.{◌≡◌, refl, ap}
use mathlib.Core.Bool.{Bool, true, false}
use mathlib.Core.Logic.{inl, inr}
use mathlib.Core.List.{List, [], ◌∷◌}
use Prim.Native.Nat.{ℕ, zero, suc, ◌<◌, ◌≤◌}
use native.Mathlib.Omega.{arith}
use lib.Dec.{T, leb, le→leb}
use lib.ListN.{length}
use Rattle.tables.specs.Base.{at, if}
use Rattle.tables.specs.Laws.{and_intro, length_tab}
use Rattle.tables.specs.Rule.{Holds, below, each, test, complete}
use Rattle.model.specs.declared.sizes.Sizes.{Sizes}
use Rattle.model.specs.Sizes.{sizes_fit}
use Rattle.model.specs.State.{Disk, State}
use Rattle.model.specs.Stores as S
use Rattle.model.specs.Acts.{Act, event, looking, importing, exporting, restarting, cutting, cutting_in}
use Rattle.journal.specs.Layout.{most_homes, homes_of, count_fits, fits}
use Rattle.layout.specs.Laid.{rows, room, highest}
use Rattle.layout.specs.Touched.{row_at, touched}
use Rattle.layout.specs.Claims.{In, EachList}
use Rattle.layout.proofs.Apart.{inside}
use Rattle.layout.proofs.Sized.{few_sectors}
use Rattle.layout.proofs.Homes.{touched_few, touched_inside}
use Rattle.board.specs.Calls.{written, raises, sectors_of, stores_of, in_turn, entries_of}
use Rattle.board.specs.Claims.{EachEntry, EntriesFit}

-- the home sectors of an entry are those that it names
homes_written : (z : Sizes) (d : Disk) (xs : List ℕ) → homes_of (written z d xs) ≡ xs
unfolding homes_of written
homes_written z d [] = refl
homes_written z d (x ∷ xs) = ap (λ (l : List ℕ). x ∷ l) (homes_written z d xs)

length_written : (z : Sizes) (d : Disk) (xs : List ℕ) → length (written z d xs) ≡ length xs
unfolding written
length_written z d [] = refl
length_written z d (x ∷ xs) = ap suc (length_written z d xs)

entry_in : (xs : List ℕ) (i : ℕ) → i < length xs → In (at xs i) xs
entry_in [] i h = absurd (omega (arith, h))
entry_in (x ∷ xs) zero h = inl refl
entry_in (x ∷ xs) (suc i) h = inr (entry_in xs i (omega (arith, h)))

module _ (z : Sizes) (most : ℕ) (room_for : 8 ≤ most) where
  -- at most 8 home sectors
  record Homes (xs : List ℕ) : Type 0 where
    few : length xs ≤ 8
    homes : (x : ℕ) → In x xs → (0 < x) × (x < room z)

  entry_fits : (d : Disk) (xs : List ℕ) → Homes xs → T (fits most (room z) (written z d xs))
  unfolding fits
  entry_fits d xs h =
      let n : length (written z d xs) ≤ 8 = omega (arith, length_written z d xs, h.few) in
      and_intro (count_fits most (length (written z d xs))) (test (each (length (written z d xs)) (λ i. below (at (homes_of (written z d xs)) i) (room z))))
      (and_intro (leb (length (written z d xs)) most) (leb (length (written z d xs)) most_homes) (le→leb (length (written z d xs)) most (omega (arith, n, room_for))) (le→leb (length (written z d xs)) most_homes (omega (arith, n))))
      (complete (each (length (written z d xs)) (λ i. below (at (homes_of (written z d xs)) i) (room z))) (λ i l. rw (homes_written z d xs) (h.homes (at xs i) (entry_in xs i (omega (arith, l, length_written z d xs)))).1))

  turn_fits : (xss : List (List ℕ)) (fs : List (Disk → Disk)) (d : Disk) → EachList Homes xss → EachEntry (λ e. T (fits most (room z) (written z e.disk e.sectors))) (in_turn d xss fs)
  unfolding in_turn
  turn_fits [] fs d h = tt
  turn_fits (xs ∷ xss) [] d h = tt
  turn_fits (xs ∷ xss) (f ∷ fs) d h = (entry_fits (f d) xs h.0, turn_fits xss fs (f d) h.1)

  both : (xss : List (List ℕ)) → EachList (λ xs. length xs ≤ 8) xss → EachList (λ xs. (x : ℕ) → In x xs → (0 < x) × (x < room z)) xss → EachList Homes xss
  both [] a b = tt
  both (xs ∷ xss) a b = (record { few = a.0; homes = b.0 }, both xss a.1 b.1)

  module _ (sizes : Holds (sizes_fit z)) (st : State) where
    highest_homes : Homes (row_at z highest 0)
    unfolding row_at rows
    highest_homes = record { few = rw length_tab (few_sectors z sizes highest); homes = λ x h. inside z sizes highest 0 x (omega arith) h }

    act_homes : (a : Act) → EachList Homes (sectors_of z st a)
    unfolding sectors_of
    act_homes (event e) = both (touched z st (S.event e)) (touched_few z sizes st (S.event e)) (touched_inside z sizes st (S.event e))
    act_homes (importing s q n b) = both (touched z st (S.importing s q n b)) (touched_few z sizes st (S.importing s q n b)) (touched_inside z sizes st (S.importing s q n b))
    act_homes restarting = go (raises z st)
      where
        go : (b : Bool) → EachList Homes (if b (row_at z highest 0 ∷ []) [])
        go true = (highest_homes, tt)
        go false = tt
    act_homes (looking s p) = tt
    act_homes (exporting s buffer) = tt
    act_homes (cutting writes updates junk) = tt
    act_homes (cutting_in c k writes updates junk) = tt

-- Every entry of every call fits.
pub entries_fit : EntriesFit
unfolding entries_of
entries_fit z most sizes l st a = turn_fits z most l (sectors_of z st a) (stores_of z st a) st.disk (act_homes z most l sizes st a)
