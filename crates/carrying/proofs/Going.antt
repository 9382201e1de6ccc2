-- The loop over a sheet's pages: the tables after k of them.
use mathlib.Core.Path.{◌≡◌, refl, ap, sym, ◌∙◌}
use mathlib.Core.List.{List}
use Prim.Native.Nat.{ℕ, zero, suc, ◌+◌, ◌-◌, ◌*◌, ◌/◌, ◌%◌, ◌<◌, ◌≤◌}
use native.Mathlib.Omega.{arith}
use native.Mathlib.Numerals.{add-one}
use lib.Dec.{eqb}
use lib.ListN.{length, set}
use Rattle.tables.specs.Base.{at}
use Rattle.tables.specs.Laws.{count_bound}
use Rattle.tables.specs.Rule.{same}
use Rattle.tables.specs.Store.{store, length_store}
use Rattle.model.specs.declared.sizes.Sizes.{Sizes}
use Rattle.model.specs.Lines.{FREE, FILED}
use Rattle.model.specs.State.{State, free_count}
use Rattle.model.specs.Parts.{picked}
use Rattle.leaves.specs.FreeMap.{free_map_table}
use Rattle.sheets.specs.Sheet.{place_of, page_in, word_in}
use Rattle.sheets.proofs.Cases.{place_room}
use Rattle.model.specs.Import.{Sheet, sheet_of, taking, taken}
use Rattle.model.specs.Laws.Takes.{picked_below, taken_below, left}
use Rattle.model.specs.Laws.Takes as T
use Rattle.carrying.specs.Seen.{seen, records_after, entries_after, Choice, Page, Carrying}

-- after k pages
pub record Going (z : Sizes) (st : State) (s : ℕ) (h : Sheet) (records₀ entries₀ : List ℕ) (k : ℕ) (records states owners map entries : List ℕ) (last : ℕ) : Type 0 where
  pub last_is : last ≡ (taking z st s k).last
  pub states_are : states ≡ (taking z st s k).states
  pub owners_are : owners ≡ (taking z st s k).owners
  pub map_tells : map ≡ free_map_table z (at states)
  pub records_are : records ≡ records_after z st s h k records₀
  pub entries_are : entries ≡ entries_after z st s h k entries₀

module _ (z : Sizes) (s hand : ℕ) (b : List ℕ) (c : ℕ) (records₀ states₀ owners₀ map₀ entries₀ : List ℕ) (g : Carrying z hand b c records₀ states₀ owners₀ map₀) where
  abbrev st : State
  st = seen hand states₀ owners₀

  abbrev At : ℕ → List ℕ → List ℕ → List ℕ → List ℕ → List ℕ → ℕ → Type 0
  At k records states owners map entries last = Going z st s (sheet_of b) records₀ entries₀ k records states owners map entries last

  pub going_none : At 0 records₀ states₀ owners₀ map₀ entries₀ 0
  unfolding taking records_after entries_after
  going_none = record { last_is = refl; states_are = refl; owners_are = refl; map_tells = g.told; records_are = refl; entries_are = refl }

  few : c < 4097
  unfolding free_count
  few = omega (arith, g.enough, count_bound z.records (λ r. eqb (at states₀ r) FREE), g.sizes.records_most)

  long_records : (k : ℕ) → length (records_after z st s (sheet_of b) k records₀) ≡ z.records * z.words
  unfolding records_after
  long_records zero = g.records_long
  long_records (suc k) = length_store (records_after z st s (sheet_of b) k records₀) _ _ ∙ long_records k

  last_small : (k : ℕ) → (taking z st s k).last < 65536
  unfolding taking
  last_small zero = omega arith
  last_small (suc k) = omega (arith, T.next_last z st s g.sizes.records g.states_long g.owners_long g.hand_below k, taken_below z st s g.sizes.records g.states_long g.owners_long g.hand_below k, g.sizes.records_most)

  -- ── what the calls ask ──
  module _ (k : ℕ) (h : k < c) {records states owners map entries : List ℕ} {last : ℕ} (a : At k records states owners map entries last) where
    pub small : last < 65536
    small = omega (arith, a.last_is, last_small k)

    pub states_long : length states ≡ z.records
    states_long = ap length a.states_are ∙ T.states_long z st s g.sizes.records g.states_long g.owners_long g.hand_below k

    pub some_left : 0 < free_count z (at states)
    some_left = omega (arith, ap (λ (l : List ℕ). free_count z (at l)) a.states_are, left z st s g.sizes.records g.states_long g.owners_long g.hand_below c g.enough k (omega (arith, h)), g.enough, h)

    pub few_pages : k < 65536
    few_pages = omega (arith, h, few)

    pub room : place_of b k + (5 + 4 * z.words) ≤ length b
    room = omega (arith, place_room b z.words k c g.words h, g.room)

    chosen : picked z (at states) hand last ≡ taken z st s k
    unfolding taken
    chosen = (λ i. picked z (at (a.states_are i)) hand (a.last_is i))

    -- all that one page needs
    pub page_ready : Page z hand b k last records states map
    page_ready = record {
      choice = record { sizes = g.sizes; hand_below = g.hand_below; last_small = small; states_long = states_long; told = a.map_tells; some = some_left };
      few = few_pages;
      words = g.words;
      room = room;
      records_long = ap length a.records_are ∙ long_records k;
    }

    -- ── one page more ──
    pub going_next : {records' states' owners' map' entries' : List ℕ} {x : ℕ}
        → x ≡ suc (picked z (at states) hand last) → states' ≡ set states (picked z (at states) hand last) FILED → owners' ≡ set owners (picked z (at states) hand last) s → map' ≡ free_map_table z (at states')
        → entries' ≡ set entries (page_in b k) x → records' ≡ store records (λ i. same (i / z.words) (x - 1)) (λ i. word_in b k (i % z.words))
        → At (k + 1) records' states' owners' map' entries' x
    unfolding records_after entries_after
    going_next {records'} {states'} {owners'} {map'} {entries'} {x} e₁ e₂ e₃ e₄ e₅ e₆ =
        let r : x ≡ suc (taken z st s k) = e₁ ∙ ap suc chosen in
        let p : x - 1 ≡ taken z st s k = omega (arith, r) in
        rw (add-one k) (record {
          last_is = r ∙ sym (T.next_last z st s g.sizes.records g.states_long g.owners_long g.hand_below k);
          states_are = e₂ ∙ (λ i. set (a.states_are i) (chosen i) FILED) ∙ sym (T.next_states z st s g.sizes.records g.states_long g.owners_long g.hand_below k);
          owners_are = e₃ ∙ (λ i. set (a.owners_are i) (chosen i) s) ∙ sym (T.next_owners z st s g.sizes.records g.states_long g.owners_long g.hand_below k);
          map_tells = e₄;
          records_are = e₆ ∙ (λ i. store (a.records_are i) (λ j. same (j / z.words) (p i)) (λ j. word_in b k (j % z.words)));
          entries_are = e₅ ∙ (λ i. set (a.entries_are i) (page_in b k) (r i));
        })

-- the record taken for a page, by what tells it
pub page_below : (z : Sizes) (hand last : ℕ) (states map : List ℕ) → Choice z hand last states map → (x : ℕ) → x ≡ suc (picked z (at states) hand last) → (0 < x) × (x < 4097) × (x - 1 < z.records)
page_below z hand last states map k x e = let b = picked_below z (at states) hand k.sizes.records last in (omega (arith, e), omega (arith, e, b, k.sizes.records_most), omega (arith, e, b))
