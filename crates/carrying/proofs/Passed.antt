-- What an import's questions give its stores, and what these leave together.
use mathlib.Core.Path.{◌≡◌, ap, sym, ◌∙◌}
use mathlib.Core.List.{List}
use Prim.Native.Nat.{ℕ, zero, suc, ◌-◌, ◌%◌, ◌<◌, ◌≤◌}
use native.Mathlib.Omega.{arith}
use lib.ListN.{length, set}
use Rattle.tables.specs.Base.{at}
use Rattle.tables.specs.Questions.{Asked, first_no, all_yes}
use Rattle.tables.specs.Store.{store}
use Rattle.sheets.specs.Sheet.{words_in, pages_in, number_in, count_in, place_of}
use Rattle.sheets.specs.Laws.Formed.{Formed, formed}
use Rattle.model.specs.declared.sizes.Sizes.{Sizes}
use Rattle.model.specs.declared.frame.Pool.{Pool}
use Rattle.model.specs.declared.refusals.Refusal.{Refusal}
use Rattle.model.specs.State.{State}
use Rattle.model.specs.Parts.{of_slot}
use Rattle.model.specs.Payer.{payer}
use Rattle.model.specs.Pool.{taken}
use Rattle.model.specs.Questions.{import_questions}
use Rattle.model.specs.Refusals.{number, refused, number_above}
use Rattle.model.specs.Step.{outcome}
use Rattle.model.specs.Laws.OwnLaws.{outcome_no}
use Rattle.model.specs.Import.{Sheet, sheet_of, taking, entry}
use Rattle.leaves.specs.FreeMap.{free_map_table}
use Rattle.carrying.specs.Seen.{seen, seen_asked, records_after, Carrying, Sheeted}
use Rattle.carrying.specs.Imports.{Tables, tables_of, Importing, Affords, used_more, answered, imported_tables, import_of}

module _ (z : Sizes) (s q n : ℕ) (b limits parents : List ℕ) (t : Tables) where
  abbrev asked : ℕ
  asked = first_no (import_questions z (seen_asked t.pool.free t.numbers limits parents t.highest t.used) s q n b)

  -- refused
  pub import_no : (why : Refusal) → number why ≡ asked → answered (refused why) t ≡ import_of z s q n b limits parents t
  unfolding import_of
  import_no why e =
      sym (outcome_no (number why) (number_in b) t (imported_tables z s q n b limits parents t) (λ h. omega (arith, number_above why, h)))
      ∙ ap (λ (k : ℕ). outcome k (number_in b) t (imported_tables z s q n b limits parents t)) e

  -- ── no question says no ──
  module _ (k : Importing z t.pool t.records t.maps t.states t.owners t.free_map) (e : 0 ≡ asked) where
    pub record Passed : Type 0 where
      pub slot : s < z.slots
      pub account : q < z.accounts
      pub form : Formed b
      pub words : words_in b ≡ z.words
      pub pages : pages_in b ≡ z.pages
      pub affords : Affords t.used limits (payer (at parents) (at limits) q) (count_in b)
      pub room : 0 < count_in b → ¬ (t.pool.free < count_in b)

    pub passed : Passed
    passed =
        let y : Asked (import_questions z (seen_asked t.pool.free t.numbers limits parents t.highest t.used) s q n b) = all_yes 0 _ tt (sym e) in
        let ((slot, (account, number)), (small, (empty, (fresh, (above, (form, ((words, pages), (affords, (room, none))))))))) = y in
        record { slot = slot; account = account; form = formed b form; words = words; pages = pages; affords = affords; room = room }

    pub few : count_in b ≤ t.pool.free
    few = go (count_in b) passed.room
      where
        go : (c : ℕ) → (0 < c → ¬ (t.pool.free < c)) → c ≤ t.pool.free
        go zero h = omega arith
        go (suc c) h = let g = h (omega arith) in omega (arith, g)

    room_of_holds : place_of b (count_in b) ≤ length b
    unfolding place_of
    room_of_holds = omega (arith, passed.form.size)

    pub carrying : Carrying z t.pool.hand b (count_in b) t.records t.states t.owners t.free_map
    carrying = record {
      sizes = k.sizes;
      hand_below = k.hand;
      records_long = k.records_long;
      states_long = k.states_long;
      owners_long = k.owners_long;
      told = k.told;
      enough = omega (arith, few, k.free);
      words = sym passed.words;
      room = room_of_holds;
    }

    pub sheeted : Sheeted z b (count_in b) t.maps
    sheeted = record { formed = passed.form; count_is = λ i. count_in b; pages = sym passed.pages; maps_long = k.maps_long }

    abbrev st : State
    st = seen t.pool.hand t.states t.owners

    abbrev h : Sheet
    h = sheet_of b

    abbrev p : ℕ
    p = payer (at parents) (at limits) q

    -- carried out: the tables, after so many pages
    pub import_yes : (count number last : ℕ) {pool : Pool} {records numbers accounts maps highest states owners map used : List ℕ}
        → count ≡ count_in b
        → number ≡ number_in b
        → last ≡ (taking z st s count).last
        → pool ≡ record { hand = (taken z last t.pool).hand; free = t.pool.free - count }
        → records ≡ records_after z st s h count t.records
        → numbers ≡ set t.numbers s n
        → accounts ≡ set t.accounts s q
        → maps ≡ store t.maps (of_slot z s) (λ i. entry z st s q n h (i % z.pages))
        → highest ≡ set t.highest 0 n
        → states ≡ (taking z st s count).states
        → owners ≡ (taking z st s count).owners
        → map ≡ free_map_table z (at (taking z st s count).states)
        → used ≡ used_more t.used p count
        → answered (record { refusal = 0; result = number }) (tables_of pool records numbers accounts maps highest states owners map used) ≡ import_of z s q n b limits parents t
    unfolding import_of imported_tables
    import_yes count number last ec en el ep er eu ea em eh es eo ef ex =
        (λ i. answered (record { refusal = 0; result = en i }) (tables_of (ep i) (er i) (eu i) (ea i) (em i) (eh i) (es i) (eo i) (ef i) (ex i)))
        ∙ (λ i. answered (record { refusal = 0; result = number_in b }) (after count (el i)))
        ∙ ap (λ (c : ℕ). answered (record { refusal = 0; result = number_in b }) (after c (taking z st s c).last)) ec
        ∙ ap (λ (m : ℕ). outcome m (number_in b) t (imported_tables z s q n b limits parents t)) e
      where
        after : ℕ → ℕ → Tables
        after c last = tables_of (record { hand = (taken z last t.pool).hand; free = t.pool.free - c })
            (records_after z st s h c t.records) (set t.numbers s n) (set t.accounts s q) (store t.maps (of_slot z s) (λ i. entry z st s q n h (i % z.pages)))
            (set t.highest 0 n) (taking z st s c).states (taking z st s c).owners (free_map_table z (at (taking z st s c).states)) (used_more t.used p c)
