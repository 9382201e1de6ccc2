-- No store touches more than 8 sectors, and each is a home sector behind the header; records in transfer at once share none.
use mathlib.Core.Path.{◌≡◌, refl}
use mathlib.Core.Bool.{Bool, true, false}
use mathlib.Core.Logic.{inl, inr}
use mathlib.Core.List.{List, [], ◌∷◌, ◌++◌}
use Prim.Native.Nat.{ℕ, zero, suc, pred, ◌+◌, ◌<◌, ◌≤◌}
use native.Mathlib.Omega.{arith}
use lib.Dec.{eqb}
use lib.ListN.{length, length-append}
use Rattle.tables.specs.Base.{if, tab}
use Rattle.tables.specs.Laws.{length_tab, if_elim}
use Rattle.tables.specs.Questions.{all_yes}
use Rattle.tables.specs.Rule.{Holds}
use Rattle.sheets.specs.Sheet.{count_in}
use Rattle.model.specs.declared.sizes.Sizes.{Sizes}
use Rattle.model.specs.declared.event.Design.TheVariants.{Create, Delete, Activate, Deactivate}
use Rattle.model.specs.declared.event.Writeback.TheVariants.{Claim, Truncate, Update, PageDone, MapDone}
use Rattle.model.specs.declared.event.Event.TheVariants as Event
use Rattle.model.specs.Sizes.{sizes_fit}
use Rattle.model.specs.State.{State, files, frames, READING, all_pages}
use Rattle.model.specs.Writeback.{record_in}
use Rattle.model.specs.Questions.{questions, import_questions}
use Rattle.model.specs.Step.{answer, asked}
use Rattle.model.specs.Import.{taking, taken, import_answer}
use Rattle.model.specs.Stores.{Call, event, importing, answered}
use Rattle.model.specs.Laws.Ruled.{Ruled, ruled}
use Rattle.model.specs.Laws.Takes.{picked_below}
use Rattle.layout.specs.Rows.{per_row}
use Rattle.layout.specs.Laid.{Table, records, maps, numbers, accounts, limits, highest, width, rows, room}
use Rattle.layout.specs.Touched.{row_at, by_answer, touches, touched}
use Rattle.layout.specs.Claims.{In, EachList, TouchedFew, TouchedInside}
use Rattle.layout.proofs.Rows.{rows_below}
use Rattle.layout.proofs.Members.{in_either}
use Rattle.layout.proofs.Sized.{few_sectors}
use Rattle.layout.proofs.Apart.{inside}

-- ── lists of lists ──
each_tab : (P : List ℕ → Type 0) (n i : ℕ) (f : ℕ → List ℕ) (xss : List (List ℕ)) → ((k : ℕ) → P (f k)) → EachList P xss → EachList P (tab n f i ++ xss)
unfolding tab
each_tab P zero i f xss each rest = rest
each_tab P (suc n) i f xss each rest = (each i, each_tab P n (suc i) f xss each rest)

each_as : (P Q : List ℕ → Type 0) → ((xs : List ℕ) → P xs → Q xs) → (xss : List (List ℕ)) → EachList P xss → EachList Q xss
each_as P Q f [] h = tt
each_as P Q f (xs ∷ xss) h = (f xs h.0, each_as P Q f xss h.1)

-- one list or none
each_if : (P : List ℕ → Type 0) (b : Bool) (xs : List ℕ) → P xs → EachList P (if b (xs ∷ []) [])
each_if P true xs p = (p, tt)
each_if P false xs p = tt

module _ (z : Sizes) (fit : Holds (sizes_fit z)) where
  -- at most n home sectors
  record Homes (n : ℕ) (xs : List ℕ) : Type 0 where
    few : length xs ≤ n
    homes : (x : ℕ) → In x xs → (0 < x) × (x < room z)

  row_homes : (t : Table) (r n : ℕ) → r < rows z t → per_row (width z t) ≤ n → Homes n (row_at z t r)
  unfolding row_at
  row_homes t r n there few = record { few = rw length_tab few; homes = λ x h. inside z fit t r x there h }

  both_homes : (m n : ℕ) {xs ys : List ℕ} → Homes m xs → Homes n ys → Homes (m + n) (xs ++ ys)
  both_homes m n {xs} {ys} a b = record { few = omega (arith, length-append xs ys, a.few, b.few); homes = λ x h. elim (in_either xs ys x h) [ inl k ↦ a.homes x k | inr k ↦ b.homes x k ] }

  more_homes : (m n : ℕ) {xs : List ℕ} → m ≤ n → Homes m xs → Homes n xs
  more_homes m n h a = record { few = omega (arith, a.few); homes = a.homes }

  record_homes : (r : ℕ) → r < z.records → Homes 8 (row_at z records r)
  unfolding rows
  record_homes r h = row_homes records r 8 h (few_sectors z fit records)

  map_homes : (s : ℕ) → s < z.slots → Homes 2 (row_at z maps s)
  unfolding rows width per_row
  map_homes s h = row_homes maps s 2 h (omega arith)

  slot_homes : Homes 2 (row_at z numbers 0 ++ row_at z accounts 0)
  unfolding rows width per_row
  slot_homes = both_homes 1 1 (row_homes numbers 0 1 (omega arith) (omega arith)) (row_homes accounts 0 1 (omega arith) (omega arith))

  limits_homes : Homes 8 (row_at z limits 0)
  unfolding rows
  limits_homes = row_homes limits 0 8 (omega arith) (few_sectors z fit limits)

  highest_homes : Homes 8 (row_at z highest 0)
  unfolding rows
  highest_homes = row_homes highest 0 8 (omega arith) (few_sectors z fit highest)

  module _ (st : State) where
    -- the record of a frame's page is one of the records
    pub record_below : Ruled z st → (f : ℕ) → f < z.frames → record_in z st f < z.records
    record_below r f h = go ((frames st).frame f).page refl
      where
        first_page_holds : 0 < all_pages z
        first_page_holds = omega (arith, rows_below {m = z.pages} (omega arith) z.slots 0 0 (omega arith) (omega arith))

        of_page_holds : (i : ℕ) → i < all_pages z → pred ((files st).address i) < z.records
        of_page_holds i l = by ((files st).address i) refl
          where
            by : (a : ℕ) → (files st).address i ≡ a → pred a < z.records
            by zero e = omega arith
            by (suc q) e = r.records.address_fit_holds i l q e

        go : (p : ℕ) → ((frames st).frame f).page ≡ p → pred ((files st).address (pred p)) < z.records
        go zero e = of_page_holds 0 first_page_holds
        go (suc i) e = of_page_holds i ((r.frames.fit f h).0 i e)

    taken_below : (s k : ℕ) → taken z st s k < z.records
    unfolding taken
    taken_below s k = picked_below z _ st.memory.held.pool.hand (omega arith) (taking z st s k).last

    carried_homes : (c : Call) → answered z st c ≡ 0 → EachList (Homes 8) (touches z st c)
    unfolding touches answered answer import_answer
    carried_homes (event (Event.Design (Create s q n))) e = (highest_homes, (more_homes 2 8 (omega arith) slot_homes, tt))
    carried_homes (event (Event.Design (Delete s))) e = (more_homes 2 8 (omega arith) slot_homes, tt)
    carried_homes (event (Event.Design (Activate s))) e = tt
    carried_homes (event (Event.Design (Deactivate s))) e = tt
    carried_homes (event (Event.Account a)) e = (limits_homes, tt)
    carried_homes (event (Event.Page p)) e = tt
    carried_homes (event (Event.Writeback Claim)) e = tt
    carried_homes (event (Event.Writeback (Truncate s k))) e = tt
    carried_homes (event (Event.Writeback (Update s))) e = tt
    carried_homes (event (Event.Writeback (PageDone f good))) e =
        let (fits, (keeps, ((there, range), rest))) = all_yes 0 (asked z st (questions z st (Event.Writeback (PageDone f good)))) tt e in let r = record_in z st f in
        if_elim (λ (xss : List (List ℕ)). EachList (Homes 8) xss) (eqb ((frames st).frame f).transfer READING) [] (if (eqb good 1) (row_at z records r ∷ []) []) (λ t. tt)
        (λ t. each_if (Homes 8) (eqb good 1) (row_at z records r) (record_homes r (record_below (ruled z st keeps) f there)))
    carried_homes (event (Event.Writeback (MapDone s good))) e =
        let (fits, (keeps, ((there, range), rest))) = all_yes 0 (asked z st (questions z st (Event.Writeback (MapDone s good)))) tt e in
        each_if (Homes 8) (eqb good 1) (row_at z maps s) (more_homes 2 8 (omega arith) (map_homes s there))
    carried_homes (event (Event.Waiting w)) e = tt
    carried_homes (importing s q n b) e =
        let (fits, (keeps, ((there, range), rest))) = all_yes 0 (asked z st (import_questions z st s q n b)) tt e in
        (highest_homes, each_tab (Homes 8) (count_in b) 0 (λ k. row_at z records (taken z st s k)) _ (λ k. record_homes (taken z st s k) (taken_below s k)) (more_homes 4 8 (omega arith) (both_homes 2 2 slot_homes (map_homes s there)), tt))

    by_answer_holds : (n : ℕ) (c : Call) → answered z st c ≡ n → EachList (Homes 8) (by_answer z st n (touches z st c))
    by_answer_holds zero c e = carried_homes c e
    by_answer_holds (suc n) c e = tt

    touched_homes : (c : Call) → EachList (Homes 8) (touched z st c)
    unfolding touched
    touched_homes c = by_answer_holds (answered z st c) c refl

-- No store touches more than 8 sectors.
pub touched_few : TouchedFew
touched_few z fit st c = each_as (Homes z fit 8) (λ xs. length xs ≤ 8) (λ xs h. h.few) (touched z st c) (touched_homes z fit st c)

-- Every sector that a call touches is a home sector behind the header.
pub touched_inside : TouchedInside
touched_inside z fit st c = each_as (Homes z fit 8) (λ xs. (x : ℕ) → In x xs → (0 < x) × (x < room z)) (λ xs h. h.homes) (touched z st c) (touched_homes z fit st c)
