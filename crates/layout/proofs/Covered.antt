-- The sectors touched cover the stores made, of every call.
use mathlib.Core.Path.{refl}
use mathlib.Core.Bool.{Bool, true, false}
use mathlib.Core.List.{List, [], ◌∷◌, ◌++◌}
use Prim.Native.Nat.{ℕ, zero, suc, ◌%◌}
use lib.Dec.{eqb}
use lib.ListN.{set}
use Rattle.tables.specs.Base.{if, tab}
use Rattle.tables.specs.Rule.{Holds}
use Rattle.tables.specs.Store.{store}
use Rattle.sheets.specs.Sheet.{count_in}
use Rattle.model.specs.declared.sizes.Sizes.{Sizes}
use Rattle.model.specs.declared.event.Design.{Design}
use Rattle.model.specs.declared.event.Design.TheVariants.{Create, Delete, Activate, Deactivate}
use Rattle.model.specs.declared.event.Account.{Account}
use Rattle.model.specs.declared.event.Account.TheVariants.{Limit, Move}
use Rattle.model.specs.declared.event.Writeback.{Writeback}
use Rattle.model.specs.declared.event.Writeback.TheVariants.{Claim, Truncate, Update, PageDone, MapDone}
use Rattle.model.specs.declared.event.Event.{Event}
use Rattle.model.specs.declared.event.Event.TheVariants as Event
use Rattle.model.specs.Sizes.{sizes_fit}
use Rattle.model.specs.State.{Disk, State, files, frames, READING}
use Rattle.model.specs.Setters.{set_records, set_numbers, set_accounts, set_maps, set_limits, raise}
use Rattle.model.specs.Accounts.{shifted}
use Rattle.model.specs.Parts.{of_slot, set_part, word_at}
use Rattle.model.specs.Writeback.{record_in, store_frame, store_image}
use Rattle.model.specs.Restart.{highest_of, raised}
use Rattle.model.specs.Import.{Sheet, sheet_of, taken, entry, store_record, store_slot}
use Rattle.model.specs.Stores as Stores
use Rattle.model.specs.Stores.{Call, event, importing, answered, stores, made}
use Rattle.layout.specs.Laid.{records, maps, numbers, accounts, limits, highest, place, rows, width, table_of}
use Rattle.layout.specs.Touched as Touched
use Rattle.layout.specs.Touched.{row_at, touches, touched}
use Rattle.layout.specs.Claims.{Covers, CoversAll, Covered, RestartCovered}
use Rattle.layout.proofs.Covers.{disk_of, into, covers_part, covers_whole, covers_both}

module _ (z : Sizes) (fit : Holds (sizes_fit z)) where
  -- ── each store ──
  pub raise_covered : (n : ℕ) → Covers z (row_at z highest 0) (raise n)
  unfolding into disk_of place table_of rows
  raise_covered n = covers_whole z fit highest refl (λ l. set l 0 n)

  numbers_covered : (s n : ℕ) → Covers z (row_at z numbers 0) (λ d. set_numbers (set d.numbers s n) d)
  unfolding into disk_of place table_of rows
  numbers_covered s n = covers_whole z fit numbers refl (λ l. set l s n)

  accounts_covered : (s q : ℕ) → Covers z (row_at z accounts 0) (λ d. set_accounts (set d.accounts s q) d)
  unfolding into disk_of place table_of rows
  accounts_covered s q = covers_whole z fit accounts refl (λ l. set l s q)

  slot_covered : (s q n : ℕ) → Covers z (row_at z numbers 0 ++ row_at z accounts 0) (λ d. set_numbers (set d.numbers s n) (set_accounts (set d.accounts s q) d))
  slot_covered s q n = covers_both z fit (row_at z numbers 0) (row_at z accounts 0) (λ d. set_numbers (set d.numbers s n) d) (λ d. set_accounts (set d.accounts s q) d) (numbers_covered s n) (accounts_covered s q)

  limits_covered : (g : List ℕ → List ℕ) → Covers z (row_at z limits 0) (λ d. set_limits (g d.limits) d)
  unfolding into disk_of place table_of rows
  limits_covered g = covers_whole z fit limits refl g

  record_covered : (r : ℕ) (w : ℕ → ℕ) → Covers z (row_at z records r) (λ d. set_records (set_part z r w d.records) d)
  unfolding into disk_of place table_of width
  record_covered r w = covers_part z fit records r (λ k. w (k % z.words))

  map_covered : (s : ℕ) (g : ℕ → ℕ) → Covers z (row_at z maps s) (λ d. set_maps (store d.maps (of_slot z s) g) d)
  unfolding into disk_of place table_of width
  map_covered s g = covers_part z fit maps s g

  import_covered : (st : State) (s q n : ℕ) (h : Sheet) → Covers z (row_at z numbers 0 ++ row_at z accounts 0 ++ row_at z maps s) (store_slot z st s q n h)
  unfolding store_slot
  import_covered st s q n h = let g : ℕ → ℕ = λ i. entry z st s q n h (i % z.pages) in
      covers_both z fit (row_at z numbers 0 ++ row_at z accounts 0) (row_at z maps s) (λ d. set_numbers (set d.numbers s n) (set_accounts (set d.accounts s q) d))
      (λ d. set_maps (store d.maps (of_slot z s) g) d) (slot_covered s q n) (map_covered s g)

  -- ── each call ──
  covers_tab : (n i : ℕ) (xs : ℕ → List ℕ) (f : ℕ → Disk → Disk) (xss : List (List ℕ)) (fs : List (Disk → Disk)) → ((k : ℕ) → Covers z (xs k) (f k)) → CoversAll z xss fs → CoversAll z (tab n xs i ++ xss) (tab n f i ++ fs)
  unfolding tab
  covers_tab zero i xs f xss fs each rest = rest
  covers_tab (suc n) i xs f xss fs each rest = (each i, covers_tab n (suc i) xs f xss fs each rest)

  covers_if : (b : Bool) (xss yss : List (List ℕ)) (fs gs : List (Disk → Disk)) → CoversAll z xss fs → CoversAll z yss gs → CoversAll z (if b xss yss) (if b fs gs)
  covers_if true xss yss fs gs p q = p
  covers_if false xss yss fs gs p q = q

  module _ (st : State) where
    carried_out_holds : (c : Call) → CoversAll z (touches z st c) (stores z st c)
    unfolding touches stores store_frame store_image store_record
    carried_out_holds (event (Event.Design (Create s q n))) = (raise_covered n, (slot_covered s q n, tt))
    carried_out_holds (event (Event.Design (Delete s))) = (slot_covered s 0 0, tt)
    carried_out_holds (event (Event.Design (Activate s))) = tt
    carried_out_holds (event (Event.Design (Deactivate s))) = tt
    carried_out_holds (event (Event.Account (Limit q n))) = (limits_covered (λ l. set l q n), tt)
    carried_out_holds (event (Event.Account (Move g t m))) = (limits_covered (λ l. shifted l g t m), tt)
    carried_out_holds (event (Event.Page e)) = tt
    carried_out_holds (event (Event.Writeback Claim)) = tt
    carried_out_holds (event (Event.Writeback (Truncate s k))) = tt
    carried_out_holds (event (Event.Writeback (Update s))) = tt
    carried_out_holds (event (Event.Writeback (PageDone f good))) = let r = record_in z st f in
        covers_if (eqb ((frames st).frame f).transfer READING) [] (if (eqb good 1) (row_at z records r ∷ []) []) [] (if (eqb good 1) (store_frame z st f ∷ []) []) tt
        (covers_if (eqb good 1) (row_at z records r ∷ []) [] (store_frame z st f ∷ []) [] (record_covered r (word_at z st.memory.core.words f), tt) tt)
    carried_out_holds (event (Event.Writeback (MapDone s good))) = covers_if (eqb good 1) (row_at z maps s ∷ []) [] (store_image z st s ∷ []) [] (map_covered s (files st).image, tt) tt
    carried_out_holds (event (Event.Waiting e)) = tt
    carried_out_holds (importing s q n b) = (
      raise_covered n,
      covers_tab (count_in b) 0 (λ k. row_at z records (taken z st s k)) (store_record z st s q n (sheet_of b)) _ _ (λ k. record_covered (taken z st s k) ((sheet_of b).word k)) (import_covered st s q n (sheet_of b), tt),
    )

    by_answer_holds : (n : ℕ) (c : Call) → CoversAll z (Touched.by_answer z st n (touches z st c)) (Stores.by_answer n (stores z st c))
    by_answer_holds zero c = carried_out_holds c
    by_answer_holds (suc n) c = tt

-- Of every call in every state, the sectors touched cover the stores made, one by one.
pub covered : Covered
unfolding touched made
covered z fit st c = by_answer_holds z fit st (answered z st c) c

-- Restart's own one store, the highest number, touches that table's sector.
pub restart_covered : RestartCovered
unfolding raised
restart_covered z fit d x h out = raise_covered z fit (highest_of d z.slots) d x h out
