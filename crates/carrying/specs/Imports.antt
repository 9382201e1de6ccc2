-- Import over the tables that it changes: what it needs of them, and what it leaves.
use Rattle.std.specs.Prelude.{◌≡◌, List, ℕ, suc, ◌+◌, ◌-◌, ◌*◌, ◌%◌, ◌<◌, length, set}
use Rattle.tables.specs.Base.{at}
use Rattle.tables.specs.Questions.{first_no}
use Rattle.tables.specs.Store.{store}
use Rattle.sheets.specs.Sheet.{number_in, count_in}
use Rattle.model.specs.declared.sizes.Sizes.{Sizes}
use Rattle.model.specs.declared.event.Answer.{Answer}
use Rattle.model.specs.declared.frame.Pool.{Pool}
use Rattle.model.specs.State.{free_count, all_pages}
use Rattle.model.specs.Parts.{of_slot}
use Rattle.model.specs.Payer.{payer}
use Rattle.model.specs.Pool.{taken}
use Rattle.model.specs.Questions.{import_questions}
use Rattle.model.specs.Step.{Outcome, outcome}
use Rattle.model.specs.Import.{sheet_of, taking, entry}
use Rattle.model.specs.Laws.Fit.{Within}
use Rattle.leaves.specs.FreeMap.{free_map_table}
use Rattle.carrying.specs.Seen.{seen, seen_asked, records_after}

pub record Tables : Type 0 where
  pub pool : Pool
  pub records : List ℕ
  pub numbers : List ℕ
  pub accounts : List ℕ
  pub maps : List ℕ
  pub highest : List ℕ
  pub states : List ℕ
  pub owners : List ℕ
  pub free_map : List ℕ
  pub used : List ℕ

abbrev pub tables_of : Pool → List ℕ → List ℕ → List ℕ → List ℕ → List ℕ → List ℕ → List ℕ → List ℕ → List ℕ → Tables
tables_of pool records numbers accounts maps highest states owners free_map used = record {
  pool = pool;
  records = records;
  numbers = numbers;
  accounts = accounts;
  maps = maps;
  highest = highest;
  states = states;
  owners = owners;
  free_map = free_map;
  used = used;
}

-- ── as they were passed, and as they are left ──
abbrev pub entered_tables : Pool → List ℕ → List ℕ → List ℕ → List ℕ → List ℕ → List ℕ → List ℕ → List ℕ → List ℕ → Tables
entered_tables pool records numbers accounts maps highest states owners free_map used =
    tables_of pool records numbers accounts maps highest states owners free_map used

abbrev pub left_tables : Pool → List ℕ → List ℕ → List ℕ → List ℕ → List ℕ → List ℕ → List ℕ → List ℕ → List ℕ → Tables
left_tables pool records numbers accounts maps highest states owners free_map used =
    tables_of pool records numbers accounts maps highest states owners free_map used

abbrev pub answered : Answer → Tables → Outcome Tables
answered answer left = record { answer = answer; left = left }

-- what questions 1 and 2 give that import rests on
pub record Importing (z : Sizes) (pool : Pool) (records maps states owners free_map : List ℕ) : Type 0 where
  pub sizes : Within z
  pub records_long : length records ≡ z.records * z.words
  pub maps_long : length maps ≡ all_pages z
  pub states_long : length states ≡ z.records
  pub owners_long : length owners ≡ z.records
  pub told : free_map ≡ free_map_table z (at states)
  pub free : pool.free ≡ free_count z (at states)
  pub hand : pool.hand < z.records

-- 18: an account that pays for pages has so many left
abbrev pub Affords : List ℕ → List ℕ → ℕ → ℕ → Type 0
Affords used limits p count = 0 < count → at used p + count < suc (at limits p)

-- the used counts with so many pages more for it
abbrev pub used_more : List ℕ → ℕ → ℕ → List ℕ
used_more used p count = set used p (at used p + count)

module _ (z : Sizes) (s q n : ℕ) (b limits parents : List ℕ) (t : Tables) where
  -- the tables once the import is carried out
  unfoldable pub imported_tables : Tables
  imported_tables =
      let st = seen t.pool.hand t.states t.owners in
      let h = sheet_of b in
      let k = taking z st s (count_in b) in
      tables_of (record { hand = (taken z k.last t.pool).hand; free = t.pool.free - count_in b })
      (records_after z st s h (count_in b) t.records)
      (set t.numbers s n)
      (set t.accounts s q)
      (store t.maps (of_slot z s) (λ i. entry z st s q n h (i % z.pages)))
      (set t.highest 0 n)
      k.states
      k.owners
      (free_map_table z (at k.states))
      (used_more t.used (payer (at parents) (at limits) q) (count_in b))

  unfoldable pub import_of : Outcome Tables
  import_of = outcome (first_no (import_questions z (seen_asked t.pool.free t.numbers limits parents t.highest t.used) s q n b)) (number_in b) t imported_tables
