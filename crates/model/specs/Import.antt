-- Import: the records that it takes, its stores in order, and the state once it is carried out.
use Rattle.std.specs.Prelude.{◌≡◌, refl, Bool, List, [], ◌∷◌, ℕ, zero, suc, ◌%◌, eqb, ltb, set}
use Rattle.tables.specs.Base.{at, if, find}
use Rattle.tables.specs.Questions.{first_no, numbers}
use Rattle.tables.specs.Store.{store}
use Rattle.sheets.specs.Sheet.{number_in, count_in, page_in, word_in}
use Rattle.model.specs.declared.sizes.Sizes.{Sizes}
use Rattle.model.specs.Lines.{FILED}
use Rattle.model.specs.State.{Disk, State}
use Rattle.model.specs.Setters.{on_disk, on_held, set_records, set_numbers, set_accounts, set_maps, set_states, set_owners, set_hand, raise, counted}
use Rattle.model.specs.Parts.{of_slot, set_part, picked}
use Rattle.model.specs.Pool as Pool
use Rattle.model.specs.Questions.{import_questions}
use Rattle.model.specs.Step.{Outcome, outcome, asked}

-- what a sheet of the form says: how many pages it has, the k-th one's number and its words
pub record Sheet : Type 0 where
  pub count : ℕ
  pub page : ℕ → ℕ
  pub word : ℕ → ℕ → ℕ

abbrev pub sheet_of : List ℕ → Sheet
sheet_of b = record { count = count_in b; page = page_in b; word = word_in b }

-- the records taken so far: each is filed, of the slot; the last one is told as record + 1, and 0 tells that there is none
pub record Taking : Type 0 where
  pub states : List ℕ
  pub owners : List ℕ
  pub last : ℕ

module _ (z : Sizes) (st : State) (s : ℕ) where
  -- It takes records by Wish 1, the first by the hand, and writes them; they go from free to filed, a twelfth line.
  unfoldable pub taking : ℕ → Taking
  taking zero = record { states = st.memory.held.states; owners = st.memory.held.owners; last = 0 }
  taking (suc k) = let t = taking k in let r = picked z (at t.states) st.memory.held.pool.hand t.last in
      record { states = set t.states r FILED; owners = set t.owners r s; last = suc r }

  -- the k-th record taken, from 0
  unfoldable pub taken : ℕ → ℕ
  taken k = let t = taking k in picked z (at t.states) st.memory.held.pool.hand t.last

module _ (h : Sheet) where
  -- which field a page has
  unfoldable pub field_of : ℕ → ℕ
  field_of p = find h.count (λ k. eqb (h.page k) p) 0

  -- the sheet has the page
  unfoldable pub has : ℕ → Bool
  has p = ltb (field_of p) h.count

  -- the words that the sheet gives a page
  unfoldable pub said : ℕ → ℕ → ℕ
  said p j = if (ltb (field_of p) h.count) (h.word (field_of p) j) 0

module _ (z : Sizes) (st : State) (s q n : ℕ) (h : Sheet) where
  -- ── the stores, each a step of its own ──
  -- Each record written is one store, pages rising.
  unfoldable pub store_record : ℕ → Disk → Disk
  store_record k d = set_records (set_part z (taken z st s k) (h.word k) d.records) d

  -- the entry that lists a page
  unfoldable pub entry : ℕ → ℕ
  entry p = if (has h p) (suc (taken z st s (field_of h p))) 0

  -- Number, account and whole map are one store, the last.
  unfoldable pub store_slot : Disk → Disk
  store_slot d = set_numbers (set d.numbers s n) (set_accounts (set d.accounts s q) (set_maps (store d.maps (of_slot z s) (λ i. entry (i % z.pages))) d))

  -- the disk once the first k records are stored
  unfoldable pub made : ℕ → Disk → Disk
  made zero d = d
  made (suc k) d = store_record k (made k d)

  -- The event runs these steps in order and stores nothing otherwise.
  unfoldable pub imported : State
  imported = let t = taking z st s h.count in counted z
      (on_held (λ x. set_hand (Pool.taken z t.last x.pool).hand (set_states t.states (set_owners t.owners x))) (on_disk (λ d. store_slot (made h.count (raise n d))) st))

-- ── the call ──
module _ (z : Sizes) (st : State) (s q n : ℕ) (b : List ℕ) where
  unfoldable pub import_answer : ℕ
  import_answer = first_no (asked z st (import_questions z st s q n b))

  -- Import takes an empty slot, an account and a number from the caller, and its result is the sheet's own number.
  unfoldable pub import : Outcome State
  import = outcome import_answer (number_in b) st (imported z st s q n (sheet_of b))

  -- 29 and 30 come before 18
  pub import_order : numbers (asked z st (import_questions z st s q n b)) ≡ 1 ∷ 2 ∷ 3 ∷ 32 ∷ 5 ∷ 6 ∷ 33 ∷ 29 ∷ 30 ∷ 18 ∷ 19 ∷ []
  import_order = refl
