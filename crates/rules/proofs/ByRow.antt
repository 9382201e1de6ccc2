-- Marking and counting a row of pages, and what a row's tests say together.
use mathlib.Core.Path.{◌≡◌, sym, ◌∙◌}
use mathlib.Core.Bool.{Bool, true, false}
use mathlib.Core.List.{List}
use Prim.Native.Nat.{ℕ, ◌+◌, ◌-◌, ◌*◌, ◌<◌, ◌≤◌}
use native.Mathlib.Nat.{add-zero, suc-mul, mul_comm, mul-le-mul_right}
use native.Mathlib.Numerals.{add-one}
use native.Mathlib.Omega.{arith}
use native.Mathlib.Decide.{ℕ_discrete}
use Rattle.tables.specs.Base.{at}
use Rattle.tables.specs.Rule.{Rule, same, ◌and◌, each, Holds, test, alike}
use Rattle.tables.specs.Turn.{Passed, again, done, yes_so, not_so, learn, unlearn}
use Rattle.rules.specs.Passes.{Prefix, distinct, marked, unmarked, noted, imaged_entries, held_row, imaged_row, all_entries}
use Rattle.rules.proofs.Entries.{inactive_zero, not_updating, part}
use Rattle.rules.proofs.Marked.{among, step, skip_run, first_distinct, ended}

-- an entry that may be marked is at most the number of what it names
unmarked_le : (m : ℕ) (marks : List ℕ) (e : ℕ) → Holds (unmarked m marks e) → e ≤ m
unmarked_le m marks e u = elim (ℕ_discrete e 0) [ yes q ↦ omega arith | no q ↦ omega (arith, (u (e - 1) (omega arith)).0) ]

pub passed_le : (m : ℕ) (marks : List ℕ) (e : ℕ) {passed : Bool} → passed ≡ true → passed ≡ test (unmarked m marks e) → e ≤ m
passed_le m marks e taken told = unmarked_le m marks e (learn (unmarked m marks e) (sym taken ∙ told))

-- ── the entries of a row, from `from` up ──
module _ (m : ℕ) (entry : ℕ → ℕ) (size : ℕ) (marks : List ℕ) where
  pub at_start : (n from pages : ℕ) → Prefix m n entry size marks from → Prefix m (from + pages) entry size marks (from + 0)
  at_start n from pages p = rw (add-zero from) (among m n entry size marks from p (from + pages) (omega arith))

  pub next_page_holds : (from p pages : ℕ) → Prefix m (from + pages) entry size marks (from + p) → p < pages → Holds (unmarked m marks (entry (from + p)))
      → Prefix m (from + pages) entry size (noted marks (entry (from + p))) (from + (p + 1))
  next_page_holds from p pages x l u = let e : from + (p + 1) ≡ from + p + 1 = omega arith in rw e (step m (from + pages) entry size marks (from + p) x (omega arith) u)

  pub last_page_holds : (from p pages : ℕ) → Prefix m (from + pages) entry size marks (from + p) → pages ≤ p → p ≤ pages → Prefix m (from + pages) entry size marks (from + pages)
  last_page_holds from p pages x a b = let e : p ≡ pages = omega arith in rw e at x

-- the rules of the row hold, and its entries are distinct
pub row_so : (f : Rule) {m n : ℕ} {entry : ℕ → ℕ} {size : ℕ} {marks : List ℕ} {i : ℕ} → true ≡ test f → Prefix m n entry size marks i → true ≡ test (f and distinct i m entry)
row_so f {m} {n} {entry} {size} {marks} {i} t p = yes_so (f and distinct i m entry) (learn f t, first_distinct m n entry size marks i p)

-- ── a row whose entries name nothing: that they are distinct is no more to ask ──
module _ (pages s records n size : ℕ) (marks : List ℕ) (b : Bool) (room : s * pages + pages ≤ n) where
  zero_row : (entry : ℕ → ℕ) → Prefix records n entry size marks (s * pages) → Holds (each pages (λ p. same (entry (s * pages + p)) 0)) → Holds (distinct (s * pages + pages) records entry)
  zero_row entry x z = first_distinct records n entry size marks (s * pages + pages) (skip_run records n entry size marks (s * pages) x pages room z)

  pub held_only : (active : ℕ) (maps addresses states owners : List ℕ) → ¬ (active ≡ 1) → Prefix records n (at addresses) size marks (s * pages) → b ≡ test (held_row pages s active maps addresses states owners)
      → b ≡ test (held_row pages s active maps addresses states owners and distinct (s * pages + pages) records (at addresses))
  held_only active maps addresses states owners off x e = e ∙ alike (held_row pages s active maps addresses states owners)
      (held_row pages s active maps addresses states owners and distinct (s * pages + pages) records (at addresses))
      (λ h. (h, zero_row (at addresses) x (λ p l. inactive_zero s active (at maps (s * pages + p)) (at addresses (s * pages + p)) (at states) (at owners) off (h p l))))
      (λ h. h.0)

  pub image_only : (updating : ℕ) (addresses images states owners : List ℕ) → ¬ (updating ≡ 1) → Prefix records n (at images) size marks (s * pages) → b ≡ test (each pages (λ p. same (at images (s * pages + p)) 0))
      → b ≡ test (imaged_row pages s updating addresses images states owners and distinct (s * pages + pages) records (at images))
  image_only updating addresses images states owners off x e = e ∙ alike (each pages (λ p. same (at images (s * pages + p)) 0))
      (imaged_row pages s updating addresses images states owners and distinct (s * pages + pages) records (at images))
      (λ z. (λ p l. learn (entries p) (yes_so (same (at images (s * pages + p)) 0) (z p l) ∙ entry_told p), zero_row (at images) x z))
      (λ h p l. learn (same (at images (s * pages + p)) 0) (yes_so (entries p) (h.0 p l) ∙ sym (entry_told p)))
    where
      entries : ℕ → Rule
      entries p = imaged_entries s updating (at addresses (s * pages + p)) (at images (s * pages + p)) (at states) (at owners)

      entry_told : (p : ℕ) → test (same (at images (s * pages + p)) 0) ≡ test (entries p)
      entry_told p = not_updating s updating (at addresses (s * pages + p)) (at images (s * pages + p)) (at states) (at owners) off

-- ── slot by slot ──
module _ (slots pages records : ℕ) (active updating maps addresses images states owners : List ℕ) where
  abbrev pub row : ℕ → Rule
  row s = held_row pages s (at active s) maps addresses states owners and imaged_row pages s (at updating s) addresses images states owners

  abbrev all : Rule
  all = all_entries slots pages active updating maps addresses images states owners and distinct (slots * pages) records (at addresses) and distinct (slots * pages) records (at images)

  -- the first i of n entries are distinct where all are
  fewer : (i n : ℕ) (entry : ℕ → ℕ) → i ≤ n → Holds (distinct n records entry) → Holds (distinct i records entry)
  fewer i n entry h d = (λ k l. d.0 k (omega arith), λ a l b m. d.1 a (omega arith) b (omega arith))

  module _ (s : ℕ) (less : s < slots) where
    within : s * pages + pages ≤ slots * pages
    within = part s slots pages (slots * pages) less (omega arith)

    pub no_row : false ≡ test (held_row pages s (at active s) maps addresses states owners and distinct (s * pages + pages) records (at addresses)) → false ≡ test all
    no_row e = not_so all (λ h. unlearn (held_row pages s (at active s) maps addresses states owners and distinct (s * pages + pages) records (at addresses)) e
        ((h.0 s less).0, fewer (s * pages + pages) (slots * pages) (at addresses) within h.1.0))

    pub no_image : false ≡ test (imaged_row pages s (at updating s) addresses images states owners and distinct (s * pages + pages) records (at images)) → false ≡ test all
    no_image e = not_so all (λ h. unlearn (imaged_row pages s (at updating s) addresses images states owners and distinct (s * pages + pages) records (at images)) e
        ((h.0 s less).1, fewer (s * pages + pages) (slots * pages) (at images) within h.1.1))

  -- one row more
  pub row_more : (s : ℕ) → Passed s row → true ≡ test (held_row pages s (at active s) maps addresses states owners and distinct (s * pages + pages) records (at addresses))
      → true ≡ test (imaged_row pages s (at updating s) addresses images states owners and distinct (s * pages + pages) records (at images)) → Passed (s + 1) row
  row_more s p h g = again s row p (yes_so (row s)
      ((learn (held_row pages s (at active s) maps addresses states owners and distinct (s * pages + pages) records (at addresses)) h).0, (learn (imaged_row pages s (at updating s) addresses images states owners and distinct (s * pages + pages) records (at images)) g).0))

  -- every row
  pub rows_done : (s : ℕ) {n o size isize : ℕ} {marks imarks : List ℕ} → Passed s row → Prefix records n (at addresses) size marks (s * pages) → Prefix records o (at images) isize imarks (s * pages) → slots ≤ s → s ≤ slots → true ≡ test all
  rows_done s {n} {o} {size} {isize} {marks} {imarks} p a g l m = let e : s ≡ slots = omega arith in yes_so all (
    learn (all_entries slots pages active updating maps addresses images states owners) (done s slots row p l),
    (rw e at (first_distinct records n (at addresses) size marks (s * pages) a), rw e at (first_distinct records o (at images) isize imarks (s * pages) g)),
  )

-- once every row is passed, what all of them name is marked
pub rows_marked : (m n : ℕ) (entry : ℕ → ℕ) (size : ℕ) (marks : List ℕ) (s slots pages : ℕ) → Prefix m n entry size marks (s * pages) → s ≡ slots → Holds (marked m (slots * pages) entry marks)
rows_marked m n entry size marks s slots pages p e =
    (ended m (slots * pages) entry size marks (slots * pages) (among m n entry size marks (slots * pages) (rw e at p) (slots * pages) (omega arith)) (omega arith)).1

-- the end of row s is the start of the next
pub to_next : (m n : ℕ) (entry : ℕ → ℕ) (size : ℕ) (marks : List ℕ) (s pages : ℕ) → Prefix m n entry size marks (s * pages + pages) → Prefix m n entry size marks ((s + 1) * pages)
to_next m n entry size marks s pages p = rw (add-one s, suc-mul s pages) p

pub from_none : (m n : ℕ) (entry : ℕ → ℕ) (size : ℕ) (marks : List ℕ) (pages : ℕ) → Prefix m n entry size marks 0 → Prefix m n entry size marks (0 * pages)
from_none m n entry size marks pages p = let e : 0 * pages ≡ 0 = omega arith in rw e p

-- slots are few where pages are
pub few_slots : (s slots pages : ℕ) → 0 < pages → s < slots → slots * pages ≤ 16384 → s < 16384
few_slots s slots pages pos less few = let k : 1 * slots ≤ pages * slots = mul-le-mul_right slots pos in let e : pages * slots ≡ slots * pages = mul_comm pages slots in omega arith
