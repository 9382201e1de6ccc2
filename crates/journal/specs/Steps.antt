-- The step functions: what is asked of the firmware for a store and in a recovery, one operation after another, and what each means.
use Rattle.std.specs.Prelude.{ℕ, zero, suc, ◌+◌, ◌-◌, Bool, true, false, List, [], ◌==◌, nat_lt, slice_index_or, Option, Some, None, Result, Ok, Err}
use Rattle.tables.specs.Base.{if, at}
use Rattle.tables.specs.Rule.{test}
use Rattle.journal.specs.declared.Ask.{Ask}
use Rattle.journal.specs.declared.Ask.TheVariants.{Content, Commit, Sync, Home, Done}
use Rattle.journal.specs.declared.Committed.{Committed}
use Rattle.journal.specs.declared.Refusal.{Refusal}
use Rattle.journal.specs.declared.Refusal.TheVariants.{Foreign, TooMany, NoHome, NotZero}
use Rattle.journal.specs.Device.{Sectors, Write, Op, write, sync}
use Rattle.journal.specs.Layout.{Store, commit_at, MAGIC, area_at, home_at, commit_of, count_fits, homes_there, zeros_behind}

-- ── a store ──
-- what is asked once the contents are in their area
unfoldable pub past : ℕ → ℕ → Ask
past count zero = Sync
past count (suc zero) = Commit
past count (suc (suc zero)) = Sync
past count (suc (suc (suc k))) = if (nat_lt k count) (Home k) Done

-- What is asked for a store of `count` contents, of which `at` operations are done.
unfoldable pub asked : ℕ → ℕ → Ask
asked count at = if (nat_lt at count) (Content at) (past count (at - count))

-- content i of a store
abbrev pub entry : Store → ℕ → Write
entry s i = slice_index_or s i (record { place = 0; words = [] })

-- The operation that an ask stands for, for store n. `Done` stands for none; what is given for it is never used.
unfoldable pub meant : ℕ → ℕ → Store → Ask → Op
meant most n s (Content i) = write (record { place = area_at most n i; words = (entry s i).words })
meant most n s Commit = write (record { place = commit_at; words = commit_of n s })
meant most n s Sync = sync
meant most n s (Home i) = write (record { place = home_at most (entry s i).place; words = (entry s i).words })
meant most n s Done = sync

-- ── a recovery ──
-- What a recovery finds in a commit sector: a store, or the first reason to refuse it.
unfoldable pub looked : ℕ → ℕ → List ℕ → Result Committed Refusal
looked most room c =
    let behind = if (test (zeros_behind (at c 2) c)) (Ok (record { sequence = at c 1; count = at c 2 })) (Err NotZero) in
    let homes = if (test (homes_there (at c 2) room c)) behind (Err NoHome) in
    let count = if (count_fits most (at c 2)) homes (Err TooMany) in
    if (at c 0 == MAGIC) count (Err Foreign)

-- it found a store
unfoldable pub is_store : Result Committed Refusal → Bool
is_store (Ok s) = true
is_store (Err e) = false

-- The content that is to be copied next in a recovery of a store of `count` contents, of which `at` are home.
unfoldable pub recovers : ℕ → ℕ → Option ℕ
recovers count at = if (nat_lt at count) (Some at) None

-- The operation that it stands for, by the commit sector c and the sectors f that are read. None stands for none, as above.
unfoldable pub copying : ℕ → Sectors → List ℕ → Option ℕ → Op
copying most f c (Some i) = write (record { place = home_at most (at c (3 + i)); words = f (area_at most (at c 1) i) })
copying most f c None = sync
