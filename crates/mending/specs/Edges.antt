-- Edges of mending, as one table under one theorem, by computation: what is listed (slot, page, old entry, reason), and the numbers, accounts and maps that are left.
use Rattle.std.specs.Prelude.{◌≡◌, refl, List, [], ◌∷◌, ◌++◌, ℕ, length, replicate, take}
use Rattle.tables.specs.Base.{any, tab}
use Rattle.tables.specs.Questions.{first_no}
use Rattle.tables.specs.Rule.{test}
use Rattle.tables.specs.Store.{choose, store}
use Rattle.model.specs.declared.sizes.Sizes.{Sizes}
use Rattle.model.specs.Setters.{set_parents}
use Rattle.model.specs.Step.{restart}
use Rattle.edges.specs.Lists.{said, junk}
use Rattle.mending.specs.Mend.{Pack, Lent, place_at, wants, cleared, gather, listed, after, listed_by, mended, all_changes, flat, mend}

-- three slots of two pages, three records, two accounts
abbrev pub sizes : Sizes
sizes = record { words = 1; records = 3; frames = 1; slots = 3; pages = 2; accounts = 2; chip = 1 }

abbrev pub pack : List ℕ → List ℕ → List ℕ → Pack
pack ns qs ms = record { numbers = ns; accounts = qs; maps = ms }

unfoldable pub shows : Pack → List ℕ
shows d = flat (all_changes sizes d)

unfoldable pub leaves : Pack → List ℕ
leaves d = let e = mended sizes d in e.numbers ++ e.accounts ++ e.maps

-- ── the packs ──
-- two slots, and three, of one number
abbrev two : Pack
two = pack (7 ∷ 7 ∷ 0 ∷ []) (1 ∷ 1 ∷ 0 ∷ []) (1 ∷ 0 ∷ 2 ∷ 3 ∷ 0 ∷ 0 ∷ [])

abbrev three : Pack
three = pack (7 ∷ 7 ∷ 7 ∷ []) (0 ∷ 0 ∷ 0 ∷ []) (0 ∷ 0 ∷ 0 ∷ 0 ∷ 0 ∷ 0 ∷ [])

-- an empty slot with an account and a map
abbrev unfilled : Pack
unfilled = pack (7 ∷ 0 ∷ 8 ∷ []) (1 ∷ 1 ∷ 1 ∷ []) (1 ∷ 0 ∷ 2 ∷ 3 ∷ 0 ∷ 0 ∷ [])

abbrev odd_account : Pack
odd_account = pack (7 ∷ 8 ∷ 9 ∷ []) (1 ∷ 2 ∷ 9 ∷ []) (1 ∷ 2 ∷ 3 ∷ 0 ∷ 0 ∷ 0 ∷ [])

abbrev above : Pack
above = pack (7 ∷ 8 ∷ 9 ∷ []) (0 ∷ 0 ∷ 0 ∷ []) (3 ∷ 4 ∷ 0 ∷ 9 ∷ 0 ∷ 0 ∷ [])

abbrev shared : Pack
shared = pack (7 ∷ 8 ∷ 9 ∷ []) (0 ∷ 0 ∷ 0 ∷ []) (1 ∷ 2 ∷ 3 ∷ 1 ∷ 0 ∷ 1 ∷ [])

-- record 0 is named by slot 0, and by slot 1, which step 1 (below: 2) empties
abbrev once_left : Pack
once_left = pack (7 ∷ 7 ∷ 0 ∷ []) (0 ∷ 0 ∷ 0 ∷ []) (1 ∷ 0 ∷ 1 ∷ 0 ∷ 0 ∷ 0 ∷ [])

abbrev once_left_too : Pack
once_left_too = pack (7 ∷ 0 ∷ 0 ∷ []) (0 ∷ 0 ∷ 0 ∷ []) (1 ∷ 0 ∷ 1 ∷ 0 ∷ 0 ∷ 0 ∷ [])

-- .. by slots 0 and 2 too
abbrev still_twice : Pack
still_twice = pack (7 ∷ 7 ∷ 8 ∷ []) (0 ∷ 0 ∷ 0 ∷ []) (1 ∷ 0 ∷ 1 ∷ 0 ∷ 1 ∷ 0 ∷ [])

-- no record has number 8: its two entries are above R
abbrev above_twice : Pack
above_twice = pack (7 ∷ 8 ∷ 0 ∷ []) (0 ∷ 0 ∷ 0 ∷ []) (9 ∷ 0 ∷ 9 ∷ 0 ∷ 0 ∷ 0 ∷ [])

-- a doubled slot, whose account and entries other steps would turn to 0 too
abbrev first_reason : Pack
first_reason = pack (7 ∷ 7 ∷ 0 ∷ []) (0 ∷ 5 ∷ 0 ∷ []) (1 ∷ 0 ∷ 9 ∷ 1 ∷ 0 ∷ 0 ∷ [])

-- slot 1 is doubled, slot 2 is not; an account of an empty slot is turned to 0 as such
abbrev second_reason : Pack
second_reason = pack (7 ∷ 0 ∷ 0 ∷ []) (0 ∷ 5 ∷ 1 ∷ []) (0 ∷ 0 ∷ 9 ∷ 0 ∷ 0 ∷ 0 ∷ [])

-- each step finds something
abbrev all_five : Sizes
all_five = record { words = 1; records = 3; frames = 1; slots = 4; pages = 2; accounts = 2; chip = 1 }

abbrev hurt : Pack
hurt = pack (7 ∷ 7 ∷ 0 ∷ 8 ∷ []) (2 ∷ 1 ∷ 1 ∷ 1 ∷ []) (2 ∷ 4 ∷ 1 ∷ 0 ∷ 0 ∷ 1 ∷ 1 ∷ 2 ∷ [])

abbrev sound : Pack
sound = pack (7 ∷ 0 ∷ 8 ∷ []) (1 ∷ 0 ∷ 0 ∷ []) (3 ∷ 1 ∷ 0 ∷ 0 ∷ 0 ∷ 2 ∷ [])

-- ── the call: a list of n places, all of them 9 ──
abbrev lent : Pack → ℕ → Lent
lent d n = record { disk = record { records = 7 ∷ 8 ∷ 9 ∷ []; numbers = d.numbers; accounts = d.accounts; maps = d.maps; limits = 5 ∷ 6 ∷ []; parents = 0 ∷ 0 ∷ []; highest = 0 ∷ [] }; list = replicate n 9 }

-- the answer, and the first k numbers of the list
unfoldable pub says : Sizes → Lent → ℕ → List ℕ
says z l k = let o = mend z l in o.answer.refusal ∷ o.answer.result ∷ length o.left.list ∷ take k o.left.list

-- the records' words, the limits and the parents that the call leaves
unfoldable pub keeps : Lent → List ℕ
keeps l = let d = (mend sizes l).left.disk in d.records ++ d.limits ++ d.parents

-- what a restart of the mended pack answers where the parents are these
unfoldable pub restarted : List ℕ → ℕ
unfolding said mend first_no after listed_by listed gather cleared wants place_at store choose test any tab
restarted parents = let l = lent odd_account 48 in
    (restart sizes (record { disk = (mend sizes (record { disk = set_parents parents l.disk; list = l.list })).left.disk; memory = junk sizes })).answer.refusal

pub record Edges : Type 0 where
  -- reason 1: number, account, pages; a place that is 0 already is not listed
  e1 : shows two ≡ 1 ∷ 2 ∷ 7 ∷ 1 ∷ 1 ∷ 2 ∷ 1 ∷ 1 ∷ 1 ∷ 0 ∷ 2 ∷ 1 ∷ 1 ∷ 1 ∷ 3 ∷ 1 ∷ []
  e1_left : leaves two ≡ 7 ∷ 0 ∷ 0 ∷ 1 ∷ 0 ∷ 0 ∷ 1 ∷ 0 ∷ 0 ∷ 0 ∷ 0 ∷ 0 ∷ []
  -- all but the lowest: slot 0's number never changes
  e1_three : shows three ≡ 1 ∷ 2 ∷ 7 ∷ 1 ∷ 2 ∷ 2 ∷ 7 ∷ 1 ∷ []
  e1_lowest : leaves three ≡ 7 ∷ 0 ∷ 0 ∷ 0 ∷ 0 ∷ 0 ∷ 0 ∷ 0 ∷ 0 ∷ 0 ∷ 0 ∷ 0 ∷ []
  -- reason 2
  e2 : shows unfilled ≡ 1 ∷ 2 ∷ 1 ∷ 2 ∷ 1 ∷ 0 ∷ 2 ∷ 2 ∷ 1 ∷ 1 ∷ 3 ∷ 2 ∷ []
  e2_left : leaves unfilled ≡ 7 ∷ 0 ∷ 8 ∷ 1 ∷ 0 ∷ 1 ∷ 1 ∷ 0 ∷ 0 ∷ 0 ∷ 0 ∷ 0 ∷ []
  -- reason 3: Q and more, not Q − 1
  e3 : shows odd_account ≡ 1 ∷ 2 ∷ 2 ∷ 3 ∷ 2 ∷ 2 ∷ 9 ∷ 3 ∷ []
  e3_left : leaves odd_account ≡ 7 ∷ 8 ∷ 9 ∷ 1 ∷ 0 ∷ 0 ∷ 1 ∷ 2 ∷ 3 ∷ 0 ∷ 0 ∷ 0 ∷ []
  -- reason 4: above R, not R
  e4 : shows above ≡ 0 ∷ 1 ∷ 4 ∷ 4 ∷ 1 ∷ 1 ∷ 9 ∷ 4 ∷ []
  e4_left : leaves above ≡ 7 ∷ 8 ∷ 9 ∷ 0 ∷ 0 ∷ 0 ∷ 3 ∷ 0 ∷ 0 ∷ 0 ∷ 0 ∷ 0 ∷ []
  -- reason 5: all entries of the record, the first too
  e5 : shows shared ≡ 0 ∷ 0 ∷ 1 ∷ 5 ∷ 1 ∷ 1 ∷ 1 ∷ 5 ∷ 2 ∷ 1 ∷ 1 ∷ 5 ∷ []
  e5_left : leaves shared ≡ 7 ∷ 8 ∷ 9 ∷ 0 ∷ 0 ∷ 0 ∷ 0 ∷ 2 ∷ 3 ∷ 0 ∷ 0 ∷ 0 ∷ []
  -- a record named by a slot that step 1 or 2 emptied and once elsewhere keeps its entry
  once_1 : leaves once_left ≡ 7 ∷ 0 ∷ 0 ∷ 0 ∷ 0 ∷ 0 ∷ 1 ∷ 0 ∷ 0 ∷ 0 ∷ 0 ∷ 0 ∷ []
  once_2 : leaves once_left_too ≡ 7 ∷ 0 ∷ 0 ∷ 0 ∷ 0 ∷ 0 ∷ 1 ∷ 0 ∷ 0 ∷ 0 ∷ 0 ∷ 0 ∷ []
  -- .. and twice elsewhere loses these two
  twice_left : shows still_twice ≡ 1 ∷ 2 ∷ 7 ∷ 1 ∷ 1 ∷ 0 ∷ 1 ∷ 1 ∷ 0 ∷ 0 ∷ 1 ∷ 5 ∷ 2 ∷ 0 ∷ 1 ∷ 5 ∷ []
  -- step 5 counts names after step 4
  after_4 : shows above_twice ≡ 0 ∷ 0 ∷ 9 ∷ 4 ∷ 1 ∷ 0 ∷ 9 ∷ 4 ∷ []
  -- a place changes once, by the first step that wants it
  first_wins : shows first_reason ≡ 1 ∷ 2 ∷ 7 ∷ 1 ∷ 1 ∷ 2 ∷ 5 ∷ 1 ∷ 1 ∷ 0 ∷ 9 ∷ 1 ∷ 1 ∷ 1 ∷ 1 ∷ 1 ∷ []
  second_wins : shows second_reason ≡ 1 ∷ 2 ∷ 5 ∷ 2 ∷ 1 ∷ 0 ∷ 9 ∷ 2 ∷ 2 ∷ 2 ∷ 1 ∷ 2 ∷ []
  -- all five, one after the other
  five : flat (all_changes all_five hurt) ≡ 1 ∷ 2 ∷ 7 ∷ 1 ∷ 1 ∷ 2 ∷ 1 ∷ 1 ∷ 1 ∷ 0 ∷ 1 ∷ 1 ∷ 2 ∷ 2 ∷ 1 ∷ 2 ∷ 2 ∷ 1 ∷ 1 ∷ 2 ∷ 0 ∷ 2 ∷ 2 ∷ 3 ∷ 0 ∷ 1 ∷ 4 ∷ 4 ∷ 0 ∷ 0 ∷ 2 ∷ 5 ∷ 3 ∷ 1 ∷ 2 ∷ 5 ∷ []
  five_left : mended all_five hurt ≡ pack (7 ∷ 0 ∷ 0 ∷ 8 ∷ []) (0 ∷ 0 ∷ 0 ∷ 1 ∷ []) (0 ∷ 0 ∷ 0 ∷ 0 ∷ 0 ∷ 0 ∷ 1 ∷ 0 ∷ [])
  -- a sound pack is unchanged
  none_listed : shows sound ≡ []
  unchanged : mended sizes sound ≡ sound
  -- S × (N + 2) = 12 places are enough, and later ones untouched; one number less: 24; a table of another length: 1, before 24
  room : says sizes (lent odd_account 48) 9 ≡ 0 ∷ 2 ∷ 48 ∷ 1 ∷ 2 ∷ 2 ∷ 3 ∷ 2 ∷ 2 ∷ 9 ∷ 3 ∷ 9 ∷ []
  no_room : says sizes (lent odd_account 47) 2 ≡ 24 ∷ 0 ∷ 47 ∷ 9 ∷ 9 ∷ []
  no_fit : says all_five (lent odd_account 3) 2 ≡ 1 ∷ 0 ∷ 3 ∷ 9 ∷ 9 ∷ []
  -- no word of a record, no limit and no parent is altered, nor of a record that loses its entries
  rest_kept : keeps (lent odd_account 48) ≡ 7 ∷ 8 ∷ 9 ∷ 5 ∷ 6 ∷ 0 ∷ 0 ∷ []
  words_kept : keeps (lent shared 48) ≡ 7 ∷ 8 ∷ 9 ∷ 5 ∷ 6 ∷ 0 ∷ 0 ∷ []
  -- the mended pack passes restart; a parent that is not lower gets 2 on it too
  passes : restarted (0 ∷ 0 ∷ []) ≡ 0
  parent_equal : restarted (0 ∷ 1 ∷ []) ≡ 2
  parent_first : restarted (1 ∷ 0 ∷ []) ≡ 0

pub edges : Edges
unfolding shows leaves says keeps restarted mend first_no after listed_by listed gather cleared wants place_at store choose test any tab
edges = record {
  e1 = refl;
  e1_left = refl;
  e1_three = refl;
  e1_lowest = refl;
  e2 = refl;
  e2_left = refl;
  e3 = refl;
  e3_left = refl;
  e4 = refl;
  e4_left = refl;
  e5 = refl;
  e5_left = refl;
  once_1 = refl;
  once_2 = refl;
  twice_left = refl;
  after_4 = refl;
  first_wins = refl;
  second_wins = refl;
  five = refl;
  five_left = refl;
  none_listed = refl;
  unchanged = refl;
  room = refl;
  no_room = refl;
  no_fit = refl;
  rest_kept = refl;
  words_kept = refl;
  passes = refl;
  parent_equal = refl;
  parent_first = refl;
}
