-- Numbers from 2,147,483,648 up, by computation: create and import turn them away just after question 3; a design that is stored under one stays usable.
use Rattle.std.specs.Prelude.{◌≡◌, refl, true, List, [], ◌∷◌, ◌++◌, ℕ, replicate, set, take}
use Rattle.model.specs.State.{Disk}
use Rattle.model.specs.Export
use Rattle.model.specs.Acts.{Act, run}
use Rattle.edges.specs.Lists.{create, delete, activate, deactivate, fault, read, write, claim, truncate, update, page_done, map_done, restart, small, said, says, leaves}
use Rattle.edges.specs.Runs.{right, always}
use Rattle.edges.specs.Packs
use Rattle.edges.specs.Sheets.{sheet, import, opened}

-- slot 1 has a design under 4,000,000,000, as no create makes one any more: page 0 in record 1, page 2 in record 0
abbrev old : Disk
old = record { records = 0 ∷ 9 ∷ 0 ∷ 4 ∷ 7 ∷ 7 ∷ 0 ∷ 0 ∷ []; numbers = 0 ∷ 4000000000 ∷ []; accounts = 0 ∷ 0 ∷ []; maps = 0 ∷ 0 ∷ 0 ∷ 2 ∷ 0 ∷ 1 ∷ []; limits = 4 ∷ []; parents = 0 ∷ []; highest = 0 ∷ [] }

-- its page is read and written, its map is stored, and it comes to rest
abbrev woven : List Act
woven = restart ∷ activate 1 ∷ fault 1 0 ∷ page_done 0 1 ∷ read 1 0 1 ∷ write 1 0 1 5 ∷ claim ∷ page_done 0 1 ∷ update 1 ∷ map_done 1 1 ∷ deactivate 1 ∷ []

-- it is emptied and deleted
abbrev gone : List Act
gone = woven ++ activate 1 ∷ truncate 1 0 ∷ update 1 ∷ map_done 1 1 ∷ deactivate 1 ∷ delete 1 ∷ []

-- the front of its sheet
unfoldable from_old : List ℕ
unfolding said Packs.from
from_old = take 14 (Export.export small (run small (Packs.from old) (restart ∷ [])).state 1 (replicate 60 7)).left

-- a sheet whose own number is 4,294,967,295
abbrev high : List ℕ
high = set (set (set (set sheet 10 255) 11 255) 12 255) 13 255

pub record NumberEdges : Type 0 where
  -- the last number that is taken, the first that is not, and the last of all
  last_taken : says small (opened ++ create 0 0 2147483647 ∷ []) ≡ 0 ∷ 0 ∷ []
  first_refused : says small (opened ++ create 0 0 2147483648 ∷ []) ≡ 32 ∷ 0 ∷ []
  last_refused : says small (opened ++ create 0 0 4294967295 ∷ []) ≡ 32 ∷ 0 ∷ []
  -- 3 before 32, 32 before 5
  range_first : says small (opened ++ create 2 0 2147483648 ∷ []) ≡ 3 ∷ 0 ∷ []
  filled_after : says small (opened ++ create 0 0 7 ∷ create 0 0 2147483648 ∷ []) ≡ 32 ∷ 0 ∷ []
  -- of an import: the caller's number; 32 before 5 and 29; the sheet's own may be one
  import_taken : says small (opened ++ import 0 2147483647 sheet ∷ []) ≡ 0 ∷ 9 ∷ []
  import_refused : says small (opened ++ import 0 2147483648 sheet ∷ []) ≡ 32 ∷ 0 ∷ []
  import_filled : says small (opened ++ create 0 0 7 ∷ import 0 2147483648 sheet ∷ []) ≡ 32 ∷ 0 ∷ []
  import_form : says small (opened ++ import 0 2147483648 [] ∷ []) ≡ 32 ∷ 0 ∷ []
  own_number : says small (opened ++ import 0 7 high ∷ []) ≡ 0 ∷ 4294967295 ∷ []
  -- a design that is stored under one: every act is carried out, and the claim and the rules hold after each
  usable : Packs.holds old woven ≡ true
  deleted : Packs.holds old gone ≡ true
  exported : from_old ≡ 3 ∷ 0 ∷ 4 ∷ 0 ∷ 2 ∷ 0 ∷ 3 ∷ 1 ∷ 0 ∷ 4 ∷ 238 ∷ 107 ∷ 40 ∷ 0 ∷ []

pub number_edges : NumberEdges
unfolding said says leaves right always Packs.from Packs.holds from_old
number_edges = record {
  last_taken = refl;
  first_refused = refl;
  last_refused = refl;
  range_first = refl;
  filled_after = refl;
  import_taken = refl;
  import_refused = refl;
  import_filled = refl;
  import_form = refl;
  own_number = refl;
  usable = refl;
  deleted = refl;
  exported = refl;
}
