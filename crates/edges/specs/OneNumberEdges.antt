-- One number, one design, by computation: question 33, the highest number on the disk, the cuts that skip a number, and worlds in which a number is given twice.
use Rattle.std.specs.Prelude.{◌≡◌, refl, Bool, true, false, List, [], ◌∷◌, ◌++◌, ℕ, T}
use Rattle.tables.specs.Rule.{test}
use Rattle.model.specs.State.{Disk}
use Rattle.model.specs.Setters.{on_disk, set_numbers, raise}
use Rattle.model.specs.Demand3.{demand3}
use Rattle.model.specs.OneNumber.{one_number, demand3_by_number}
use Rattle.model.specs.Acts.{Act, World, run}
use Rattle.edges.specs.Lists.{limit, create, delete, activate, deactivate, fault, read, write, claim, truncate, update, page_done, map_done, restart, small, cut, cut_in, said, begin, says, says_from, leaves}
use Rattle.edges.specs.Runs.{right, right_formatted, holds}
use Rattle.edges.specs.Packs
use Rattle.edges.specs.Worlds.{on_state}
use Rattle.edges.specs.Sheets.{sheet, bare, import, opened}

-- ── packs of a keeper that kept no highest number ──
-- slot 0 has design 5, slot 1 design 8
abbrev older : Disk
older = record { records = 0 ∷ 0 ∷ 0 ∷ 0 ∷ 0 ∷ 0 ∷ 0 ∷ 0 ∷ []; numbers = 5 ∷ 8 ∷ []; accounts = 0 ∷ 0 ∷ []; maps = 0 ∷ 0 ∷ 0 ∷ 0 ∷ 0 ∷ 0 ∷ []; limits = 4 ∷ []; parents = 0 ∷ []; highest = 0 ∷ [] }

-- slot 1 has a design under 4,000,000,000
abbrev high : Disk
high = record { records = 0 ∷ 0 ∷ 0 ∷ 0 ∷ 0 ∷ 0 ∷ 0 ∷ 0 ∷ []; numbers = 5 ∷ 4000000000 ∷ []; accounts = 0 ∷ 0 ∷ []; maps = 0 ∷ 0 ∷ 0 ∷ 0 ∷ 0 ∷ 0 ∷ []; limits = 4 ∷ []; parents = 0 ∷ []; highest = 0 ∷ [] }

-- both slots have that number: no pack that keeps the disk rules
abbrev twin : Disk
twin = record { records = 0 ∷ 0 ∷ 0 ∷ 0 ∷ 0 ∷ 0 ∷ 0 ∷ 0 ∷ []; numbers = 4000000000 ∷ 4000000000 ∷ []; accounts = 0 ∷ 0 ∷ []; maps = 0 ∷ 0 ∷ 0 ∷ 0 ∷ 0 ∷ 0 ∷ []; limits = 4 ∷ []; parents = 0 ∷ []; highest = 0 ∷ [] }

-- the highest number after a list from a pack, and the last answer and result
unfoldable kept : Disk → List Act → List ℕ
unfolding Packs.from
kept pack acts = (run small (Packs.from pack) acts).state.disk.highest

unfoldable told : Disk → List Act → List ℕ
unfolding Packs.from says_from
told pack acts = says_from small (Packs.from pack) acts

-- ── worlds: the highest number is lost in the midst of a list, as with a keeper that does not store it; then the list goes on ──
abbrev forgets : World → World
forgets w = on_state (on_disk (raise 0)) w

-- whether all designs have numbers of their own
unfoldable apart : List Act → List Act → Bool
unfolding right begin
apart acts more = test (one_number (run small (forgets (run small (begin small) acts)) more))

unfoldable apart_from : Disk → List Act → List Act → Bool
unfolding right Packs.from
apart_from pack acts more = test (one_number (run small (forgets (run small (Packs.from pack) acts)) more))

-- two designs, page 0 of the first written, stored and listed; then their numbers stand in each other's slots: the claim by birth, and that by the number
abbrev exchanged : World → World
exchanged w = on_state (on_disk (set_numbers (8 ∷ 7 ∷ []))) w

unfoldable claims : World → List Bool
unfolding right_formatted begin
claims w = test (demand3 small w) ∷ test (demand3_by_number small w) ∷ []

unfoldable woven : World
unfolding begin
woven = run small (begin small) (opened ++ create 0 0 7 ∷ create 1 0 8 ∷ activate 0 ∷ fault 0 0 ∷ write 0 0 1 9 ∷ claim ∷ page_done 0 1 ∷ update 0 ∷ map_done 0 1 ∷ [])

pub record OneNumberEdges : Type 0 where
  -- a number above the highest is taken, the highest itself and those below are not, in a slot or not
  above : says small (opened ++ create 0 0 7 ∷ create 1 0 8 ∷ []) ≡ 0 ∷ 0 ∷ []
  below : says small (opened ++ create 0 0 7 ∷ create 1 0 6 ∷ []) ≡ 33 ∷ 0 ∷ []
  again : says small (opened ++ create 0 0 7 ∷ delete 0 ∷ create 0 0 7 ∷ []) ≡ 33 ∷ 0 ∷ []
  import_above : says small (opened ++ create 0 0 7 ∷ import 1 8 bare ∷ []) ≡ 0 ∷ 9 ∷ []
  import_below : says small (opened ++ create 0 0 7 ∷ import 1 6 bare ∷ []) ≡ 33 ∷ 0 ∷ []
  import_again : says small (opened ++ import 0 7 bare ∷ delete 0 ∷ import 0 7 bare ∷ []) ≡ 33 ∷ 0 ∷ []
  -- just after 6, before 29 and 18
  known_first : says small (opened ++ create 0 0 7 ∷ create 1 0 7 ∷ []) ≡ 6 ∷ 0 ∷ []
  before_form : says small (opened ++ create 0 0 7 ∷ import 1 6 [] ∷ []) ≡ 33 ∷ 0 ∷ []
  before_limit : says small (restart ∷ create 0 0 7 ∷ import 1 6 sheet ∷ []) ≡ 33 ∷ 0 ∷ []
  -- the highest: 0 as formatted; what create and import store; a delete leaves it, and so does a call that is refused
  formatted : (leaves small []).disk.highest ≡ 0 ∷ []
  created : (leaves small (opened ++ create 0 0 7 ∷ [])).disk.highest ≡ 7 ∷ []
  imported : (leaves small (opened ++ import 0 7 sheet ∷ [])).disk.highest ≡ 7 ∷ []
  deleted : (leaves small (opened ++ create 0 0 7 ∷ delete 0 ∷ cut [] [] ∷ restart ∷ [])).disk.highest ≡ 7 ∷ []
  refused : (leaves small (opened ++ create 0 0 7 ∷ create 0 0 9 ∷ import 1 9 [] ∷ [])).disk.highest ≡ 7 ∷ []
  -- a cut between create's two stores, and after each of import's but the last, only skips the number
  between : (leaves small (opened ++ cut_in (create 0 0 7) 1 [] [] ∷ [])).disk.highest ≡ 7 ∷ []
  between_slot : (leaves small (opened ++ cut_in (create 0 0 7) 1 [] [] ∷ [])).disk.numbers ≡ 0 ∷ 0 ∷ []
  skipped : says small (opened ++ cut_in (create 0 0 7) 1 [] [] ∷ restart ∷ create 0 0 7 ∷ []) ≡ 33 ∷ 0 ∷ []
  next : T (holds (opened ++ cut_in (create 0 0 7) 1 [] [] ∷ restart ∷ create 0 0 8 ∷ []))
  before : says small (opened ++ cut_in (create 0 0 7) 0 [] [] ∷ restart ∷ create 0 0 7 ∷ []) ≡ 0 ∷ 0 ∷ []
  import_first : (leaves small (opened ++ cut_in (import 0 7 sheet) 1 [] [] ∷ [])).disk.highest ≡ 7 ∷ []
  import_before : (leaves small (opened ++ cut_in (import 0 7 sheet) 0 [] [] ∷ [])).disk.highest ≡ 0 ∷ []
  import_records : (leaves small (opened ++ cut_in (import 0 7 sheet) 1 [] [] ∷ [])).disk.records ≡ 0 ∷ 0 ∷ 0 ∷ 0 ∷ 0 ∷ 0 ∷ 0 ∷ 0 ∷ []
  import_skipped : says small (opened ++ cut_in (import 0 7 sheet) 1 [] [] ∷ restart ∷ import 0 7 sheet ∷ []) ≡ 33 ∷ 0 ∷ []
  -- an older pack: a restart stores the highest number in a slot, once it is accepted; the designs go, their numbers do not come again
  older_raised : kept older (restart ∷ []) ≡ 8 ∷ []
  older_before : kept older [] ≡ 0 ∷ []
  older_again : told older (restart ∷ delete 1 ∷ create 1 0 8 ∷ []) ≡ 33 ∷ 0 ∷ []
  older_below : told older (restart ∷ delete 1 ∷ create 1 0 7 ∷ []) ≡ 33 ∷ 0 ∷ []
  older_next : T (Packs.holds older (restart ∷ delete 1 ∷ cut [] [] ∷ restart ∷ create 1 0 9 ∷ []))
  -- a number of 2,147,483,648 or more in a slot does not count: or else every create would be refused from then on
  high_raised : kept high (restart ∷ []) ≡ 5 ∷ []
  high_next : T (Packs.holds high (restart ∷ delete 1 ∷ create 1 0 6 ∷ []))
  high_counted : says_from small (on_state (on_disk (raise 4000000000)) (run small (Packs.from high) (restart ∷ delete 1 ∷ []))) (create 1 0 2147483647 ∷ []) ≡ 33 ∷ 0 ∷ []
  -- worlds in which a number is given twice: after a delete; after a cut inside an import, between its stores; after a restart of an older pack that does not look at the slots
  twice_deleted : apart (opened ++ create 0 0 7 ∷ delete 0 ∷ []) (create 0 0 7 ∷ []) ≡ false
  twice_cut : apart (opened ++ cut_in (import 0 7 sheet) 2 [] [] ∷ restart ∷ []) (import 0 7 sheet ∷ []) ≡ false
  twice_older : apart_from older (restart ∷ delete 1 ∷ []) (create 1 0 8 ∷ []) ≡ false
  -- .. and in a pack, whatever the number
  twice_in_pack : apart_from twin [] [] ≡ false
  once_in_pack : apart_from high [] [] ≡ true
  -- .. and the same lists with another number
  once_deleted : apart (opened ++ create 0 0 7 ∷ delete 0 ∷ []) (create 0 0 8 ∷ []) ≡ true
  once_cut : apart (opened ++ cut_in (import 0 7 sheet) 2 [] [] ∷ restart ∷ []) (import 0 8 sheet ∷ []) ≡ true
  once_older : apart_from older (restart ∷ delete 1 ∷ []) (create 1 0 9 ∷ []) ≡ true
  -- the numbers exchanged: only the claim by the number denies it, also after a cut and a restart
  numbers_right : claims woven ≡ true ∷ true ∷ []
  numbers_exchanged : claims (exchanged woven) ≡ true ∷ false ∷ []
  exchanged_cut : claims (run small (exchanged woven) (cut [] [] ∷ restart ∷ [])) ≡ true ∷ false ∷ []

pub one_number_edges : OneNumberEdges
unfolding says says_from leaves kept told holds Packs.holds Packs.from apart apart_from claims woven
one_number_edges = record {
  above = refl;
  below = refl;
  again = refl;
  import_above = refl;
  import_below = refl;
  import_again = refl;
  known_first = refl;
  before_form = refl;
  before_limit = refl;
  formatted = refl;
  created = refl;
  imported = refl;
  deleted = refl;
  refused = refl;
  between = refl;
  between_slot = refl;
  skipped = refl;
  next = tt;
  before = refl;
  import_first = refl;
  import_before = refl;
  import_records = refl;
  import_skipped = refl;
  older_raised = refl;
  older_before = refl;
  older_again = refl;
  older_below = refl;
  older_next = tt;
  high_raised = refl;
  high_next = tt;
  high_counted = refl;
  twice_deleted = refl;
  twice_cut = refl;
  twice_older = refl;
  twice_in_pack = refl;
  once_in_pack = refl;
  once_deleted = refl;
  once_cut = refl;
  once_older = refl;
  numbers_right = refl;
  numbers_exchanged = refl;
  exchanged_cut = refl;
}
