-- The claim computed after every act of pairs of lists with cuts: a wrong claim or a wrong event shows here before anything is proved.
use Rattle.std.specs.Prelude.{◌≡◌, refl, Bool, true, false, ◌&&◌, List, [], ◌∷◌, ◌++◌, ℕ, ◌*◌, T, eqb, replicate}
use Rattle.std.proofs.Common.{arith}
use Rattle.tables.specs.Base.{if}
use Rattle.tables.specs.Rule.{test}
use Rattle.model.specs.declared.frame.Frame.{Frame}
use Rattle.model.specs.declared.event.Design.TheVariants.{Create}
use Rattle.model.specs.declared.event.Event.TheVariants as Event
use Rattle.model.specs.State.{Disk, Memory, all_pages, map_words, LINE}
use Rattle.model.specs.Step
use Rattle.model.specs.Export.{export}
use Rattle.model.specs.Demand3.{last_into}
use Rattle.model.specs.Restart.{formatted}
use Rattle.model.specs.Stores as S
use Rattle.model.specs.Acts.{Act, event, looking, importing, exporting, restarting, cutting, cutting_in, World, act, legal, run, start}
use Rattle.edges.specs.Lists.{limit, create, delete, activate, deactivate, fault, read, write, claim, truncate, update, page_done, map_done, join, turn, look, restart, small, among, junk, said}
use Rattle.edges.specs.Sheets.{sheet, import}
use Rattle.isolation.specs.Twins.{both, written, cut, cut_in, Twins}
use Rattle.isolation.specs.Answers.{answered, results}
use Rattle.isolation.specs.Shown.{listed_like, imaged_like, live_like, frames_like, copies_like, places_like, written_like, untouched_like, words_like}

-- ── the tables, listed ──
abbrev switches : List Frame → List ℕ
switches [] = []
switches (g ∷ gs) = g.page ∷ g.used ∷ g.modified ∷ g.wired ∷ g.initial ∷ g.transfer ∷ switches gs

abbrev pub disk_tables : Disk → List ℕ
disk_tables d = d.numbers ++ d.accounts ++ d.maps ++ d.limits ++ d.parents ++ d.highest

abbrev pub memory_tables : Memory → List ℕ
memory_tables m = switches m.core.frames ++ m.core.free_queue ++ m.core.removal_list ++ m.held.addresses ++ m.held.states ++ m.held.owners ++ m.held.free_map
    ++ m.held.pool.hand ∷ m.held.pool.free ∷ m.slots.active ++ m.slots.updating ++ m.slots.images ++ m.chip.copies ++ m.chip.next ++ m.line ++ m.used

abbrev pub same : List ℕ → List ℕ → Bool
same [] [] = true
same [] (y ∷ ys) = false
same (x ∷ xs) [] = false
same (x ∷ xs) (y ∷ ys) = eqb x y && same xs ys

-- ── the claim, computed ──
unfoldable alike : ℕ → World → World → Bool
unfolding said last_into listed_like imaged_like live_like frames_like copies_like places_like written_like untouched_like words_like
alike hidden w w' = same (disk_tables w.state.disk) (disk_tables w'.state.disk) && once_up w.up && test (words_like small hidden w w')
  where
    once_up : Bool → Bool
    once_up true = same (memory_tables w.state.memory) (memory_tables w'.state.memory)
    once_up false = true

-- what looks and exports of other designs hand back
unfoldable handed_alike : ℕ → World → World → Act → Bool
unfolding said
handed_alike hidden w w' (event e) = true
handed_alike hidden w w' (looking s p) = if (eqb (w.ledger.design s) hidden) true (same (Step.look small w.state s p).left (Step.look small w'.state s p).left)
handed_alike hidden w w' (importing s q n b) = true
handed_alike hidden w w' (exporting s buffer) = if (eqb (w.ledger.design s) hidden) true (same (export small w.state s buffer).left (export small w'.state s buffer).left)
handed_alike hidden w w' restarting = true
handed_alike hidden w w' (cutting writes updates m) = true
handed_alike hidden w w' (cutting_in c k writes updates m) = true

unfoldable said_alike : ℕ → World → World → Act → Act → Bool
unfolding said handed_alike
said_alike hidden w w' a b = let x = answered small w a in let y = answered small w' b in
    eqb x.refusal y.refusal && test (results hidden w.ledger.design a x.result y.result) && handed_alike hidden w w' a

-- at each act of two lists
unfoldable along : ℕ → World → World → List Act → List Act → Bool
unfolding alike said_alike
along hidden w w' [] [] = alike hidden w w'
along hidden w w' [] (b ∷ bs) = false
along hidden w w' (a ∷ acts) [] = false
along hidden w w' (a ∷ acts) (b ∷ bs) = let rest = along hidden (act small w a) (act small w' b) acts bs in alike hidden w w' && said_alike hidden w w' a b && rest

-- the refusals of a list, and that there is none
unfoldable refusals : World → List Act → List ℕ
unfolding said
refusals w [] = []
refusals w (a ∷ acts) = (answered small w a).refusal ∷ refusals (act small w a) acts

unfoldable carried_out : World → List Act → Bool
unfolding refusals
carried_out w acts = all (refusals w acts)
  where
    all : List ℕ → Bool
    all [] = true
    all (n ∷ ns) = eqb n 0 && all ns

-- ── the boards ──
-- other junk than that of Lists
unfoldable pub rubbish : Memory
rubbish = record {
  core = record {
    frames = replicate small.frames (record { page = 3; used = 1; modified = 0; wired = 0; initial = 1; transfer = 1 });
    words = replicate (small.frames * small.words) 8;
    free_queue = replicate small.frames 2;
    removal_list = replicate small.frames 0;
  };
  held = record {
    addresses = replicate (all_pages small) 2;
    states = replicate small.records 4;
    owners = replicate small.records 0;
    free_map = replicate (map_words small) 5;
    pool = record { hand = 2; free = 1 };
  };
  slots = record { active = replicate small.slots 0; updating = replicate small.slots 1; images = replicate (all_pages small) 1 };
  chip = record { words = replicate (small.chip * small.words) 7; copies = replicate small.chip 2; next = replicate 1 3 };
  line = replicate LINE 1;
  used = replicate small.accounts 3;
}

-- what a list of acts depends on: what memory holds after a cut, and the values written into the hidden design
abbrev pub Board : Type 0
Board = record { memory : Memory; value : ℕ → ℕ }

abbrev pub first : Board
first = record { memory = junk small; value = λ n. n * 9 }

abbrev pub second : Board
second = record { memory = rubbish; value = λ n. n * 4 }

unfoldable pub fresh : Board → World
unfolding said
fresh b = start small (formatted small (0 ∷ [])) b.memory

-- a cut, and one inside an import or a create for account 0, after so many of its stores
abbrev pub cut_at : Board → List ℕ → List ℕ → Act
cut_at b fs ss = cutting (among fs) (among ss) b.memory

abbrev import_cut : Board → ℕ → ℕ → ℕ → List ℕ → List ℕ → Act
import_cut b s n k fs ss = cutting_in (S.importing s 0 n sheet) k (among fs) (among ss) b.memory

abbrev create_cut : Board → ℕ → ℕ → ℕ → List ℕ → List ℕ → Act
create_cut b s n k fs ss = cutting_in (S.event (Event.Design (Create s 0 n))) k (among fs) (among ss) b.memory

abbrev pub export_to : ℕ → ℕ → Act
export_to s room = exporting s (replicate room 7)

-- ── the lists ──
-- the list is legal on both boards and the claim holds after each act; the hidden design is the first one
unfoldable stands : (Board → List Act) → Bool
unfolding said fresh along rubbish
stands acts = legal small (fresh first) (acts first) && legal small (fresh second) (acts second) && along 1 (fresh first) (fresh second) (acts first) (acts second)

-- .. and no act of it is refused
unfoldable holds : (Board → List Act) → Bool
unfolding stands carried_out
holds acts = stands acts && carried_out (fresh first) (acts first)

-- two active designs: the hidden one in slot 0, another in slot 1
abbrev pub opened : List Act
opened = restart ∷ limit 0 4 ∷ create 0 0 7 ∷ create 1 0 8 ∷ activate 0 ∷ activate 1 ∷ []

-- a page of each is put on the disk and listed
abbrev pub put : Board → List Act
put b = fault 0 0 ∷ write 0 0 0 (b.value 1) ∷ write 0 0 1 (b.value 0) ∷ fault 1 0 ∷ write 1 0 1 6 ∷ claim ∷ claim ∷ page_done 0 1 ∷ page_done 1 1 ∷ update 0 ∷ update 1 ∷ map_done 0 1 ∷ map_done 1 1 ∷ []

-- pages of both are brought in, from the chip, and from the disk; they are read
abbrev found : List Act
found = fault 0 0 ∷ fault 1 0 ∷ []

abbrev fetched : List Act
fetched = fault 0 0 ∷ fault 1 0 ∷ page_done 0 1 ∷ page_done 1 1 ∷ []

abbrev read_both : List Act
read_both = read 0 0 0 ∷ read 0 0 1 ∷ look 0 0 ∷ look 1 0 ∷ read 1 0 1 ∷ []

-- the hidden design has a page on the disk and is inactive
abbrev rested : Board → List Act
rested b = opened ++ put b ++ deactivate 0 ∷ []

abbrev asks : Board → List Act
asks b = export_to 0 29 ∷ export_to 0 30 ∷ delete 0 ∷ read 0 0 2 ∷ write 0 0 0 (b.value 5) ∷ import 1 9 sheet ∷ restart ∷ []

pub record Pairs : Type 0 where
  -- written, stored, read again; a cut at which an open write of each lands, and restarts
  woven : T (holds λ b. opened ++ put b ++ found ++ read_both ++ write 0 0 1 (b.value 3) ∷ write 1 0 0 5 ∷ claim ∷ claim ∷ cut_at b (0 ∷ 1 ∷ []) [] ∷ restart ∷ activate 0 ∷ activate 1 ∷ fetched ++ read_both)
  -- the hidden design's page is truncated, its record freed, and the other design takes it, reads zeros and writes; frames change hands, one read fails
  handed_on : T (holds λ b. opened ++ put b ++ deactivate 1 ∷ activate 1 ∷ fault 0 0 ∷ truncate 0 0 ∷ update 0 ∷ map_done 0 1 ∷ fault 1 1 ∷ read 1 1 0 ∷ look 1 1 ∷ fault 1 0 ∷ page_done 0 0 ∷ fault 1 0 ∷ page_done 0 1 ∷ write 1 1 0 2
      ∷ claim ∷ claim ∷ page_done 1 1 ∷ update 1 ∷ cut_at b [] (1 ∷ []) ∷ cut_at b (0 ∷ []) (0 ∷ []) ∷ restart ∷ activate 1 ∷ fault 1 1 ∷ page_done 0 1 ∷ read 1 1 0 ∷ [])
  -- a listed page of the hidden design is written to zeros on both boards and claimed; at the cut the old words come back
  zeros : T (holds λ b. opened ++ put b ++ fault 0 0 ∷ write 0 0 0 (b.value 0) ∷ claim ∷ fault 1 1 ∷ write 1 1 1 3 ∷ claim ∷ update 0 ∷ page_done 1 1 ∷ cut_at b [] [] ∷ restart ∷ activate 0 ∷ fault 0 0 ∷ page_done 0 1
      ∷ read 0 0 0 ∷ [])
  -- the hidden design ends and its slot is taken again: what is written there now is the same on both boards
  ended : T (holds λ b. opened ++ put b ++ truncate 0 0 ∷ update 0 ∷ map_done 0 1 ∷ deactivate 0 ∷ delete 0 ∷ create 0 0 9 ∷ activate 0 ∷ fault 0 0 ∷ read 0 0 0 ∷ write 0 0 1 5 ∷ claim ∷ page_done 0 1 ∷ update 0 ∷ cut_at b [] (0 ∷ []) ∷ restart ∷ [])
  -- the waiting line: turns fault, claim and serve
  waited : T (holds λ b. opened ++ put b ++ deactivate 1 ∷ activate 1 ∷ join 0 0 ∷ join 1 0 ∷ join 1 1 ∷ turn ∷ turn ∷ write 0 0 1 (b.value 2) ∷ turn ∷ page_done 1 1 ∷ turn ∷ turn ∷ turn ∷ [])
  -- the chip: the hidden design's copy is taken, and replaced; another page of the other design takes its place, and it is read and goes in at the other one's
  copied : T (holds λ b. opened ++ put b ++ fault 0 0 ∷ read 0 0 0 ∷ write 0 0 1 (b.value 3) ∷ claim ∷ page_done 0 1 ∷ fault 0 0 ∷ read 0 0 1 ∷ claim ∷ fault 1 1 ∷ write 1 1 0 5 ∷ claim ∷ page_done 0 1 ∷ fault 1 1 ∷ look 1 1
      ∷ claim ∷ fault 0 0 ∷ page_done 0 1 ∷ read 0 0 1 ∷ claim ∷ fault 1 0 ∷ page_done 1 1 ∷ read 1 0 1 ∷ truncate 0 0 ∷ [])
  -- the hidden design comes by a sheet and is woven further; both designs are exported
  imported : T (holds λ b. restart ∷ limit 0 4 ∷ import 0 7 sheet ∷ create 1 0 8 ∷ export_to 0 43 ∷ activate 0 ∷ activate 1 ∷ fault 0 0 ∷ page_done 0 1 ∷ write 0 0 0 (b.value 1) ∷ fault 1 0 ∷ write 1 0 0 6 ∷ claim ∷ claim
      ∷ page_done 0 1 ∷ page_done 1 1 ∷ update 0 ∷ update 1 ∷ map_done 0 1 ∷ map_done 1 1 ∷ deactivate 0 ∷ deactivate 1 ∷ export_to 0 50 ∷ export_to 1 50 ∷ cut_at b [] [] ∷ restart ∷ export_to 0 43 ∷ export_to 1 30 ∷ [])
  -- beside it another design comes by a sheet; cuts inside the import, after each of its stores, at which the hidden design's write lands, and does not
  cut_inside_holds : T (holds λ b. restart ∷ limit 0 4 ∷ create 0 0 7 ∷ activate 0 ∷ fault 0 0 ∷ write 0 0 0 (b.value 1) ∷ claim ∷ update 0 ∷ import_cut b 1 8 2 (0 ∷ []) (0 ∷ []) ∷ restart ∷ activate 0 ∷ fault 0 0 ∷ write 0 0 0 (b.value 2)
      ∷ claim ∷ import_cut b 1 9 3 [] [] ∷ restart ∷ import_cut b 1 10 0 [] [] ∷ restart ∷ import_cut b 1 10 1 [] [] ∷ restart ∷ import 1 11 sheet ∷ export_to 1 43 ∷ activate 1 ∷ fault 1 2 ∷ page_done 0 1 ∷ read 1 2 1 ∷ [])
  -- a cut between the two stores of a create
  half_created : T (holds λ b. restart ∷ limit 0 4 ∷ create 0 0 7 ∷ activate 0 ∷ fault 0 0 ∷ write 0 0 0 (b.value 1) ∷ claim ∷ update 0 ∷ create_cut b 1 8 1 (0 ∷ []) [] ∷ restart ∷ create 1 0 9 ∷ activate 1 ∷ [])
  -- refused alike: the hidden design's export into too short a buffer, its delete, a read of no word, a write while it is inactive, an import into a filled slot
  refused : T (stands λ b. rested b ++ asks b)
  refused_by : refusals (run small (fresh second) (rested second)) (asks second) ≡ 31 ∷ 0 ∷ 7 ∷ 3 ∷ 8 ∷ 5 ∷ 0 ∷ []

pub pairs : Pairs
unfolding holds stands refusals
pairs = record {
  woven = tt;
  handed_on = tt;
  zeros = tt;
  ended = tt;
  waited = tt;
  copied = tt;
  imported = tt;
  cut_inside_holds = tt;
  half_created = tt;
  refused = tt;
  refused_by = refl;
}

-- ── such lists are twins: the theorem speaks of them ──
abbrev pub short : Board → List Act
short b = restart ∷ limit 0 4 ∷ create 0 0 7 ∷ activate 0 ∷ fault 0 0 ∷ write 0 0 0 (b.value 1) ∷ write 0 0 1 (b.value 0) ∷ claim ∷ import_cut b 1 8 1 (0 ∷ []) [] ∷ restart ∷ cut_at b [] [] ∷ []

pub twins : Twins small 1 (fresh first) (short first) (short second)
unfolding said fresh rubbish
twins = (
  both _,
  (both _, (both _, (both _, (both _, (written 0 0 0 9 4 refl (λ e. absurd (omega (arith, e))) (λ e. absurd (omega (arith, e))), (both _, (both _, (cut_in (S.importing 1 0 8 sheet) 1 (among (0 ∷ [])) (among []) (junk small) rubbish, (both _, (cut (among []) (among []) (junk small) rubbish, tt)))))))))),
)
