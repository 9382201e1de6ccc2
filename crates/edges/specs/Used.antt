-- The statements put to use: their premises hold of real lists and states, and they say there what the paper says. A statement that asks more, or says less, does not pass here.
use Rattle.std.specs.Prelude.{◌≡◌, refl, ◌⊎◌, List, [], ◌∷◌, ◌++◌, ℕ, suc, ◌%◌, ◌<◌, ◌≤◌, T}
use Rattle.std.proofs.Common.{arith}
use Rattle.tables.specs.Base.{at}
use Rattle.tables.specs.Rule.{Holds, sound}
use Rattle.sheets.specs.Sheet.{text_in}
use Rattle.model.specs.declared.sizes.Sizes.{Sizes}
use Rattle.model.specs.declared.event.Waiting.TheVariants.{Turn}
use Rattle.model.specs.declared.event.Event.TheVariants as Event
use Rattle.model.specs.Lines.{FREE, NULLED}
use Rattle.model.specs.Sizes.{sizes_fit}
use Rattle.model.specs.State.{Disk, Memory, State, files, frames, slot_of, page_of}
use Rattle.model.specs.Rules.{lower, disk_rules}
use Rattle.model.specs.Restart.{formatted}
use Rattle.model.specs.Parts.{word_at, by_hand, neighbour}
use Rattle.model.specs.Step.{step, disk_lengths, memory_lengths}
use Rattle.model.specs.Acts.{Act, World, legal, run, start}
use Rattle.model.specs.Demand3.{After, demand3, Demand3}
use Rattle.model.specs.FromPack.{from_pack, FromPack, listed_live, ListedLive}
use Rattle.model.specs.OneNumber.{one_number, demand3_by_number, from_pack_by_number, OneNumber, OneNumberFormatted}
use Rattle.model.specs.Ledger as Ledger
use Rattle.model.specs.Carried.{Board, all_spare, StaysImported}
use Rattle.model.specs.Turns.{Deed, turn, page_done, map_done, after, Gone, Left, NoneRefused}
use Rattle.model.specs.Terms.{apart, Nearest, Takes, Untouched}
use Rattle.edges.specs.Lists.{restart, create, deactivate, wire, join, turn as turnAct, cut, cut_in, sized, small, junk, said, begin, leaves}
use Rattle.edges.specs.Edges.{opened}
use Rattle.edges.specs.Worlds.{written}
use Rattle.edges.specs.Sheets as Sheets
use Rattle.edges.specs.Packs as Packs

-- ── demand 3 ──
-- a list that ends with a cut, with a refused event and a turn in it
abbrev ended : List Act
ended = written ++ deactivate 1 ∷ turnAct ∷ cut [] [] ∷ []

pub from_format : Demand3 → After (demand3 small (run small (begin small) ended)) small (run small (begin small) ended)
unfolding said begin
from_format d = d small (0 ∷ []) (junk small) ended (sound (sizes_fit small) tt) (sound (lower small.accounts (at (0 ∷ []))) tt) (sound (memory_lengths small (junk small)) tt) tt

abbrev packed : List Act
packed = restart ∷ cut [] [] ∷ []

pub from_pack_holds : FromPack → (let w = run small (Packs.from Packs.one) packed in (w.ledger.pack ≡ Packs.one) × After (from_pack small w) small w)
unfolding said Packs.from
from_pack_holds d = d small Packs.one (junk small) packed (sound (sizes_fit small) tt) (sound (disk_lengths small Packs.one) tt) (sound (memory_lengths small (junk small)) tt) (sound (disk_rules small (record { disk = Packs.one; memory = junk small })) tt) tt

-- the ledger keeps the pack, whichever it is
pub pack_kept : FromPack → (z : Sizes) (pack : Disk) (junk : Memory) (acts : List Act) → Holds (sizes_fit z) → Holds (disk_lengths z pack) → Holds (memory_lengths z junk) → Holds (disk_rules z (record { disk = pack; memory = junk }))
    → T (legal z (start z pack junk) acts) → (run z (start z pack junk) acts).ledger.pack ≡ pack
pack_kept d z pack junk acts s l m r t = (d z pack junk acts s l m r t).0

pub from_pack_live : ListedLive → Holds (listed_live small (run small (Packs.from Packs.one) packed))
unfolding said Packs.from
from_pack_live d = d small Packs.one (junk small) packed (sound (sizes_fit small) tt) (sound (disk_lengths small Packs.one) tt) (sound (memory_lengths small (junk small)) tt) (sound (disk_rules small (record { disk = Packs.one; memory = junk small })) tt) tt

-- ── one number, one design ──
-- beside the pack's design 8 an import under 9 is cut, 10 is created, and the list ends with a cut
abbrev numbered : List Act
numbered = restart ∷ cut_in (Sheets.import 0 9 Sheets.sheet) 2 [] [] ∷ restart ∷ create 0 0 10 ∷ cut [] [] ∷ []

abbrev pub numbered_world : World
numbered_world = run small (Packs.from Packs.one) numbered

pub from_pack_number : OneNumber → Holds (one_number numbered_world) × Holds (from_pack_by_number small numbered_world)
unfolding said Packs.from
from_pack_number d = d small Packs.one (junk small) numbered (sound (sizes_fit small) tt) (sound (disk_lengths small Packs.one) tt) (sound (memory_lengths small (junk small)) tt) (sound (disk_rules small (record { disk = Packs.one; memory = junk small })) tt) tt

-- its three births, the pack's, the import's and the create's, have three numbers
pub three_numbers : OneNumber → ¬ (numbered_world.ledger.number 1 ≡ numbered_world.ledger.number 2) × (¬ (numbered_world.ledger.number 1 ≡ numbered_world.ledger.number 3) × ¬ (numbered_world.ledger.number 2 ≡ numbered_world.ledger.number 3))
unfolding said Packs.from one_number
three_numbers d = let h = (from_pack_number d).0 in
    (λ e. omega (arith, h 0 (omega arith) 1 (omega arith) e), (λ e. omega (arith, h 0 (omega arith) 2 (omega arith) e), λ e. omega (arith, h 1 (omega arith) 2 (omega arith) e)))

pub from_format_number : OneNumberFormatted → (let w = run small (begin small) ended in Holds (one_number w) × Holds (demand3_by_number small w))
unfolding said begin
from_format_number d = d small (0 ∷ []) (junk small) ended (sound (sizes_fit small) tt) (sound (lower small.accounts (at (0 ∷ []))) tt) (sound (memory_lengths small (junk small)) tt) tt

-- ── an imported page ──
-- just after a cut the disk has the sheet's words for it: word 1 of page 2 is 70,000
abbrev boarded : Disk
boarded = formatted small (0 ∷ [])

unfoldable board : Board small
unfolding said
board = record {
  pack = boarded;
  junk = junk small;
  sizes = sound (sizes_fit small) tt;
  lengths = sound (disk_lengths small boarded) tt;
  memory = sound (memory_lengths small (junk small)) tt;
  rules = sound (disk_rules small (record { disk = boarded; memory = junk small })) tt;
}

abbrev dark : List Act
dark = cut [] [] ∷ []

pub stays_cut : StaysImported → Ledger.found small (run small (begin small) (Sheets.opened ++ Sheets.import 0 7 Sheets.sheet ∷ dark)).state.disk (page_of small 0 2) 1 ≡ 70000
unfolding said begin board text_in
stays_cut d = (d small board Sheets.opened dark 0 0 7 Sheets.sheet tt refl 2 (omega arith) (sound (all_spare small (page_of small 0 2) dark) tt)).stored 1 (omega arith)

-- ── the bound on waiting ──
-- the first two of three pages have left, in this order, each served or sent away
pub left_pages : (g h : Gone) → Left 2 (5 ∷ 7 ∷ 9 ∷ []) (g ∷ h ∷ []) → (g.page ≡ 5) × (h.page ≡ 7)
left_pages g h (first, (how, (second, rest))) = (first, second)

pub left_results : (g h : Gone) → Left 2 (5 ∷ 7 ∷ 9 ∷ []) (g ∷ h ∷ []) → ((g.result ≡ 1) ⊎ (2 < g.result)) × ((h.result ≡ 1) ⊎ (2 < h.result))
left_results g h (first, (how, (second, (too, rest)))) = (how, too)

pub left_none : ¬ (Left 1 [] [])
left_none none = none

pub left_all : (g : Gone) → ¬ (Left 2 (5 ∷ 7 ∷ 9 ∷ []) (g ∷ []))
left_all g (first, (how, none)) = none

-- a turn that is refused is told: every frame is wired, and a page waits
abbrev narrow : Sizes
narrow = sized 4 1

abbrev wired : State
wired = leaves narrow (opened 2 ++ wire 0 0 ∷ join 0 1 ∷ [])

pub refused_told : ¬ (NoneRefused narrow wired (turn ∷ []))
unfolding leaves said
refused_told n = let e : (step narrow wired (Event.Waiting Turn)).answer.refusal ≡ 0 = n.0 in omega (arith, e)

-- .. also after done reports, whichever
pub refused_later : (z : Sizes) (st : State) (f s : ℕ) → NoneRefused z st (page_done f ∷ map_done s ∷ turn ∷ []) → (step z (after z (after z st (page_done f)) (map_done s)) (Event.Waiting Turn)).answer.refusal ≡ 0
refused_later z st f s n = n.0

-- ── a frame in transfer ──
pub untouched_says : (z : Sizes) (st st' : State) (f : ℕ) → Untouched z st st' f
    → ((w : ℕ) → w < z.words → word_at z st'.memory.core.words f w ≡ word_at z st.memory.core.words f w) × ((((frames st').frame f).page ≡ ((frames st).frame f).page) × (((frames st').frame f).transfer ≡ ((frames st).frame f).transfer))
untouched_says z st st' f u = (u.words, (u.page, u.transfer))

-- ── the choice of a record ──
-- of records 1 and 3 that are free, 1 is nearest to record 2: it is as near, and lower
abbrev ends : ℕ → ℕ
ends r = at (5 ∷ 0 ∷ 5 ∷ 0 ∷ []) r

pub nearest_lower : ¬ (Nearest small ends 2 3)
nearest_lower n = let l : 3 ≤ 1 = n.none_lower 1 (omega arith) refl refl in omega (arith, l)

pub nearest_nearer : ¬ (Nearest small ends 3 1)
nearest_nearer n = let l : apart 3 1 ≤ apart 3 3 = n.none_nearer 3 (omega arith) refl in omega (arith, l)

pub nearest_free : ¬ (Nearest small ends 2 2)
nearest_free n = let e : ends 2 ≡ FREE = n.free in omega (arith, e)

pub takes_says : (z : Sizes) (st : State) (i q : ℕ) (st' : State) → Takes z st i q st'
    → (((files st).state q ≡ FREE) × (((r : ℕ) → neighbour z (files st).address i ≡ suc r → Nearest z (files st).state r q) × (neighbour z (files st).address i ≡ 0 → q ≡ by_hand z (files st).state st.memory.held.pool.hand)))
    × (((files st').address i ≡ suc q) × (((files st').state q ≡ NULLED) × (((files st').owner q ≡ slot_of z i) × (st'.memory.held.pool.hand ≡ suc q % z.records))))
takes_says z st i q st' t = ((t.was_free, (t.near, t.by_hand_holds)), (t.address, (t.nulled, (t.owner, t.hand))))
