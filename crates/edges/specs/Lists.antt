-- Lists of acts that are computed: short names, the sizes of the event program, and what a list answers and leaves.
use Rattle.std.specs.Prelude.{Bool, false, ◌||◌, List, [], ◌∷◌, ◌++◌, ℕ, ◌*◌, eqb, replicate}
use Rattle.tables.specs.Base.{all, any, count, find, those, tab}
use Rattle.tables.specs.Bits.{bits}
use Rattle.tables.specs.Queue.{members, packed, times, without, tail, head, push_back, push_front, pop, remove, size, first}
use Rattle.tables.specs.Questions.{first_no}
use Rattle.tables.specs.Rule.{test}
use Rattle.tables.specs.Store.{choose, store}
use Rattle.model.specs.declared.sizes.Sizes.{Sizes}
use Rattle.model.specs.declared.event.Design.TheVariants.{Create, Delete, Activate, Deactivate}
use Rattle.model.specs.declared.event.Account.TheVariants.{Limit, Move}
use Rattle.model.specs.declared.event.Page.TheVariants.{Fault, Read, Write, Wire, Unwire}
use Rattle.model.specs.declared.event.Writeback.TheVariants.{Claim, Truncate, Update, PageDone, MapDone}
use Rattle.model.specs.declared.event.Waiting.TheVariants.{Join, Turn}
use Rattle.model.specs.declared.event.Event.TheVariants as Event
use Rattle.model.specs.Payer
use Rattle.model.specs.State
use Rattle.model.specs.Rules
use Rattle.model.specs.Setters
use Rattle.model.specs.Questions
use Rattle.model.specs.Parts
use Rattle.model.specs.Chip
use Rattle.model.specs.Designs
use Rattle.model.specs.Accounts
use Rattle.model.specs.Pages
use Rattle.model.specs.Writeback
use Rattle.model.specs.Line
use Rattle.model.specs.Restart
use Rattle.model.specs.Step
use Rattle.sheets.specs.Sheet
use Rattle.model.specs.Pool
use Rattle.model.specs.Import
use Rattle.model.specs.Export
use Rattle.model.specs.Stores
use Rattle.model.specs.Ledger
use Rattle.model.specs.Acts
use Rattle.model.specs.Acts.{Act, World}

-- ── the acts by short names ──
abbrev pub limit : ℕ → ℕ → Act
limit q n = Acts.event (Event.Account (Limit q n))

abbrev pub move : ℕ → ℕ → ℕ → Act
move giver taker m = Acts.event (Event.Account (Move giver taker m))

abbrev pub create : ℕ → ℕ → ℕ → Act
create s q n = Acts.event (Event.Design (Create s q n))

abbrev pub delete : ℕ → Act
delete s = Acts.event (Event.Design (Delete s))

abbrev pub activate : ℕ → Act
activate s = Acts.event (Event.Design (Activate s))

abbrev pub deactivate : ℕ → Act
deactivate s = Acts.event (Event.Design (Deactivate s))

abbrev pub fault : ℕ → ℕ → Act
fault s p = Acts.event (Event.Page (Fault s p))

abbrev pub read : ℕ → ℕ → ℕ → Act
read s p w = Acts.event (Event.Page (Read s p w))

abbrev pub write : ℕ → ℕ → ℕ → ℕ → Act
write s p w x = Acts.event (Event.Page (Write s p w x))

abbrev pub wire : ℕ → ℕ → Act
wire s p = Acts.event (Event.Page (Wire s p))

abbrev pub unwire : ℕ → ℕ → Act
unwire s p = Acts.event (Event.Page (Unwire s p))

abbrev pub claim : Act
claim = Acts.event (Event.Writeback Claim)

abbrev pub truncate : ℕ → ℕ → Act
truncate s k = Acts.event (Event.Writeback (Truncate s k))

abbrev pub update : ℕ → Act
update s = Acts.event (Event.Writeback (Update s))

abbrev pub page_done : ℕ → ℕ → Act
page_done f good = Acts.event (Event.Writeback (PageDone f good))

abbrev pub map_done : ℕ → ℕ → Act
map_done s good = Acts.event (Event.Writeback (MapDone s good))

abbrev pub join : ℕ → ℕ → Act
join s p = Acts.event (Event.Waiting (Join s p))

abbrev pub turn : Act
turn = Acts.event (Event.Waiting Turn)

abbrev pub look : ℕ → ℕ → Act
look s p = Acts.looking s p

abbrev pub restart : Act
restart = Acts.restarting

-- ── sizes and memory ──
abbrev pub sized : ℕ → ℕ → Sizes
sized r f = record { words = 2; records = r; frames = f; slots = 2; pages = 3; accounts = 1; chip = 2 }

-- the event program's: W 2, R 4, F 2, S 2, N 3, Q 1, (02) B 2
abbrev pub small : Sizes
small = sized 4 2

-- memory of the right lengths that holds nothing sensible
unfoldable pub junk : Sizes → State.Memory
junk z = record {
  core = record {
    frames = replicate z.frames (record { page = 9; used = 7; modified = 1; wired = 1; initial = 3; transfer = 2 });
    words = replicate (z.frames * z.words) 5;
    free_queue = replicate z.frames 1;
    removal_list = replicate z.frames 1;
  };
  held = record {
    addresses = replicate (State.all_pages z) 1;
    states = replicate z.records 3;
    owners = replicate z.records 1;
    free_map = replicate (State.map_words z) 77;
    pool = record { hand = 99; free = 99 };
  };
  slots = record { active = replicate z.slots 1; updating = replicate z.slots 1; images = replicate (State.all_pages z) 2 };
  chip = record { words = replicate (z.chip * z.words) 6; copies = replicate z.chip 4; next = replicate 1 9 };
  line = replicate State.LINE 3;
  used = replicate z.accounts 8;
}

-- the number stands in the list
unfoldable pub among : List ℕ → ℕ → Bool
among [] x = false
among (y ∷ ys) x = eqb x y || among ys x

-- a cut at which these frames' writes and these slots' updates land
abbrev pub cut : List ℕ → List ℕ → Act
cut fs ss = Acts.cutting (among fs) (among ss) (junk small)

-- the same inside an event, after so many of its stores
abbrev pub cut_in : Act → ℕ → List ℕ → List ℕ → Act
cut_in (Acts.event e) k fs ss = Acts.cutting_in (Stores.event e) k (among fs) (among ss) (junk small)
cut_in (Acts.looking s p) k fs ss = cut fs ss
cut_in (Acts.importing s q n b) k fs ss = Acts.cutting_in (Stores.importing s q n b) k (among fs) (among ss) (junk small)
cut_in (Acts.exporting s buffer) k fs ss = cut fs ss
cut_in Acts.restarting k fs ss = cut fs ss
cut_in (Acts.cutting writes updates m) k fs ss = cut fs ss
cut_in (Acts.cutting_in c n writes updates m) k fs ss = cut fs ss

-- ── what a list answers and leaves ──
-- the answer and the result of one act (a cut has none)
unfoldable pub said : Sizes → World → Act → List ℕ
unfolding all any count find those tab bits members packed times without tail head push_back push_front pop remove size first first_no test choose store State.charged Payer.payer_in Payer.payer State.payer
    State.used_of State.free_count State.free_word Rules.disk_rules Rules.range_rules Rules.record_rules Rules.queue_rules Rules.frame_rules Rules.count_rules Rules.line_rules Rules.chip_rules Rules.table_rules Rules.memory_rules
    Rules.all_rules Setters.counted Questions.would_store Questions.turning Line.join Line.turn Line.turn_result Parts.frame_of Parts.by_hand Parts.neighbour Parts.nearest Parts.pick Accounts.shifted Accounts.limit Accounts.move
    Designs.create Designs.delete Designs.activate Designs.deactivate Pages.begin_read
    Chip.place_of Chip.place_for Chip.copied Chip.take_copy Chip.arrives Chip.only_live Chip.empty_chip Pages.serve_zeros Pages.take_record Pages.read Pages.word_read Pages.write Pages.wire Pages.unwire Pages.look_start Pages.fault_frame Pages.fault Writeback.look Writeback.looking
    Writeback.zeros Writeback.free_frame Writeback.begins_write Writeback.claim Writeback.cut_frames Writeback.truncate Writeback.update Writeback.read_good Writeback.read_failed
    Writeback.store_frame Writeback.write_good Writeback.write_failed Writeback.page_done Writeback.store_image Writeback.update_over Writeback.map_done Restart.formatted Restart.is_listed
    Restart.listed_at Restart.highest_of Restart.raised Restart.restarted Step.all_fit Step.answer Step.carried Step.is_fault Step.supplied Step.filled Step.whole Step.result Step.step Step.format Step.restart Step.look Ledger.no_write Ledger.no_update Ledger.put
    Ledger.over Ledger.finish_write Ledger.finish_update Ledger.strike_write Ledger.strike_update Ledger.finish_writes Ledger.finish_updates Ledger.lose Ledger.found Ledger.recount
    Ledger.note Ledger.pack_design Ledger.pack_number Ledger.unwritten Stores.first Stores.stores Stores.answered Stores.made Import.taking Import.taken Import.field_of Import.has Import.said Import.store_record Import.entry Import.store_slot Import.made Import.imported
    Import.import_answer Import.import Export.exported Export.export Pool.taken Ledger.spent Ledger.carried_in Ledger.placed Acts.partly Acts.wholly Acts.fed_part Sheet.bytes Sheet.runs Sheet.head Sheet.page_field Sheet.shown_field
    Sheet.printed Sheet.laid Sheet.number Sheet.words_in Sheet.pages_in Sheet.number_in Sheet.count_in Sheet.place_of Sheet.page_in Sheet.word_in Sheet.page_fits Sheet.form
    Acts.fed Acts.land_writes Acts.land_updates Acts.landed Acts.noted Acts.part Acts.act Acts.allowed Acts.legal Acts.run Acts.start junk among
said z w (Acts.event e) = let a = (Step.step z w.state e).answer in a.refusal ∷ a.result ∷ []
said z w (Acts.looking s p) = let a = (Step.look z w.state s p).answer in a.refusal ∷ a.result ∷ []
said z w (Acts.importing s q n b) = let a = (Import.import z w.state s q n b).answer in a.refusal ∷ a.result ∷ []
said z w (Acts.exporting s buffer) = let a = (Export.export z w.state s buffer).answer in a.refusal ∷ a.result ∷ []
said z w Acts.restarting = let a = (Step.restart z w.state).answer in a.refusal ∷ a.result ∷ []
said z w (Acts.cutting writes updates m) = []
said z w (Acts.cutting_in c k writes updates m) = []

-- the answers and results of a list
unfoldable pub trace : Sizes → World → List Act → List ℕ
unfolding said
trace z w [] = []
trace z w (a ∷ acts) = said z w a ++ trace z (Acts.act z w a) acts

-- a disk formatted with these parents, memory junk
unfoldable pub begin_with : Sizes → List ℕ → World
unfolding said
begin_with z parents = Acts.start z (Restart.formatted z parents) (junk z)

-- .. all accounts but 0 under account 0
unfoldable pub begin : Sizes → World
unfolding begin_with
begin z = begin_with z (replicate z.accounts 0)

-- answer and result of a list's last act, from a world on
unfoldable pub says_from : Sizes → World → List Act → List ℕ
unfolding said
says_from z w [] = []
says_from z w (a ∷ []) = said z w a
says_from z w (a ∷ b ∷ acts) = says_from z (Acts.act z w a) (b ∷ acts)

-- .. from a format on
unfoldable pub says : Sizes → List Act → List ℕ
unfolding begin says_from
says z acts = says_from z (begin z) acts

-- the state that a list leaves
unfoldable pub leaves : Sizes → List Act → State.State
unfolding begin
leaves z acts = (Acts.run z (begin z) acts).state
