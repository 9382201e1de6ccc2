-- A design carried to another board, and what an import promises: the claims about every list of acts.
use Rattle.std.specs.Prelude.{◌≡◌, List, [], ◌∷◌, ◌++◌, ℕ, ◌<◌, T, take}
use Rattle.tables.specs.Base.{at}
use Rattle.tables.specs.Rule.{Rule, Holds, same, non, ◌and◌}
use Rattle.sheets.specs.Sheet.{text_in}
use Rattle.model.specs.declared.sizes.Sizes.{Sizes}
use Rattle.model.specs.declared.event.Design.TheVariants.{Create, Delete, Activate, Deactivate}
use Rattle.model.specs.declared.event.Page.TheVariants.{Fault, Read, Write, Wire, Unwire}
use Rattle.model.specs.declared.event.Writeback.TheVariants.{Claim, Truncate, Update, PageDone, MapDone}
use Rattle.model.specs.declared.event.Event.{Event}
use Rattle.model.specs.Sizes.{sizes_fit}
use Rattle.model.specs.State.{Disk, Memory, State, page_of, slot_of}
use Rattle.model.specs.Rules.{disk_rules}
use Rattle.model.specs.Parts.{from_page}
use Rattle.model.specs.Step.{disk_lengths, memory_lengths, step}
use Rattle.model.specs.Import.{sheet_of, has, import}
use Rattle.model.specs.Export.{export}
use Rattle.model.specs.Ledger.{found}
use Rattle.model.specs.Acts.{Act, event, looking, importing, exporting, restarting, cutting, cutting_in, World, legal, run, start}
use Rattle.model.specs.Stores as S
use Rattle.model.specs.Stores.{Call}

-- ── acts that neither write nor truncate a page, and leave its design in its slot ──
-- i: the page, by its flat number
module _ (z : Sizes) (i : ℕ) where
  -- the slot is another
  abbrev elsewhere : ℕ → Rule
  elsewhere s = non (same (slot_of z i) s)

  abbrev any : Rule
  any = same 0 0

  abbrev pub spares_event : Event → Rule
  spares_event (Event.Design (Create s q n)) = elsewhere s
  spares_event (Event.Design (Delete s)) = elsewhere s
  spares_event (Event.Design (Activate s)) = any
  spares_event (Event.Design (Deactivate s)) = any
  spares_event (Event.Account e) = any
  spares_event (Event.Page (Fault s p)) = any
  spares_event (Event.Page (Read s p w)) = any
  spares_event (Event.Page (Write s p w x)) = non (same i (page_of z s p))
  spares_event (Event.Page (Wire s p)) = any
  spares_event (Event.Page (Unwire s p)) = any
  spares_event (Event.Writeback Claim) = any
  spares_event (Event.Writeback (Truncate s k)) = non (from_page z s k i)
  spares_event (Event.Writeback (Update s)) = any
  spares_event (Event.Writeback (PageDone f good)) = any
  spares_event (Event.Writeback (MapDone s good)) = any
  spares_event (Event.Waiting e) = any

  -- a cut inside an event falls before its store, so it does what a cut does; inside an import some records are stored
  abbrev pub spares_call : Call → Rule
  spares_call (S.event e) = any
  spares_call (S.importing s q n b) = elsewhere s

  -- restarts and cuts are spared: nothing that is stored is lost by them
  abbrev pub spares : Act → Rule
  spares (event e) = spares_event e
  spares (looking s p) = any
  spares (importing s q n b) = elsewhere s
  spares (exporting s buffer) = any
  spares restarting = any
  spares (cutting writes updates junk) = any
  spares (cutting_in c k writes updates junk) = spares_call c

  abbrev pub all_spare : List Act → Rule
  all_spare [] = any
  all_spare (a ∷ acts) = spares a and all_spare acts

-- ── a board ──
-- sizes within limits, any pack that keeps the disk rules, any memory of its lengths
pub record Board (z : Sizes) : Type 0 where
  pub pack : Disk
  pub junk : Memory
  pub sizes : Holds (sizes_fit z)
  pub lengths : Holds (disk_lengths z pack)
  pub memory : Holds (memory_lengths z junk)
  pub rules : Holds (disk_rules z (record { disk = pack; memory = junk }))

module _ (z : Sizes) (b : Board z) where
  abbrev pub MayRun : List Act → Type 0
  MayRun acts = T (legal z (start z b.pack b.junk) acts)

  -- where a list of acts leads
  abbrev pub from : List Act → World
  from acts = run z (start z b.pack b.junk) acts

-- words and numbers take 32 bits, as the tables of the code hold them
pub record Narrow (st : State) : Type 0 where
  pub words : (i : ℕ) → at st.disk.records i < 4294967296
  pub numbers : (s : ℕ) → at st.disk.numbers s < 4294967296

-- a read of a word of a page, where it is not refused, shows v
abbrev pub Shows : Sizes → World → ℕ → ℕ → ℕ → ℕ → Type 0
Shows z w s p j v = let o = step z w.state (Event.Page (Read s p j)) in o.answer.refusal ≡ 0 → o.answer.result ≡ v

-- ── the claims ──
-- "A design exported, imported and read shows equal words on every page." Here: after any list of acts an export is carried out; the sheet is what it wrote. There, on a board of other sizes but the same W and N:
-- after any list that sheet is imported, into any slot, for any account and number, and any acts follow that spare the page, cuts and restarts among them. A read there shows the word that demand 2 gives a read of it here.
abbrev pub CarriedOver : Type 0
CarriedOver = (z z' : Sizes) → z'.words ≡ z.words → z'.pages ≡ z.pages → (here : Board z) (there : Board z')
    → (acts : List Act) → MayRun z here acts → (let w = from z here acts in T w.up → Narrow w.state
    → (s : ℕ) (buffer : List ℕ) → (let o = export z w.state s buffer in let sheet = take o.answer.result o.left in o.answer.refusal ≡ 0
    → (before after : List Act) (s' q n : ℕ) → MayRun z' there (before ++ importing s' q n sheet ∷ after) → (import z' (from z' there before).state s' q n sheet).answer.refusal ≡ 0
    → (p j : ℕ) → p < z.pages → j < z.words → Holds (all_spare z' (page_of z' s' p) after)
    → (let w' = from z' there (before ++ importing s' q n sheet ∷ after) in T w'.up → Shows z' w' s' p j (w.ledger.pages.text (page_of z s p) j))))

-- Beyond the wish. After an import, along every list of acts that spare a page, cuts and restarts among them:
pub record AsImported (z : Sizes) (w : World) (s p : ℕ) (sheet : List ℕ) : Type 0 where
  -- the page stays listed, if the sheet has it,
  pub listed : T (has (sheet_of sheet) p) → ¬ (at w.state.disk.maps (page_of z s p) ≡ 0)
  -- the disk has its words (zeros, if the sheet has it not), also just after a cut,
  pub stored : (j : ℕ) → j < z.words → found z w.state.disk (page_of z s p) j ≡ text_in sheet p j
  -- and a read shows them.
  pub reads : (j : ℕ) → j < z.words → T w.up → Shows z w s p j (text_in sheet p j)

abbrev pub StaysImported : Type 0
StaysImported = (z : Sizes) (b : Board z) (before after : List Act) (s q n : ℕ) (sheet : List ℕ) → MayRun z b (before ++ importing s q n sheet ∷ after)
    → (import z (from z b before).state s q n sheet).answer.refusal ≡ 0 → (p : ℕ) → p < z.pages → Holds (all_spare z (page_of z s p) after)
    → AsImported z (from z b (before ++ importing s q n sheet ∷ after)) s p sheet
