-- Demand 3's ledger: what it is fed, and what it notes. It is no table of the keeper, and looks into none of the memory tables.
use Rattle.std.specs.Prelude.{Bool, true, false, not, ◌&&◌, List, [], ◌∷◌, ℕ, zero, suc, ◌%◌, pred, eqb, length}
use Rattle.tables.specs.Base.{at, if, all, count, find}
use Rattle.tables.specs.Rule.{Rule, same, non, ◌and◌, some, test}
use Rattle.model.specs.declared.sizes.Sizes.{Sizes}
use Rattle.model.specs.State.{Disk, all_pages, page_of, slot_of}
use Rattle.model.specs.Parts.{of_slot, from_page, word_at}

-- Demand 3's ledger is fed the events with answers, the frames faults and claims take, each write's ordered record,
-- the disk as restarts and activates find it, and what landed at cuts. Refused events leave it alone.
pub data Fed : Type 0 where
  nothing : Fed
  restarted : Disk → Fed
  created : ℕ → ℕ → Fed
  deleted : ℕ → Fed
  activated : ℕ → Disk → Fed
  deactivated : ℕ → Fed
  -- slot, page, the frame taken
  faulted : ℕ → ℕ → ℕ → Fed
  -- slot, page, word, value
  wrote : ℕ → ℕ → ℕ → ℕ → Fed
  -- the frame taken; the ordered record + 1, or 0 where no write begins
  claimed : ℕ → ℕ → Fed
  truncated : ℕ → ℕ → Fed
  began : ℕ → Fed
  page_end : ℕ → ℕ → Fed
  map_end : ℕ → ℕ → Fed
  -- an import: a birth is spent, of a design that stands in no slot yet; a page of it stored (page, record, words);
  -- and the slot: which pages the sheet has, and the words that it gives each
  import_begun : ℕ → Fed
  imported_page : ℕ → ℕ → (ℕ → ℕ) → Fed
  imported_slot : ℕ → (ℕ → Bool) → (ℕ → ℕ → ℕ) → Fed
  -- the frames whose writes landed, and the slots whose updates landed
  cut : (ℕ → Bool) → (ℕ → Bool) → Fed

-- what a fault notes at its frame: the design, and the page by its flat number
pub record Note : Type 0 where
  pub design : ℕ
  pub place : ℕ

-- a write of a page of a design to a record
pub record Write : Type 0 where
  pub design : ℕ
  pub page : ℕ
  pub record' : ℕ
  pub words : ℕ → ℕ
  -- finished as the n-th, from 1
  pub serial : ℕ
  -- each restart since has found its record listed at that page of that design
  pub counts : Bool

-- a map update of a design: the pages live as it began, and how many writes were finished then
pub record Update : Type 0 where
  pub design : ℕ
  pub live : ℕ → Bool
  pub after : ℕ

-- what the ledger knows of each page (flat number)
pub record Pages : Type 0 where
  -- the words demand 2 gives a read of the page
  pub text : ℕ → ℕ → ℕ
  pub live : ℕ → Bool
  -- written since its fault
  pub touched : ℕ → Bool
  -- not written or truncated since the last restart
  pub kept : ℕ → Bool

-- what is open: writes at their frames, updates at their slots
pub record Pending : Type 0 where
  pub noted : ℕ → Note
  pub writing : ℕ → Bool
  pub write : ℕ → Write
  pub updating : ℕ → Bool
  pub update : ℕ → Update

pub record Ledger : Type 0 where
  -- the pack that the list started from
  pub pack : Disk
  -- designs so far, the pack's and those created since; each slot's design by its birth, 0 for none
  pub births : ℕ
  pub design : ℕ → ℕ
  -- the number that each design was given, by its birth
  pub number : ℕ → ℕ
  pub pages : Pages
  pub pending : Pending
  -- finished writes and updates, newest first, those too that count no more
  pub finished : List Write
  pub stored : List Update

unfoldable pub no_write : Write
no_write = record { design = 0; page = 0; record' = 0; words = λ w. 0; serial = 0; counts = false }

unfoldable pub no_update : Update
no_update = record { design = 0; live = λ p. false; after = 0 }

-- ── setters ──
-- a function with one value put, and with a value wherever a rule holds
unfoldable pub put : {A : Type 0} → (ℕ → A) → ℕ → A → ℕ → A
put f i a j = if (eqb j i) a (f j)

unfoldable pub over : {A : Type 0} → (ℕ → A) → (ℕ → Rule) → A → ℕ → A
over f t a j = if (test (t j)) a (f j)

abbrev pub set_pages : Pages → Ledger → Ledger
set_pages x l = record { pack = l.pack; births = l.births; design = l.design; number = l.number; pages = x; pending = l.pending; finished = l.finished; stored = l.stored }

abbrev pub set_pending : Pending → Ledger → Ledger
set_pending x l = record { pack = l.pack; births = l.births; design = l.design; number = l.number; pages = l.pages; pending = x; finished = l.finished; stored = l.stored }

abbrev pub set_finished : List Write → Ledger → Ledger
set_finished x l = record { pack = l.pack; births = l.births; design = l.design; number = l.number; pages = l.pages; pending = l.pending; finished = x; stored = l.stored }

abbrev pub set_stored : List Update → Ledger → Ledger
set_stored x l = record { pack = l.pack; births = l.births; design = l.design; number = l.number; pages = l.pages; pending = l.pending; finished = l.finished; stored = x }

abbrev pub set_design : ℕ → (ℕ → ℕ) → Ledger → Ledger
set_design n x l = record { pack = l.pack; births = n; design = x; number = l.number; pages = l.pages; pending = l.pending; finished = l.finished; stored = l.stored }

abbrev pub set_number : (ℕ → ℕ) → Ledger → Ledger
set_number x l = record { pack = l.pack; births = l.births; design = l.design; number = x; pages = l.pages; pending = l.pending; finished = l.finished; stored = l.stored }

abbrev pub set_live : (ℕ → Bool) → Ledger → Ledger
set_live x l = set_pages (record { text = l.pages.text; live = x; touched = l.pages.touched; kept = l.pages.kept }) l

abbrev pub set_text : (ℕ → ℕ → ℕ) → (ℕ → Bool) → Ledger → Ledger
set_text x k l = set_pages (record { text = x; live = l.pages.live; touched = l.pages.touched; kept = k }) l

abbrev pub set_touched : (ℕ → Bool) → Ledger → Ledger
set_touched x l = set_pages (record { text = l.pages.text; live = l.pages.live; touched = x; kept = l.pages.kept }) l

abbrev pub set_noted : (ℕ → Note) → Ledger → Ledger
set_noted x l = set_pending (record { noted = x; writing = l.pending.writing; write = l.pending.write; updating = l.pending.updating; update = l.pending.update }) l

abbrev pub set_write : (ℕ → Bool) → (ℕ → Write) → Ledger → Ledger
set_write x y l = set_pending (record { noted = l.pending.noted; writing = x; write = y; updating = l.pending.updating; update = l.pending.update }) l

abbrev pub set_update : (ℕ → Bool) → (ℕ → Update) → Ledger → Ledger
set_update x y l = set_pending (record { noted = l.pending.noted; writing = l.pending.writing; write = l.pending.write; updating = x; update = y }) l

-- ── what the ledger does ──
-- the write as the n-th finished
abbrev pub ended : Write → ℕ → Write
ended x n = record { design = x.design; page = x.page; record' = x.record'; words = x.words; serial = n; counts = true }

-- A good done finishes what it reports: a write (its page is live then) ..
unfoldable pub finish_write : ℕ → Ledger → Ledger
finish_write f l = if (l.pending.writing f)
    (set_finished (ended (l.pending.write f) (suc (length l.finished)) ∷ l.finished)
    (set_live (put l.pages.live (l.pending.noted f).place true) (set_write (put l.pending.writing f false) l.pending.write l))) l

-- .. or an update;
unfoldable pub finish_update : ℕ → Ledger → Ledger
finish_update s l = if (l.pending.updating s) (set_stored (l.pending.update s ∷ l.stored) (set_update (put l.pending.updating s false) l.pending.update l)) l

-- a failed one strikes it.
unfoldable pub strike_write : ℕ → Ledger → Ledger
strike_write f l = set_write (put l.pending.writing f false) l.pending.write l

unfoldable pub strike_update : ℕ → Ledger → Ledger
strike_update s l = set_update (put l.pending.updating s false) l.pending.update l

-- at a cut, just before it, what landed is finished
unfoldable pub finish_writes : ℕ → (ℕ → Bool) → Ledger → Ledger
finish_writes zero lands l = l
finish_writes (suc f) lands l = let rest = finish_writes f lands l in if (lands f) (finish_write f rest) rest

unfoldable pub finish_updates : ℕ → (ℕ → Bool) → Ledger → Ledger
finish_updates zero lands l = l
finish_updates (suc s) lands l = let rest = finish_updates s lands l in if (lands s) (finish_update s rest) rest

-- and the rest struck; no page is live past a cut
unfoldable pub lose : Ledger → Ledger
lose l = set_live (λ i. false) (set_update (λ s. false) l.pending.update (set_write (λ f. false) l.pending.write l))

-- an import is a creation; those writes, each finished with its store, count as the design's own, made after its creation
unfoldable pub spent : ℕ → Ledger → Ledger
spent n l = set_number (put l.number (suc l.births) n) (set_design (suc l.births) l.design l)

abbrev pub page_write : ℕ → ℕ → ℕ → (ℕ → ℕ) → Write
page_write d p r words = record { design = d; page = p; record' = r; words = words; serial = 0; counts = true }

unfoldable pub carried_in : ℕ → ℕ → (ℕ → ℕ) → Ledger → Ledger
carried_in p r words l = set_finished (ended (page_write l.births p r words) (suc (length l.finished)) ∷ l.finished) l

-- its last store: the newest design takes the slot; its pages are listed as by a finished update
abbrev pub listing : (ℕ → Bool) → Ledger → Update
listing has l = record { design = l.births; live = has; after = length l.finished }

unfoldable pub placed : Sizes → ℕ → (ℕ → Bool) → (ℕ → ℕ → ℕ) → Ledger → Ledger
placed z s has said l = set_stored (listing has l ∷ l.stored)
    (set_text (λ i. if (test (of_slot z s i)) (said (i % z.pages)) (l.pages.text i)) (over l.pages.kept (of_slot z s) false) (set_design l.births (put l.design s l.births) l))

module _ (z : Sizes) where
  -- the page's words on a disk: those of its record, or zeros on an unlisted page
  unfoldable pub found : Disk → ℕ → ℕ → ℕ
  found d i w = if (eqb (at d.maps i) 0) 0 (word_at z d.records (pred (at d.maps i)) w)

  -- the record of a write is listed at that page of that design
  abbrev pub at_home : Disk → (ℕ → ℕ) → Write → Rule
  at_home d design x = some (all_pages z) λ i. same (at d.maps i) (suc x.record') and same (design (slot_of z i)) x.design and same (i % z.pages) x.page

  -- a finished write whose record a restart does not find listed so counts no more
  unfoldable pub recount : Disk → (ℕ → ℕ) → List Write → List Write
  recount d design [] = []
  recount d design (x ∷ xs) =
      record { design = x.design; page = x.page; record' = x.record'; words = x.words; serial = x.serial; counts = x.counts && test (at_home d design x) } ∷ recount d design xs

  -- A claim that begins a write opens it with the design and page noted at its frame, its record, and the words demand 2 gives a read of the page then
  abbrev pub opened : Ledger → ℕ → ℕ → Write
  opened l f r = let n = l.pending.noted f in record { design = n.design; page = n.place % z.pages; record' = r; words = l.pages.text n.place; serial = 0; counts = true }

  -- an update opens with the pages live then
  abbrev pub begun : Ledger → ℕ → Update
  begun l s = record { design = l.design s; live = λ p. l.pages.live (page_of z s p); after = length l.finished }

  -- a claim that takes a page written since its fault and all zeros
  abbrev pub voided : Ledger → ℕ → Bool
  voided l i = l.pages.touched i && all z.words (λ w. eqb (l.pages.text i w) 0)

  unfoldable pub note : Ledger → Fed → Ledger
  note l nothing = l
  -- each page reads as the restart found it, and no write is open
  note l (restarted d) = set_finished (recount d l.design l.finished) (set_text (found d) (λ i. true) (lose l))
  note l (created s n) = set_number (put l.number (suc l.births) n) (set_text (over l.pages.text (of_slot z s) (λ w. 0)) (over l.pages.kept (of_slot z s) false) (set_design (suc l.births) (put l.design s (suc l.births)) l))
  note l (deleted s) = set_design l.births (put l.design s 0) l
  note l (activated s d) = set_live (over l.pages.live (λ i. of_slot z s i and non (same (at d.maps i) 0)) true) l
  note l (deactivated s) = set_live (over l.pages.live (of_slot z s) false) l
  note l (faulted s p f) = set_touched (put l.pages.touched (page_of z s p) false) (set_noted (put l.pending.noted f (record { design = l.design s; place = page_of z s p })) l)
  note l (wrote s p w x) = let i = page_of z s p in
      set_touched (put l.pages.touched i true) (set_text (put l.pages.text i (put (l.pages.text i) w x)) (put l.pages.kept i false) l)
  note l (claimed f zero) = let i = (l.pending.noted f).place in if (voided l i) (set_live (put l.pages.live i false) l) l
  note l (claimed f (suc r)) = set_write (put l.pending.writing f true) (put l.pending.write f (opened l f r)) l
  note l (truncated s k) = set_live (over l.pages.live (from_page z s k) false) (set_text (over l.pages.text (from_page z s k) (λ w. 0)) (over l.pages.kept (from_page z s k) false) l)
  note l (began s) = set_update (put l.pending.updating s true) (put l.pending.update s (begun l s)) l
  note l (page_end f good) = if (eqb good 1) (finish_write f l) (strike_write f l)
  note l (map_end s good) = if (eqb good 1) (finish_update s l) (strike_update s l)
  note l (import_begun n) = spent n l
  note l (imported_page p r words) = carried_in p r words l
  note l (imported_slot s has said) = placed z s has said l
  note l (cut writes updates) = lose (finish_updates z.slots updates (finish_writes z.frames writes l))

-- each filled slot of the pack that a list starts from has a design: its birth is its place among them, from 1
abbrev pub filled : Disk → ℕ → Bool
filled d s = not (eqb (at d.numbers s) 0)

unfoldable pub pack_design : Disk → ℕ → ℕ
pack_design d s = if (filled d s) (suc (count s (filled d))) 0

-- the number of a design of the pack, by its birth; 0 for none
unfoldable pub pack_number : Sizes → Disk → ℕ → ℕ
pack_number z d b = if (eqb b 0) 0 (at d.numbers (find z.slots (λ s. eqb (pack_design d s) b) 0))

-- no design but the pack's, nothing written since
unfoldable pub unwritten : Sizes → Disk → Ledger
unwritten z d = record {
  pack = d;
  births = count z.slots (filled d);
  design = pack_design d;
  number = pack_number z d;
  pages = record { text = λ i w. 0; live = λ i. false; touched = λ i. false; kept = λ i. false };
  pending = record { noted = λ f. record { design = 0; place = 0 }; writing = λ f. false; write = λ f. no_write; updating = λ s. false; update = λ s. no_update };
  finished = [];
  stored = [];
}
