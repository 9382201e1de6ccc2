-- What the chip has to do with an event, by the tables before it; and the state once it is done, after the event's own work.
use Rattle.std.specs.Prelude.{List, ℕ, zero, suc, pred, eqb}
use Rattle.tables.specs.Base.{at, if}
use Rattle.tables.specs.Queue.{first}
use Rattle.model.specs.declared.sizes.Sizes.{Sizes}
use Rattle.model.specs.declared.frame.Frame.{Frame}
use Rattle.model.specs.declared.event.Design.{Design}
use Rattle.model.specs.declared.event.Design.TheVariants.{Create, Delete, Activate, Deactivate}
use Rattle.model.specs.declared.event.Page.{Page}
use Rattle.model.specs.declared.event.Page.TheVariants.{Fault, Read, Write, Wire, Unwire}
use Rattle.model.specs.declared.event.Writeback.{Writeback}
use Rattle.model.specs.declared.event.Writeback.TheVariants.{Claim, Truncate, Update, PageDone, MapDone}
use Rattle.model.specs.declared.event.Waiting.{Waiting}
use Rattle.model.specs.declared.event.Waiting.TheVariants.{Join, Turn}
use Rattle.model.specs.declared.event.Event.{Event}
use Rattle.model.specs.State.{Chip, State, files, frame_at}
use Rattle.model.specs.Setters.{on_core, set_chip}
use Rattle.model.specs.Parts.{word_at}
use Rattle.model.specs.Chip.{copied, arrives, only_live}
use Rattle.chips.specs.Seen.{dropped}
use Rattle.events.specs.declared.chore.Chore.{Chore}
use Rattle.events.specs.declared.chore.Chore.TheVariants.{Rest, Take, Put, Drop, Forget}

abbrev pub design_chore : Design → Chore
design_chore (Create s q n) = Rest
design_chore (Delete s) = Rest
design_chore (Activate s) = Rest
design_chore (Deactivate s) = Drop

abbrev pub page_chore : List ℕ → Page → Chore
page_chore free_queue (Fault s p) = Take (first free_queue)
page_chore free_queue (Read s p w) = Rest
page_chore free_queue (Write s p w x) = Rest
page_chore free_queue (Wire s p) = Rest
page_chore free_queue (Unwire s p) = Rest

abbrev pub writeback_chore : List Frame → List ℕ → Writeback → Chore
writeback_chore frames addresses Claim = Forget
writeback_chore frames addresses (Truncate s k) = Drop
writeback_chore frames addresses (Update s) = Rest
writeback_chore frames addresses (PageDone f good) = if (eqb good 1) (Put (pred (at addresses (pred (frame_at frames f).page)))) Rest
writeback_chore frames addresses (MapDone s good) = Rest

abbrev pub waiting_chore : List ℕ → Waiting → Chore
waiting_chore free_queue (Join s p) = Rest
waiting_chore free_queue Turn = if (eqb (at free_queue 0) 0) Forget (Take (first free_queue))

abbrev pub chore_of : List Frame → List ℕ → List ℕ → Event → Chore
chore_of frames free_queue addresses (Event.Design e) = design_chore e
chore_of frames free_queue addresses (Event.Account e) = Rest
chore_of frames free_queue addresses (Event.Page e) = page_chore free_queue e
chore_of frames free_queue addresses (Event.Writeback e) = writeback_chore frames addresses e
chore_of frames free_queue addresses (Event.Waiting e) = waiting_chore free_queue e

-- without the copy of the record told, if one is told
abbrev pub forgotten : Sizes → ℕ → Chip → Chip
forgotten z zero k = k
forgotten z (suc r) k = dropped z r k

-- told: the record that the event made nulled + 1, or 0; the chip k as it was before the event, st what the event's own work left
abbrev pub tended : Sizes → Chore → ℕ → Chip → State → State
tended z Rest told k st = set_chip k st
tended z (Take f) told k st = set_chip k (on_core (arrives z k st f) st)
tended z (Put r) told k st = set_chip (copied z r (word_at z st.disk.records r) k) st
tended z Drop told k st = set_chip (only_live z (files st).state k) st
tended z Forget told k st = set_chip (forgotten z told k) st
