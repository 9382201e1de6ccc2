-- The theorem put to use: its premises hold of two real lists, one with the chip and one without it, and it says there what the paper says.
use mathlib.Core.Path.{◌≡◌, refl, sym, ◌∙◌}
use mathlib.Core.List.{List, [], ◌∷◌, ◌++◌}
use lib.Dec.{T}
use Rattle.tables.specs.Rule.{Holds, sound}
use Rattle.model.specs.declared.event.Page.TheVariants.{Read}
use Rattle.model.specs.declared.event.Event.TheVariants as Event
use Rattle.model.specs.Sizes.{sizes_fit}
use Rattle.model.specs.State.{Disk, frames, NONE, READING, page_of}
use Rattle.model.specs.Rules.{disk_rules}
use Rattle.model.specs.Restart.{formatted}
use Rattle.model.specs.Step.{step, look, disk_lengths, memory_lengths}
use Rattle.model.specs.Import as Import
use Rattle.model.specs.Import.{sheet_of, has}
use Rattle.model.specs.Ledger.{Fed, created, wrote, truncated, imported_slot}
use Rattle.model.specs.Acts.{Act, World, legal, run, start}
use Rattle.edges.specs.Lists.{limit, create, activate, fault, write, claim, truncate, page_done, restart, cut, small, junk, said}
use Rattle.edges.specs.Sheets.{sheet, import}
use Rattle.woven.specs.Woven.{overlaid, woven, Since, heard, act_by, run_by, legal_by, along, alike}
use Rattle.woven.specs.Without.{itself, without, Pack, from_start, SameSeen}
use Rattle.woven.proofs.ChipUnseen.{chip_unseen}

-- a finished format's disk, and memory that holds nothing sensible
abbrev pack : Disk
pack = formatted small (0 ∷ [])

kept : Pack small pack (junk small)
unfolding said
kept = record {
  sizes = sound (sizes_fit small) tt;
  lengths = sound (disk_lengths small pack) tt;
  memory = sound (memory_lengths small (junk small)) tt;
  rules = sound (disk_rules small (record { disk = pack; memory = junk small })) tt;
}

-- page 0 of a new design is written and goes to its record; a second design comes in by a sheet
abbrev stored : List Act
stored = restart ∷ limit 0 4 ∷ create 0 0 5 ∷ activate 0 ∷ fault 0 0 ∷ write 0 0 1 7 ∷ claim ∷ page_done 0 1 ∷ import 1 9 sheet ∷ []

-- with the chip the page is in service at once
abbrev acts : List Act
acts = stored ++ fault 0 0 ∷ truncate 0 1 ∷ []

-- without it the page is read; a restart and a cut before are another history of a like disk
abbrev acts' : List Act
acts' = restart ∷ cut [] [] ∷ stored ++ fault 0 0 ∷ page_done 1 1 ∷ truncate 0 1 ∷ []

abbrev begin : World
begin = start small pack (junk small)

abbrev pub ends : World
ends = run small begin acts

abbrev pub ends' : World
ends' = run_by small (without small) begin acts'

abbrev since : Since
since = along small itself begin (from_start pack) acts

abbrev since' : Since
since' = along small (without small) begin (from_start pack) acts'

-- what was woven in both, newest first
abbrev list : List Fed
list = truncated 0 1 ∷ imported_slot 1 (has (sheet_of sheet)) (Import.said (sheet_of sheet)) ∷ wrote 0 0 1 7 ∷ created 0 5 ∷ []

same_list : since.list ≡ list
unfolding said act_by along heard
same_list = refl

same_list' : since'.list ≡ list
unfolding said act_by along heard
same_list' = refl

like_disks : Holds (alike small since.disk since'.disk)
unfolding said act_by along heard
like_disks = sound (alike small since.disk since'.disk) tt

lawful : T (legal small begin acts)
unfolding said
lawful = tt

lawful' : T (legal_by small (without small) begin acts')
unfolding said act_by legal_by
lawful' = tt

up : T ends.up
unfolding said
up = tt

up' : T ends'.up
unfolding said act_by run_by
up' = tt

-- so every read and every page look that both accept shows the same,
pub seen : SameSeen small ends ends'
seen = chip_unseen small pack pack (junk small) (junk small) acts acts' kept kept lawful lawful' up up' like_disks (same_list ∙ sym same_list')

-- as page 0 does, whose word 1 both accept to read
accepted : (step small ends.state (Event.Page (Read 0 0 1))).answer.refusal ≡ 0
unfolding said
accepted = refl

accepted' : (step small ends'.state (Event.Page (Read 0 0 1))).answer.refusal ≡ 0
unfolding said act_by run_by
accepted' = refl

pub same_word : (step small ends.state (Event.Page (Read 0 0 1))).answer.result ≡ (step small ends'.state (Event.Page (Read 0 0 1))).answer.result
same_word = seen.reads 0 0 1 accepted accepted'

looked : (look small ends.state 0 0).answer.refusal ≡ 0
unfolding said
looked = refl

looked' : (look small ends'.state 0 0).answer.refusal ≡ 0
unfolding said act_by run_by
looked' = refl

pub same_look : (look small ends.state 0 0).left ≡ (look small ends'.state 0 0).left
same_look = seen.looks 0 0 looked looked'

-- ── what the two did is not the same ──
-- with the chip the fault found a copy, without it a read began
pub found : ((frames (run small begin (stored ++ fault 0 0 ∷ [])).state).frame 1).transfer ≡ NONE
unfolding said
found = refl

pub sought : ((frames (run_by small (without small) begin (stored ++ fault 0 0 ∷ [])).state).frame 1).transfer ≡ READING
unfolding said act_by run_by
sought = refl

-- ── what is woven ──
-- the value written; zeros where the design was cut off; the words that the sheet gives
pub words : (woven small since.disk list (page_of small 0 0) 1 ≡ 7) × ((woven small since.disk list (page_of small 0 1) 1 ≡ 0) × (woven small since.disk list (page_of small 1 2) 1 ≡ 70000))
unfolding said act_by along heard woven overlaid
words = (refl, (refl, refl))

pub shown : (step small ends.state (Event.Page (Read 0 0 1))).answer.result ≡ 7
unfolding said
shown = refl
