-- The word that a read shows, as a function of the disk as the last restart found it and of the list of accepted writes, truncations, creates and imports since.
use Rattle.std.specs.Prelude.{Bool, true, false, ◌&&◌, List, [], ◌∷◌, ℕ, ◌%◌, eqb}
use Rattle.tables.specs.Base.{if}
use Rattle.tables.specs.Rule.{Rule, same, each, test}
use Rattle.model.specs.declared.sizes.Sizes.{Sizes}
use Rattle.model.specs.State.{Disk, State, all_pages, page_of}
use Rattle.model.specs.Parts.{of_slot, from_page}
use Rattle.model.specs.Step.{step, restart}
use Rattle.model.specs.Import.{sheet_of, has, said, import}
use Rattle.model.specs.Ledger.{Fed, nothing, restarted, created, deleted, activated, deactivated, faulted, wrote, claimed, truncated, began, page_end, map_end, import_begun, imported_page, imported_slot, cut, found}
use Rattle.model.specs.Acts.{Act, event, looking, importing, exporting, restarting, cutting, cutting_in, World, fed, act, allowed}

-- a write, a truncation, a create or an import: the store of its slot, which gives each page its words
abbrev pub weaves : Fed → Bool
weaves nothing = false
weaves (restarted d) = false
weaves (created s n) = true
weaves (deleted s) = false
weaves (activated s d) = false
weaves (deactivated s) = false
weaves (faulted s p f) = false
weaves (wrote s p w x) = true
weaves (claimed f r) = false
weaves (truncated s k) = true
weaves (began s) = false
weaves (page_end f good) = false
weaves (map_end s good) = false
weaves (import_begun n) = false
weaves (imported_page p r words) = false
weaves (imported_slot s has said) = true
weaves (cut writes updates) = false

-- word n of page i after it, where it was x before: a create and a truncation leave zeros on the pages they concern, a write its value in its place, an import the words that its sheet gives
unfoldable pub overlaid : Sizes → Fed → ℕ → ℕ → ℕ → ℕ
overlaid z (created s m) i n x = if (test (of_slot z s i)) 0 x
overlaid z (imported_slot s has said) i n x = if (test (of_slot z s i)) (said (i % z.pages) n) x
overlaid z (truncated s k) i n x = if (test (from_page z s k i)) 0 x
overlaid z (wrote s p w v) i n x = if (eqb i (page_of z s p)) (if (eqb n w) v x) x
overlaid z nothing i n x = x
overlaid z (restarted d) i n x = x
overlaid z (deleted s) i n x = x
overlaid z (activated s d) i n x = x
overlaid z (deactivated s) i n x = x
overlaid z (faulted s p f) i n x = x
overlaid z (claimed f r) i n x = x
overlaid z (began s) i n x = x
overlaid z (page_end f good) i n x = x
overlaid z (map_end s good) i n x = x
overlaid z (import_begun m) i n x = x
overlaid z (imported_page p r words) i n x = x
overlaid z (cut writes updates) i n x = x

-- what a read of word n of page i shows: the disk as the restart found it, and what was woven since, newest first
unfoldable pub woven : Sizes → Disk → List Fed → ℕ → ℕ → ℕ
woven z d [] i n = found z d i n
woven z d (f ∷ fs) i n = overlaid z f i n (woven z d fs i n)

-- ── along a list of acts ──
pub record Since : Type 0 where
  -- the disk as the last restart found it
  pub disk : Disk
  -- the accepted writes, truncations, creates and imports since, newest first
  pub list : List Fed

module _ (z : Sizes) where
  -- one act more: an event or an import that is carried out and weaves is put down, a restart that is carried out begins anew
  unfoldable pub heard : World → Since → Act → Since
  heard w c (event e) = let f = fed z w.state e in if (eqb (step z w.state e).answer.refusal 0 && weaves f) (record { disk = c.disk; list = f ∷ c.list }) c
  heard w c (looking s p) = c
  heard w c (importing s q n b) = if (eqb (import z w.state s q n b).answer.refusal 0) (record { disk = c.disk; list = imported_slot s (has (sheet_of b)) (said (sheet_of b)) ∷ c.list }) c
  heard w c (exporting s buffer) = c
  heard w c restarting = if (eqb (restart z w.state).answer.refusal 0) (record { disk = w.state.disk; list = [] }) c
  heard w c (cutting writes updates junk) = c
  heard w c (cutting_in call k writes updates junk) = c

  -- a keeper whose memory is changed after each act in a way of its own: `tidy` does nothing for the keeper itself
  module _ (tidy : State → State) where
    unfoldable pub act_by : World → Act → World
    act_by w a = let v = act z w a in record { up = v.up; state = tidy v.state; ledger = v.ledger }

    unfoldable pub run_by : World → List Act → World
    run_by w [] = w
    run_by w (a ∷ acts) = run_by (act_by w a) acts

    unfoldable pub legal_by : World → List Act → Bool
    legal_by w [] = true
    legal_by w (a ∷ acts) = let rest = legal_by (act_by w a) acts in allowed z w a && rest

    unfoldable pub along : World → Since → List Act → Since
    along w c [] = c
    along w c (a ∷ acts) = along (act_by w a) (heard w c a) acts

-- two disks are alike in what they list and in the words listed: every page is found with the same words on both
abbrev pub alike : Sizes → Disk → Disk → Rule
alike z d e = each (all_pages z) λ i. each z.words λ n. same (found z d i n) (found z e i n)
