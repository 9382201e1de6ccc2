-- The rules of question 2 one by one, numbered as they stand in Rules, and which of them say no.
use Rattle.std.specs.Prelude.{◌≡◌, refl, List, [], ◌∷◌, ◌++◌, ℕ, suc}
use Rattle.tables.specs.Base.{if, at}
use Rattle.tables.specs.Queue.{queue, queue_of}
use Rattle.tables.specs.Rule.{Rule, same, below, each, ◌and◌, test}
use Rattle.model.specs.declared.sizes.Sizes.{Sizes}
use Rattle.model.specs.State.{State, Files, Frames, files, frames, LINE, all_pages, map_words, free_count, free_word, used_of}
use Rattle.model.specs.Rules
use Rattle.edges.specs.Lists.{said}

module _ (z : Sizes) (st : State) where
  abbrev v : Files
  v = files st

  abbrev c : Frames
  c = frames st

  -- 1 to 7
  abbrev pub of_disk : List Rule
  of_disk = Rules.empty_account z v ∷ Rules.empty_map z v ∷ Rules.map_fit z v ∷ Rules.map_once z v ∷ Rules.number_once z v ∷ Rules.account_fit z v ∷ Rules.parent_lower z v ∷ []

  -- 8 to 13
  abbrev pub of_ranges : List Rule
  of_ranges = Rules.address_fit z v ∷ Rules.image_fit z v ∷ Rules.state_fit z v ∷ Rules.owner_fit z v ∷ Rules.active_fit z v ∷ Rules.updating_fit z v ∷ []

  -- 14 to 26
  abbrev pub of_records : List Rule
  of_records = Rules.held_once z v ∷ Rules.held z v ∷ Rules.held_by z v ∷ Rules.filed z v ∷ Rules.filed_by z v ∷ Rules.mapped z v ∷ Rules.imaged z v ∷ Rules.image_once z v ∷ Rules.image_zero z v
      ∷ Rules.leaving_begun z v ∷ Rules.active_filled z v ∷ Rules.address_active z v ∷ Rules.update_active z v ∷ []

  -- 27 and 28
  abbrev pub of_queues : List Rule
  of_queues = queue z.frames st.memory.core.free_queue ∷ queue z.frames st.memory.core.removal_list ∷ []

  -- 29 to 37
  abbrev pub of_frames : List Rule
  of_frames = Rules.frame_fit z v c ∷ Rules.in_one_place z v c ∷ Rules.frame_active z v c ∷ Rules.framed_once z v c ∷ Rules.framed_held z v c ∷ Rules.writing_modified z v c ∷ Rules.free_frame z v c
      ∷ Rules.busy_frame z v c ∷ Rules.clean z v c (at st.disk.records) ∷ []

  -- 38 to 41
  abbrev pub of_counts : List Rule
  of_counts = below st.memory.held.pool.hand z.records ∷ same st.memory.held.pool.free (free_count z v.state)
      ∷ (each (map_words z) λ k. same (at st.memory.held.free_map k) (free_word z v.state k)) ∷ (each z.accounts λ q. same (at st.memory.used q) (used_of z v c q)) ∷ []

  -- 42
  abbrev pub of_line : List Rule
  of_line = queue_of LINE (all_pages z) st.memory.line ∷ []

  -- 43 to 46
  abbrev pub of_chip : List Rule
  of_chip = let word = at st.disk.records in let k = st.memory.chip in Rules.next_fit z v.state word k ∷ Rules.copy_once z v.state word k ∷ Rules.copy_empty z v.state word k ∷ Rules.copy_live z v.state word k ∷ []

-- all of them
abbrev pub of_all : Sizes → State → List Rule
of_all z st = of_disk z st ++ of_ranges z st ++ of_records z st ++ of_queues z st ++ of_frames z st ++ of_counts z st ++ of_line z st ++ of_chip z st

-- the rules of a list as one
abbrev pub together : List Rule → Rule
together [] = same 0 0
together (r ∷ []) = r
together (r ∷ s ∷ rs) = r and together (s ∷ rs)

-- question 2 asks these, and nothing else
pub asked_rules : (z : Sizes) (st : State) → Rules.all_rules z st
    ≡ together (of_disk z st) and together (together (of_ranges z st) ∷ together (of_records z st) ∷ together (of_queues z st) ∷ together (of_frames z st) ∷ together (of_counts z st) ∷ together (of_line z st) ∷ []) and together (of_chip z st)
unfolding Rules.all_rules Rules.memory_rules Rules.table_rules Rules.disk_rules Rules.range_rules Rules.record_rules Rules.queue_rules Rules.frame_rules Rules.count_rules Rules.line_rules Rules.chip_rules
asked_rules z st = refl

-- the numbers of the rules that say no, counted from n
unfoldable pub says_no : ℕ → List Rule → List ℕ
unfolding said
says_no n [] = []
says_no n (r ∷ rs) = let rest = says_no (suc n) rs in if (test r) rest (n ∷ rest)
