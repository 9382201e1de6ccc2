-- Export: the sheet of the design in a slot, laid over a buffer.
use Rattle.std.specs.Prelude.{List, ℕ, length}
use Rattle.tables.specs.Questions.{first_no}
use Rattle.sheets.specs.Sheet.{printed, laid}
use Rattle.model.specs.declared.sizes.Sizes.{Sizes}
use Rattle.model.specs.State.{State, files, page_of}
use Rattle.model.specs.Questions.{export_questions}
use Rattle.model.specs.Ledger.{found}
use Rattle.model.specs.Step.{Outcome, outcome, asked}

module _ (z : Sizes) (st : State) (s : ℕ) where
  -- an inactive design's pages as the disk has them: the words of its listed records, zeros elsewhere
  abbrev pub page_text : ℕ → ℕ → ℕ
  page_text p j = found z st.disk (page_of z s p) j

  unfoldable pub exported : List ℕ
  exported = printed z.words z.pages ((files st).number s) page_text

  -- Its result is the sheet's length, bytes after it untouched.
  unfoldable pub export : List ℕ → Outcome (List ℕ)
  export buffer = outcome (first_no (asked z st (export_questions z st s (length exported) (length buffer)))) (length exported) buffer (laid buffer 0 exported)
