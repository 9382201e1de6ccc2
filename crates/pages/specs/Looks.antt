-- A look at a page by its own questions, once 1 and 2 are asked.
use Rattle.std.specs.Prelude.{ℕ}
use Rattle.tables.specs.Questions.{first_no}
use Rattle.model.specs.declared.sizes.Sizes.{Sizes}
use Rattle.model.specs.declared.applied.Part.{Part}
use Rattle.model.specs.State.{State}
use Rattle.model.specs.Questions.{look_questions}
use Rattle.model.specs.Pages.{look_start}
use Rattle.model.specs.Part.{part}

unfoldable pub placed : Sizes → State → ℕ → ℕ → Part
placed z st s p = part (first_no (look_questions z st s p)) (look_start z st s p) z.words
