-- The questions about a sheet, in the parts in which the code asks them.
use Rattle.std.specs.Prelude.{List, ℕ, suc, ◌+◌}
use Rattle.tables.specs.Base.{at}
use Rattle.tables.specs.Questions.{Questions, none, ask}
use Rattle.tables.specs.Rule.{same, below, non, ◌and◌, ◌then◌}
use Rattle.model.specs.declared.sizes.Sizes.{Sizes}
use Rattle.model.specs.Payer.{payer}

-- 30, then 18 and 19 for all pages together, by the W, the N and the count that a sheet tells
abbrev pub pages_asked : Sizes → (account words pages count free : ℕ) (limits parents used : List ℕ) → Questions
pages_asked z account words pages count free limits parents used =
    let p = payer (at parents) (at limits) account in
    ask 30 (same words z.words and same pages z.pages) (ask 18 (below 0 count then below (at used p + count) (suc (at limits p))) (ask 19 (below 0 count then non (below free count)) none))
