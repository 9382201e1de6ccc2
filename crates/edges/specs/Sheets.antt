-- The sheets that the edges of imports and exports speak of.
use Rattle.std.specs.Prelude.{List, [], ◌∷◌, ◌++◌, ℕ}
use Rattle.model.specs.declared.sizes.Sizes.{Sizes}
use Rattle.model.specs.Acts
use Rattle.model.specs.Acts.{Act}
use Rattle.edges.specs.Lists.{limit, restart}

-- W 2 and N 3; number 9
abbrev pub sizes_field : List ℕ
sizes_field = 3 ∷ 0 ∷ 4 ∷ 0 ∷ 2 ∷ 0 ∷ 3 ∷ []

abbrev pub number_field : List ℕ
number_field = 1 ∷ 0 ∷ 4 ∷ 0 ∷ 0 ∷ 0 ∷ 9 ∷ []

-- page 0 holds 5 and 0, page 2 holds 0 and 70,000
abbrev pub first_page : List ℕ
first_page = 2 ∷ 0 ∷ 10 ∷ 0 ∷ 0 ∷ 0 ∷ 0 ∷ 0 ∷ 5 ∷ 0 ∷ 0 ∷ 0 ∷ 0 ∷ []

abbrev pub last_page : List ℕ
last_page = 2 ∷ 0 ∷ 10 ∷ 0 ∷ 2 ∷ 0 ∷ 0 ∷ 0 ∷ 0 ∷ 0 ∷ 1 ∷ 17 ∷ 112 ∷ []

abbrev pub end : List ℕ
end = 4 ∷ 0 ∷ 0 ∷ []

-- a sheet of two pages, and one without pages
abbrev pub sheet : List ℕ
sheet = sizes_field ++ number_field ++ first_page ++ last_page ++ end

abbrev pub bare : List ℕ
bare = sizes_field ++ number_field ++ end

-- an import for account 0
abbrev pub import : ℕ → ℕ → List ℕ → Act
import s n b = Acts.importing s 0 n b

abbrev pub opened : List Act
opened = restart ∷ limit 0 4 ∷ []
