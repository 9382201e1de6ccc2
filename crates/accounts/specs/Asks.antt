-- The questions of a move, by the tables that they look at; and where a limit leaves who pays as it is.
use Rattle.std.specs.Prelude.{ℕ, ◌+◌}
use Rattle.tables.specs.Questions.{Questions, none, ask}
use Rattle.tables.specs.Rule.{Rule, same, below, non, ◌and◌, ◌or◌, each}

-- who pays stays as it is where an account's limit goes from `before` to `after`: account 0 pays whatever its limit, any other where it has one
abbrev pub stays_payer : (account before after : ℕ) → Rule
stays_payer a l n = same a 0 or below 0 l and below 0 n

abbrev pub is_parent : (ℕ → ℕ) → ℕ → ℕ → Rule
is_parent parent a b = below 0 b and same (parent b) a

abbrev pub kin : (ℕ → ℕ) → (ℕ → ℕ) → ℕ → ℕ → ℕ → Rule
kin limit parent g t m = (is_parent parent g t or is_parent parent t g) and below 0 m and non (below (limit g) m) and below (limit t + m) 65536

-- 3 and 25
abbrev pub first_asked : ℕ → (ℕ → ℕ) → (ℕ → ℕ) → ℕ → ℕ → ℕ → Questions
first_asked accounts limit parent g t m = ask 3 (below g accounts and below t accounts) (ask 25 (kin limit parent g t m) none)

-- 26, by the limits and counts that there would be
abbrev pub enough : ℕ → (ℕ → ℕ) → (ℕ → ℕ) → (ℕ → ℕ) → (ℕ → ℕ) → Rule
enough accounts limit used limit' used' = each accounts λ a. (same (limit' a) (limit a) and same (used' a) (used a)) or non (below (limit' a) (used' a))
