-- The states of a record and the lines along which it moves.
use Rattle.std.specs.Prelude.{Bool, List, [], ◌∷◌, ◌++◌, ℕ, length, get_or}
use Rattle.tables.specs.Rule.{Rule, same, some, ◌and◌, test}

-- how many states a record has, and their numbers
abbrev pub STATES : ℕ
STATES = 6

abbrev pub FREE : ℕ
FREE = 0

abbrev pub FILED : ℕ
FILED = 1

abbrev pub NULLED : ℕ
NULLED = 2

abbrev pub LIVE : ℕ
LIVE = 3

abbrev pub RELEASED : ℕ
RELEASED = 4

abbrev pub LEAVING : ℕ
LEAVING = 5

-- a line leads from one state to another
pub record Line : Type 0 where
  pub from : ℕ
  pub to : ℕ

abbrev pub line : ℕ → ℕ → Line
line a b = record { from = a; to = b }

-- "A record moves only along these eleven lines: free to nulled; nulled to live, released, leaving; live to nulled,
-- released, filed; released to leaving; leaving to free, released; filed to live."
abbrev pub eleven : List Line
eleven =
    line FREE NULLED
    ∷ line NULLED LIVE
    ∷ line NULLED RELEASED
    ∷ line NULLED LEAVING
    ∷ line LIVE NULLED
    ∷ line LIVE RELEASED
    ∷ line LIVE FILED
    ∷ line RELEASED LEAVING
    ∷ line LEAVING FREE
    ∷ line LEAVING RELEASED
    ∷ line FILED LIVE
    ∷ []

-- (02) the records that an import takes "go from free to filed, a twelfth line"
abbrev pub twelfth : Line
twelfth =
    line FREE FILED

abbrev pub lines : List Line
lines = eleven ++ twelfth ∷ []

-- a line of a list leads from a to b
abbrev pub led_by : List Line → ℕ → ℕ → Rule
led_by some-lines a b = some (length some-lines) λ k. let l = get_or some-lines k (line 0 0) in same a l.from and same b l.to

abbrev pub led : ℕ → ℕ → Rule
led a b = led_by lines a b

unfoldable pub allowed : ℕ → ℕ → Bool
allowed a b = test (led a b)

-- an event moves a record along one of the eleven, an import along the twelfth alone
unfoldable pub by_event : ℕ → ℕ → Bool
by_event a b = test (led_by eleven a b)

unfoldable pub by_import : ℕ → ℕ → Bool
by_import a b = test (led_by (twelfth ∷ []) a b)
