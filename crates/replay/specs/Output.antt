-- All that the event program prints for an input. "It formats W 2, R 4, F 2, S 2, N 3, Q 1, and restarts."
use Rattle.std.specs.Prelude.{◌≡◌, ℕ, zero, suc, ◌+◌, ◌-◌, ◌≤◌, List, [], ◌++◌, length, replicate, ◌==◌}
use Rattle.tables.specs.Base.{if}
use Rattle.model.specs.declared.sizes.Sizes.{Sizes}
use Rattle.model.specs.declared.request.Request.{Request}
use Rattle.model.specs.State.{State, no_frame}
use Rattle.model.specs.Lent.{all_of, no_pool}
use Rattle.model.specs.Step.{Outcome, restart, format}
use Rattle.model.specs.Calls.{apply}
use Rattle.fields.specs.Fields.{CUT, field_at}
use Rattle.fields.specs.declared.Field.{Field}
use Rattle.fields.specs.declared.Field.TheVariants.{End, Whole, Cut, Short, Wrong}
use Rattle.lines.specs.Lines.{Wrote, header, line_of, bad_field}
use Rattle.replay.specs.Input.{is_whole, request_of, next_of}

abbrev pub sizes : Sizes
sizes = record { words = 2; records = 4; frames = 2; slots = 2; pages = 3; accounts = 1; chip = 2 }

-- "10 cut and restart": "At its cut no unreported transfer lands", so the restart is all
unfoldable pub carried : State → Request → Outcome State
carried st request = if (request.kind == CUT) (restart sizes st) (apply sizes st request)

-- a table of zeros
abbrev pub zeros : ℕ → List ℕ
zeros n = replicate n 0

-- formatted, and restarted: the one account has no parent
unfoldable pub started_from : State → Outcome State
started_from st = restart sizes (record { disk = (format sizes (zeros 1) st.disk).left; memory = st.memory })

-- the line of the n-th event
abbrev pub line_of_event : ℕ → Request → Outcome State → List ℕ
line_of_event n request o = line_of n request.kind o.answer.refusal o.answer.result

-- "At an unknown tag, wrong length or short field it prints `bad field at` and the tag's byte offset, from 0, and stops."
abbrev pub last_line : ℕ → Field → List ℕ
last_line offset End = []
last_line offset (Whole request next) = []
last_line offset (Cut next) = []
last_line offset Short = bad_field offset
last_line offset Wrong = bad_field offset

-- what is printed from place i of the bytes s on, in so many fields at most: n events are done, and s starts at an offset of the input
unfoldable pub printed : ℕ → ℕ → List ℕ → ℕ → ℕ → State → List ℕ
printed zero offset s i n st = []
printed (suc most) offset s i n st =
    let f = field_at s i in
    let o = carried st (request_of f) in
    if (is_whole f) (line_of_event (suc n) (request_of f) o ++ printed most offset s (next_of f) (suc n) o.left) (last_line (offset + i) f)

-- .. in all fields: each has three bytes at least
abbrev pub printed_from : ℕ → List ℕ → ℕ → ℕ → State → List ℕ
printed_from offset s i n st = printed (length s - i) offset s i n st

-- the lines of whole fields of the bytes s from one place to another, as they stand in a buffer: what is printed whatever bytes t follow
pub record Ran (s before after : List ℕ) (from count : ℕ) (st : State) (to size n : ℕ) (left : State) : Type 0 where
  pub forth : from ≤ to
  pub within : from ≤ length s → to ≤ length s
  pub bytes : List ℕ
  pub wrote : Wrote before after 0 bytes size
  pub is : (offset : ℕ) (t : List ℕ) → printed_from offset (s ++ t) from count st ≡ bytes ++ printed_from offset (s ++ t) to n left

-- ── all of it ──
-- the tables before anything is done
abbrev pub blank : State
blank = all_of (replicate 2 no_frame) no_pool (zeros 8) (zeros 2) (zeros 2) (zeros 6) (zeros 1) (zeros 1) (zeros 1)
    (zeros 4) (zeros 2) (zeros 2) (zeros 6) (zeros 4) (zeros 4) (zeros 1) (zeros 2) (zeros 2) (zeros 6) (zeros 4) (zeros 2) (zeros 1) (zeros 32) (zeros 1)

unfoldable pub output : List ℕ → List ℕ
output s = header ++ printed_from 0 s 0 0 (started_from blank).left
