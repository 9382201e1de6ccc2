-- The input in pieces: what a refill leaves, what a field asks for, and what follows the whole fields that have come.
use Rattle.std.specs.Prelude.{◌≡◌, ℕ, ◌+◌, ◌-◌, ◌%◌, ◌^◌, ◌≤◌, Bool, true, false, ◌&&◌, List, length, take, drop, ◌==◌, nat_le, nat_lt, Result, Ok, Err}
use Rattle.tables.specs.Base.{if}
use Rattle.model.specs.declared.request.Request.{Request}
use Rattle.fields.specs.Fields.{CUT}
use Rattle.fields.specs.declared.Field.{Field}
use Rattle.fields.specs.declared.Field.TheVariants.{End, Whole, Cut, Short, Wrong}
use Rattle.replay.specs.declared.input.Reader.{Reader}
use Rattle.replay.specs.declared.input.Next.{Next}
use Rattle.replay.specs.declared.input.Step.{Step}

-- the reader past what ends at that place; offsets count modulo 2 ^ 64
abbrev pub past : Reader → ℕ → Reader
past r to = record { place = to; filled = r.filled; offset = (r.offset + (to - r.place)) % 2 ^ 64; ended = r.ended }

-- the bytes that have come and are not used yet
abbrev pub unread : Reader → List ℕ → List ℕ
unread r buffer = take (r.filled - r.place) (drop r.place buffer)

-- after one read: the unread bytes are first, new ones may follow them, and the input has ended where none do
pub record Refilled (before after : List ℕ) (old new : Reader) : Type 0 where
  pub first : new.place ≡ 0
  pub kept : take (old.filled - old.place) after ≡ unread old before
  pub grown : old.filled - old.place ≤ new.filled
  pub within : new.filled ≤ length after
  pub same : new.offset ≡ old.offset
  pub ended : new.ended ≡ (new.filled == old.filled - old.place)

-- ── what a field asks for ──
-- the request that stands for a cut and a restart; it has no values
abbrev pub cut : Request
cut = record { kind = CUT; first = 0; second = 0; third = 0; fourth = 0 }

abbrev pub is_whole : Field → Bool
is_whole End = false
is_whole (Whole request next) = true
is_whole (Cut next) = true
is_whole Short = false
is_whole Wrong = false

abbrev pub request_of : Field → Request
request_of End = cut
request_of (Whole request next) = request
request_of (Cut next) = cut
request_of Short = cut
request_of Wrong = cut

-- where the next field starts
abbrev pub next_of : Field → ℕ
next_of End = 0
next_of (Whole request next) = next
next_of (Cut next) = next
next_of Short = 0
next_of Wrong = 0

-- a line more has room behind so many bytes of the 4,096, and an event more can be counted
abbrev pub room : ℕ → ℕ → Bool
room size n = nat_le size 4050 && nat_lt n 18446744073709551615

-- what a field asks for, and where the next one starts: Ok where it is whole and its line has room
abbrev pub step_of : Field → Bool → Result Step Step
step_of f r = let step : Step = record { asked = request_of f; next = next_of f } in if (is_whole f && r) (Ok step) (Err step)

-- ── what follows them, where the input may have ended ──
abbrev pub follows : Bool → Field → Next
follows ended End = if ended Next.Stop Next.More
follows ended (Whole request next) = Next.Again
follows ended (Cut next) = Next.Again
follows ended Short = if ended Next.Bad Next.More
follows ended Wrong = Next.Bad
