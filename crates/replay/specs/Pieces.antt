-- The event program over the pieces that its reads bring: the rounds that it makes, each by what its parts promise, and all that it prints.
use Rattle.std.specs.Prelude.{◌≡◌, ℕ, ◌+◌, Bool, true, false, List, [], ◌∷◌, ◌++◌, take, drop}
use Rattle.tables.specs.Base.{if}
use Rattle.model.specs.State.{State}
use Rattle.fields.specs.Fields.{field_at}
use Rattle.lines.specs.Lines.{bad_field}
use Rattle.replay.specs.declared.input.Next.{Next}
use Rattle.replay.specs.Input.{follows}
use Rattle.replay.specs.Output.{Ran}

-- the whole input: one read after the other, up to the first that brings no bytes
abbrev pub joined : List (List ℕ) → List ℕ
joined [] = []
joined ([] ∷ pieces) = []
joined ((b ∷ piece) ∷ pieces) = (b ∷ piece) ++ joined pieces

abbrev pub is_none : List ℕ → Bool
is_none [] = true
is_none (b ∷ piece) = false

-- the input that is still to come
abbrev pub coming : Bool → List (List ℕ) → List ℕ
coming ended pieces = if ended [] (joined pieces)

-- one round over the bytes s that have come, from a place on: the lines of whole fields up to another place, and what follows there
pub record Round (s : List ℕ) (from n : ℕ) (st : State) (ended : Bool) (next : Next) : Type 0 where
  pub to : ℕ
  pub count : ℕ
  pub left : State
  pub before : List ℕ
  pub after : List ℕ
  pub size : ℕ
  pub ran : Ran s before after from n st to size count left
  pub follow : next ≡ follows ended (field_at s to)

-- the bytes that go out at its end
abbrev pub out : {s : List ℕ} {from n : ℕ} {st : State} {ended : Bool} {next : Next} → Round s from n st ended next → List ℕ
out r = take r.size r.after

-- what is printed from a place of s on, where s starts at an offset of the input, n events are done, and these pieces are read after s
pub data Prints : ℕ → List ℕ → ℕ → ℕ → State → Bool → List (List ℕ) → List ℕ → Type 0 where
  -- the lines had no more room: once more from there
  again : {offset : ℕ} {s : List ℕ} {from n : ℕ} {st : State} {ended : Bool} {pieces : List (List ℕ)} {rest : List ℕ} (r : Round s from n st ended Next.Again)
      → Prints offset s r.to r.count r.left ended pieces rest
      → Prints offset s from n st ended pieces (out r ++ rest)
  -- a piece is read behind what is not used yet
  more : {offset : ℕ} {s : List ℕ} {from n : ℕ} {st : State} {ended : Bool} {piece : List ℕ} {pieces : List (List ℕ)} {rest : List ℕ} (r : Round s from n st ended Next.More)
      → Prints (offset + r.to) (drop r.to s ++ piece) 0 r.count r.left (is_none piece) pieces rest
      → Prints offset s from n st ended (piece ∷ pieces) (out r ++ rest)
  -- the input has ended
  stop : {offset : ℕ} {s : List ℕ} {from n : ℕ} {st : State} {ended : Bool} {pieces : List (List ℕ)} (r : Round s from n st ended Next.Stop)
      → Prints offset s from n st ended pieces (out r)
  -- a bad field is told
  bad : {offset : ℕ} {s : List ℕ} {from n : ℕ} {st : State} {ended : Bool} {pieces : List (List ℕ)} (r : Round s from n st ended Next.Bad)
      → Prints offset s from n st ended pieces (out r ++ bad_field (offset + r.to))
