-- A rule by its test, as code tells it.
use mathlib.Core.Path.{◌≡◌, refl}
use mathlib.Core.Bool.{Bool, true, false, not, ◌&&◌, ◌||◌}
use mathlib.Core.List.{List}
use Prim.Native.Nat.{ℕ}
use lib.Dec.{ltb, eqb}
use lib.ListN.{take}
use Rattle.tables.specs.Base.{◌⇒◌}
use Rattle.tables.specs.Rule.{Holds, test, same, below, non, ◌and◌, ◌or◌, ◌then◌, alike}
use Rattle.tables.specs.Turn.{said_yes, said_no}
use Rattle.model.specs.declared.frame.Frame.{Frame}
use Rattle.leaves.specs.Asks.{two_below, three_below}
use Rattle.leaves.specs.FrameLaws.{frame_take}
use Rattle.designs.specs.Asks.{unframed}

-- ranges as the code tests them
pub two_yes : (a b c d : ℕ) → (ltb a b && ltb c d) ≡ true → Holds (below a b and below c d)
two_yes a b c d = said_yes (below a b and below c d) (two_below a b c d)

pub three_yes : (a b c d e f : ℕ) → (ltb a b && (ltb c d && ltb e f)) ≡ true → Holds (below a b and below c d and below e f)
three_yes a b c d e f = said_yes (below a b and below c d and below e f) (three_below a b c d e f)

pub three_no : (a b c d e f : ℕ) → (ltb a b && (ltb c d && ltb e f)) ≡ false → ¬ Holds (below a b and below c d and below e f)
three_no a b c d e f = said_no (below a b and below c d and below e f) (three_below a b c d e f)

-- a record that is not the slot's, or in neither of two states
pub none_of : (o s t x y : ℕ) → (not (eqb o s) || (not (eqb t x) && not (eqb t y))) ≡ test (same o s then non (same t x or same t y))
unfolding test
none_of o s t x y = go (eqb o s) (eqb t x) (eqb t y)
  where
    go : (a b c : Bool) → (not a || (not b && not c)) ≡ (a ⇒ not (b || c))
    go false b c = refl
    go true true c = refl
    go true false c = refl

-- only the first frames are asked
pub unframed_taken : (count : ℕ) (fs : List Frame) (pages s : ℕ) → test (unframed count fs pages s) ≡ test (unframed count (take count fs) pages s)
unframed_taken count fs pages s = alike (unframed count fs pages s) (unframed count (take count fs) pages s)
    (λ h p l (f, m, e). h p l (f, m, rw (frame_take count fs f m) at e))
    (λ h p l (f, m, e). h p l (f, m, rw (frame_take count fs f m) e))
