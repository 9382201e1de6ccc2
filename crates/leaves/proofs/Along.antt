-- The lines that the code moves records along.
use mathlib.Core.Path.{◌≡◌, subst, sym}
use Prim.Native.Nat.{ℕ}
use lib.Dec.{T}
use Rattle.tables.specs.Base.{any}
use Rattle.tables.specs.Rule.{test}
use Rattle.model.specs.Lines.{FREE, LEAVING, allowed}

-- a record in the state that a line leads from
pub along : (s a b : ℕ) → s ≡ a → T (allowed a b) → T (allowed s b)
along s a b e t = subst (λ (n : ℕ). T (allowed n b)) (sym e) t

pub freeing : T (allowed LEAVING FREE)
unfolding allowed test any
freeing = tt
