-- Laws of a move: the limits' length and their sum stay.
use Rattle.std.specs.Prelude.{◌≡◌, List, [], ◌∷◌, ℕ, zero, suc, ◌+◌, ◌-◌, ◌<◌, length, set}
use Rattle.std.proofs.Common.{◌∙◌, arith, length-set, get_or-set_other}
use Rattle.tables.specs.Base.{at}
use Rattle.model.specs.Accounts.{shifted}
use Rattle.model.specs.Terms.{sum}

pub length_shifted : (limits : List ℕ) (giver taker m : ℕ) → length (shifted limits giver taker m) ≡ length limits
unfolding shifted
length_shifted limits giver taker m = length-set (set limits giver (at limits giver - m)) taker _ ∙ length-set limits giver _

-- the sum after one store
pub sum_set : (xs : List ℕ) (i x : ℕ) → i < length xs → sum (set xs i x) + at xs i ≡ sum xs + x
unfolding sum
sum_set [] i x h = absurd (omega (arith, h))
sum_set (y ∷ ys) zero x h = omega arith
sum_set (y ∷ ys) (suc i) x h = omega (arith, sum_set ys i x (omega (arith, h)))

-- what the giver has goes to another account
pub sum_shifted : (limits : List ℕ) (giver taker m : ℕ) → giver < length limits → taker < length limits → ¬ (taker ≡ giver) → ¬ (at limits giver < m) → sum (shifted limits giver taker m) ≡ sum limits
unfolding shifted
sum_shifted limits giver taker m g t d n =
    let less = set limits giver (at limits giver - m) in
    omega (arith, sum_set limits giver (at limits giver - m) g, sum_set less taker (at limits taker + m) (rw (length-set limits giver (at limits giver - m)) t), get_or-set_other limits giver taker (at limits giver - m) 0 d)
