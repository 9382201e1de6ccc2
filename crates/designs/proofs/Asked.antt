-- Questions that begin with a range, asked in two parts: what follows once the first part is answered.
use mathlib.Core.Path.{◌≡◌, refl, ◌∙◌}
use Prim.Native.Nat.{ℕ, ◌<◌}
use lib.Dec.{T, ltb}
use Rattle.tables.specs.Questions.{Questions, ask, first_no, above}
use Rattle.tables.specs.Also.{◌also◌}
use Rattle.tables.specs.Rule.{below, is}
use Rattle.model.specs.declared.refusals.Refusal.{Refusal}
use Rattle.model.specs.Refusals.{number, no_also}
use Rattle.leaves.specs.Asks.{asked_range, one_below, part_yes, part_range}

module _ (a b : ℕ) (p q : Questions) where
  -- it says no: that is the answer
  pub asked_no : (e : Refusal) → number e ≡ first_no (ask 3 (is (ltb a b)) p) → number e ≡ first_no (ask 3 (below a b) (p also q))
  asked_no e h = no_also e (ask 3 (is (ltb a b)) p) q h ∙ asked_range (ltb a b) (below a b) (p also q) (one_below a b)

  -- it says yes: the second part answers, and the range holds
  pub asked_yes : T (above 0 p) → 0 ≡ first_no (ask 3 (is (ltb a b)) p) → first_no q ≡ first_no (ask 3 (below a b) (p also q))
  asked_yes numbered h = part_yes (ltb a b) (below a b) (one_below a b) p q 0 h numbered refl

  pub asked_inside : T (above 0 p) → 0 ≡ first_no (ask 3 (is (ltb a b)) p) → a < b
  asked_inside numbered h = part_range (ltb a b) (below a b) (one_below a b) p q 0 h numbered refl
