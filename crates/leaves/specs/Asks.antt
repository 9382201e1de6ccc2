-- The questions that begin every event about a slot, in the parts in which the code asks them.
use Rattle.std.specs.Prelude.{◌≡◌, refl, Bool, ◌&&◌, List, ℕ, T, ltb}
use Rattle.std.proofs.Common.{sym, ◌∙◌}
use Rattle.tables.specs.Base.{at}
use Rattle.tables.specs.Questions.{Questions, none, ask, first_no, above, all_yes}
use Rattle.tables.specs.Also.{◌also◌, also_yes, also_no, ask_same}
use Rattle.tables.specs.Rule.{Rule, Holds, same, below, is, non, ◌and◌, test, sound}

-- 4: the slot filled
abbrev pub ask_filled : ℕ → List ℕ → Questions
ask_filled s numbers = ask 4 (non (same (at numbers s) 0)) none

-- 8: the slot active
abbrev pub ask_active : ℕ → List ℕ → Questions
ask_active s active = ask 8 (same (at active s) 1) none

-- 10: no update of it under way
abbrev pub ask_no_update : ℕ → List ℕ → Questions
ask_no_update s updating = ask 10 (same (at updating s) 0) none

-- 3 and 4; the range is told by a test
abbrev pub filled_asked : Bool → ℕ → List ℕ → Questions
filled_asked range s numbers = ask 3 (is range) (ask_filled s numbers)

-- 3, 4 and 8
abbrev pub slot_asked : Bool → ℕ → List ℕ → List ℕ → Questions
slot_asked range s numbers active = filled_asked range s numbers also ask_active s active

-- 3, 4, 8 and 10
abbrev pub idle_asked : Bool → ℕ → List ℕ → List ℕ → List ℕ → Questions
idle_asked range s numbers active updating = slot_asked range s numbers active also ask_no_update s updating

-- a range told by its test
pub asked_range : (b : Bool) (range : Rule) (q : Questions) → b ≡ test range → first_no (ask 3 (is b) q) ≡ first_no (ask 3 range q)
unfolding test
asked_range b range q e = ask_same 3 (is b) range q e

-- ranges as the code tests them
pub one_below : (a b : ℕ) → ltb a b ≡ test (below a b)
unfolding test
one_below a b = refl

pub two_below : (a b c d : ℕ) → (ltb a b && ltb c d) ≡ test (below a b and below c d)
unfolding test
two_below a b c d = refl

pub three_below : (a b c d e f : ℕ) → (ltb a b && (ltb c d && ltb e f)) ≡ test (below a b and below c d and below e f)
unfolding test
three_below a b c d e f = refl

-- n answers 3 and the questions p, and the questions q come after them
module _ (b : Bool) (range : Rule) (t : b ≡ test range) (p q : Questions) (n : ℕ) (e : n ≡ first_no (ask 3 (is b) p)) where
  pub part_no : ¬ (n ≡ 0) → n ≡ first_no (ask 3 range (p also q))
  part_no h = e ∙ sym (also_no (ask 3 (is b) p) q (λ x. h (e ∙ x))) ∙ asked_range b range (p also q) t

  module _ (numbered : T (above 0 p)) (yes : n ≡ 0) where
    pub part_yes : first_no q ≡ first_no (ask 3 range (p also q))
    part_yes = sym (also_yes 0 (ask 3 (is b) p) q numbered (sym e ∙ yes)) ∙ asked_range b range (p also q) t

    pub part_range : Holds range
    part_range = sound range (rw (← t) (all_yes 0 (ask 3 (is b) p) numbered (sym e ∙ yes)).0)
