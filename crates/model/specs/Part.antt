-- A page look for a caller that cannot be handed a reference: which part of the frames' words it hands back.
use Rattle.std.specs.Prelude.{◌≡◌, refl, [], ℕ, zero, suc, ◌+◌, ◌*◌, take, drop}
use Rattle.tables.specs.Questions.{first_no}
use Rattle.model.specs.declared.sizes.Sizes.{Sizes}
use Rattle.model.specs.declared.applied.Part.{Part}
use Rattle.model.specs.State.{State}
use Rattle.model.specs.Questions.{look_questions}
use Rattle.model.specs.Pages
use Rattle.model.specs.Step.{asked, outcome, look}

-- refused, an empty part
abbrev pub part : ℕ → ℕ → ℕ → Part
part zero start count = record { refusal = 0; start = start; count = count }
part (suc n) start count = record { refusal = suc n; start = 0; count = 0 }

pub no_part : (n start count : ℕ) → ¬ (n ≡ 0) → ◌≡◌ {A = Part} (record { refusal = n; start = 0; count = 0 }) (part n start count)
no_part zero start count d = absurd (d refl)
no_part (suc n) start count d = refl

unfoldable pub part_of : Sizes → State → ℕ → ℕ → Part
part_of z st s p = part (first_no (asked z st (look_questions z st s p))) (Pages.look_start z st s p) z.words

-- where word k of lent words stands: a block, and a place in it
abbrev pub word_at : ℕ × ℕ → ℕ → ℕ × ℕ
word_at at k = (at.0, k * 4 + at.1)

-- it is the part that the look hands back, and its refusal is the look's
pub part_look : (z : Sizes) (st : State) (s p : ℕ) → (look z st s p).left ≡ take (part_of z st s p).count (drop (part_of z st s p).start st.memory.core.words)
unfolding look part_of
part_look z st s p = go (first_no (asked z st (look_questions z st s p)))
  where
    go : (n : ℕ) → (outcome n 0 [] (take z.words (drop (Pages.look_start z st s p) st.memory.core.words))).left
        ≡ take (part n (Pages.look_start z st s p) z.words).count (drop (part n (Pages.look_start z st s p) z.words).start st.memory.core.words)
    go zero = refl
    go (suc n) = refl

pub part_refusal : (z : Sizes) (st : State) (s p : ℕ) → (look z st s p).answer.refusal ≡ (part_of z st s p).refusal
unfolding look part_of
part_refusal z st s p = go (first_no (asked z st (look_questions z st s p)))
  where
    go : (n : ℕ) → (outcome n 0 [] (take z.words (drop (Pages.look_start z st s p) st.memory.core.words))).answer.refusal ≡ (part n (Pages.look_start z st s p) z.words).refusal
    go zero = refl
    go (suc n) = refl
