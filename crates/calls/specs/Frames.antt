-- The frames that are lent: so many of the first of 64. Where question 1 says yes these are the first F of the array.
use Rattle.std.specs.Prelude.{◌≡◌, Bool, List, ℕ, ◌<◌, min, length, take}
use Rattle.std.proofs.Common.{ap, sym, subst, ◌∙◌, arith, length-take}
use Rattle.tables.specs.Rule.{Holds, test}
use Rattle.model.specs.declared.sizes.Sizes.{Sizes}
use Rattle.model.specs.declared.frame.Frame.{Frame}
use Rattle.model.specs.State.{State}
use Rattle.model.specs.Rules.{all_rules}
use Rattle.model.specs.Step.{all_fit}
use Rattle.model.specs.Laws.Fit.{fit}
use Rattle.model.specs.Calls.{frames_of, length_frames, frames_of_holds}

-- F frames lent, of an array of 64
pub lent_of : (fs : List Frame) (lent n : ℕ) → lent ≡ n → n < 65 → length fs ≡ 64 → frames_of fs lent ≡ take n fs
lent_of fs lent n e h long = frames_of_holds fs lent (omega (arith, e, h, long)) ∙ ap (λ (m : ℕ). take m fs) e

-- a state by its frames
module _ (z : Sizes) (st : List Frame → State) (of : (l : List Frame) → (st l).memory.core.frames ≡ l) (fs : List Frame) (lent : ℕ) where
  module _ (f : Holds (all_fit z (st (frames_of fs lent)))) where
    -- F frames are lent
    pub all_lent : lent ≡ z.frames
    all_lent = sym (length_frames fs lent) ∙ ap length (sym (of (frames_of fs lent))) ∙ (fit z (st (frames_of fs lent)) f).memory.frames

    module _ (long : length fs ≡ 64) where
      pub lent_taken : frames_of fs lent ≡ take lent fs
      lent_taken = frames_of_holds fs lent (omega (arith, all_lent, long, (fit z (st (frames_of fs lent)) f).sizes.frames_most))

      pub lent_first : frames_of fs lent ≡ take z.frames fs
      lent_first = lent_taken ∙ ap (λ (n : ℕ). take n fs) all_lent

      pub fit_taken : Holds (all_fit z (st (take lent fs)))
      fit_taken = subst (λ (l : List Frame). Holds (all_fit z (st l))) lent_taken f

      pub ruled_taken : (b : Bool) → b ≡ test (all_rules z (st (take lent fs))) → b ≡ test (all_rules z (st (frames_of fs lent)))
      ruled_taken b e = e ∙ ap (λ (l : List Frame). test (all_rules z (st l))) (sym lent_taken)

-- the frames that come back: the array's first F
pub lent_back : (fs l : List Frame) (lent n : ℕ) → lent ≡ n → take n fs ≡ l → length l ≡ n → frames_of fs lent ≡ l
lent_back fs l lent n e t h =
    let k : min n (length fs) ≡ n = sym (length-take n fs) ∙ ap length t ∙ h in
    frames_of_holds fs lent (omega (arith, e, k)) ∙ ap (λ (m : ℕ). take m fs) e ∙ t
