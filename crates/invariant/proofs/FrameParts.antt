-- Entries that a bulk store leaves alone; words of a part, a frame's or a record's, after a store into one part.
use mathlib.Core.Path.{◌≡◌, ap, sym, ◌∙◌}
use mathlib.Core.Logic.{inl, inr}
use mathlib.Core.List.{List}
use Prim.Native.Nat.{ℕ, ◌+◌, ◌*◌, ◌/◌, ◌%◌, ◌<◌}
use native.Mathlib.Nat.{mul-add-div_right, mul-add-mod_self_right, div-eq_of_lt, mod-eq_of_lt, add-zero, div-lt_iff_lt-mul}
use native.Mathlib.Omega.{arith}
use lib.ListN.{length, set}
use lib.Seq.{get_or-set_other}
use Rattle.tables.specs.Base.{at}
use Rattle.tables.specs.Store.{store, at_store}
use Rattle.tables.specs.Rule.{Rule, same, Holds}
use Rattle.model.specs.declared.sizes.Sizes.{Sizes}
use Rattle.model.specs.Parts.{set_part}

-- an entry where the rule of a bulk store does not hold
pub unstored : (xs : List ℕ) (t : ℕ → Rule) (g : ℕ → ℕ) (i : ℕ) → i < length xs → ¬ (Holds (t i)) → at (store xs t g) i ≡ at xs i
unstored xs t g i l d = elim (at_store xs t g i l) [ inl x ↦ absurd (d x.0) | inr x ↦ x.1 ]

-- entry r * n + w is of part r, at place w
pub part_of : (r w n : ℕ) → w < n → (r * n + w) / n ≡ r
part_of r w n l = mul-add-div_right {m = n} (omega arith) r w ∙ rw (div-eq_of_lt l) (add-zero r)

pub place_of_holds : (r w n : ℕ) → w < n → (r * n + w) % n ≡ w
place_of_holds r w n l = mul-add-mod_self_right r n w ∙ mod-eq_of_lt l

pub part_fit : (r m w n : ℕ) → r < m → w < n → r * n + w < m * n
part_fit r m w n h l = (div-lt_iff_lt-mul {k = n} {x = r * n + w} {y = m} (omega arith)).0 (rw (part_of r w n l) h)

module _ (z : Sizes) (m : ℕ) (xs : List ℕ) (len : length xs ≡ m * z.words) (f : ℕ) (word : ℕ → ℕ) (w : ℕ) (l : w < z.words) where
  pub part_set : f < m → at (set_part z f word xs) (f * z.words + w) ≡ word w
  part_set h = elim (at_store xs (λ k. same (k / z.words) f) (λ k. word (k % z.words)) (f * z.words + w) (rw len (part_fit f m w z.words h l))) [
    | inl x ↦ x.1 ∙ ap word (place_of_holds f w z.words l)
    | inr x ↦ absurd (x.0 (part_of f w z.words l))
  ]

  pub part_other : (h : ℕ) → h < m → ¬ (h ≡ f) → at (set_part z f word xs) (h * z.words + w) ≡ at xs (h * z.words + w)
  part_other h k d = elim (at_store xs (λ j. same (j / z.words) f) (λ j. word (j % z.words)) (h * z.words + w) (rw len (part_fit h m w z.words k l))) [
    | inl x ↦ absurd (d (sym (part_of h w z.words l) ∙ x.0))
    | inr x ↦ x.1
  ]

-- .. and after a store of one word of one part
pub word_other : (xs : List ℕ) (n f w h u x : ℕ) → w < n → u < n → ¬ (h ≡ f) → at (set xs (f * n + w) x) (h * n + u) ≡ at xs (h * n + u)
word_other xs n f w h u x a b d = get_or-set_other xs (f * n + w) (h * n + u) x 0 (λ e. d (sym (part_of h u n b) ∙ ap (λ (k : ℕ). k / n) e ∙ part_of f w n a))
