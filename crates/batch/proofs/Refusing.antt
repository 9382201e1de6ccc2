-- The answers to a list that question 1 or 2 refuses, as the loop puts them.
use mathlib.Core.Path.{◌≡◌, refl, ap, ◌∙◌}
use mathlib.Core.List.{List}
use Prim.Native.Nat.{ℕ, zero, suc, ◌+◌, ◌≤◌}
use native.Mathlib.Omega.{arith}
use lib.ListN.{length, set, length-set}
use Rattle.model.specs.declared.event.Answer.{Answer}
use Rattle.model.specs.ApplyAll.{put_answer, refusals, last_refusal}

refusals_length : (n : ℕ) (answers : List ℕ) (k : ℕ) → length (refusals n answers k) ≡ length answers
unfolding refusals
refusals_length n answers zero = refl
refusals_length n answers (suc k) = length-set (set (refusals n answers k) _ _) _ _ ∙ length-set (refusals n answers k) _ _ ∙ refusals_length n answers k

-- k of them are put: the last one, and the list
pub record Refused (n : ℕ) (answers : List ℕ) (k : ℕ) (last : Answer) (now : List ℕ) : Type 0 where
  pub last_is : last ≡ last_refusal n k
  pub all_are : now ≡ refusals n answers k

module _ {n : ℕ} {answers : List ℕ} where
  pub refused_none : Refused n answers 0 (record { refusal = 0; result = 0 }) answers
  unfolding refusals
  refused_none = record { last_is = refl; all_are = refl }

  pub refused_long : {k : ℕ} {last : Answer} {now : List ℕ} → Refused n answers k last now → length now ≡ length answers
  refused_long {k} r = ap length r.all_are ∙ refusals_length n answers k

  pub refused_next : {k : ℕ} {last : Answer} {now next : List ℕ} → Refused n answers k last now → next ≡ put_answer k (record { refusal = n; result = 0 }) now → Refused n answers (k + 1) (record { refusal = n; result = 0 }) next
  unfolding refusals
  refused_next {k} r e =
      let s : suc k ≡ k + 1 = omega arith in
      record { last_is = ap (last_refusal n) s; all_are = e ∙ ap (put_answer k (record { refusal = n; result = 0 })) r.all_are ∙ ap (refusals n answers) s }

  pub refused_end : {k m : ℕ} {last : Answer} {now : List ℕ} → k ≤ m → m ≤ k → Refused n answers k last now → Refused n answers m last now
  refused_end {k} {m} a b r = let s : k ≡ m = omega (arith, a, b) in record { last_is = r.last_is ∙ ap (last_refusal n) s; all_are = r.all_are ∙ ap (refusals n answers) s }
