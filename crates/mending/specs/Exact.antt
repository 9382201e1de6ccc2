-- The list is exact: each step lists the places that it changes, with what stood there and its reason, in the order of places; each place changes at most once, to 0; and the count is that of the places that differ.
use Rattle.std.specs.Prelude.{◌≡◌, ◌⊎◌, Bool, true, false, ◌||◌, List, [], ◌∷◌, ◌++◌, T, eqb, length}
use Rattle.std.proofs.Math.Path.{refl}
use Rattle.std.proofs.Common.{ap, sym, ◌∙◌, inl, inr, arith, length-append, eq-eqb, ne_eqb}
use Rattle.std.proofs.Math.Bool.{not}
use Prim.Native.Nat.{ℕ, zero, suc, ◌+◌, ◌-◌, ◌<◌, ◌≤◌}
use Rattle.tables.specs.Base.{if, count}
use Rattle.tables.specs.Laws.{count_same, count_bound}
use Rattle.tables.specs.CountLaws.{count_or}
use Rattle.tables.specs.Rule.{test, told, untold}
use Rattle.model.specs.declared.sizes.Sizes.{Sizes}
use Rattle.mending.specs.Mend.{Pack, Change, place_at, all_places, held, changes, change_at, gather, listed, after, listed_by, mended, all_changes}
use Rattle.mending.specs.Places.{PackFit, place_in, after_fit, after_held, down}

-- equal tests gather alike; as many as pass
pub gather_same : {A : Type 0} (n : ℕ) (p q : ℕ → Bool) (f : ℕ → A) → ((i : ℕ) → i < n → p i ≡ q i) → gather n p f ≡ gather n q f
unfolding gather
gather_same zero p q f e = refl
gather_same (suc n) p q f e = rw (gather_same n p q f (λ i h. e i (omega arith)), e n (omega arith))

pub length_gather : {A : Type 0} (n : ℕ) (p : ℕ → Bool) (f : ℕ → A) → length (gather n p f) ≡ count n p
unfolding gather count
length_gather zero p f = refl
length_gather (suc n) p f = length-append (gather n p f) (if (p n) (f n ∷ []) []) ∙ go (p n) (length_gather n p f)
  where
    go : (b : Bool) → length (gather n p f) ≡ count n p → length (gather n p f) + length (if b (f n ∷ []) []) ≡ count n p + if b 1 0
    go true e = rw e
    go false e = rw e

-- a place differs between two packs
abbrev pub differs : Sizes → Pack → Pack → ℕ → Bool
differs z d e i = not (eqb (held z d (place_at z i)) (held z e (place_at z i)))

-- the places that differ, in their order: slot, page, what stood there, and a reason
unfoldable pub differences : Sizes → Pack → Pack → ℕ → List Change
differences z d e reason = gather (all_places z) (differs z d e) (λ i. change_at z d reason (place_at z i))

-- .. step by step
unfoldable pub step_differences : Sizes → Pack → ℕ → List Change
step_differences z d zero = []
step_differences z d (suc k) = step_differences z d k ++ differences z (after z d k) (after z d (suc k)) (suc k)

-- how many places are not 0
unfoldable pub filled_places : Sizes → Pack → ℕ
filled_places z d = count (all_places z) (λ i. not (eqb (held z d (place_at z i)) 0))

-- what is 0, or as it was: it is not 0 where it was not and is the same
split_places : (n m : ℕ) → (m ≡ 0) ⊎ (m ≡ n) → not (eqb n 0) ≡ (not (eqb m 0) || not (eqb n m))
split_places n m (inr e) = rw (e, eq-eqb n n refl) (sym (or_false (not (eqb n 0))))
  where
    or_false : (b : Bool) → (b || false) ≡ b
    or_false true = refl
    or_false false = refl
split_places n m (inl e) = rw e

apart_places : (n m : ℕ) → (m ≡ 0) ⊎ (m ≡ n) → T (not (eqb m 0)) → ¬ (T (not (eqb n m)))
apart_places n m (inr e) t u = rw (e, eq-eqb n n refl) at u
apart_places n m (inl e) t u = rw e at t

module _ (z : Sizes) (d : Pack) (f : PackFit z d) where
  -- a step changes a place exactly where it leaves something else there
  test_differs : (k i : ℕ) → i < all_places z → test (changes z (after z d k) k (place_at z i)) ≡ differs z (after z d k) (after z d (suc k)) i
  test_differs k i h = let x = place_at z i in elim (after_held z d k f x (place_in z i h)) [
    | inl a ↦ told (changes z (after z d k) k x) a.0 ∙ sym (rw a.1 (ap not (ne_eqb (held z (after z d k) x) 0 a.0.0)))
    | inr a ↦ untold (changes z (after z d k) k x) a.0 ∙ sym (rw a.1 (ap not (eq-eqb (held z (after z d k) x) (held z (after z d k) x) refl)))
  ]

  listed_differences : (k : ℕ) → listed z (after z d k) (suc k) (changes z (after z d k) k) ≡ differences z (after z d k) (after z d (suc k)) (suc k)
  unfolding listed differences
  listed_differences k = gather_same (all_places z) (λ i. test (changes z (after z d k) k (place_at z i))) (differs z (after z d k) (after z d (suc k))) (λ i. change_at z (after z d k) (suc k) (place_at z i)) (test_differs k)

  steps_exact : (k : ℕ) → listed_by z d k ≡ step_differences z d k
  unfolding listed_by step_differences
  steps_exact zero = refl
  steps_exact (suc k) = λ x. steps_exact k x ++ listed_differences k x

  -- each step lists as many as become 0
  counted_or : (e : Pack) → ((i : ℕ) → i < all_places z → (held z e (place_at z i) ≡ 0) ⊎ (held z e (place_at z i) ≡ held z d (place_at z i))) → filled_places z d ≡ filled_places z e + count (all_places z) (differs z d e)
  unfolding filled_places
  counted_or e g = count_same (all_places z) (λ i. not (eqb (held z d (place_at z i)) 0)) (λ i. not (eqb (held z e (place_at z i)) 0) || differs z d e i) (λ i h. split_places (held z d (place_at z i)) (held z e (place_at z i)) (g i h))
      ∙ count_or (all_places z) (λ i. not (eqb (held z e (place_at z i)) 0)) (differs z d e) (λ i h. apart_places (held z d (place_at z i)) (held z e (place_at z i)) (g i h))

length_differences : (z : Sizes) (a b : Pack) (reason : ℕ) → length (differences z a b reason) ≡ count (all_places z) (differs z a b)
unfolding differences
length_differences z a b reason = length_gather (all_places z) (differs z a b) (λ i. change_at z a reason (place_at z i))

step_count : (z : Sizes) (d : Pack) → PackFit z d → (k : ℕ) → length (listed_by z d k) + filled_places z (after z d k) ≡ filled_places z d
unfolding listed_by after
step_count z d f zero = let e : 0 + filled_places z d ≡ filled_places z d = omega arith in e
step_count z d f (suc k) =
    let e = after z d k in
    let l = listed z e (suc k) (changes z e k) in
    let n : length l ≡ count (all_places z) (differs z e (after z d (suc k))) = ap length (listed_differences z d f k) ∙ length_differences z e (after z d (suc k)) (suc k) in
    let m : filled_places z e ≡ filled_places z (after z d (suc k)) + count (all_places z) (differs z e (after z d (suc k))) =
    counted_or z e (after_fit z d k f) (after z d (suc k)) (λ i h. elim (after_held z d k f (place_at z i) (place_in z i h)) [ inl a ↦ inl a.1 | inr a ↦ inr a.1 ]) in
    omega (arith, length-append (listed_by z d k) l, n, m, step_count z d f k)

-- ── the list of a mending ──
pub record Exact (z : Sizes) (d : Pack) : Type 0 where
  -- it has the places that differ, step by step, in their order, with what stood there and the step's number
  pub list : all_changes z d ≡ step_differences z d 5
  -- what a step changes stood there from the first, and is 0 from then on
  pub once : (k : ℕ) → k < 5 → (i : ℕ) → i < all_places z → T (differs z (after z d k) (after z d (suc k)) i) → (held z (after z d k) (place_at z i) ≡ held z d (place_at z i)) × (held z (mended z d) (place_at z i) ≡ 0)
  -- its count is that of the places that differ between the pack and the mended one, at most S × (N + 2)
  pub total : length (all_changes z d) ≡ count (all_places z) (differs z d (mended z d))
  pub most : length (all_changes z d) ≤ all_places z

pub changes_exact : (z : Sizes) (d : Pack) → PackFit z d → Exact z d
unfolding after
changes_exact z d f = record {
  list = steps_exact z d f 5;
  once = once;
  total = omega (arith, step_count z d f 5, counted);
  most = omega (arith, step_count z d f 5, counted, count_bound (all_places z) (differs z d (mended z d)));
}
  where
    counted : filled_places z d ≡ filled_places z (mended z d) + count (all_places z) (differs z d (mended z d))
    counted = counted_or z d f (mended z d) (λ i h. down z d f (place_at z i) (place_in z i h) 0 5)

    once : (k : ℕ) → k < 5 → (i : ℕ) → i < all_places z → T (differs z (after z d k) (after z d (suc k)) i) → (held z (after z d k) (place_at z i) ≡ held z d (place_at z i)) × (held z (mended z d) (place_at z i) ≡ 0)
    once k l i h t =
        let x = place_at z i in let n = place_in z i h in
        elim (after_held z d k f x n) [
          | inr a ↦ absurd (rw (a.1, eq-eqb (held z (after z d k) x) (held z (after z d k) x) refl) at t)
          | inl a ↦ (
            let e : 0 + k ≡ k = omega arith in elim (down z d f x n 0 k) [ inl b ↦ absurd (a.0.0 (rw e at b)) | inr b ↦ rw e at b ],
            let j : suc k + (4 - k) ≡ 5 = omega arith in elim (down z d f x n (suc k) (4 - k)) [ inl b ↦ rw j at b | inr b ↦ (rw j at b) ∙ a.1 ],
          )
        ]
