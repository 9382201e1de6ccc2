-- What the code of queues cites: a queue's acts by the stores that carry them out.
use Rattle.std.specs.Prelude.{Option, Some, None, IfSome, IfNone, unwrap_or}
use Rattle.std.proofs.Common.{get_or-set_same, get_or-set_other}
use mathlib.Core.Path.{◌≡◌, refl, ap, sym, ◌∙◌}
use mathlib.Core.Bool.{true}
use mathlib.Core.Logic.{inl, inr}
use mathlib.Core.List.{List, [], ◌∷◌}
use Prim.Native.Nat.{ℕ, zero, suc, ◌+◌, ◌-◌, ◌<◌, ◌≤◌}
use native.Mathlib.Numerals.{add-one}
use native.Mathlib.Omega.{arith}
use native.Mathlib.Decide.{dec_lt, ℕ_discrete}
use lib.ListN.{length, set, length-set, get_or-eq_default}
use Rattle.tables.specs.Base.{at}
use Rattle.tables.specs.Rule.{Rule, Holds, is, below, non}
use Rattle.tables.specs.Store.{store, at_store, length_store, choose_ext}
use Rattle.tables.specs.Queue.{members, times, head, size, first, queue_of, push_front, pop, remove}
use Rattle.tables.specs.QueueLaws.{size_le, at_size}
use Rattle.tables.specs.QueueEntries.{size_found, at_absent, push_front_ext, pop_ext, remove_absent, remove_ext}

pub first_at : (q : List ℕ) → first q ≡ at q 0 - 1
unfolding first members head
first_at [] = refl
first_at (zero ∷ q) = refl
first_at (suc f ∷ q) = omega arith

-- the entries one place up, behind a new first one
abbrev pub shifted : ℕ → List ℕ → ℕ → ℕ
shifted e q zero = e
shifted e q (suc k) = at q k

abbrev pub every : ℕ → Rule
every k = is true

-- the entries from j on, one place down
abbrev pub from : ℕ → ℕ → Rule
from j k = non (below k j)

abbrev pub next : List ℕ → ℕ → ℕ
next q k = at q (k + 1)

module _ {m : ℕ} (q : List ℕ) (ok : Holds (queue_of (length q) m q)) where
  pub front_stored : (f : ℕ) → size q < length q → store q every (shifted (f + 1) q) ≡ push_front q f
  front_stored f room = push_front_ext q refl ok f room (store q every (shifted (f + 1) q)) (length_store q every (shifted (f + 1) q))
      (elim (at_store q every (shifted (f + 1) q) 0 (omega arith)) [ inl x ↦ x.1 ∙ add-one f | inr x ↦ absurd (x.0 tt) ])
      (λ k h. elim (at_store q every (shifted (f + 1) q) (suc k) h) [ inl x ↦ x.1 | inr x ↦ absurd (x.0 tt) ])

  closed : (j k : ℕ) → j ≤ k → k < length q → at (store q (from j) (next q)) k ≡ at q (suc k)
  closed j k h l = elim (at_store q (from j) (next q) k l) [ inl x ↦ x.1 ∙ ap (at q) (add-one k) | inr x ↦ absurd (x.0 (λ i. omega arith)) ]

  open_before : (j k : ℕ) → k < j → k < length q → at (store q (from j) (next q)) k ≡ at q k
  open_before j k h l = elim (at_store q (from j) (next q) k l) [ inl x ↦ absurd (x.0 h) | inr x ↦ x.1 ]

  pub pop_stored : store q (from 0) (next q) ≡ pop q
  pop_stored = pop_ext q refl ok (store q (from 0) (next q)) (length_store q (from 0) (next q)) (λ k h. closed 0 k (omega arith) h)

  pub remove_stored : (f j : ℕ) → times (members q) f ≤ 1 → (j < length q) × (at q j ≡ f + 1) × ((k : ℕ) → k < j → at q k ≡ f + 1 → ⊥) → store q (from j) (next q) ≡ remove q f
  remove_stored f j once (inside, found, before) =
      remove_ext q refl ok f j (found ∙ add-one f) once (store q (from j) (next q)) (length_store q (from j) (next q)) (λ k i. open_before j k i (omega arith)) (λ k i b. closed j k i b)

  pub remove_none : (f : ℕ) → ((k : ℕ) → k < length q → at q k ≡ f + 1 → ⊥) → q ≡ remove q f
  remove_none f none = sym (remove_absent q refl ok f (at_absent q f (λ k b e. none k b (e ∙ sym (add-one f)))))

-- the first place of a 0, or the length where there is none
pub size_by : (q : List ℕ) (o : Option ℕ) → IfSome o (λ k. (k < length q) × (at q k ≡ 0) × ((i : ℕ) → i < k → at q i ≡ 0 → ⊥)) → IfNone o ((i : ℕ) → i < length q → at q i ≡ 0 → ⊥)
    → unwrap_or o (length q) ≡ size q
size_by q (Some k) found none = sym (size_found q k (elim (dec_lt (size q) k) [ yes l ↦ absurd (found.2 (size q) l (at_size q)) | no l ↦ omega arith ]) found.1)
size_by q None found none = elim (dec_lt (size q) (length q)) [ yes l ↦ absurd (none (size q) l (at_size q)) | no l ↦ omega (arith, size_le q) ]

-- p is q with the entries past j one place down, and then its last entry becomes 0
pub gap_closed : (q p : List ℕ) (j : ℕ) → j < length q → length p ≡ length q
    → ((k : ℕ) → j ≤ k → k < j + (length q - (j + 1)) → at p k ≡ at q (j + 1 + (k - j))) → ((k : ℕ) → k < j → at p k ≡ at q k)
    → set p (length q - 1) 0 ≡ store q (from j) (next q)
unfolding store
gap_closed q p j inside long down same = choose_ext (set p (length q - 1) 0) (length q) (from j) (next q) (at q) (length-set p (length q - 1) 0 ∙ long) (λ k l. elim (ℕ_discrete k (length q - 1)) [
  | yes e ↦ inl ((λ h. omega arith), rw e (get_or-set_same p (length q - 1) 0 0 (omega arith)) ∙ sym (get_or-eq_default q 0 (omega arith)))
  | no ne ↦
      let other : at (set p (length q - 1) 0) k ≡ at p k = get_or-set_other p (length q - 1) k 0 0 ne in
      elim (dec_lt k j) [
        | yes h ↦ inr ((λ f. f h), other ∙ same k h)
        | no h ↦ inl (h, other ∙ down k (omega arith) (omega arith) ∙ ap (at q) (omega arith))
      ]
])
