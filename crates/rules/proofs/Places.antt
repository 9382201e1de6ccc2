-- How often each number is in a queue: what stands in the table of counts after the first k entries.
use mathlib.Core.Path.{◌≡◌, ap, sym, ◌∙◌}
use mathlib.Core.Bool.{Bool, ◌&&◌}
use mathlib.Core.List.{List, ◌∷◌}
use Prim.Native.Nat.{ℕ, suc, ◌+◌, ◌-◌, ◌<◌, ◌≤◌}
use native.Mathlib.Numerals.{add-one}
use native.Mathlib.Omega.{arith}
use native.Mathlib.Decide.{ℕ_discrete}
use lib.ListN.{length, drop, set, length-set, length-drop}
use lib.Seq.{get_or-set_same, get_or-set_other, drop-cons}
use Rattle.tables.specs.Base.{at}
use Rattle.tables.specs.Queue.{members, times, size, queue, queue_of}
use Rattle.tables.specs.QueueLaws.{at_members, size_members, size_le}
use Rattle.tables.specs.QueueEntries.{size_more, size_found}
use Rattle.tables.specs.Rule.{same, each, Holds, test}
use Rattle.tables.specs.Turn.{each_next}
use Rattle.tables.specs.TimesLaws.{times_here, times_other, times_le}
use Rattle.rules.specs.Passes.{counted, queue_entry}

-- the members from k on are still to be counted
pub record Counting (q t : List ℕ) (k : ℕ) : Type 0 where
  pub within : k ≤ size q
  pub sized : length t ≡ 64
  pub rest : (f : ℕ) → f < 64 → at t f + times (drop k (members q)) f ≡ times (members q) f
  pub few : (f : ℕ) → f < 64 → at t f ≤ k

module _ (q t : List ℕ) where
  pub begin : length t ≡ 64 → Holds (each 64 (λ f. same (at t f) 0)) → Counting q t 0
  begin l z = record { within = omega arith; sized = l; rest = λ f h. rw (z f h) (omega arith); few = λ f h. omega (arith, z f h) }

  -- entry k names a number below n
  pub below_n : (n k : ℕ) → Holds (queue n q) → k < n → ¬ (at q k ≡ 0) → at q k ≤ n
  below_n n k h l d = omega (arith, (h k l).0 (at q k - 1) (omega arith))

  module _ (k : ℕ) (p : Counting q t k) where
    pub one_more : ¬ (at q k ≡ 0) → at q k ≤ 64 → Counting q (set t (at q k - 1) (at t (at q k - 1) + 1)) (k + 1)
    one_more d le = record {
      within = omega (arith, more);
      sized = length-set t x (at t x + 1) ∙ p.sized;
      rest = λ f h. elim (ℕ_discrete f x) [
        | yes e ↦ rw e (omega (arith, here, cut x, p.rest x (omega arith), times_here (drop (k + 1) (members q)) x))
        | no e ↦ omega (arith, there f e, cut f, p.rest f h, times_other x (drop (k + 1) (members q)) f e)
      ];
      few = λ f h. elim (ℕ_discrete f x) [ yes e ↦ rw e (omega (arith, here, p.few x (omega arith))) | no e ↦ omega (arith, there f e, p.few f h) ];
    }
      where
        x : ℕ
        x = at q k - 1

        more : k < size q
        more = size_more q k p.within d

        named : at (members q) k ≡ x
        named = omega (arith, at_members q k more)

        cut : (f : ℕ) → times (drop k (members q)) f ≡ times (x ∷ drop (k + 1) (members q)) f
        cut f = rw (add-one k, ← named) (ap (λ (l : List ℕ). times l f) (drop-cons (members q) k 0 (omega (arith, more, size_members q))))

        here : at (set t x (at t x + 1)) x ≡ at t x + 1
        here = get_or-set_same t x (at t x + 1) 0 (omega (arith, p.sized))

        there : (f : ℕ) → ¬ (f ≡ x) → at (set t x (at t x + 1)) f ≡ at t f
        there f e = get_or-set_other t x f (at t x + 1) 0 e

    -- none is left
    over : size q ≡ k → Holds (counted 64 q t)
    over e f h = omega (arith, p.rest f h, left, times_le (drop k (members q)) f)
      where
        left : length (drop k (members q)) ≡ 0
        left = length-drop k (members q) ∙ omega (arith, size_members q)

    pub stopped : at q k ≡ 0 → Holds (counted 64 q t)
    stopped e = over (size_found q k p.within e)

    pub ran_out : length q ≤ k → Holds (counted 64 q t)
    ran_out l = over (omega (arith, size_le q, p.within))

-- an entry by the entry after it
pub next_entry : (n e x y : ℕ) (b : Bool) → x ≡ y → b ≡ test (queue_entry n e x) → b ≡ test (queue_entry n e y)
next_entry n e x y b q h = h ∙ ap (λ (z : ℕ). test (queue_entry n e z)) q

-- the last of some entries, y being the next one
pub last_entry : (n count : ℕ) (q : List ℕ) (b x : Bool) (y : ℕ) → ¬ (count ≡ 0) → b ≡ test (each (count - 1) λ k. queue_entry n (at q k) (at q (suc k))) → x ≡ test (queue_entry n (at q (count - 1)) y) → y ≡ at q count
    → b && x ≡ test (queue_of count n q)
last_entry n count q b x y some p h e =
    let back : suc (count - 1) ≡ count = omega arith in
    let on : count - 1 + 1 ≡ count = omega arith in
    each_next (count - 1) (λ k. queue_entry n (at q k) (at q (suc k))) b x p (next_entry n (at q (count - 1)) y (at q (suc (count - 1))) x (e ∙ ap (at q) (sym back)) h) ∙ ap (λ (m : ℕ). test (queue_of m n q)) on
