-- One number moves into a queue or out of it: the table stays a queue, and each other number stands there as often as before.
use mathlib.Core.Path.{◌≡◌, refl, ap, sym, ◌∙◌}
use mathlib.Core.List.{List}
use Prim.Native.Nat.{ℕ, suc, ◌+◌, ◌<◌}
use native.Mathlib.Omega.{arith}
use lib.Dec.{eqb}
use lib.ListN.{length}
use borrow.Author.Tests.{eq-eqb, ne_eqb}
use Rattle.tables.specs.Base.{if}
use Rattle.tables.specs.Rule.{Holds}
use Rattle.tables.specs.Queue.{members, times, push_back, push_front, pop, remove, size, first, queue}
use Rattle.tables.specs.TimesLaws.{Once}
use Rattle.tables.specs.QueueLaws.{room, length_push_back, length_push_front, length_pop, length_remove, times_push_back, times_push_front, times_pop, times_remove_one, queue_push_back, queue_push_front, queue_pop, queue_remove, first_once}

-- table q became q' by an act on f, which stands there k times then
pub record Moved (n : ℕ) (q q' : List ℕ) (f k : ℕ) : Type 0 where
  pub rule : Holds (queue n q')
  pub long : length q' ≡ length q
  pub here : times (members q') f ≡ k
  pub other : (x : ℕ) → ¬ (x ≡ f) → times (members q') x ≡ times (members q) x

-- one more or one less of f alone
apart : (f : ℕ) (t t' : ℕ → ℕ) → ((x : ℕ) → t x ≡ if (eqb x f) 1 0 + t' x) → (x : ℕ) → ¬ (x ≡ f) → t' x ≡ t x
apart f t t' e x d = sym (e x ∙ rw (ne_eqb x f d) (omega arith))

one : (f : ℕ) (t t' : ℕ → ℕ) → ((x : ℕ) → t x ≡ if (eqb x f) 1 0 + t' x) → t f ≡ suc (t' f)
one f t t' e = e f ∙ rw (eq-eqb f f refl) (omega arith)

module _ (n : ℕ) (q : List ℕ) (len : length q ≡ n) (ok : Holds (queue n q)) where
  pub unmoved : (f k : ℕ) → times (members q) f ≡ k → Moved n q q f k
  unmoved f k e = record { rule = ok; long = refl; here = e; other = λ x d. refl }

  module _ (once : Once n (members q)) where
    pub moved_back : (f : ℕ) → f < n → times (members q) f ≡ 0 → Moved n q (push_back q f) f 1
    moved_back f l e =
        let r : size q < length q = room q len ok once f l e in
        let t : (x : ℕ) → times (members (push_back q f)) x ≡ if (eqb x f) 1 0 + times (members q) x = λ x. times_push_back q f r x ∙ omega arith in
        record {
          rule = queue_push_back q len ok f l r;
          long = length_push_back q f;
          here = one f (times (members (push_back q f))) (times (members q)) t ∙ ap suc e;
          other = λ x d. sym (apart f (times (members (push_back q f))) (times (members q)) t x d);
        }

    pub moved_front : (f : ℕ) → f < n → times (members q) f ≡ 0 → Moved n q (push_front q f) f 1
    moved_front f l e =
        let r : size q < length q = room q len ok once f l e in
        let t : (x : ℕ) → times (members (push_front q f)) x ≡ if (eqb x f) 1 0 + times (members q) x = times_push_front q f r in
        record {
          rule = queue_push_front q len ok f l r;
          long = length_push_front q f;
          here = one f (times (members (push_front q f))) (times (members q)) t ∙ ap suc e;
          other = λ x d. sym (apart f (times (members (push_front q f))) (times (members q)) t x d);
        }

    pub moved_first : 0 < size q → Moved n q (pop q) (first q) 0
    moved_first s =
        let t : (x : ℕ) → times (members q) x ≡ if (eqb x (first q)) 1 0 + times (members (pop q)) x = times_pop q s in
        record {
          rule = queue_pop q len ok;
          long = length_pop q;
          here = (let a : times (members q) (first q) ≡ suc (times (members (pop q)) (first q)) = one (first q) (times (members q)) (times (members (pop q))) t in omega (arith, first_once q len ok once s));
          other = apart (first q) (times (members q)) (times (members (pop q))) t;
        }

    pub moved_out : (f : ℕ) → times (members q) f ≡ 1 → Moved n q (remove q f) f 0
    moved_out f e =
        let t : (x : ℕ) → times (members q) x ≡ if (eqb x f) 1 0 + times (members (remove q f)) x = times_remove_one q f e in
        record {
          rule = queue_remove q len ok f;
          long = length_remove q f;
          here = (let a : times (members q) f ≡ suc (times (members (remove q f)) f) = one f (times (members q)) (times (members (remove q f))) t in omega (arith, e));
          other = apart f (times (members q)) (times (members (remove q f))) t;
        }
