-- Marking along a loop: what the marks tell after the first i entries, and what they tell at the end.
use mathlib.Core.Path.{◌≡◌, refl, ap, sym, ◌∙◌, subst}
use mathlib.Core.Bool.{Bool, true, false, ◌&&◌}
use mathlib.Core.List.{List}
use Prim.Native.Nat.{ℕ, suc, ◌+◌, ◌-◌, ◌*◌, ◌/◌, ◌%◌, ◌^◌, ◌<◌, ◌≤◌}
use native.Mathlib.Omega.{arith}
use native.Mathlib.Nat.{zero-div}
use native.Mathlib.Decide.{ℕ_discrete, dec_lt}
use lib.Dec.{T, eqb}
use borrow.Author.Tests.{eq-eqb, ne_eqb}
use lib.ListN.{length, length-set, get_or-eq_default}
use Rattle.tables.specs.Base.{at}
use Rattle.tables.specs.Bits.{bit}
use Rattle.tables.specs.BitLaws.{bit_le}
use Rattle.tables.specs.Marks.{bit_of, mark, mark_here, mark_there}
use Rattle.tables.specs.Rule.{Rule, same, ◌and◌, each, Holds, test}
use Rattle.tables.specs.Turn.{learn}
use Rattle.model.specs.Rules.{once}
use Rattle.rules.specs.Passes.{Prefix, distinct, marked, unmarked, noted}

-- no mark is on in words of zeros
no_mark : (marks : List ℕ) → Holds (each (length marks) (λ k. same (at marks k) 0)) → (r : ℕ) → bit_of marks r ≡ 0
unfolding bit
no_mark marks z r = ap (bit (r % 32)) (word (r / 32)) ∙ rw (zero-div (2 ^ (r % 32))) refl
  where
    word : (k : ℕ) → at marks k ≡ 0
    word k = elim (dec_lt k (length marks)) [ yes h ↦ z k h | no h ↦ get_or-eq_default marks 0 (omega arith) ]

-- a mark that is not on is off
pub off : (marks : List ℕ) (r : ℕ) → ¬ (bit_of marks r ≡ 1) → bit_of marks r ≡ 0
off marks r d = omega (arith, bit_le (r % 32) (at marks (r / 32)))

-- ── one entry ──
pub noted_none : (marks : List ℕ) (e : ℕ) → e ≡ 0 → noted marks e ≡ marks
noted_none marks e z = rw (eq-eqb e 0 z) refl

pub noted_one : (marks : List ℕ) (e : ℕ) → ¬ (e ≡ 0) → noted marks e ≡ mark marks (e - 1)
noted_one marks e d = rw (ne_eqb e 0 d) refl

module _ (m : ℕ) (marks : List ℕ) (e : ℕ) where
  pub too_wide : m < e → ¬ (Holds (unmarked m marks e))
  too_wide h u = omega (arith, h, (u (e - 1) (omega arith)).0)

  pub is_on : ¬ (e ≡ 0) → bit_of marks (e - 1) ≡ 1 → ¬ (Holds (unmarked m marks e))
  is_on d on u = omega (arith, on, (u (e - 1) (omega arith)).1)

  pub is_off : ¬ (e ≡ 0) → e ≤ m → bit_of marks (e - 1) ≡ 0 → Holds (unmarked m marks e)
  is_off d le free r q = let x : e - 1 ≡ r = omega arith in (omega arith, rw x at free)

-- ── a run of entries that name nothing: one, or eight ──
among_four : (f : ℕ → ℕ) → f 0 ≡ 0 → f 1 ≡ 0 → f 2 ≡ 0 → f 3 ≡ 0 → (k : ℕ) → k < 4 → f k ≡ 0
among_four f a b c d k l = elim (ℕ_discrete k 0) [
  | yes q ↦ rw q a
  | no q ↦ elim (ℕ_discrete k 1) [ yes r ↦ rw r b | no r ↦ elim (ℕ_discrete k 2) [ yes s ↦ rw s c | no s ↦ (let u : k ≡ 3 = omega arith in rw u d) ] ]
]

module _ (e : ℕ → ℕ) (i : ℕ) (z : e i ≡ 0) where
  here : i + 0 ≡ i
  here = omega arith

  pub run_of_one : Holds (each 1 λ k. same (e (i + k)) 0)
  run_of_one k h = let q : k ≡ 0 = omega arith in rw (q, here) z

  abbrev seven : Rule
  seven = (((((same (e (i + 1)) 0 and same (e (i + 2)) 0) and same (e (i + 3)) 0) and same (e (i + 4)) 0) and same (e (i + 5)) 0) and same (e (i + 6)) 0) and same (e (i + 7)) 0

  run_of_eight' : Holds seven → Holds (each 8 λ k. same (e (i + k)) 0)
  run_of_eight' h k l = elim (dec_lt k 4) [
    | yes q ↦ among_four (λ j. e (i + j)) (rw here z) h.0.0.0.0.0.0 h.0.0.0.0.0.1 h.0.0.0.0.1 k q
    | no q ↦ (let u : 4 + (k - 4) ≡ k = omega arith in rw u at (among_four (λ j. e (i + (4 + j))) h.0.0.0.1 h.0.0.1 h.0.1 h.1 (k - 4) (omega arith)))
  ]

  pub run_of_eight : (((((eqb (e (i + 1)) 0 && eqb (e (i + 2)) 0) && eqb (e (i + 3)) 0) && eqb (e (i + 4)) 0) && eqb (e (i + 5)) 0) && eqb (e (i + 6)) 0) && eqb (e (i + 7)) 0 ≡ true
      → Holds (each 8 λ k. same (e (i + k)) 0)
  unfolding test
  run_of_eight t = run_of_eight' (learn seven (sym t))

module _ (m n : ℕ) (entry : ℕ → ℕ) (size : ℕ) (marks : List ℕ) where
  pub start : length marks ≡ size → m ≤ 32 * size → Holds (each (length marks) (λ k. same (at marks k) 0)) → Prefix m n entry size marks 0
  start q l z = record {
    named = λ k h. omega (arith, h);
    naming = λ r d. absurd (d (no_mark marks z r));
    apart = λ i h. omega (arith, h);
    sized = q;
    enough = l;
    room = omega arith;
  }

  module _ (i : ℕ) (p : Prefix m n entry size marks i) (less : i < n) where
    pub skip : entry i ≡ 0 → Prefix m n entry size marks (i + 1)
    skip z = record {
      named = λ k h r e. elim (ℕ_discrete k i) [ yes q ↦ omega (arith, z, rw q at e) | no q ↦ p.named k (omega arith) r e ];
      naming = λ r d. let x = p.naming r d in (x.0, omega (arith, x.1), x.2);
      apart = λ a h b l r e f. elim (ℕ_discrete a i) [
        | yes q ↦ omega (arith, z, rw q at e)
        | no q ↦ elim (ℕ_discrete b i) [ yes s ↦ omega (arith, z, rw s at f) | no s ↦ p.apart a (omega arith) b (omega arith) r e f ]
      ];
      sized = p.sized;
      enough = p.enough;
      room = omega arith;
    }

    module _ (nz : ¬ (entry i ≡ 0)) where
      back : entry i ≡ suc (entry i - 1)
      back = omega arith

      inside : entry i ≤ m → (entry i - 1) / 32 < length marks
      inside le = omega (arith, p.enough, p.sized)

      new : entry i ≤ m → bit_of marks (entry i - 1) ≡ 0 → Prefix m n entry size (mark marks (entry i - 1)) (i + 1)
      new le free = record { named = one; naming = two; apart = three; sized = length-set marks (x / 32) (at marks (x / 32) + 2 ^ (x % 32)) ∙ p.sized; enough = p.enough; room = omega arith }
        where
          x : ℕ
          x = entry i - 1

          -- none before names it
          fresh : (k : ℕ) → k < i → (r : ℕ) → entry k ≡ suc r → ¬ (r ≡ x)
          fresh k h r e g = omega (arith, (p.named k h r e).1, rw (← g) at free)

          one : (k : ℕ) → k < i + 1 → (r : ℕ) → entry k ≡ suc r → (r < m) × (bit_of (mark marks x) r ≡ 1)
          one k h r e = elim (ℕ_discrete k i) [
            | yes q ↦ let f : entry i ≡ suc r = rw q at e in let g : r ≡ x = omega arith in (omega arith, rw g (mark_here marks x (inside le) free))
            | no q ↦ let o = p.named k (omega arith) r e in (o.0, mark_there marks x (inside le) free r (fresh k (omega arith) r e) ∙ o.1)
          ]

          two : (r : ℕ) → ¬ (bit_of (mark marks x) r ≡ 0) → (k : ℕ) × (k < i + 1) × (entry k ≡ suc r)
          two r d = elim (ℕ_discrete r x) [
            | yes g ↦ (i, omega arith, rw g back)
            | no g ↦ let o = p.naming r (λ z. d (mark_there marks x (inside le) free r g ∙ z)) in (o.0, omega (arith, o.1), o.2)
          ]

          three : Holds (once (i + 1) entry)
          three a h b l r e f = elim (ℕ_discrete a i) [
            | yes q ↦ elim (ℕ_discrete b i) [ yes s ↦ omega arith | no s ↦ absurd (fresh b (omega arith) r f (omega (arith, rw q at e))) ]
            | no q ↦ elim (ℕ_discrete b i) [ yes s ↦ absurd (fresh a (omega arith) r e (omega (arith, rw s at f))) | no s ↦ p.apart a (omega arith) b (omega arith) r e f ]
          ]

    -- one entry more, where it may be marked; else the entries do not fit, or name one number twice
    pub step : Holds (unmarked m marks (entry i)) → Prefix m n entry size (noted marks (entry i)) (i + 1)
    step u = elim (ℕ_discrete (entry i) 0) [
      | yes e ↦ rw (noted_none marks (entry i) e) (skip e)
      | no e ↦ (let x = u (entry i - 1) (omega arith) in rw (noted_one marks (entry i) e) (new e (omega (arith, x.0)) x.1))
    ]

    pub stuck : ¬ (Holds (unmarked m marks (entry i))) → ¬ (Holds (distinct n m entry))
    stuck d o = d (λ r q. (o.0 i less r q, off marks r (λ on. let x = p.naming r (λ z. omega (arith, z, on)) in omega (arith, x.1, o.1 i less x.0 (omega (arith, x.1)) r q x.2))))

  module _ (i : ℕ) (p : Prefix m n entry size marks i) where
    -- a run of entries that name nothing
    pub skip_run : (c : ℕ) → i + c ≤ n → Holds (each c (λ k. same (entry (i + k)) 0)) → Prefix m n entry size marks (i + c)
    skip_run c room z = record {
      named = λ k h r e. elim (dec_lt k i) [ yes l ↦ p.named k l r e | no l ↦ absurd (none k (omega arith) h r e) ];
      naming = λ r d. let x = p.naming r d in (x.0, omega (arith, x.1), x.2);
      apart = λ a h b l r e f. elim (dec_lt a i) [
        | yes q ↦ elim (dec_lt b i) [ yes s ↦ p.apart a q b s r e f | no s ↦ absurd (none b (omega arith) l r f) ]
        | no q ↦ absurd (none a (omega arith) h r e)
      ];
      sized = p.sized;
      enough = p.enough;
      room = room;
    }
      where
        none : (k : ℕ) → i ≤ k → k < i + c → (r : ℕ) → entry k ≡ suc r → ⊥
        none k a b r e = let s : i + (k - i) ≡ k = omega arith in let q : entry k ≡ 0 = rw s at (z (k - i) (omega arith)) in omega arith

    -- the same of fewer entries, or of more
    pub among : (o : ℕ) → i ≤ o → Prefix m o entry size marks i
    among o h = record { named = p.named; naming = p.naming; apart = p.apart; sized = p.sized; enough = p.enough; room = h }

    pub first_distinct : Holds (distinct i m entry)
    first_distinct = (λ k l r f. (p.named k l r f).0, p.apart)

  pub ended : (i : ℕ) → Prefix m n entry size marks i → n ≤ i → Holds (distinct n m entry) × Holds (marked m n entry marks)
  ended i p h = let e : i ≡ n = omega (arith, p.room) in whole (rw e at p)
    where
      whole : Prefix m n entry size marks n → Holds (distinct n m entry) × Holds (marked m n entry marks)
      whole w = ((λ k l r f. (w.named k l r f).0, w.apart), (λ k l r f. (w.named k l r f).1, λ r l f. w.naming r (λ z. omega (arith, z, f))))

pub not_true : {A : Type 0} → false ≡ true → A
not_true e = absurd (subst (λ (b : Bool). T b) (sym e) tt)
