-- A field in a piece of the input: where it is whole or wrong it is so whatever bytes follow, and bytes dropped before it move it and nothing else.
use mathlib.Core.Path.{◌≡◌, refl, ap, sym, ◌∙◌}
use mathlib.Core.Bool.{Bool, true, false, not}
use mathlib.Core.List.{List, ◌++◌}
use Prim.Native.Nat.{ℕ, zero, suc, ◌+◌, ◌*◌, ◌≤◌, ◌<◌}
use native.Mathlib.Omega.{arith}
use lib.Dec.{eqb, leb, ltb}
use lib.ListN.{length, drop, length-append, length-drop, get_or-append}
use lib.Seq.{get_or-drop}
use borrow.Author.Tests.{leb-true, leb-false, ltb-true, ltb-false, le-leb, lt-leb, le-ltb, lt-ltb, eqb-true, eqb-false}
use Rattle.tables.specs.Base.{at, if}
use Rattle.fields.specs.declared.Field.{Field}
use Rattle.fields.specs.declared.Field.TheVariants.{End, Whole, Cut, Short, Wrong}
use Rattle.fields.specs.Fields.{number, width, total, CUT, is_tag, request_at, field_at}
use Rattle.fields.proofs.Cases.{no_tag, other_length, cuts, asks}

-- whole or wrong: more bytes are not waited for
abbrev pub settled : Field → Bool
settled End = false
settled (Whole request next) = true
settled (Cut next) = true
settled Short = false
settled Wrong = true

none : false ≡ true → ⊥
none e = let z : ◌≡◌ {A = ℕ} 0 1 = ap (λ (b : Bool). if b 1 0) e in omega arith

-- ── bytes that follow ──
module _ (s t : List ℕ) where
  at_front : (i : ℕ) → i < length s → at (s ++ t) i ≡ at s i
  at_front i h = get_or-append s t 0 i h

  number_front : (n value i : ℕ) → i + n ≤ length s → number n value (s ++ t) i ≡ number n value s i
  unfolding number
  number_front zero value i h = refl
  number_front (suc n) value i h = ap (λ (b : ℕ). number n (value * 256 + b) (s ++ t) (suc i)) (at_front i (omega (arith, h))) ∙ number_front n (value * 256 + at s i) (suc i) (omega (arith, h))

  request_front : (tag i : ℕ) → i + total tag ≤ length s → request_at (s ++ t) tag i ≡ request_at s tag i
  unfolding request_at total
  request_front tag i h = λ x. record {
    kind = tag;
    first = number_front (width tag 0) 0 i (omega (arith, h)) x;
    second = number_front (width tag 1) 0 (i + width tag 0) (omega (arith, h)) x;
    third = number_front (width tag 2) 0 (i + width tag 0 + width tag 1) (omega (arith, h)) x;
    fourth = number_front (width tag 3) 0 (i + width tag 0 + width tag 1 + width tag 2) (omega (arith, h)) x;
  }

  pub followed : (i : ℕ) → settled (field_at s i) ≡ true → field_at (s ++ t) i ≡ field_at s i
  unfolding field_at
  followed i e = go (leb (length s) i) (is_tag (at s i)) (ltb (length s) (i + 3)) (eqb (number 2 0 s (i + 1)) (total (at s i))) (ltb (length s) (i + 3 + total (at s i))) (eqb (at s i) CUT) refl refl refl refl refl refl e
    where
      long : length s ≤ length (s ++ t)
      long = omega (arith, length-append s t)

      go : (a b c d f g : Bool) → leb (length s) i ≡ a → is_tag (at s i) ≡ b → ltb (length s) (i + 3) ≡ c → eqb (number 2 0 s (i + 1)) (total (at s i)) ≡ d
          → ltb (length s) (i + 3 + total (at s i)) ≡ f → eqb (at s i) CUT ≡ g
          → settled (if a End (if (not b) Wrong (if c Short (if (not d) Wrong (if f Short (if g (Cut (i + 3)) (Whole (request_at s (at s i) (i + 3)) (i + 3 + total (at s i))))))))) ≡ true
          → field_at (s ++ t) i ≡ if a End (if (not b) Wrong (if c Short (if (not d) Wrong (if f Short (if g (Cut (i + 3)) (Whole (request_at s (at s i) (i + 3)) (i + 3 + total (at s i))))))))
      go true b c d f g ea eb ec ed ef eg h = absurd (none h)
      go false false c d f g ea eb ec ed ef eg h =
          let inside : i < length s = leb-false (length s) i ea in
          sym (no_tag (s ++ t) i (omega (arith, inside, long)) (ap is_tag (at_front i inside) ∙ eb))
      go false true true d f g ea eb ec ed ef eg h = absurd (none h)
      go false true false false f g ea eb ec ed ef eg h =
          let inside : i < length s = leb-false (length s) i ea in
          let head : i + 3 ≤ length s = ltb-false (length s) (i + 3) ec in
          let other : ¬ (number 2 0 (s ++ t) (i + 1) ≡ total (at (s ++ t) i)) = rw (at_front i inside, number_front 2 0 (i + 1) (omega (arith, head))) (eqb-false (number 2 0 s (i + 1)) (total (at s i)) ed) in
          sym (other_length (s ++ t) i (omega (arith, inside, long)) (ap is_tag (at_front i inside) ∙ eb) (omega (arith, head, long)) other)
      go false true false true true g ea eb ec ed ef eg h = absurd (none h)
      go false true false true false true ea eb ec ed ef eg h =
          let inside : i < length s = leb-false (length s) i ea in
          let head : i + 3 ≤ length s = ltb-false (length s) (i + 3) ec in
          let same : number 2 0 (s ++ t) (i + 1) ≡ total (at (s ++ t) i) = rw (at_front i inside, number_front 2 0 (i + 1) (omega (arith, head))) (eqb-true (number 2 0 s (i + 1)) (total (at s i)) ed) in
          let whole : i + 3 + total (at (s ++ t) i) ≤ length (s ++ t) = rw (at_front i inside) (omega (arith, ltb-false (length s) (i + 3 + total (at s i)) ef, long)) in
          sym (cuts (s ++ t) i (omega (arith, inside, long)) (ap is_tag (at_front i inside) ∙ eb) (omega (arith, head, long)) same whole (at_front i inside ∙ eqb-true (at s i) CUT eg))
      go false true false true false false ea eb ec ed ef eg h =
          let inside : i < length s = leb-false (length s) i ea in
          let head : i + 3 ≤ length s = ltb-false (length s) (i + 3) ec in
          let all : i + 3 + total (at s i) ≤ length s = ltb-false (length s) (i + 3 + total (at s i)) ef in
          let same : number 2 0 (s ++ t) (i + 1) ≡ total (at (s ++ t) i) = rw (at_front i inside, number_front 2 0 (i + 1) (omega (arith, head))) (eqb-true (number 2 0 s (i + 1)) (total (at s i)) ed) in
          let whole : i + 3 + total (at (s ++ t) i) ≤ length (s ++ t) = rw (at_front i inside) (omega (arith, all, long)) in
          let other : ¬ (at (s ++ t) i ≡ CUT) = rw (at_front i inside) (eqb-false (at s i) CUT eg) in
          sym (asks (s ++ t) i (omega (arith, inside, long)) (ap is_tag (at_front i inside) ∙ eb) (omega (arith, head, long)) same whole other)
          ∙ ap (λ (tag : ℕ). Whole (request_at (s ++ t) tag (i + 3)) (i + 3 + total tag)) (at_front i inside)
          ∙ ap (λ r. Whole r (i + 3 + total (at s i))) (request_front (at s i) (i + 3) all)

-- ── bytes dropped before it ──
-- the same field, so many places further on
abbrev pub on_by : ℕ → Field → Field
on_by d End = End
on_by d (Whole request next) = Whole request (d + next)
on_by d (Cut next) = Cut (d + next)
on_by d Short = Short
on_by d Wrong = Wrong

module _ (d : ℕ) (s : List ℕ) where
  at_back : (i : ℕ) → at s (d + i) ≡ at (drop d s) i
  at_back i = sym (get_or-drop d s i 0)

  number_back : (n value i j : ℕ) → j ≡ d + i → number n value s j ≡ number n value (drop d s) i
  unfolding number
  number_back zero value i j e = refl
  number_back (suc n) value i j e = ap (λ (b : ℕ). number n (value * 256 + b) s (suc j)) (ap (at s) e ∙ at_back i) ∙ number_back n (value * 256 + at (drop d s) i) (suc i) (suc j) (omega (arith, e))

  request_back : (tag i j : ℕ) → j ≡ d + i → request_at s tag j ≡ request_at (drop d s) tag i
  unfolding request_at
  request_back tag i j e = λ x. record {
    kind = tag;
    first = number_back (width tag 0) 0 i j e x;
    second = number_back (width tag 1) 0 (i + width tag 0) (j + width tag 0) (omega (arith, e)) x;
    third = number_back (width tag 2) 0 (i + width tag 0 + width tag 1) (j + width tag 0 + width tag 1) (omega (arith, e)) x;
    fourth = number_back (width tag 3) 0 (i + width tag 0 + width tag 1 + width tag 2) (j + width tag 0 + width tag 1 + width tag 2) (omega (arith, e)) x;
  }

  leb_back : (i j : ℕ) → j ≡ d + i → leb (length s) j ≡ leb (length (drop d s)) i
  leb_back i j e = go (leb (length (drop d s)) i) refl
    where
      go : (b : Bool) → leb (length (drop d s)) i ≡ b → leb (length s) j ≡ b
      go true h = le-leb (length s) j (omega (arith, e, length-drop d s, leb-true (length (drop d s)) i h))
      go false h = lt-leb (length s) j (omega (arith, e, length-drop d s, leb-false (length (drop d s)) i h))

  -- for a place past the first
  ltb_back : (i j : ℕ) → j ≡ d + i → 0 < i → ltb (length s) j ≡ ltb (length (drop d s)) i
  ltb_back i j e p = go (ltb (length (drop d s)) i) refl
    where
      go : (b : Bool) → ltb (length (drop d s)) i ≡ b → ltb (length s) j ≡ b
      go true h = lt-ltb (length s) j (omega (arith, e, p, length-drop d s, ltb-true (length (drop d s)) i h))
      go false h = le-ltb (length s) j (omega (arith, e, p, length-drop d s, ltb-false (length (drop d s)) i h))

  pub dropped : (i : ℕ) → field_at s (d + i) ≡ on_by d (field_at (drop d s) i)
  unfolding field_at
  dropped i = rw (
    at_back i,
    leb_back i (d + i) refl,
    ltb_back (i + 3) (d + i + 3) (omega arith) (omega arith),
    number_back 2 0 (i + 1) (d + i + 1) (omega arith),
    ltb_back (i + 3 + total (at (drop d s) i)) (d + i + 3 + total (at (drop d s) i)) (omega arith) (omega arith),
    request_back (at (drop d s) i) (i + 3) (d + i + 3) (omega arith),
  )
      (go (leb (length (drop d s)) i) (is_tag (at (drop d s) i)) (ltb (length (drop d s)) (i + 3)) (eqb (number 2 0 (drop d s) (i + 1)) (total (at (drop d s) i)))
      (ltb (length (drop d s)) (i + 3 + total (at (drop d s) i))) (eqb (at (drop d s) i) CUT))
    where
      go : (a b c e f g : Bool)
          → if a End (if (not b) Wrong (if c Short (if (not e) Wrong (if f Short (if g (Cut (d + i + 3)) (Whole (request_at (drop d s) (at (drop d s) i) (i + 3)) (d + i + 3 + total (at (drop d s) i))))))))
          ≡ on_by d (if a End (if (not b) Wrong (if c Short (if (not e) Wrong (if f Short (if g (Cut (i + 3)) (Whole (request_at (drop d s) (at (drop d s) i) (i + 3)) (i + 3 + total (at (drop d s) i)))))))))
      go true b c e f g = refl
      go false false c e f g = refl
      go false true true e f g = refl
      go false true false false f g = refl
      go false true false true true g = refl
      go false true false true false true = ap Cut (omega arith)
      go false true false true false false = ap (Whole (request_at (drop d s) (at (drop d s) i) (i + 3))) (omega arith)
