-- Laws of the free record nearest to another: no free record is nearer, and none equally near is lower.
use Rattle.std.specs.Prelude.{◌≡◌, Bool, ◌||◌, ℕ, suc, ◌+◌, ◌-◌, ◌%◌, ◌<◌, ◌≤◌, T, eqb, ltb, leb}
use Rattle.std.proofs.Common.{◌∙◌, subst, mod-lt, mod-eq_of_lt, arith, eqb→eq, ltb→lt, lt→ltb, leb→le, le→leb, T_not}
use Rattle.std.proofs.Math.Logic.{inl, inr}
use Rattle.std.proofs.Math.Decide.{dec_le}
use Rattle.tables.specs.Base.{find}
use Rattle.tables.specs.Laws.{Found, found, and_left, and_right, and_intro, or_cases, or_left, or_right, eq→T, if_elim}
use Rattle.model.specs.declared.sizes.Sizes.{Sizes}
use Rattle.model.specs.Lines.{FREE}
use Rattle.model.specs.Parts.{is_free, free_below, free_above, nearest}
use Rattle.model.specs.Terms.{apart, Nearest}

module _ (z : Sizes) (state : ℕ → ℕ) (r : ℕ) where
  -- a free record stands so far away
  abbrev free_at : ℕ → Bool
  free_at d = free_below z state r d || free_above z state r d

  free_told : (x : ℕ) → x < z.records → state x ≡ FREE → T (is_free z state x)
  free_told x h e = and_intro (ltb x z.records) (eqb (state x) FREE) (lt→ltb x z.records h) (eq→T e)

  below_told : (x : ℕ) → x ≤ r → x < z.records → state x ≡ FREE → T (free_below z state r (r - x))
  below_told x l h e = let back : r - (r - x) ≡ x = omega arith in and_intro (leb (r - x) r) (is_free z state (r - (r - x))) (le→leb (r - x) r (omega arith)) (rw back (free_told x h e))

  above_told : (x : ℕ) → r ≤ x → x < z.records → state x ≡ FREE → T (free_above z state r (x - r))
  above_told x l h e = let back : r + (x - r) ≡ x = omega arith in rw back (free_told x h e)

  told : (x : ℕ) → x < z.records → state x ≡ FREE → T (free_at (apart r x))
  told x h e = elim (dec_le x r) [
    | yes l ↦ let d : apart r x ≡ r - x = omega arith in rw d (or_left (free_below z state r (r - x)) (free_above z state r (r - x)) (below_told x l h e))
    | no l ↦ let d : apart r x ≡ x - r = omega arith in rw d (or_right (free_below z state r (x - r)) (free_above z state r (x - r)) (above_told x (omega arith) h e))
  ]

  -- the distance that is found
  abbrev d₀ : ℕ
  d₀ = find (suc (r + z.records)) free_at 0

  module _ (x₀ : ℕ) (inside : x₀ < z.records) (is : state x₀ ≡ FREE) where
    it : Found (suc (r + z.records)) free_at 0 d₀
    it = found (suc (r + z.records)) free_at 0 (apart r x₀) (omega arith) (omega arith) (told x₀ inside is)

    no_nearer : (x : ℕ) → x < z.records → state x ≡ FREE → d₀ ≤ apart r x
    no_nearer x h e = elim (dec_le d₀ (apart r x)) [ yes l ↦ l | no l ↦ absurd (it.first (apart r x) (omega arith) (omega arith) (told x h e)) ]

    -- a record at that distance, with its remainder
    at_it : (q : ℕ) → apart r q ≡ d₀ → T (is_free z state q) → ((x : ℕ) → x < z.records → state x ≡ FREE → apart r x ≡ d₀ → q ≤ x) → Nearest z state r (q % z.records)
    at_it q d t low =
        let h : q < z.records = ltb→lt q z.records (and_left (ltb q z.records) (eqb (state q) FREE) t) in
        rw (mod-eq_of_lt h) (record { below = h; free = eqb→eq (state q) FREE (and_right (ltb q z.records) (eqb (state q) FREE) t); none_nearer = λ x l e. omega (arith, no_nearer x l e, d); none_lower = λ x l e k. low x l e (k ∙ d) })

    below_it : T (free_below z state r d₀) → Nearest z state r ((r - d₀) % z.records)
    below_it t =
        let l : d₀ ≤ r = leb→le d₀ r (and_left (leb d₀ r) (is_free z state (r - d₀)) t) in
        at_it (r - d₀) (omega (arith, l)) (and_right (leb d₀ r) (is_free z state (r - d₀)) t) (λ x h e k. omega (arith, k, l))

    above_it : ¬ T (free_below z state r d₀) → T (free_above z state r d₀) → Nearest z state r ((r + d₀) % z.records)
    above_it n t = at_it (r + d₀) (omega arith) t (λ x h e k. elim (dec_le x r) [
      | yes l ↦ let d : r - x ≡ d₀ = omega (arith, k, l) in absurd (n (subst (λ (k : ℕ). T (free_below z state r k)) d (below_told x l h e)))
      | no l ↦ omega (arith, k, l)
    ])

    pub nearest_is : Nearest z state r (nearest z state r)
    unfolding nearest
    nearest_is = if_elim (λ (q : ℕ). Nearest z state r (q % z.records)) (free_below z state r d₀) (r - d₀) (r + d₀) below_it
        (λ t. elim (or_cases (free_below z state r d₀) (free_above z state r d₀) it.passes) [ inl u ↦ absurd (T_not (free_below z state r d₀) t u) | inr u ↦ above_it (T_not (free_below z state r d₀) t) u ])

-- the remainder alone: below R, whatever is free
pub nearest_below : (z : Sizes) (state : ℕ → ℕ) (r : ℕ) → 0 < z.records → nearest z state r < z.records
unfolding nearest
nearest_below z state r h = mod-lt _ h
