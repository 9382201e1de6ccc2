-- The search for a record near another, step by step: what has been passed, and what is found.
use Rattle.std.specs.Prelude.{◌≡◌, Bool, true, false, ◌||◌, ℕ, suc, ◌+◌, ◌-◌, ◌%◌, ◌<◌, ◌≤◌, T, eqb, ltb, leb}
use Rattle.std.proofs.Math.Path.{ap, sym}
use Rattle.std.proofs.Common.{◌∙◌, subst, mod-eq_of_lt, arith, lt→ltb, le→leb}
use Rattle.std.proofs.Math.Logic.{inl, inr}
use Rattle.std.proofs.Math.Decide.{ℕ_discrete, dec_lt}
use Rattle.std.proofs.Math.Dec.{ltb→lt, leb→le}
use Rattle.tables.specs.Base.{if, find}
use Rattle.tables.specs.Laws.{and_left, and_right, or_cases, or_left, or_right, if_true, if_false}
use Rattle.tables.specs.FindLaws.{find_at, find_none}
use Rattle.model.specs.declared.sizes.Sizes.{Sizes}
use Rattle.model.specs.Lines.{FREE}
use Rattle.model.specs.Parts.{is_free, free_below, free_above, nearest, neighbour}

-- ── what a function's answer tells ──
pub said : {a b : Bool} → a ≡ b → a ≡ true → T b
said e t = subst T (sym t ∙ e) tt

pub unsaid : {a b : Bool} → a ≡ b → a ≡ false → ¬ T b
unsaid e f t = subst T (sym e ∙ f) t

-- ── the closest lower page ──
module _ (address : ℕ → ℕ) (i : ℕ) where
  abbrev held : ℕ → Bool
  held k = ltb 0 (address (i - k))

  -- none of the pages i − 1 to i − k + 1 has an address
  unfoldable pub Passed : ℕ → Type 0
  Passed k = (j : ℕ) → 1 ≤ j → j < k → address (i - j) ≡ 0

  pub none_passed : Passed 1
  unfolding Passed
  none_passed j h l = absurd (omega arith)

  pub pass : (k : ℕ) → Passed k → address (i - k) ≡ 0 → Passed (k + 1)
  unfolding Passed
  pass k f e j h l = elim (ℕ_discrete j k) [ yes q ↦ ap (λ (x : ℕ). address (i - x)) q ∙ e | no q ↦ f j h (omega arith) ]

  -- n pages more, from page a up
  pub pass_all : (k n a : ℕ) → a + k + n ≡ i + 1 → Passed k → ((b : ℕ) → a ≤ b → b < a + n → address b ≡ 0) → Passed (k + n)
  unfolding Passed
  pass_all k n a s f z j h l = elim (dec_lt j k) [ yes b ↦ f j h b | no b ↦ z (i - j) (omega (arith, s, l)) (omega (arith, s, b, l)) ]

  module _ (z : Sizes) where
    abbrev n : ℕ
    n = i % z.pages

    pub lower_found : (k : ℕ) → 1 ≤ k → k ≤ n → Passed k → ¬ (address (i - k) ≡ 0) → address (i - k) ≡ neighbour z address i
    unfolding neighbour Passed
    lower_found k h l f a =
        let e : find n held 1 ≡ k = find_at n held 1 k h (omega arith) (lt→ltb 0 (address (i - k)) (omega (arith, a))) (λ j b c t. omega (arith, f j b c, ltb→lt 0 (address (i - j)) t)) in
        sym (ap (λ (x : ℕ). if (leb x n) (address (i - x)) 0) e ∙ if_true (leb k n) (address (i - k)) 0 (le→leb k n l))

    pub no_lower : (k : ℕ) → ¬ (k ≤ n) → Passed k → 0 ≡ neighbour z address i
    unfolding neighbour Passed
    no_lower k h f =
        let e : find n held 1 ≡ 1 + n = find_none n held 1 (λ j b c t. omega (arith, f j b (omega (arith, h, c)), ltb→lt 0 (address (i - j)) t)) in
        sym (ap (λ (x : ℕ). if (leb x n) (address (i - x)) 0) e ∙ if_false (leb (1 + n) n) (address (i - (1 + n))) 0 (λ t. omega (arith, leb→le (1 + n) n t)))

-- ── the nearest free record ──
module _ (z : Sizes) (state : ℕ → ℕ) (r : ℕ) where
  abbrev free_near : ℕ → Bool
  free_near d = free_below z state r d || free_above z state r d

  -- no record nearer than d is free
  unfoldable pub Farther : ℕ → Type 0
  Farther d = (k : ℕ) → k < d → ¬ T (free_near k)

  pub from_here : Farther 0
  unfolding Farther
  from_here k h = absurd (omega arith)

  pub farther : (d : ℕ) → Farther d → ¬ T (free_below z state r d) → ¬ T (free_above z state r d) → Farther (d + 1)
  unfolding Farther
  farther d f a b k h = elim (ℕ_discrete k d) [
    | yes e ↦ rw e (λ t. elim (or_cases (free_below z state r d) (free_above z state r d) t) [ inl x ↦ a x | inr x ↦ b x ])
    | no e ↦ f k (omega arith)
  ]

  abbrev by : ℕ → ℕ
  by d = if (free_below z state r d) (r - d) (r + d) % z.records

  stops : (d : ℕ) → d ≤ r + z.records → Farther d → T (free_near d) → nearest z state r ≡ by d
  unfolding nearest Farther
  stops d h f t = ap by (find_at (suc (r + z.records)) free_near 0 d (omega arith) (omega arith) t (λ k b c. f k c))

  pub below_found : (d : ℕ) → d ≤ r + z.records → Farther d → T (free_below z state r d) → r - d ≡ nearest z state r
  below_found d h f t =
      sym (stops d h f (or_left (free_below z state r d) (free_above z state r d) t) ∙ ap (λ (x : ℕ). x % z.records) (if_true (free_below z state r d) (r - d) (r + d) t)
      ∙ mod-eq_of_lt (ltb→lt (r - d) z.records (and_left (ltb (r - d) z.records) (eqb (state (r - d)) FREE) (and_right (leb d r) (is_free z state (r - d)) t))))

  pub above_found : (d : ℕ) → d ≤ r + z.records → Farther d → ¬ T (free_below z state r d) → T (free_above z state r d) → r + d ≡ nearest z state r
  above_found d h f n t =
      sym (stops d h f (or_right (free_below z state r d) (free_above z state r d) t) ∙ ap (λ (x : ℕ). x % z.records) (if_false (free_below z state r d) (r - d) (r + d) n)
      ∙ mod-eq_of_lt (ltb→lt (r + d) z.records (and_left (ltb (r + d) z.records) (eqb (state (r + d)) FREE) t)))

  pub none_near : (d : ℕ) → d ≡ suc (r + z.records) → Farther d → (r + d) % z.records ≡ nearest z state r
  unfolding nearest Farther
  none_near d e f =
      let q : find (suc (r + z.records)) free_near 0 ≡ d = find_none (suc (r + z.records)) free_near 0 (λ k b c. f k (omega (arith, c, e))) ∙ omega (arith, e) in
      sym (ap by q ∙ ap (λ (x : ℕ). x % z.records) (if_false (free_below z state r d) (r - d) (r + d) (λ t. omega (arith, leb→le d r (and_left (leb d r) (is_free z state (r - d)) t), e))))
