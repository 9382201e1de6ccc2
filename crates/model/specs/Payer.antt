-- Who pays: "An account with limit 0 passes its charges up to its parent, and so on until one with a limit above 0, or account 0, pays."
use Rattle.std.specs.Prelude.{◌≡◌, Bool}
use Rattle.std.proofs.Math.Path.{refl}
use Rattle.std.proofs.Common.{sym, ◌∙◌, inl, inr}
use Rattle.std.proofs.Math.Bool.{true, false}
use Prim.Native.Nat.{ℕ, zero, suc, ◌≤◌, ◌<◌}
use native.Mathlib.Omega.{arith}
use Rattle.std.proofs.Math.Decide.{dec_lt}
use Rattle.tables.specs.Base.{if}
use Rattle.tables.specs.Rule.{Rule, same, below, non, ◌or◌, Holds, test, told, untold}

module _ (parent limit : ℕ → ℕ) where
  -- the account pays itself: account 0, one with a limit, and (where the disk rule does not hold) one whose parent is not lower
  abbrev pub pays_itself : ℕ → Rule
  pays_itself q = same q 0 or below 0 (limit q) or non (below (parent q) q)

  -- at most so many steps up; the account number falls at each, so q steps are enough
  unfoldable pub payer_in : ℕ → ℕ → ℕ
  payer_in zero q = q
  payer_in (suc n) q = if (test (pays_itself q)) q (payer_in n (parent q))

  unfoldable pub payer : ℕ → ℕ
  payer q = payer_in q q

  -- ── the sentence, as laws ──
  -- it pays itself,
  pub payer_self : (q : ℕ) → Holds (pays_itself q) → payer q ≡ q
  unfolding payer payer_in
  payer_self zero h = refl
  payer_self (suc q) h = rw (told (pays_itself (suc q)) h)

  differ : true ≡ false → ⊥
  differ x = let y : ◌≡◌ {A = ℕ} 0 1 = cc in omega arith

  falls : (q : ℕ) → test (pays_itself q) ≡ false → parent q < q
  falls q e = elim (dec_lt (parent q) q) [ yes l ↦ l | no l ↦ absurd (differ (sym (told (pays_itself q) (inr (inr l))) ∙ e)) ]

  enough : (n m q : ℕ) → q ≤ n → q ≤ m → payer_in n q ≡ payer_in m q
  unfolding payer_in
  enough zero zero q a b = refl
  enough zero (suc m) q a b = let e : q ≡ 0 = omega arith in rw (told (pays_itself q) (inl e))
  enough (suc n) zero q a b = let e : q ≡ 0 = omega arith in rw (told (pays_itself q) (inl e))
  enough (suc n) (suc m) q a b = go (test (pays_itself q)) (falls q) (λ x y. enough n m (parent q) x y)
    where
      go : (t : Bool) → (t ≡ false → parent q < q) → (parent q ≤ n → parent q ≤ m → payer_in n (parent q) ≡ payer_in m (parent q)) → if t q (payer_in n (parent q)) ≡ if t q (payer_in m (parent q))
      go true f h = refl
      go false f h = h (omega (arith, f refl)) (omega (arith, f refl))

  -- or else its parent's payer pays,
  pub payer_up : (q : ℕ) → ¬ Holds (pays_itself q) → payer q ≡ payer (parent q)
  unfolding payer payer_in
  payer_up zero h = absurd (h (inl refl))
  payer_up (suc q) h = rw (untold (pays_itself (suc q)) h) (enough q (parent (suc q)) (parent (suc q)) (less (dec_lt (parent (suc q)) (suc q))) (omega arith))
    where
      less : Dec (parent (suc q) < suc q) → parent (suc q) ≤ q
      less (yes l) = omega (arith, l)
      less (no l) = absurd (h (inr (inr l)))

  within : (n q : ℕ) → payer_in n q ≤ q
  unfolding payer_in
  within zero q = omega arith
  within (suc n) q = go (test (pays_itself q)) (falls q) (within n (parent q))
    where
      go : (t : Bool) → (t ≡ false → parent q < q) → payer_in n (parent q) ≤ parent q → if t q (payer_in n (parent q)) ≤ q
      go true e h = omega arith
      go false e h = omega (arith, h, e refl)

  -- and who pays has no higher number: below Q where the account is
  pub payer_le : (q : ℕ) → payer q ≤ q
  unfolding payer
  payer_le q = within q q
