-- The highest number of a restart: what it looks at, and a turn of the pass over the slots' numbers.
use Rattle.std.specs.Prelude.{◌≡◌, Bool, true, false, ◌&&◌, List, [], T, ltb, set, ◌<◌, ◌≤◌}
use Rattle.std.proofs.Math.Path.{refl, ap}
use Rattle.std.proofs.Common.{sym, subst, ◌∙◌, add-one, arith, ltb-true, ltb-false}
use Prim.Native.Nat.{ℕ, zero, suc, ◌+◌, max}
use Rattle.std.proofs.Math.Nat.{max-eq_left, max-eq_right}
use Rattle.tables.specs.Base.{at, if}
use Rattle.model.specs.declared.sizes.Sizes.{Sizes}
use Rattle.model.specs.State.{Disk}
use Rattle.model.specs.Lent.{disk_of}
use Rattle.model.specs.Restart.{highest_of, raised}

-- the tables that it looks at
abbrev pub numbered : List ℕ → List ℕ → Disk
numbered numbers highest = disk_of [] numbers [] [] [] [] highest

-- no definition of it looks at the others
module _ (d : Disk) where
  alike : (s : ℕ) → highest_of (numbered d.numbers d.highest) s ≡ highest_of d s
  unfolding highest_of
  alike zero = refl
  alike (suc s) = ap (λ (h : ℕ). max h (if (ltb (at d.numbers s) 2147483648) (at d.numbers s) 0)) (alike s)

  pub raised_seen : (z : Sizes) → (raised z (numbered d.numbers d.highest)).highest ≡ (raised z d).highest
  unfolding raised
  raised_seen z = ap (set d.highest 0) (alike z.slots)

-- one number more: it is the highest, or not
module _ (top n : ℕ) where
  abbrev next : ℕ
  next = max top (if (ltb n 2147483648) n 0)

  higher : (a b : Bool) → ltb n 2147483648 ≡ a → ltb top n ≡ b → a && b ≡ true → n ≡ next
  higher true true e f g = rw e (sym (max-eq_right (let h = ltb-true top n f in omega (arith, h))))
  higher true false e f g = absurd (subst T (sym g) tt)
  higher false b e f g = absurd (subst T (sym g) tt)

  other : (a b : Bool) → ltb n 2147483648 ≡ a → ltb top n ≡ b → a && b ≡ false → top ≡ next
  other true true e f g = absurd (subst T g tt)
  other true false e f g = rw e (sym (max-eq_left (ltb-false top n f)))
  other false b e f g = rw e (sym (max-eq_left (omega arith)))

  counted : (a : Bool) → ltb n 2147483648 ≡ a → n < 2147483648 → max top n ≡ next
  counted true e h = rw e refl
  counted false e h = let g = ltb-false n 2147483648 e in absurd (omega (arith, g, h))

  uncounted : (a : Bool) → ltb n 2147483648 ≡ a → 2147483648 ≤ n → top ≡ next
  uncounted true e h = let g = ltb-true n 2147483648 e in absurd (omega (arith, g, h))
  uncounted false e h = rw e (omega arith)

module _ (d : Disk) (s top n : ℕ) (known : top ≡ highest_of d s) (read : n ≡ at d.numbers s) where
  abbrev test : Bool
  test = ltb n 2147483648 && ltb top n

  on : next top n ≡ highest_of d (s + 1)
  unfolding highest_of
  on = rw (add-one s) (λ i. max (known i) (if (ltb (read i) 2147483648) (read i) 0))

  -- a number that counts and is higher is the highest; any other leaves it
  pub highest_turn : test ≡ true → n ≡ highest_of d (s + 1)
  highest_turn e = higher top n (ltb n 2147483648) (ltb top n) refl refl e ∙ on

  pub highest_pass : test ≡ false → top ≡ highest_of d (s + 1)
  highest_pass e = other top n (ltb n 2147483648) (ltb top n) refl refl e ∙ on

  -- .. of one that counts, the higher of both
  pub highest_counted : n < 2147483648 → max top n ≡ highest_of d (s + 1)
  highest_counted h = counted top n (ltb n 2147483648) refl h ∙ on

  pub highest_uncounted : 2147483648 ≤ n → top ≡ highest_of d (s + 1)
  highest_uncounted h = uncounted top n (ltb n 2147483648) refl h ∙ on

pub highest_none : (d : Disk) → at d.highest 0 ≡ highest_of d 0
unfolding highest_of
highest_none d = refl

-- the store
pub highest_stored : (z : Sizes) (d : Disk) (top : ℕ) → top ≡ highest_of d z.slots → set d.highest 0 top ≡ (raised z d).highest
unfolding raised
highest_stored z d top e = ap (set d.highest 0) e
