-- No two homesOf are one: the commit sector, the two areas, home.
use Rattle.std.proofs.Common.{◌≡◌, ℕ, ◌+◌, ◌<◌, Bool, true, false, not, eqb, refl, ap, arith, eq-eqb, ne_eqb}
use native.Mathlib.Decide.{ℕ_discrete}
use Rattle.tables.specs.Base.{if}
use Rattle.journal.specs.Device.{Content, Sectors, put}
use Rattle.journal.specs.Layout.{commit_at, odd, next_sequence, area_at, home_at}
use Rattle.journal.specs.Laws.Sequence.{odd_next}

-- ── the sectors after a write ──
pub put_here : (s : ℕ) (c : Content) (f : Sectors) → put (record { place = s; words = c }) f s ≡ c
put_here s c f = rw (eq-eqb s s refl)

pub put_there : (s t : ℕ) (c : Content) (f : Sectors) → ¬ (t ≡ s) → put (record { place = s; words = c }) f t ≡ f t
put_there s t c f n = rw (ne_eqb t s n)

module _ (most : ℕ) where
  pub area_commit : (n i : ℕ) → ¬ (area_at most n i ≡ commit_at)
  unfolding area_at
  area_commit n i = go (odd n)
    where
      go : (b : Bool) → ¬ (if b (1 + most + i) (1 + i) ≡ 0)
      go true = omega arith
      go false = omega arith

  pub home_commit : (x : ℕ) → ¬ (home_at most x ≡ commit_at)
  unfolding home_at
  home_commit x = omega arith

  pub home_area : (x n i : ℕ) → i < most → ¬ (home_at most x ≡ area_at most n i)
  unfolding home_at area_at
  home_area x n i h = go (odd n)
    where
      go : (b : Bool) → ¬ (1 + most + most + x ≡ if b (1 + most + i) (1 + i))
      go true = omega arith
      go false = omega arith

  -- two contents of one store
  pub area_area : (n i j : ℕ) → ¬ (i ≡ j) → ¬ (area_at most n i ≡ area_at most n j)
  unfolding area_at
  area_area n i j h = go (odd n)
    where
      go : (b : Bool) → ¬ (if b (1 + most + i) (1 + i) ≡ if b (1 + most + j) (1 + j))
      go true = omega arith
      go false = omega arith

  -- contents of two stores in a row
  pub area_next : (n i j : ℕ) → i < most → j < most → ¬ (area_at most n i ≡ area_at most (next_sequence n) j)
  unfolding area_at
  area_next n i j h k = rw (odd_next n) (go (odd n))
    where
      go : (b : Bool) → ¬ (if b (1 + most + i) (1 + i) ≡ if (not b) (1 + most + j) (1 + j))
      go true = omega arith
      go false = omega arith

  -- home is in order
  home_apart : (x y : ℕ) → ¬ (x ≡ y) → ¬ (home_at most x ≡ home_at most y)
  unfolding home_at
  home_apart x y d = omega arith

  pub home_put : (x y : ℕ) (c : Content) (f : Sectors) → put (record { place = home_at most y; words = c }) f (home_at most x) ≡ if (eqb x y) c (f (home_at most x))
  home_put x y c f = elim (ℕ_discrete x y) [
    | yes e ↦ rw (eq-eqb x y e, eq-eqb (home_at most x) (home_at most y) (ap (home_at most) e))
    | no e ↦ rw (ne_eqb x y e, ne_eqb (home_at most x) (home_at most y) (home_apart x y e))
  ]
