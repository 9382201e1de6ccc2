-- What a recovery finds in a commit sector, by the tests that the code makes; a store is found just where the sector is valid.
use Rattle.std.specs.Prelude.{◌≡◌, ℕ, ◌<◌, ◌≤◌, Bool, true, false, ◌&&◌, List, ◌==◌, Ok, Err}
use Rattle.std.proofs.Math.Path.{refl}
use borrow.Author.Tests.{le-leb, lt-leb, eq-eqb, ne_eqb}
use Rattle.tables.specs.Base.{if, at}
use Rattle.tables.specs.Rule.{test}
use Rattle.journal.specs.declared.Refusal.TheVariants.{Foreign, TooMany, NoHome, NotZero}
use Rattle.journal.specs.Layout.{MAGIC, most_homes, count_fits, homes_there, zeros_behind, valid}
use Rattle.journal.specs.Steps.{looked, is_store}

module _ (most room : ℕ) (c : List ℕ) where
  -- ── the reasons, in order ──
  pub look_foreign : ¬ (at c 0 ≡ MAGIC) → Err Foreign ≡ looked most room c
  unfolding looked
  look_foreign h = rw (ne_eqb (at c 0) MAGIC h)

  pub look_over_area : at c 0 ≡ MAGIC → most < at c 2 → Err TooMany ≡ looked most room c
  unfolding looked
  look_over_area e h = rw (eq-eqb (at c 0) MAGIC e, lt-leb (at c 2) most h)

  pub look_over_sector : at c 0 ≡ MAGIC → at c 2 ≤ most → most_homes < at c 2 → Err TooMany ≡ looked most room c
  unfolding looked
  look_over_sector e l h = rw (eq-eqb (at c 0) MAGIC e, le-leb (at c 2) most l, lt-leb (at c 2) most_homes h)

  -- the magic is there, and the count fits
  pub record Counted : Type 0 where
    pub magic : at c 0 ≡ MAGIC
    pub in_area : at c 2 ≤ most
    pub in_sector_holds : at c 2 ≤ most_homes

  pub look_no_home : Counted → false ≡ test (homes_there (at c 2) room c) → Err NoHome ≡ looked most room c
  unfolding looked
  look_no_home k t = rw (eq-eqb (at c 0) MAGIC k.magic, le-leb (at c 2) most k.in_area, le-leb (at c 2) most_homes k.in_sector_holds, ← t)

  pub look_not_zero : Counted → true ≡ test (homes_there (at c 2) room c) → false ≡ test (zeros_behind (at c 2) c) → Err NotZero ≡ looked most room c
  unfolding looked
  look_not_zero k t z = rw (eq-eqb (at c 0) MAGIC k.magic, le-leb (at c 2) most k.in_area, le-leb (at c 2) most_homes k.in_sector_holds, ← t, ← z)

  pub look_store : Counted → true ≡ test (homes_there (at c 2) room c) → true ≡ test (zeros_behind (at c 2) c) → Ok (record { sequence = at c 1; count = at c 2 }) ≡ looked most room c
  unfolding looked
  look_store k t z = rw (eq-eqb (at c 0) MAGIC k.magic, le-leb (at c 2) most k.in_area, le-leb (at c 2) most_homes k.in_sector_holds, ← t, ← z)

  -- ── a store is found just where the sector is valid ──
  pub looked_valid : is_store (looked most room c) ≡ valid most room c
  unfolding looked valid is_store
  looked_valid = go (at c 0 == MAGIC) (count_fits most (at c 2)) (test (homes_there (at c 2) room c)) (test (zeros_behind (at c 2) c))
    where
      go : (a b d e : Bool) → is_store (if a (if b (if d (if e (Ok (record { sequence = at c 1; count = at c 2 })) (Err NotZero)) (Err NoHome)) (Err TooMany)) (Err Foreign)) ≡ a && (b && (d && e))
      go false b d e = refl
      go true false d e = refl
      go true true false e = refl
      go true true true false = refl
      go true true true true = refl
