-- What stands at a place, case by case.
use mathlib.Core.Path.{◌≡◌, refl}
use mathlib.Core.Bool.{Bool, true, false, not}
use mathlib.Core.List.{List}
use Prim.Native.Nat.{ℕ, ◌+◌, ◌<◌, ◌≤◌}
use lib.Dec.{eqb, leb, ltb, ltb→lt}
use lib.ListN.{length}
use native.Mathlib.Omega.{arith}
use borrow.Author.Tests.{le-leb, lt-leb, le-ltb, lt-ltb, eq-eqb, ne_eqb, ltb-false}
use Rattle.tables.specs.Base.{at, if}
use Rattle.tables.specs.Laws.{and_right}
use Rattle.fields.specs.declared.Field.TheVariants.{End, Whole, Cut, Short, Wrong}
use Rattle.fields.specs.Fields.{number, total, CUT, is_tag, request_at, field_at, Ends}

pub is_tag_below : (tag : ℕ) → is_tag tag ≡ true → tag < 17
is_tag_below tag e = ltb→lt tag 17 (and_right (ltb 0 tag) (ltb tag 17) (rw e tt))

module _ (s : List ℕ) (i : ℕ) where
  pub ends : length s ≤ i → End ≡ field_at s i
  unfolding field_at
  ends h = rw (le-leb (length s) i h)

  module _ (inside : i < length s) where
    pub no_tag : is_tag (at s i) ≡ false → Wrong ≡ field_at s i
    unfolding field_at
    no_tag t = rw (lt-leb (length s) i inside, t)

    module _ (tag : is_tag (at s i) ≡ true) where
      pub short_head : length s < i + 3 → Short ≡ field_at s i
      unfolding field_at
      short_head h = rw (lt-leb (length s) i inside, tag, lt-ltb (length s) (i + 3) h)

      module _ (head : i + 3 ≤ length s) where
        pub other_length : ¬ (number 2 0 s (i + 1) ≡ total (at s i)) → Wrong ≡ field_at s i
        unfolding field_at
        other_length h = rw (lt-leb (length s) i inside, tag, le-ltb (length s) (i + 3) head, ne_eqb (number 2 0 s (i + 1)) (total (at s i)) h)

        module _ (same : number 2 0 s (i + 1) ≡ total (at s i)) where
          pub short_values : length s < i + 3 + total (at s i) → Short ≡ field_at s i
          unfolding field_at
          short_values h =
              rw (lt-leb (length s) i inside, tag, le-ltb (length s) (i + 3) head, eq-eqb (number 2 0 s (i + 1)) (total (at s i)) same, lt-ltb (length s) (i + 3 + total (at s i)) h)

          module _ (whole : i + 3 + total (at s i) ≤ length s) where
            pub cuts : at s i ≡ CUT → Cut (i + 3) ≡ field_at s i
            unfolding field_at
            cuts h = rw (lt-leb (length s) i inside, tag, le-ltb (length s) (i + 3) head, eq-eqb (number 2 0 s (i + 1)) (total (at s i)) same, le-ltb (length s) (i + 3 + total (at s i)) whole, eq-eqb (at s i) CUT h)

            pub asks : ¬ (at s i ≡ CUT) → Whole (request_at s (at s i) (i + 3)) (i + 3 + total (at s i)) ≡ field_at s i
            unfolding field_at
            asks h = rw (lt-leb (length s) i inside, tag, le-ltb (length s) (i + 3) head, eq-eqb (number 2 0 s (i + 1)) (total (at s i)) same, le-ltb (length s) (i + 3 + total (at s i)) whole, ne_eqb (at s i) CUT h)

-- a field ends within the input
pub ends_within : (s : List ℕ) (i : ℕ) (next : ℕ) → Ends next (field_at s i) → next ≤ length s
unfolding field_at
ends_within s i next e = go (leb (length s) i) (is_tag (at s i)) (ltb (length s) (i + 3)) (eqb (number 2 0 s (i + 1)) (total (at s i))) (ltb (length s) (i + 3 + total (at s i))) refl refl (eqb (at s i) CUT) e
  where
    go : (a b c d f : Bool) → ltb (length s) (i + 3) ≡ c → ltb (length s) (i + 3 + total (at s i)) ≡ f → (g : Bool)
        → Ends next (if a End (if (not b) Wrong (if c Short (if (not d) Wrong (if f Short (if g (Cut (i + 3)) (Whole (request_at s (at s i) (i + 3)) (i + 3 + total (at s i)))))))))
        → next ≤ length s
    go true b c d f p q g h = absurd h
    go false false c d f p q g h = absurd h
    go false true true d f p q g h = absurd h
    go false true false false f p q g h = absurd h
    go false true false true true p q g h = absurd h
    go false true false true false p q true h = omega (arith, h, ltb-false (length s) (i + 3) p)
    go false true false true false p q false h = omega (arith, h, ltb-false (length s) (i + 3 + total (at s i)) q)
