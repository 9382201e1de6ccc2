-- A whole field ends behind its place, within the input.
use Rattle.std.proofs.Common.{◌≡◌, ℕ, ◌+◌, ◌≤◌, Bool, true, false, not, eqb, ltb, leb, List, length, refl, ap, arith, ltb-false}
use Rattle.tables.specs.Base.{at, if}
use Rattle.fields.specs.Fields.{number, total, CUT, is_tag, request_at, field_at}
use Rattle.fields.specs.declared.Field.TheVariants.{End, Whole, Cut, Short, Wrong}
use Rattle.replay.specs.Input.{is_whole, next_of}

none : false ≡ true → ⊥
none e = let z : ◌≡◌ {A = ℕ} 0 1 = ap (λ (b : Bool). if b 1 0) e in omega arith

pub forward : (s : List ℕ) (i : ℕ) → is_whole (field_at s i) ≡ true → (i + 3 ≤ next_of (field_at s i)) × (next_of (field_at s i) ≤ length s)
unfolding field_at
forward s i e = go (leb (length s) i) (is_tag (at s i)) (ltb (length s) (i + 3)) (eqb (number 2 0 s (i + 1)) (total (at s i))) (ltb (length s) (i + 3 + total (at s i))) refl refl (eqb (at s i) CUT) e
  where
    go : (a b c d f : Bool) → ltb (length s) (i + 3) ≡ c → ltb (length s) (i + 3 + total (at s i)) ≡ f → (g : Bool)
        → is_whole (if a End (if (not b) Wrong (if c Short (if (not d) Wrong (if f Short (if g (Cut (i + 3)) (Whole (request_at s (at s i) (i + 3)) (i + 3 + total (at s i))))))))) ≡ true
        → (i + 3 ≤ next_of (if a End (if (not b) Wrong (if c Short (if (not d) Wrong (if f Short (if g (Cut (i + 3)) (Whole (request_at s (at s i) (i + 3)) (i + 3 + total (at s i))))))))))
        × (next_of (if a End (if (not b) Wrong (if c Short (if (not d) Wrong (if f Short (if g (Cut (i + 3)) (Whole (request_at s (at s i) (i + 3)) (i + 3 + total (at s i))))))))) ≤ length s)
    go true b c d f p q g h = absurd (none h)
    go false false c d f p q g h = absurd (none h)
    go false true true d f p q g h = absurd (none h)
    go false true false false f p q g h = absurd (none h)
    go false true false true true p q g h = absurd (none h)
    go false true false true false p q true h = (omega arith, omega (arith, ltb-false (length s) (i + 3) p))
    go false true false true false p q false h = (omega arith, omega (arith, ltb-false (length s) (i + 3 + total (at s i)) q))
