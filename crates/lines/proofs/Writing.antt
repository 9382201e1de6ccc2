-- Bytes put into a buffer one after the other.
use mathlib.Core.Path.{◌≡◌, refl, ap, ◌∙◌}
use mathlib.Core.List.{List, [], ◌∷◌, ◌++◌}
use Prim.Native.Nat.{ℕ, suc, ◌+◌}
use native.Mathlib.Nat.{add-zero}
use native.Mathlib.Omega.{arith}
use lib.ListN.{length, set, length-append}
use lib.Seq.{sets}
use Rattle.lines.specs.Lines.{Wrote}

pub sets_append : (xs : List ℕ) (i : ℕ) (front back : List ℕ) → sets xs i (front ++ back) ≡ sets (sets xs i front) (i + length front) back
sets_append xs i [] back = rw (add-zero i)
sets_append xs i (a ∷ front) back = sets_append (set xs i a) (suc i) front back ∙ ap (λ (k : ℕ). sets (sets xs i (a ∷ front)) k back) (omega arith)

pub both : {xs ys zs front back : List ℕ} {i m r : ℕ} → Wrote xs ys i front m → Wrote ys zs m back r → Wrote xs zs i (front ++ back) r
both {xs} {ys} {zs} {front} {back} {i} {m} {r} v w = record {
  buffer = w.buffer ∙ (rw (v.buffer, v.end, sets_append xs i front back) refl);
  end = w.end ∙ (rw (v.end, length-append front back) (omega arith));
  fits = omega (arith, w.fits, v.size);
  size = w.size ∙ v.size;
}
