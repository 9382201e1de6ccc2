-- A claim's looks, one at a time: the frame looked at is left cool, so each look leaves fewer warm ones.
use Rattle.std.specs.Prelude.{◌≡◌, refl, Bool, true, false, List, [], ◌∷◌, ◌++◌, ◌⊎◌, ℕ, suc, ◌+◌, ◌≤◌, length, set}
use Rattle.std.proofs.Common.{inl, inr, arith, get_or-set_same, get_or-set_other}
use Rattle.std.proofs.Math.Decide.{ℕ_discrete, dec_lt}
use Rattle.std.proofs.Math.ListN.{get_or-eq_default}
use Rattle.std.proofs.Math.Seq.{set_out}
use Rattle.tables.specs.Base.{if}
use Rattle.model.specs.declared.frame.Frame.{Frame}
use Rattle.model.specs.State.{frame_at, no_frame}
use Rattle.model.specs.Writeback.{warm, cooled}

-- the frames once f is looked at
abbrev pub cool : List Frame → ℕ → List Frame
cool fs f = set fs f (cooled (frame_at fs f))

pub cool_at : (fs : List Frame) (f x : ℕ) → (frame_at (cool fs f) x ≡ cooled (frame_at fs x)) ⊎ ((¬ (x ≡ f)) × (frame_at (cool fs f) x ≡ frame_at fs x))
cool_at fs f x = elim (ℕ_discrete x f) [
  | yes e ↦ inl (rw e (elim (dec_lt f (length fs)) [
    | yes h ↦ get_or-set_same fs f _ no_frame h
    | no h ↦ rw (set_out fs f (cooled (frame_at fs f)) (omega arith), get_or-eq_default fs no_frame {n = f} (omega arith))
  ]))
  | no e ↦ inr (e, get_or-set_other fs f x _ no_frame e)
]

-- how many entries are warm
unfoldable pub warms : List Frame → List ℕ → ℕ
warms fs [] = 0
warms fs (x ∷ xs) = if (warm (frame_at fs x)) 1 0 + warms fs xs

pub warms_le : (fs : List Frame) (xs : List ℕ) → warms fs xs ≤ length xs
unfolding warms
warms_le fs [] = omega arith
warms_le fs (x ∷ xs) = go (warm (frame_at fs x)) (warms_le fs xs)
  where
    go : (b : Bool) → warms fs xs ≤ length xs → if b 1 0 + warms fs xs ≤ suc (length xs)
    go true h = omega arith
    go false h = omega arith

-- the entry looked at and moved to the end is warm no more
pub fewer : (fs : List Frame) (f : ℕ) (xs : List ℕ) → warms (cool fs f) (xs ++ f ∷ []) ≤ warms fs xs
unfolding warms
fewer fs f [] = elim (cool_at fs f f) [ inl e ↦ rw e (omega arith) | inr e ↦ absurd (e.0 refl) ]
fewer fs f (x ∷ xs) = elim (cool_at fs f x) [ inl e ↦ rw e (omega (arith, fewer fs f xs)) | inr e ↦ rw e.1 (omega (arith, fewer fs f xs)) ]
