-- What lists an import's pages: the entries put one by one are those of the definition.
use mathlib.Core.Path.{◌≡◌, refl, ap, sym, ◌∙◌}
use mathlib.Core.Bool.{Bool, true, false}
use mathlib.Core.List.{List}
use mathlib.Core.Logic.{inl, inr}
use Prim.Native.Nat.{ℕ, zero, suc, ◌/◌, ◌%◌, ◌<◌, ◌≤◌}
use native.Mathlib.Omega.{arith}
use lib.Dec.{T}
use lib.ListN.{length, set, length-set}
use Rattle.tables.specs.Base.{at, if}
use Rattle.tables.specs.Laws.{last}
use Rattle.tables.specs.Rule.{same}
use Rattle.tables.specs.Store.{store}
use Rattle.tables.specs.StoreLoops.{store_same}
use Rattle.model.specs.declared.sizes.Sizes.{Sizes}
use Rattle.model.specs.State.{State}
use Rattle.model.specs.Laws.Index.{split_set}
use Rattle.model.specs.Import.{Sheet, taken, field_of, has, entry}
use Rattle.model.specs.Laws.Fields.{field_of_holds, has_at}
use Rattle.carrying.specs.Seen.{entries_after}

module _ (z : Sizes) (st : State) (s : ℕ) (h : Sheet) (es : List ℕ) (zeros : (p : ℕ) → at es p ≡ 0) (once : (j k : ℕ) → j < h.count → k < h.count → h.page j ≡ h.page k → j ≡ k) (pages : (k : ℕ) → k < h.count → h.page k < length es) where
  abbrev after : ℕ → List ℕ
  after k = entries_after z st s h k es

  next : (k : ℕ) → after (suc k) ≡ set (after k) (h.page k) (suc (taken z st s k))
  unfolding entries_after
  next k = refl

  long : (k : ℕ) → length (after k) ≡ length es
  unfolding entries_after
  long zero = refl
  long (suc k) = length-set (after k) (h.page k) (suc (taken z st s k)) ∙ long k

  step : (k p : ℕ) → k < h.count → ((h.page k ≡ p) → at (after (suc k)) p ≡ suc (taken z st s k)) × (¬ (h.page k ≡ p) → at (after (suc k)) p ≡ at (after k) p)
  step k p g = elim (split_set (after k) (h.page k) (suc (taken z st s k)) p (rw (long k) (pages k g))) [
    | inl x ↦ (λ e. ap (λ (l : List ℕ). at l p) (next k) ∙ x.1, λ e. absurd (e (sym x.0)))
    | inr x ↦ (λ e. absurd (x.0 (sym e)), λ e. ap (λ (l : List ℕ). at l p) (next k) ∙ x.1)
  ]

  listed : (k : ℕ) → k ≤ h.count → (j : ℕ) → j < k → (p : ℕ) → h.page j ≡ p → at (after k) p ≡ suc (taken z st s j)
  listed zero i j g p e = absurd (omega (arith, g))
  listed (suc k) i j g p e = elim (last g) [
    | inl a ↦ (step k p i).1 (λ d. omega (arith, a, once j k (omega (arith, a, i)) i (e ∙ sym d))) ∙ listed k (omega (arith, i)) j a p e
    | inr a ↦ rw a ((step k p i).0 (ap h.page (sym a) ∙ e))
  ]

  unlisted : (k : ℕ) → k ≤ h.count → (p : ℕ) → ((j : ℕ) → j < k → ¬ (h.page j ≡ p)) → at (after k) p ≡ 0
  unfolding entries_after
  unlisted zero i p d = zeros p
  unlisted (suc k) i p d = (step k p i).1 (d k (omega arith)) ∙ unlisted k (omega (arith, i)) p (λ j g. d j (omega (arith, g)))

  pub entries_are : (q n p : ℕ) → at (after h.count) p ≡ entry z st s q n h p
  unfolding entry
  entries_are q n p = go (has h p) refl
    where
      none : has h p ≡ false → ¬ (T (has h p))
      none e t = rw e at t

      go : (b : Bool) → has h p ≡ b → at (after h.count) p ≡ if (has h p) (suc (taken z st s (field_of h p))) 0
      go true e = rw e (let f = field_of_holds h once p (rw e tt) in listed h.count (omega arith) (field_of h p) f.0 p f.1)
      go false e = rw e (unlisted h.count (omega arith) p (λ j g d. none e (rw d at (has_at h once j g))))

  -- the slot's map
  pub map_is : (q n pages slot : ℕ) (maps : List ℕ) → store maps (λ i. same (i / pages) slot) (λ i. at (after h.count) (i % pages)) ≡ store maps (λ i. same (i / pages) slot) (λ i. entry z st s q n h (i % pages))
  map_is q n pages slot maps = store_same maps (λ i. same (i / pages) slot) (λ i. same (i / pages) slot) (λ i. at (after h.count) (i % pages)) (λ i. entry z st s q n h (i % pages)) (λ i g x. x) (λ i g x. x) (λ i g x. entries_are q n (i % pages))
