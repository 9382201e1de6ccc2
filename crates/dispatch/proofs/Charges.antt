-- The counts once an event is carried out: which pages count for their accounts where one frame changes, and what the tables of counts hold.
use mathlib.Core.Path.{◌≡◌, sym, subst}
use mathlib.Core.Bool.{◌||◌}
use mathlib.Core.Logic.{inl, inr}
use mathlib.Core.List.{List}
use Prim.Native.Nat.{ℕ, suc, ◌<◌}
use lib.Dec.{eqb, ltb}
use lib.ListN.{length, set}
use Rattle.tables.specs.Base.{if}
use Rattle.tables.specs.Laws.{if_yes}
use Rattle.tables.specs.Rule.{Rule, same, some, ◌and◌, test, alike}
use Rattle.model.specs.declared.sizes.Sizes.{Sizes}
use Rattle.model.specs.declared.frame.Frame.{Frame}
use Rattle.model.specs.State.{State, Files, Frames, files, frames, no_frame, frame_at, slot_of, woven, live, charged}
use Rattle.model.specs.Laws.Index.{split_entry}
use Rattle.leaves.specs.Counts.{counts, used_counts, used_counts_holds}
use Rattle.leaves.specs.FreeMap.{free_map_table, free_map}
use Rattle.dispatch.specs.Kept.{Kept}

-- ── one frame changes ──
-- the frame has the page, modified
abbrev pub Weaves : Frame → ℕ → Type 0
Weaves g j = (g.page ≡ suc j) × (g.modified ≡ 1)

-- .. and is one of the first n
abbrev pub within : ℕ → List Frame → ℕ → Rule
within n fs j = some n λ k. same (frame_at fs k).page (suc j) and same (frame_at fs k).modified 1

module _ (n : ℕ) (fs : List Frame) (f : ℕ) (g : Frame) (inside : f < length fs) where
  pub woven_same : (j : ℕ) → (Weaves (frame_at fs f) j → Weaves g j) → (Weaves g j → Weaves (frame_at fs f) j) → test (within n fs j) ≡ test (within n (set fs f g) j)
  woven_same j to from = alike (within n fs j) (within n (set fs f g) j)
      (λ (k, l, e). elim (split_entry no_frame fs f g k inside) [
        | inl x ↦ (k, l, subst (λ (h : Frame). Weaves h j) (sym x.1) (to (subst (λ (m : ℕ). Weaves (frame_at fs m) j) x.0 e)))
        | inr x ↦ (k, l, subst (λ (h : Frame). Weaves h j) (sym x.1) e)
      ])
      (λ (k, l, e). elim (split_entry no_frame fs f g k inside) [
        | inl x ↦ (k, l, subst (λ (m : ℕ). Weaves (frame_at fs m) j) (sym x.0) (from (subst (λ (h : Frame). Weaves h j) x.1 e)))
        | inr x ↦ (k, l, subst (λ (h : Frame). Weaves h j) x.1 e)
      ])

-- ── a page's charge ──
pub charged_same : (z : Sizes) (v v' : Files) (c c' : Frames) (i : ℕ) → test (live v i) ≡ test (live v' i) → test (woven z c i) ≡ test (woven z c' i) → test (charged z v c i) ≡ test (charged z v' c' i)
unfolding charged test
charged_same z v v' c c' i a b = λ x. a x || b x

pub counts_alike : (z : Sizes) (v v' : Files) (c c' : Frames) (i : ℕ) → v.active (slot_of z i) ≡ v'.active (slot_of z i) → v.map i ≡ v'.map i → test (live v i) ≡ test (live v' i) → test (woven z c i) ≡ test (woven z c' i)
    → counts z v c i ≡ counts z v' c' i
counts_alike z v v' c c' i a m l f = λ x. if (eqb (a x) 1) (charged_same z v v' c c' i l f x) (ltb 0 (m x))

-- of a page of an active design
pub counts_active : (z : Sizes) (v : Files) (c : Frames) (i : ℕ) → v.active (slot_of z i) ≡ 1 → counts z v c i ≡ test (charged z v c i)
counts_active z v c i e = if_yes (v.active (slot_of z i)) 1 (test (charged z v c i)) (ltb 0 (v.map i)) e

-- ── the tables of counts ──
module _ (z : Sizes) (st : State) (k : Kept z st) where
  pub used_table_holds : st.memory.used ≡ used_counts z (files st) (frames st)
  used_table_holds = used_counts_holds z (files st) (frames st) st.memory.used k.fits.memory.used k.rules.counts.used

  pub map_table : st.memory.held.free_map ≡ free_map_table z (files st).state
  map_table = free_map z (files st).state st.memory.held.free_map k.fits.memory.free_map k.rules.counts.free_map
