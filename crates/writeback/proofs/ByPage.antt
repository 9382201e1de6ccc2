-- The table of the frames of one slot's pages: one pass over the frames, and what its entries say.
use mathlib.Core.Path.{◌≡◌, ap, sym, ◌∙◌}
use mathlib.Core.Logic.{inl, inr}
use mathlib.Core.List.{List}
use Prim.Native.Nat.{ℕ, suc, ◌+◌, ◌-◌, ◌*◌, ◌<◌, ◌≤◌}
use native.Mathlib.Omega.{arith}
use native.Mathlib.Decide.{ℕ_discrete}
use lib.ListN.{set, length-set}
use lib.Seq.{get_or-set_same, get_or-set_other}
use Rattle.tables.specs.Base.{at}
use Rattle.tables.specs.Rule.{test, alike}
use Rattle.model.specs.declared.frame.Frame.{Frame}
use Rattle.model.specs.State.{frame_at}
use Rattle.writeback.specs.ByPage.{ByPage, charged_entry}
use Rattle.writeback.specs.Pages.{charged}

module _ (pages s : ℕ) (fs : List Frame) where
  abbrev page_at : ℕ → ℕ
  page_at f = (frame_at fs f).page

  module _ {table : List ℕ} (f : ℕ) (t : ByPage f pages s fs table) where
    -- frame f has another page, or none
    pub passed : ((s * pages < page_at f) → (page_at f ≤ s * pages + pages) → ⊥) → {table' : List ℕ} → table' ≡ table → ByPage (f + 1) pages s fs table'
    passed d e = rw e (record {
      long = t.long;
      in_one = λ p g b q. let x = t.in_one p g b q in (omega (arith, x.0), x.1);
      in_none = λ p b q h. elim (ℕ_discrete h.0 f) [
        | yes w ↦ let y : page_at f ≡ suc (s * pages + p) = rw w at h.2 in d (omega arith) (omega arith)
        | no w ↦ t.in_none p b q (h.0, omega (arith, h.1), h.2)
      ];
    })

    module _ (most : pages < 257) (low : s * pages < page_at f) (high : page_at f ≤ s * pages + pages) where
      abbrev j : ℕ
      j = page_at f - s * pages - 1

      here : at (set table j (f + 1)) j ≡ f + 1
      here = get_or-set_same table j (f + 1) 0 (omega (arith, t.long))

      -- frame f has one of the pages
      pub stored : {table' : List ℕ} → table' ≡ set table j (f + 1) → ByPage (f + 1) pages s fs table'
      stored e = rw e (record {
        long = length-set table j (f + 1) ∙ t.long;
        in_one = λ p g b q. elim (ℕ_discrete p j) [
          | yes w ↦ let y : g ≡ f = omega (arith, rw w at q, here) in (omega arith, rw y (omega arith))
          | no w ↦ let x = t.in_one p g b (sym (get_or-set_other table j p (f + 1) 0 w) ∙ q) in (omega (arith, x.0), x.1)
        ];
        in_none = λ p b q h. elim (ℕ_discrete p j) [
          | yes w ↦ omega (arith, rw w at q, here)
          | no w ↦ elim (ℕ_discrete h.0 f) [
            | yes v ↦ let y : page_at f ≡ suc (s * pages + p) = rw v at h.2 in w (omega arith)
            | no v ↦ t.in_none p b (sym (get_or-set_other table j p (f + 1) 0 w) ∙ q) (h.0, omega (arith, h.1), h.2)
          ]
        ];
      })

-- an entry says whether its page is charged, where no page is in two frames
pub charged_entry_holds : (pages s : ℕ) (fs : List Frame) {n : ℕ} {table : List ℕ} → ByPage n pages s fs table
    → ((f g : ℕ) → f < n → g < n → 0 < (frame_at fs f).page → (frame_at fs g).page ≡ (frame_at fs f).page → f ≡ g) → (addresses states : List ℕ) (p : ℕ) → p < pages
    → test (charged_entry (at table p) fs addresses states (s * pages + p)) ≡ test (charged n fs addresses states (s * pages + p))
charged_entry_holds pages s fs {n = n} {table = table} t seated addresses states p b = alike (charged_entry (at table p) fs addresses states (s * pages + p)) (charged n fs addresses states (s * pages + p))
    (λ h. elim h [ inl l ↦ inl l | inr d ↦ let x = t.in_one p (at table p - 1) b (omega (arith, d.0)) in inr (at table p - 1, x.0, (x.1, d.1)) ])
    (λ h. elim h [
      | inl l ↦ inl l
      | inr x ↦ let d : ¬ (at table p ≡ 0) = λ e. t.in_none p b e (x.0, x.1, x.2.0) in
          let y = t.in_one p (at table p - 1) b (omega (arith, d)) in
          let q = seated x.0 (at table p - 1) x.1 y.0 (omega (arith, x.2.0)) (y.1 ∙ sym x.2.0) in
          inr (d, ap (λ (f : ℕ). (frame_at fs f).modified) (sym q) ∙ x.2.1)
    ])
