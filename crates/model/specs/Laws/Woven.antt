-- The page that a frame charges: that of a modified frame.
use Rattle.std.specs.Prelude.{◌≡◌, ℕ, suc, ◌≤◌, eqb}
use Rattle.std.proofs.Common.{sym, ◌∙◌, arith}
use Rattle.std.proofs.Math.Decide.{ℕ_discrete}
use Rattle.tables.specs.Base.{if}
use Rattle.tables.specs.Laws.{if_yes, if_no}
use Rattle.model.specs.declared.frame.Frame.{Frame}

-- the entry of its page, or 0
abbrev pub woven_page : Frame → ℕ
woven_page g = if (eqb g.modified 1) g.page 0

pub woven_is : (g : Frame) (i : ℕ) → woven_page g ≡ suc i → (g.page ≡ suc i) × (g.modified ≡ 1)
woven_is g i h = elim (ℕ_discrete g.modified 1) [
  | yes e ↦ (sym (if_yes g.modified 1 g.page 0 e) ∙ h, e)
  | no d ↦ absurd (let n : ◌≡◌ {A = ℕ} 0 (suc i) = sym (if_no g.modified 1 g.page 0 d) ∙ h in omega (arith, n))
]

pub is_woven : (g : Frame) (i : ℕ) → g.page ≡ suc i → g.modified ≡ 1 → woven_page g ≡ suc i
is_woven g i p m = if_yes g.modified 1 g.page 0 m ∙ p

pub woven_least : (g : Frame) {n : ℕ} → g.page ≤ n → woven_page g ≤ n
woven_least g h = elim (ℕ_discrete g.modified 1) [ yes e ↦ omega (arith, h, if_yes g.modified 1 g.page 0 e) | no d ↦ omega (arith, if_no g.modified 1 g.page 0 d) ]
