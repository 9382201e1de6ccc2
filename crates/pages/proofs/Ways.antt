-- The three ways of a fault; and question 19.
use mathlib.Core.Path.{◌≡◌, refl, ap, sym, ◌∙◌, subst}
use mathlib.Core.Bool.{Bool, true, false, ◌||◌}
use mathlib.Core.Logic.{inl}
use mathlib.Core.List.{List}
use Prim.Native.Nat.{ℕ, ◌-◌}
use native.Mathlib.Omega.{arith}
use native.Mathlib.Decide.{ℕ_discrete}
use lib.Dec.{T, eqb, ltb}
use Rattle.tables.specs.Base.{if, at}
use Rattle.tables.specs.Laws.{if_yes, if_no}
use Rattle.tables.specs.Rule.{Holds, same, below, non, ◌or◌, test, told, untold, decided}
use Rattle.model.specs.Lines.{LIVE}
use Rattle.pages.specs.declared.supply.Way.{Way}
use Rattle.pages.specs.declared.supply.Way.TheVariants.{New, Held, Live}
use Rattle.pages.specs.Faults.{is_live, way_of, is_new, is_live_way}

-- a way that is not new; that is not live
pub old_way : (w : Way) → ¬ (w ≡ New) → is_new w ≡ false
old_way New h = absurd (h refl)
old_way Held h = refl
old_way Live h = refl

pub dead_way : (w : Way) → ¬ (w ≡ Live) → is_live_way w ≡ false
dead_way New h = refl
dead_way Held h = refl
dead_way Live h = absurd (h refl)

not_true : ¬ (true ≡ false)
not_true e = subst (λ (c : Bool). T c) e tt

module _ (addresses states : List ℕ) (i : ℕ) where
  pub way_live : Holds (is_live addresses states i) → way_of addresses states i ≡ Live
  unfolding way_of
  way_live h = rw (told (is_live addresses states i) h)

  pub way_none : at addresses i ≡ 0 → way_of addresses states i ≡ New
  unfolding way_of
  way_none h = rw (untold (is_live addresses states i) (λ (r, e, x). omega arith), told (same (at addresses i) 0) h)

  pub way_held : ¬ (at addresses i ≡ 0) → ¬ Holds (is_live addresses states i) → way_of addresses states i ≡ Held
  unfolding way_of
  way_held h k = rw (untold (is_live addresses states i) k, untold (same (at addresses i) 0) h)

  -- the code's record is the address less one
  pub named_live : (a x : ℕ) → a ≡ at addresses i → ¬ (a ≡ 0) → x ≡ at states (a - 1) → x ≡ LIVE → Holds (is_live addresses states i)
  named_live a x ea n ex h = (a - 1, sym ea ∙ omega arith, sym ex ∙ h)

  pub named_dead : (a x : ℕ) → a ≡ at addresses i → ¬ (a ≡ 0) → x ≡ at states (a - 1) → ¬ (x ≡ LIVE) → ¬ Holds (is_live addresses states i)
  named_dead a x ea n ex h (r, e, l) = let k : a - 1 ≡ r = omega (arith, ea, e) in h (ex ∙ ap (at states) k ∙ l)

  -- a new page has no address
  pub new_none : is_new (way_of addresses states i) ≡ true → at addresses i ≡ 0
  new_none w = elim (decided (same (at addresses i) 0)) [
    | yes e ↦ e
    | no e ↦ elim (decided (is_live addresses states i)) [ yes l ↦ absurd (not_true (sym w ∙ ap is_new (way_live l))) | no l ↦ absurd (not_true (sym w ∙ ap is_new (way_held e l))) ]
  ]

-- ── question 19 by the address ──
pub supplied_told : (a free : ℕ) → if (eqb a 0) (ltb 0 free) true ≡ test (non (same a 0) or below 0 free)
unfolding test
supplied_told a free = elim (ℕ_discrete a 0) [
  | yes e ↦ if_yes a 0 (ltb 0 free) true e ∙ sym (ap (λ (b : Bool). b || ltb 0 free) (untold (non (same a 0)) (λ k. k e)))
  | no e ↦ if_no a 0 (ltb 0 free) true e ∙ sym (told (non (same a 0) or below 0 free) (inl e))
]
