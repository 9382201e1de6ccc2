-- Whether a page is charged, by its frame's modified switch and its way; and what a payment tells and leaves.
use mathlib.Core.Path.{◌≡◌, refl, ap, sym, ◌∙◌}
use mathlib.Core.Bool.{Bool, true, false, not, ◌&&◌}
use mathlib.Core.Logic.{inl, inr}
use mathlib.Core.List.{List}
use Prim.Native.Nat.{ℕ, ◌<◌}
use native.Mathlib.Decide.{ℕ_discrete}
use lib.Dec.{ltb, lt→ltb, ltb→lt}
use Rattle.tables.specs.Base.{if, at}
use Rattle.tables.specs.Laws.{T→true, ¬T→false}
use Rattle.tables.specs.Rule.{test, told, untold, decided}
use Rattle.pages.specs.Faults.{is_live, way_of, is_live_way}
use Rattle.pages.specs.Writes.{is_charged}
use Rattle.pages.proofs.Ways.{way_live, way_none, way_held}

-- of an unmodified frame: by the way of its page
pub charged_way : (modified : ℕ) (addresses states : List ℕ) (i : ℕ) → ¬ (modified ≡ 1) → is_live_way (way_of addresses states i) ≡ test (is_charged modified addresses states i)
charged_way m ads ss i d = elim (decided (is_live ads ss i)) [
  | yes h ↦ ap is_live_way (way_live ads ss i h) ∙ sym (told (is_charged m ads ss i) (inl h))
  | no h ↦ elim (ℕ_discrete (at ads i) 0) [
    | yes e ↦ ap is_live_way (way_none ads ss i e) ∙ sym (untold (is_charged m ads ss i) (λ k. elim k [ inl x ↦ h x | inr x ↦ d x ]))
    | no e ↦ ap is_live_way (way_held ads ss i e h) ∙ sym (untold (is_charged m ads ss i) (λ k. elim k [ inl x ↦ h x | inr x ↦ d x ]))
  ]
]

-- a payment for a page that is not charged yet
module _ (b : Bool) (e : b ≡ false) (u l : ℕ) where
  pub pay_yes : u < l → true ≡ if b true (ltb u l)
  pay_yes h = rw e (sym (T→true (ltb u l) (lt→ltb u l h)))

  pub pay_no : ¬ (u < l) → false ≡ if b true (ltb u l)
  pay_no h = rw e (sym (¬T→false (ltb u l) (λ t. h (ltb→lt u l t))))

pub pay_more : (b : Bool) (x y : List ℕ) → b ≡ false → x ≡ if (true && not b) x y
pay_more b x y e = rw e refl

pub pay_none : (b : Bool) (x y : List ℕ) → b ≡ true → y ≡ if (true && not b) x y
pay_none b x y e = rw e refl

-- .. and for one that is
pub pay_kept : (b x : Bool) → b ≡ true → true ≡ if b true x
pay_kept b x e = rw e refl
