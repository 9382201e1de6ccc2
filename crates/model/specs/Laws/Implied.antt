-- What follows from rules of question 2: that no begun image lists a leaving record, so that question 23 is not asked (Unasked); and rules that follow from others,
-- so that none of them refuses tables alone: three ranges, where states past R read 0, and that an inactive slot has no frame.
use Rattle.std.specs.Prelude.{◌≡◌, refl, ℕ, zero, suc, ◌<◌}
use Rattle.std.proofs.Common.{inl, inr, arith}
use Rattle.std.proofs.Math.Decide.{dec_lt, ℕ_discrete}
use Rattle.tables.specs.Rule.{Holds, same, non, each, named}
use Rattle.model.specs.declared.sizes.Sizes.{Sizes}
use Rattle.model.specs.Lines.{LEAVING}
use Rattle.model.specs.State.{Files, Frames, all_pages, slot_of}
use Rattle.model.specs.Rules.{is_active, map_fit, address_fit, image_fit, held, filed, mapped, imaged, address_active, frame_fit, framed_held, frame_active}

-- From the rules tested at 2: no begun image lists a leaving record. What it lists is held by its page, so nulled or live, or it is released.
pub no_leaving_imaged : (z : Sizes) (v : Files) → Holds (held z v) → Holds (imaged z v) → Holds (each (all_pages z) λ i. named (v.image i) λ r. non (same (v.state r) LEAVING))
no_leaving_imaged z v h m i l r e leaves = elim (m i l r e) [
  | inl a ↦ elim (h i l r a).1 [ inl n ↦ omega (arith, n, leaves) | inr n ↦ omega (arith, n, leaves) ]
  | inr a ↦ omega (arith, a.1, leaves)
]

module _ (z : Sizes) (v : Files) (past : (r : ℕ) → ¬ (r < z.records) → v.state r ≡ 0) where
  -- what a page holds is nulled or live
  pub address_fit_holds : Holds (held z v) → Holds (address_fit z v)
  address_fit_holds h i l r e = elim (dec_lt r z.records) [ yes k ↦ k | no n ↦ elim (h i l r e).1 [ inl a ↦ omega (arith, a, past r n) | inr a ↦ omega (arith, a, past r n) ] ]

  -- what an image lists is held by its page, or released
  pub image_fit_holds : Holds (address_fit z v) → Holds (imaged z v) → Holds (image_fit z v)
  image_fit_holds f h i l r e = elim (dec_lt r z.records) [ yes k ↦ k | no n ↦ elim (h i l r e) [ inl a ↦ f i l r a | inr a ↦ omega (arith, a.1, past r n) ] ]

  -- what a design lists is filed if it is inactive; else it is held by its page, or released or leaving
  pub map_fit_holds : Holds (address_fit z v) → Holds (filed z v) → Holds (mapped z v) → Holds (map_fit z v)
  map_fit_holds f rest act i l r e = elim (dec_lt r z.records) [
    | yes k ↦ k
    | no n ↦ elim (ℕ_discrete (v.active (slot_of z i)) 1) [
      | yes a ↦ elim (act i l r e a) [ inl b ↦ f i l r b | inr b ↦ elim b.1 [ inl s ↦ omega (arith, s, past r n) | inr s ↦ omega (arith, s, past r n) ] ]
      | no a ↦ omega (arith, (rest i l r e a).1, past r n)
    ]
  ]

-- a page in a frame has an address, and only an active slot's page has one
pub frame_active_holds : (z : Sizes) (v : Files) (c : Frames) → Holds (frame_fit z v c) → Holds (framed_held z v c) → Holds (address_active z v) → Holds (frame_active z v c)
frame_active_holds z v c fit served active f l i e = go (v.address i) refl
  where
    go : (a : ℕ) → v.address i ≡ a → Holds (is_active v (slot_of z i))
    go zero p = absurd ((served f l i e).0 p)
    go (suc r) p = active i ((fit f l).0 i e) r p
