-- The images of some active slots are stored in their maps: the disk rules stay. A good map done stores one; a cut may store any of them.
use mathlib.Core.Path.{◌≡◌, sym, ◌∙◌, subst}
use mathlib.Core.Logic.{inl, inr}
use Prim.Native.Nat.{ℕ, ◌<◌}
use native.Mathlib.Omega.{arith}
use Rattle.tables.specs.Rule.{Holds}
use Rattle.tables.specs.Store.{Split}
use Rattle.model.specs.declared.sizes.Sizes.{Sizes}
use Rattle.model.specs.State.{Files, all_pages, slot_of}
use Rattle.model.specs.Rules.{once}
use Rattle.model.specs.Laws.Ruled.{OnDisk, OfRecords}
use Rattle.model.specs.Laws.Index.{slot_below}
use Rattle.invariant.proofs.Records.{map_owner, image_owner}

-- The slots L, all active, have their images stored.
pub record Landed (z : Sizes) (L : ℕ → Type 0) (v : Files) (map' : ℕ → ℕ) : Type 0 where
  pub on : (t : ℕ) → L t → v.active t ≡ 1
  pub map : (i : ℕ) → i < all_pages z → Split (L (slot_of z i)) (map' i) (v.image i) (v.map i)

module _ (z : Sizes) (pos : 0 < z.pages) (L : ℕ → Type 0) (v : Files) (d : OnDisk z v) (k : OfRecords z v) (map' : ℕ → ℕ) (c : Landed z L v map') where
  landed_once : Holds (once (all_pages z) map')
  landed_once i hi j hj r p q = elim (c.map i hi) [
    | inl x ↦ elim (c.map j hj) [
      | inl y ↦ k.image_once_holds i hi j hj r (sym x.1 ∙ p) (sym y.1 ∙ q)
          (sym (image_owner z v k i hi r (sym x.1 ∙ p)) ∙ image_owner z v k j hj r (sym y.1 ∙ q))
      | inr y ↦ absurd (y.0 (subst L (sym (image_owner z v k i hi r (sym x.1 ∙ p)) ∙ map_owner z v k j hj r (sym y.1 ∙ q)) x.0))
    ]
    | inr x ↦ elim (c.map j hj) [
      | inl y ↦ absurd (x.0 (subst L (sym (image_owner z v k j hj r (sym y.1 ∙ q)) ∙ map_owner z v k i hi r (sym x.1 ∙ p)) y.0))
      | inr y ↦ d.map_once_holds i hi j hj r (sym x.1 ∙ p) (sym y.1 ∙ q)
    ]
  ]

  -- the disk rules speak of numbers, accounts, parents and maps alone: the rest may be anything
  module _ (limit' address' state' owner' active' updating' image' : ℕ → ℕ) where
    abbrev after : Files
    after = record { number = v.number; account = v.account; limit = limit'; parent = v.parent; map = map'; address = address'; state = state'; owner = owner'; active = active'; updating = updating'; image = image' }

    pub landed_keeps : OnDisk z after
    landed_keeps = record {
      empty_account_holds = d.empty_account_holds;
      empty_map_holds = λ i h e. elim (c.map i h) [
        | inl x ↦ absurd (omega (arith, k.active_filled_holds (slot_of z i) (slot_below z pos i h) (c.on (slot_of z i) x.0), e))
        | inr x ↦ x.1 ∙ d.empty_map_holds i h e
      ];
      map_fit_holds = λ i h r p. elim (c.map i h) [ inl x ↦ k.image_fit_holds i h r (sym x.1 ∙ p) | inr x ↦ d.map_fit_holds i h r (sym x.1 ∙ p) ];
      map_once_holds = landed_once;
      number_once_holds = d.number_once_holds;
      account_fit_holds = d.account_fit_holds;
      parent_lower_holds = d.parent_lower_holds;
    }
