-- Create and delete: an inactive slot with a zero map takes a number and an account. Both keep the rules of disk, pages, records and slots.
use mathlib.Core.Path.{◌≡◌, refl, ap, sym, ◌∙◌, subst}
use mathlib.Core.Logic.{inl, inr}
use Prim.Native.Nat.{ℕ, ◌<◌}
use native.Mathlib.Omega.{arith}
use Rattle.tables.specs.Questions.{Asked}
use Rattle.tables.specs.Rule.{Holds}
use Rattle.tables.specs.Store.{Split}
use Rattle.model.specs.declared.sizes.Sizes.{Sizes}
use Rattle.model.specs.declared.event.Event.TheVariants as Event
use Rattle.model.specs.declared.event.Design.TheVariants.{Create, Delete}
use Rattle.model.specs.State.{State, Files, files, all_pages, slot_of}
use Rattle.model.specs.Setters.{counted}
use Rattle.model.specs.Questions.{questions}
use Rattle.model.specs.Rules
use Rattle.model.specs.Laws.Creating.{creating}
use Rattle.model.specs.Laws.Ruled.{OnDisk, OfRecords, Ruled}
use Rattle.model.specs.Laws.Fit.{Fit}
use Rattle.model.specs.Designs
use Rattle.model.specs.Laws.Index.{slot_below, split_set, of_pages}
use Rattle.invariant.proofs.Records.{Kept, turns, stays}

-- Slot s takes number n, which no slot has, and account q; number 0 empties it.
pub record Named (z : Sizes) (s n q : ℕ) (v : Files) (number' account' : ℕ → ℕ) : Type 0 where
  pub fits : q < z.accounts
  pub empty : n ≡ 0 → q ≡ 0
  pub fresh : 0 < n → (t : ℕ) → t < z.slots → ¬ (v.number t ≡ n)
  pub off : ¬ (v.active s ≡ 1)
  pub unlisted : (i : ℕ) → i < all_pages z → slot_of z i ≡ s → v.map i ≡ 0
  pub number : (t : ℕ) → t < z.slots → Split (t ≡ s) (number' t) n (v.number t)
  pub account : (t : ℕ) → t < z.slots → Split (t ≡ s) (account' t) q (v.account t)

module _ (z : Sizes) (pos : 0 < z.pages) (s n q : ℕ) (v : Files) (d : OnDisk z v) (k : OfRecords z v) (number' account' : ℕ → ℕ) (c : Named z s n q v number' account') where
  abbrev after : Files
  after = record { number = number'; account = account'; limit = v.limit; parent = v.parent; map = v.map; address = v.address; state = v.state; owner = v.owner; active = v.active; updating = v.updating; image = v.image }

  named_once : Holds (Rules.number_once z after)
  named_once i hi j hj m p w = elim (c.number i hi) [
    | inl t ↦ elim (c.number j hj) [ inl u ↦ t.0 ∙ sym u.0 | inr u ↦ absurd (c.fresh (omega (arith, t.1, p)) j hj (sym u.1 ∙ w ∙ sym p ∙ t.1)) ]
    | inr t ↦ elim (c.number j hj) [ inl u ↦ absurd (c.fresh (omega (arith, u.1, w)) i hi (sym t.1 ∙ p ∙ sym w ∙ u.1)) | inr u ↦ d.number_once_holds i hi j hj m (sym t.1 ∙ p) (sym u.1 ∙ w) ]
  ]

  pub named_keeps : OnDisk z after × OfRecords z after
  named_keeps = (
    record {
      empty_account_holds = λ t h e. elim (c.number t h) [ inl u ↦ turns (c.account t h) u.0 ∙ c.empty (sym u.1 ∙ e) | inr u ↦ stays (c.account t h) u.0 ∙ d.empty_account_holds t h (sym u.1 ∙ e) ];
      empty_map_holds = λ i h e. elim (c.number (slot_of z i) (slot_below z pos i h)) [ inl u ↦ c.unlisted i h u.0 | inr u ↦ d.empty_map_holds i h (sym u.1 ∙ e) ];
      map_fit_holds = d.map_fit_holds;
      map_once_holds = d.map_once_holds;
      number_once_holds = named_once;
      account_fit_holds = λ t h. elim (c.account t h) [ inl u ↦ omega (arith, u.1, c.fits) | inr u ↦ omega (arith, u.1, d.account_fit_holds t h) ];
      parent_lower_holds = d.parent_lower_holds;
    },
    record {
      address_fit_holds = k.address_fit_holds;
      image_fit_holds = k.image_fit_holds;
      state_fit_holds = k.state_fit_holds;
      owner_fit_holds = k.owner_fit_holds;
      active_fit_holds = k.active_fit_holds;
      updating_fit_holds = k.updating_fit_holds;
      held_once_holds = k.held_once_holds;
      held = k.held;
      held_by_holds = k.held_by_holds;
      filed = k.filed;
      filed_by_holds = k.filed_by_holds;
      mapped = k.mapped;
      imaged = k.imaged;
      image_once_holds = k.image_once_holds;
      image_zero_holds = k.image_zero_holds;
      leaving_begun_holds = k.leaving_begun_holds;
      active_filled_holds = λ t h a. elim (c.number t h) [
        | inl u ↦ absurd (c.off (subst (λ (m : ℕ). v.active m ≡ 1) u.0 a))
        | inr u ↦ subst (λ (m : ℕ). 0 < m) (sym u.1) (k.active_filled_holds t h a)
      ];
      address_active_holds = k.address_active_holds;
      update_active_holds = k.update_active_holds;
    },
  )

module _ (z : Sizes) (st : State) (f : Fit z st) (r : Ruled z st) where
  abbrev v : Files
  v = files st

  pub create_named : (s q n : ℕ) → Asked (questions z st (Event.Design (Create s q n))) → (let w = files (Designs.create z st s q n) in Named z s n q v w.number w.account)
  unfolding Designs.create counted
  create_named s q n a =
      let k = creating z st s q n a in
      record {
        fits = k.account;
        empty = λ e. absurd (omega (arith, e, k.some));
        fresh = λ e. k.fresh;
        off = λ e. omega (arith, r.records.active_filled_holds s k.slot e, k.empty);
        unlisted = λ i h e. r.disk.empty_map_holds i h (ap v.number e ∙ k.empty);
        number = λ t h. split_set st.disk.numbers s n t (rw f.disk.numbers k.slot);
        account = λ t h. split_set st.disk.accounts s q t (rw f.disk.accounts k.slot);
      }

  pub delete_named : (s : ℕ) → Asked (questions z st (Event.Design (Delete s))) → (let w = files (Designs.delete z st s) in Named z s 0 0 v w.number w.account)
  unfolding Designs.delete counted
  delete_named s a = record {
    fits = f.sizes.accounts;
    empty = λ e. refl;
    fresh = λ e. absurd (omega (arith, e));
    off = a.1.1.1.0;
    unlisted = λ i h e. of_pages z f.sizes.pages s (λ j. v.map j ≡ 0) a.1.1.0 i e;
    number = λ t h. split_set st.disk.numbers s 0 t (rw f.disk.numbers a.0);
    account = λ t h. split_set st.disk.accounts s 0 t (rw f.disk.accounts a.0);
  }

  pub create_records : (s q n : ℕ) → Asked (questions z st (Event.Design (Create s q n))) → Kept z (Designs.create z st s q n)
  unfolding Designs.create counted
  create_records s q n a = named_keeps z f.sizes.pages s n q v r.disk r.records _ _ (create_named s q n a)

  pub delete_records : (s : ℕ) → Asked (questions z st (Event.Design (Delete s))) → Kept z (Designs.delete z st s)
  unfolding Designs.delete counted
  delete_records s a = named_keeps z f.sizes.pages s 0 0 v r.disk r.records _ _ (delete_named s a)
