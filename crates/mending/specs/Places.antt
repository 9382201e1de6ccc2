-- Places: which of them a pack has, where each stands in the order, and what a step leaves at each.
use Rattle.std.specs.Prelude.{◌≡◌, refl, ◌⊎◌, List, ℕ, zero, suc, ◌+◌, ◌*◌, ◌/◌, ◌%◌, ◌<◌}
use Rattle.std.proofs.Common.{ap, sym, ◌∙◌, inl, inr, mod-lt, div-lt_iff_lt-mul, arith}
use Rattle.std.proofs.Math.Arith.{digits_div, digits_mod, digits_lt}
use Rattle.std.proofs.Math.ListN.{length}
use Rattle.tables.specs.Base.{at}
use Rattle.tables.specs.Rule.{Rule, Holds}
use Rattle.tables.specs.Store.{Split, store, at_store, length_store, choose_ext}
use Rattle.model.specs.declared.sizes.Sizes.{Sizes}
use Rattle.model.specs.State.{all_pages, page_of}
use Rattle.mending.specs.Mend.{Pack, Place, number, account, entry, of_slot, place_at, all_places, held, changes, cleared, after}

-- the tables have their lengths
pub record PackFit (z : Sizes) (d : Pack) : Type 0 where
  pub pages : 0 < z.pages
  pub numbers : length d.numbers ≡ z.slots
  pub accounts : length d.accounts ≡ z.slots
  pub maps : length d.maps ≡ all_pages z

-- a place of the pack
abbrev pub In : Sizes → Place → Type 0
In z (number s) = s < z.slots
In z (account s) = s < z.slots
In z (entry s p) = (s < z.slots) × (p < z.pages)

-- an entry is inside its table
pub page_inside : (z : Sizes) (s p : ℕ) → s < z.slots → p < z.pages → page_of z s p < all_pages z
page_inside z s p h k = digits_lt h k

-- ── the order ──
module _ (z : Sizes) (s : ℕ) where
  abbrev start : ℕ
  start = s * (z.pages + 2)

  pub place_of_holds : (k : ℕ) → k < z.pages + 2 → place_at z (start + k) ≡ of_slot s k
  unfolding place_at
  place_of_holds k h = rw (digits_div s h, digits_mod s h)

  pub place_number : place_at z start ≡ number s
  place_number = let e : start ≡ start + 0 = omega arith in ap (place_at z) e ∙ place_of_holds 0 (omega arith)

  pub place_account : place_at z (start + 1) ≡ account s
  place_account = place_of_holds 1 (omega arith)

  pub place_entry : (p : ℕ) → p < z.pages → place_at z (start + 2 + p) ≡ entry s p
  place_entry p h = let e : start + 2 + p ≡ start + suc (suc p) = omega arith in ap (place_at z) e ∙ place_of_holds (suc (suc p)) (omega arith)

pub in_slot : (z : Sizes) (s k : ℕ) → s < z.slots → k < z.pages + 2 → In z (of_slot s k)
in_slot z s zero h l = h
in_slot z s (suc zero) h l = h
in_slot z s (suc (suc p)) h l = (h, omega arith)

-- each of the S × (N + 2) numbers is a place of the pack
pub place_in : (z : Sizes) (i : ℕ) → i < all_places z → In z (place_at z i)
unfolding place_at
place_in z i h = let pos : 0 < z.pages + 2 = omega arith in in_slot z (i / (z.pages + 2)) (i % (z.pages + 2)) ((div-lt_iff_lt-mul pos).1 h) (mod-lt i pos)

-- ── what is left at a place where some change ──
module _ (z : Sizes) (d : Pack) (change : Place → Rule) (f : PackFit z d) where
  pub cleared_fit : PackFit z (cleared z d change)
  unfolding cleared
  cleared_fit = record {
    pages = f.pages;
    numbers = length_store d.numbers (λ s. change (number s)) (λ s. 0) ∙ f.numbers;
    accounts = length_store d.accounts (λ s. change (account s)) (λ s. 0) ∙ f.accounts;
    maps = length_store d.maps (λ i. change (entry (i / z.pages) (i % z.pages))) (λ i. 0) ∙ f.maps;
  }

  pub at_held : (x : Place) → In z x → Split (Holds (change x)) (held z (cleared z d change) x) 0 (held z d x)
  unfolding cleared
  at_held (number s) h = at_store d.numbers (λ s. change (number s)) (λ s. 0) s (rw f.numbers h)
  at_held (account s) h = at_store d.accounts (λ s. change (account s)) (λ s. 0) s (rw f.accounts h)
  at_held (entry s p) h =
      let i = page_of z s p in
      let k : i < length d.maps = omega (arith, f.maps, page_inside z s p h.0 h.1) in
      rw (digits_div s h.1, digits_mod s h.1) at (at_store d.maps (λ i. change (entry (i / z.pages) (i % z.pages))) (λ i. 0) i k)

-- nothing changes
store_none : (l : List ℕ) (t : ℕ → Rule) (g : ℕ → ℕ) → ((i : ℕ) → i < length l → ¬ (Holds (t i))) → store l t g ≡ l
unfolding store
store_none l t g n = sym (choose_ext l (length l) t g (at l) refl (λ i h. inr (n i h, refl)))

pub cleared_none : (z : Sizes) (d : Pack) (change : Place → Rule) → PackFit z d → ((x : Place) → In z x → ¬ (Holds (change x))) → cleared z d change ≡ d
unfolding cleared
cleared_none z d change f n =
    let a : store d.numbers (λ s. change (number s)) (λ s. 0) ≡ d.numbers = store_none d.numbers (λ s. change (number s)) (λ s. 0) (λ s h. n (number s) (rw f.numbers at h)) in
    let b : store d.accounts (λ s. change (account s)) (λ s. 0) ≡ d.accounts = store_none d.accounts (λ s. change (account s)) (λ s. 0) (λ s h. n (account s) (rw f.accounts at h)) in
    let c : store d.maps (λ i. change (entry (i / z.pages) (i % z.pages))) (λ i. 0) ≡ d.maps =
    store_none d.maps (λ i. change (entry (i / z.pages) (i % z.pages))) (λ i. 0) (λ i h. n (entry (i / z.pages) (i % z.pages)) ((div-lt_iff_lt-mul f.pages).1 (omega (arith, f.maps, h)), mod-lt i f.pages)) in
    λ x. record { numbers = a x; accounts = b x; maps = c x }

-- ── the steps ──
pub after_fit : (z : Sizes) (d : Pack) (k : ℕ) → PackFit z d → PackFit z (after z d k)
unfolding after
after_fit z d zero f = f
after_fit z d (suc k) f = cleared_fit z (after z d k) (changes z (after z d k) k) (after_fit z d k f)

-- a step leaves 0 at a place that it changes, and every other as it was
pub after_held : (z : Sizes) (d : Pack) (k : ℕ) → PackFit z d → (x : Place) → In z x → Split (Holds (changes z (after z d k) k x)) (held z (after z d (suc k)) x) 0 (held z (after z d k) x)
unfolding after
after_held z d k f x h = at_held z (after z d k) (changes z (after z d k) k) (after_fit z d k f) x h

-- so after each the place is 0, or as it was at first; and what is 0 stays 0
module _ (z : Sizes) (d : Pack) (f : PackFit z d) (x : Place) (h : In z x) where
  pub down : (k j : ℕ) → (held z (after z d (k + j)) x ≡ 0) ⊎ (held z (after z d (k + j)) x ≡ held z (after z d k) x)
  down k zero = inr (ap (λ (n : ℕ). held z (after z d n) x) (omega arith))
  down k (suc j) =
      let e : k + suc j ≡ suc (k + j) = omega arith in
      let on : (held z (after z d (suc (k + j))) x ≡ 0) ⊎ (held z (after z d (suc (k + j))) x ≡ held z (after z d k) x) = elim (after_held z d (k + j) f x h) [
        | inl a ↦ inl a.1
        | inr a ↦ elim (down k j) [ inl b ↦ inl (a.1 ∙ b) | inr b ↦ inr (a.1 ∙ b) ]
      ] in
      rw e on

  pub stays_zero : (k j : ℕ) → held z (after z d k) x ≡ 0 → held z (after z d (k + j)) x ≡ 0
  stays_zero k j e = elim (down k j) [ inl a ↦ a | inr a ↦ a ∙ e ]
