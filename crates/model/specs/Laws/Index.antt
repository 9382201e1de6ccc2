-- Laws of the index: page p of slot s is entry s * N + p, and every entry is a page of one slot; and of an entry after one store.
use Rattle.std.specs.Prelude.{◌≡◌, List, ℕ, ◌+◌, ◌%◌, ◌<◌, length, set, get_or}
use Rattle.std.proofs.Common.{ap, sym, ◌∙◌, subst, inl, inr, div-lt_iff_lt-mul, div-add-mod', mod-lt, mod-eq_of_lt, add-zero, get_or-set_same, get_or-set_other}
use Rattle.std.proofs.Math.Decide.{ℕ_discrete}
use Rattle.std.proofs.Math.Nat.{div-eq_of_lt, mul-add-div_right, mul-add-mod_self_right}
use Rattle.tables.specs.Base.{at}
use Rattle.tables.specs.Rule.{Holds}
use Rattle.tables.specs.Store.{Split}
use Rattle.model.specs.declared.sizes.Sizes.{Sizes}
use Rattle.model.specs.State.{page_of, slot_of, all_pages}
use Rattle.model.specs.Parts.{from_page}

-- the entry of a table after one store
pub split_entry : {A : Type 0} (d : A) (l : List A) (i : ℕ) (a : A) (j : ℕ) → i < length l → Split (j ≡ i) (get_or (set l i a) j d) a (get_or l j d)
split_entry d l i a j h = elim (ℕ_discrete j i) [ yes e ↦ inl (e, rw e (get_or-set_same l i a d h)) | no e ↦ inr (e, get_or-set_other l i j a d e) ]

pub split_set : (l : List ℕ) (i a j : ℕ) → i < length l → Split (j ≡ i) (at (set l i a) j) a (at l j)
split_set l i a j h = split_entry 0 l i a j h

module _ (z : Sizes) (pos : 0 < z.pages) where
  pub slot_of_page : (s p : ℕ) → p < z.pages → slot_of z (page_of z s p) ≡ s
  slot_of_page s p h = mul-add-div_right pos s p ∙ ap (λ (n : ℕ). s + n) (div-eq_of_lt h) ∙ add-zero s

  pub place_of_page : (s p : ℕ) → p < z.pages → page_of z s p % z.pages ≡ p
  place_of_page s p h = mul-add-mod_self_right s z.pages p ∙ mod-eq_of_lt h

  pub place_below : (i : ℕ) → i % z.pages < z.pages
  place_below i = mod-lt i pos

  pub slot_below : (i : ℕ) → i < all_pages z → slot_of z i < z.slots
  slot_below i h = (div-lt_iff_lt-mul pos).1 h

  pub page_below : (s p : ℕ) → s < z.slots → p < z.pages → page_of z s p < all_pages z
  page_below s p hs hp = (div-lt_iff_lt-mul {k = z.pages} {x = page_of z s p} {y = z.slots} pos).0 (rw (slot_of_page s p hp) hs)

  -- every entry is a page of its slot
  pub page_again : (s i : ℕ) → slot_of z i ≡ s → page_of z s (i % z.pages) ≡ i
  page_again s i e = ap (λ (a : ℕ). page_of z a (i % z.pages)) (sym e) ∙ div-add-mod' i z.pages

  -- what holds of each page of a slot holds of each entry of that slot
  pub of_pages : (s : ℕ) (P : ℕ → Type 0) → ((p : ℕ) → p < z.pages → P (page_of z s p)) → (i : ℕ) → slot_of z i ≡ s → P i
  of_pages s P f i e = subst P (page_again s i e) (f (i % z.pages) (place_below i))

  -- a page from k up is among the entries from page k up
  pub from_page_holds : (s k p : ℕ) → p < z.pages → ¬ (p < k) → Holds (from_page z s k (page_of z s p))
  from_page_holds s k p h n = (slot_of_page s p h, rw (place_of_page s p h) n)
