-- Laws of the choice of a free record: it is below R, and free whenever one is; and it is the nearest to the closest lower page's.
use Rattle.std.specs.Prelude.{◌≡◌, refl, T, ltb, leb}
use Rattle.std.proofs.Math.Path.{ap, sym, subst}
use Rattle.std.proofs.Common.{◌∙◌, mod-eq_of_lt, lt→ltb, le→leb}
use Rattle.std.proofs.Math.Bool.{Bool}
use Rattle.std.proofs.Math.Logic.{inl, inr}
use Prim.Native.Nat.{ℕ, zero, suc, ◌+◌, ◌-◌, ◌*◌, ◌%◌, ◌<◌, ◌≤◌}
use Rattle.std.proofs.Math.Nat.{mod-lt, add-mod_right}
use native.Mathlib.Omega.{arith}
use Rattle.std.proofs.Math.Decide.{dec_le}
use Rattle.std.proofs.Math.Dec.{eqb, eqb→eq, ltb→lt, leb→le}
use Rattle.tables.specs.Base.{find}
use Rattle.tables.specs.Laws.{found, Found, eq→T, if_true, if_false}
use Rattle.tables.specs.FindLaws.{find_cases}
use Rattle.model.specs.declared.sizes.Sizes.{Sizes}
use Rattle.model.specs.Lines.{FREE}
use Rattle.model.specs.State.{slot_of}
use Rattle.model.specs.Laws.Index.{slot_of_page, place_below, page_again}
use Rattle.model.specs.Terms.{Nearest}
use Rattle.model.specs.Laws.Nearest.{nearest_is, nearest_below}
use Rattle.model.specs.Parts.{by_hand, neighbour, picked, pick}

module _ (z : Sizes) (state : ℕ → ℕ) (hand : ℕ) where
  pub hand_below : 0 < z.records → by_hand z state hand < z.records
  unfolding by_hand
  hand_below h = mod-lt _ h

  -- each record is so many steps from the hand
  steps : (r : ℕ) → r < z.records → hand < z.records → (k : ℕ) × (k < z.records) × ((hand + k) % z.records ≡ r)
  steps r h l = elim (dec_le hand r) [
    | yes e ↦ (r - hand, omega arith, ap (λ (n : ℕ). n % z.records) (omega arith) ∙ mod-eq_of_lt h)
    | no e ↦ (r + z.records - hand, omega arith, ap (λ (n : ℕ). n % z.records) (omega arith) ∙ add-mod_right r z.records ∙ mod-eq_of_lt h)
  ]

  pub hand_free : (r : ℕ) → r < z.records → hand < z.records → state r ≡ FREE → state (by_hand z state hand) ≡ FREE
  unfolding by_hand
  hand_free r h l e =
      let s = steps r h l in
      let p : ℕ → Bool = λ k. eqb (state ((hand + k) % z.records)) FREE in
      let f : Found z.records p 0 (find z.records p 0) = found z.records p 0 s.0 (omega arith) (omega (arith, s.1)) (eq→T (ap state s.2 ∙ e)) in
      eqb→eq _ _ f.passes

-- the record that a page takes is below R, and free whenever one is
module _ (z : Sizes) (address state : ℕ → ℕ) (hand i : ℕ) where
  pub pick_below : 0 < z.records → pick z address state hand i < z.records
  unfolding pick
  pick_below h = go (neighbour z address i)
    where
      go : (a : ℕ) → picked z state hand a < z.records
      go zero = hand_below z state hand h
      go (suc r) = nearest_below z state r h

  pub pick_free : (r : ℕ) → r < z.records → hand < z.records → state r ≡ FREE → state (pick z address state hand i) ≡ FREE
  unfolding pick
  pick_free r h l e = go (neighbour z address i)
    where
      go : (a : ℕ) → state (picked z state hand a) ≡ FREE
      go zero = hand_free z state hand r h l e
      go (suc q) = (nearest_is z state q r h e).free

  -- near the closest lower page that has a record: no free record is nearer, and none equally near is lower;
  pub pick_nearest : (r : ℕ) → neighbour z address i ≡ suc r → (x : ℕ) → x < z.records → state x ≡ FREE → Nearest z state r (pick z address state hand i)
  unfolding pick
  pick_nearest r n x h e = subst (λ (a : ℕ). Nearest z state r (picked z state hand a)) (sym n) (nearest_is z state r x h e)

  -- where no lower page has one, the hand decides
  pub pick_by_hand : neighbour z address i ≡ 0 → pick z address state hand i ≡ by_hand z state hand
  unfolding pick
  pick_by_hand n = ap (picked z state hand) n

-- the neighbour is the address of the closest lower page of the same slot that has one ..
pub record Neighbour (z : Sizes) (address : ℕ → ℕ) (i j : ℕ) : Type 0 where
  pub same_slot : slot_of z j ≡ slot_of z i
  pub lower : j < i
  pub has : ¬ (address j ≡ 0)
  pub closest : (k : ℕ) → j < k → k < i → address k ≡ 0

module _ (z : Sizes) (address : ℕ → ℕ) (i : ℕ) (pages : 0 < z.pages) where
  abbrev held : ℕ → Bool
  held k = ltb 0 (address (i - k))

  none_held : (k : ℕ) → ¬ T (held k) → address (i - k) ≡ 0
  none_held k n = elim (dec_le 1 (address (i - k))) [ yes h ↦ absurd (n (lt→ltb 0 (address (i - k)) (omega arith))) | no h ↦ omega arith ]

  -- the page's place in its slot, and how it is found there
  abbrev n : ℕ
  n = i % z.pages

  abbrev k₀ : ℕ
  k₀ = find n held 1

  place : slot_of z i * z.pages + n ≡ i
  place = page_again z pages (slot_of z i) i refl

  -- so many pages below, in the same slot
  same_below : (k : ℕ) → k ≤ n → slot_of z (i - k) ≡ slot_of z i
  same_below k h =
      let e : i - k ≡ slot_of z i * z.pages + (n - k) = omega (arith, place, h) in
      ap (slot_of z) e ∙ slot_of_page z pages (slot_of z i) (n - k) (omega (arith, place_below z pages i))

  pub neighbour_closest : (r : ℕ) → neighbour z address i ≡ suc r → (j : ℕ) × Neighbour z address i j × (address j ≡ suc r)
  unfolding neighbour
  neighbour_closest r e = elim (find_cases n held 1) [
    | inl f ↦
        let l : k₀ ≤ n = omega (arith, f.inside) in
        let a : address (i - k₀) ≡ suc r = sym (if_true (leb k₀ n) (address (i - k₀)) 0 (le→leb k₀ n l)) ∙ e in (
          i - k₀,
          record {
            same_slot = same_below k₀ l;
            lower = omega (arith, f.from, l, place);
            has = λ x. omega (arith, x, a);
            closest = λ x h g. let back : i - (i - x) ≡ x = omega arith in sym (ap address back) ∙ none_held (i - x) (f.first (i - x) (omega arith) (omega arith));
          },
          a,
        )
    | inr f ↦ absurd (omega (arith, sym e ∙ if_false (leb k₀ n) (address (i - k₀)) 0 (λ t. omega (arith, leb→le k₀ n t, f.0))))
  ]

  -- .. or 0, where none has
  pub neighbour_none : neighbour z address i ≡ 0 → (j : ℕ) → slot_of z j ≡ slot_of z i → j < i → address j ≡ 0
  unfolding neighbour
  neighbour_none e j s l = elim (find_cases n held 1) [
    | inl f ↦ absurd (omega (arith, ltb→lt 0 (address (i - k₀)) f.passes, sym (if_true (leb k₀ n) (address (i - k₀)) 0 (le→leb k₀ n (omega (arith, f.inside)))) ∙ e))
    | inr f ↦
        let back : i - (i - j) ≡ j = omega arith in
        let at_j : slot_of z i * z.pages + j % z.pages ≡ j = page_again z pages (slot_of z i) j s in
        sym (ap address back) ∙ none_held (i - j) (f.1 (i - j) (omega arith) (omega (arith, place, at_j)))
  ]
