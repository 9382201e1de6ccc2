-- Another mill's pattern cannot show, by the design's number: along a whole list one birth and one number name the same design.
use mathlib.Core.Path.{◌≡◌, refl, ap, sym, ◌∙◌}
use mathlib.Core.Bool.{Bool, true, false}
use mathlib.Core.List.{List, [], ◌∷◌, map}
use mathlib.Core.Logic.{◌⊎◌, inl, inr}
use Prim.Native.Nat.{ℕ, zero, suc, ◌<◌, ◌≤◌}
use native.Mathlib.Omega.{arith}
use native.Mathlib.Decide.{ℕ_discrete}
use lib.Dec.{eqb}
use Rattle.tables.specs.Base.{at, if}
use Rattle.tables.specs.Rule.{Holds}
use Rattle.model.specs.declared.sizes.Sizes.{Sizes}
use Rattle.model.specs.State.{Disk, all_pages, slot_of}
use Rattle.model.specs.Laws.Index.{slot_below}
use Rattle.model.specs.Ledger.{Write, no_write}
use Rattle.model.specs.Demand3.{last_into}
use Rattle.model.specs.Acts.{World}
use Rattle.model.specs.OneNumber.{write_by, by_number}
use Rattle.crash.proofs.Writes.{In}
use Rattle.crash.proofs.Steps.{Good}
use Rattle.crash.proofs.Births.{Born}
use Rattle.crash.proofs.Given.{Given, view}
use Rattle.isolation.specs.Words.{like}
use Rattle.isolation.specs.Shown.{Shown, listed_like, imaged_like, live_like, frames_like, copies_like, places_like, written_like, untouched_like, words_like}
use Rattle.isolation.proofs.Numbers.{Keeps}

-- the same word by another name of its design
pub like_by : (hidden n d m a b : ℕ) → (m ≡ n → d ≡ hidden) × (d ≡ hidden → m ≡ n) → Holds (like hidden d a b) → Holds (like n m a b)
like_by hidden n d m a b (f, g) h = (λ e. h.0 (f e), λ x. h.1 (λ e. x (g e)))

-- ── the birth of a number ──
-- of the designs that there were, the hidden one alone has the number
abbrev pub Names : ℕ → ℕ → World → Type 0
Names hidden n w = (b : ℕ) → b ≤ w.ledger.births → (w.ledger.number b ≡ n → b ≡ hidden) × (b ≡ hidden → w.ledger.number b ≡ n)

search : (number : ℕ → ℕ) (n m : ℕ) → ((b : ℕ) × (b ≤ m) × (number b ≡ n)) ⊎ ((b : ℕ) → b ≤ m → ¬ (number b ≡ n))
search number n zero = elim (ℕ_discrete (number 0) n) [ yes e ↦ inl (0, omega arith, e) | no e ↦ inr (λ b h x. let q : b ≡ 0 = omega (arith, h) in e (ap number (sym q) ∙ x)) ]
search number n (suc m) = elim (search number n m) [
  | inl (b, h, e) ↦ inl (b, omega (arith, h), e)
  | inr none ↦ elim (ℕ_discrete (number (suc m)) n) [
    | yes e ↦ inl (suc m, omega arith, e)
    | no e ↦ inr (λ b h x. elim (ℕ_discrete b (suc m)) [ yes q ↦ e (ap number (sym q) ∙ x) | no q ↦ none b (omega (arith, h, q)) x ])
  ]
]

-- there is one, or it is yet to come
pub named : (z : Sizes) (w : World) → Given z w.up (view w) → (n : ℕ) → (hidden : ℕ) × Names hidden n w
named z w g n = elim (search w.ledger.number n w.ledger.births) [
  | inl (b, h, e) ↦ (b, λ c i. (λ x. g.once c b i h (x ∙ sym e), λ x. ap w.ledger.number x ∙ e))
  | inr none ↦ (suc w.ledger.births, λ c i. (λ x. absurd (none c i x), λ x. absurd (omega (arith, x, i))))
]

-- what holds after a list held before it
pub names_before : (hidden n : ℕ) (w w₁ : World) → Keeps w.ledger w₁.ledger → Names hidden n w₁ → Names hidden n w
names_before hidden n w w₁ k m b h = let (f, g) = m b (omega (arith, h, k.births)) in (λ e. f (k.number b h ∙ e), λ e. sym (k.number b h) ∙ g e)

-- ── the last write into a record, by the number ──
last_by : (f : ℕ → ℕ) (r : ℕ) (xs : List Write) → (let y = last_into r (map (write_by f) xs) in let x = last_into r xs in (y.serial ≡ x.serial) × (0 < x.serial → y.design ≡ f x.design))
unfolding last_into no_write
last_by f r [] = (refl, λ h. absurd (omega (arith, h)))
last_by f r (x ∷ xs) = go (eqb x.record' r) (last_by f r xs)
  where
    go : (b : Bool) → (let y = last_into r (map (write_by f) xs) in let x = last_into r xs in (y.serial ≡ x.serial) × (0 < x.serial → y.design ≡ f x.design))
        → (let y = if b (write_by f x) (last_into r (map (write_by f) xs)) in let u = if b x (last_into r xs) in (y.serial ≡ u.serial) × (0 < u.serial → y.design ≡ f u.design))
    go true i = (refl, λ h. refl)
    go false i = i

last_in : (r : ℕ) (xs : List Write) → 0 < (last_into r xs).serial → In (last_into r xs) xs
unfolding last_into no_write In
last_in r [] h = omega (arith, h)
last_in r (x ∷ xs) h = go (eqb x.record' r) (last_in r xs) h
  where
    go : (b : Bool) → (0 < (last_into r xs).serial → In (last_into r xs) xs) → (let u = if b x (last_into r xs) in 0 < u.serial → (u ≡ x) ⊎ In u xs)
    go true i h = inl refl
    go false i h = inr (i h)

-- ── what is shown, by the number ──
module _ (z : Sizes) (hidden n : ℕ) (w : World) (good : Good z w) (born : Born w) (given : Given z w.up (view w)) (names : Names hidden n w) where
  pub by_slot : (s : ℕ) → s < z.slots → (at w.state.disk.numbers s ≡ n → w.ledger.design s ≡ hidden) × (w.ledger.design s ≡ hidden → at w.state.disk.numbers s ≡ n)
  by_slot s h = let (f, g) = names (w.ledger.design s) (good.disk.designs.young s h) in (λ e. f (sym (given.slots s h) ∙ e), λ e. given.slots s h ∙ g e)

  paged : (i : ℕ) → i < all_pages z → (at w.state.disk.numbers (slot_of z i) ≡ n → w.ledger.design (slot_of z i) ≡ hidden) × (w.ledger.design (slot_of z i) ≡ hidden → at w.state.disk.numbers (slot_of z i) ≡ n)
  paged i h = by_slot (slot_of z i) (slot_below z good.fit.sizes.pages i h)

  pub shown_by : (w' : World) → Shown z hidden w w' → Shown z n (by_number w) (by_number w')
  unfolding by_number words_like listed_like imaged_like live_like frames_like copies_like places_like written_like untouched_like
  shown_by w' s =
      let (listed, (written, (untouched, restarted))) = s.words in
      record {
        up = s.up;
        disk = s.disk;
        tables = s.tables;
        words = (
          λ i h r p k m. like_by hidden n _ _ _ _ (paged i h) (listed i h r p k m),
          (
            λ r h t k m.
                let (serial, design) = last_by w.ledger.number r w.ledger.finished in
                let some : 0 < (last_into r w.ledger.finished).serial = omega (arith, t, serial) in
                let x = last_into r w.ledger.finished in
                rw (design some) (like_by hidden n x.design (w.ledger.number x.design) _ _ (names x.design (born x (last_in r w.ledger.finished some))) (written r h some k m)),
            (
              λ r h t k m e. untouched r h (sym (last_by w.ledger.number r w.ledger.finished).0 ∙ t) k m e,
              λ u.
                  let (imaged, (live, (framed, (copied, empty)))) = restarted u in (
                    λ i h r p k m. like_by hidden n _ _ _ _ (paged i h) (imaged i h r p k m),
                    (
                      λ i h r p q k m. like_by hidden n _ _ _ _ (paged i h) (live i h r p q k m),
                      (
                        λ f h i p q k m. like_by hidden n _ _ _ _ (paged i (((good.ruled u).frames.fit f h).0 i p)) (framed f h i p q k m),
                        (λ b h r p i j q k m. like_by hidden n _ _ _ _ (paged i j) (copied b h r p i j q k m), empty),
                      ),
                    ),
                  ),
            ),
          ),
        );
        designs = ap (λ (d : Disk). at d.numbers) s.disk;
      }
