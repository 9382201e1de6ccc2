-- The choice of a free record in two walks: from the hand up, then from 0 up to the hand; and by the free map.
use Rattle.std.specs.Prelude.{◌≡◌, Bool, true, false, ◌&&◌, ◌||◌, ℕ, zero, suc, ◌+◌, ◌-◌, ◌*◌, ◌%◌, ◌<◌, ◌≤◌, T, eqb, leb, ltb}
use Rattle.std.proofs.Math.Path.{ap}
use Rattle.std.proofs.Common.{◌∙◌, inl, inr, mod-eq_of_lt, mod-lt, le-ltb}
use native.Mathlib.Omega.{arith}
use Rattle.std.proofs.Math.Decide.{dec_lt}
use Rattle.std.proofs.Math.Arith.{digits_mod}
use Rattle.tables.specs.Base.{if, find}
use Rattle.tables.specs.FindLaws.{find_at, find_none, find_same, find_cases}
use Rattle.model.specs.declared.sizes.Sizes.{Sizes}
use Rattle.model.specs.Lines.{FREE}
use Rattle.model.specs.Parts.{by_hand, is_free, free_below, free_above, nearest, neighbour, picked, pick}
use Rattle.leaves.specs.FreeMap.{told_by, free_map_table, bit_told}

-- equal tests choose alike
hand_same : (z : Sizes) (state state' : ℕ → ℕ) (hand : ℕ) → 0 < z.records → ((r : ℕ) → r < z.records → eqb (state r) FREE ≡ eqb (state' r) FREE) → by_hand z state hand ≡ by_hand z state' hand
unfolding by_hand
hand_same z state state' hand pos f = ap (λ (n : ℕ). (hand + n) % z.records) (find_same z.records (λ k. eqb (state ((hand + k) % z.records)) FREE) (λ k. eqb (state' ((hand + k) % z.records)) FREE) 0 (λ k h l. f ((hand + k) % z.records) (mod-lt (hand + k) pos)))

module _ (z : Sizes) (state : ℕ → ℕ) (hand : ℕ) (inside : hand < z.records) where
  abbrev free : ℕ → Bool
  free r = eqb (state r) FREE

  -- counting up from the hand, before the last record and after it
  up : (k : ℕ) → hand + k < z.records → (hand + k) % z.records ≡ hand + k
  up k h = mod-eq_of_lt h

  round : (k : ℕ) → z.records ≤ hand + k → hand + k < z.records + z.records → (hand + k) % z.records ≡ hand + k - z.records
  round k h l = let e : hand + k ≡ 1 * z.records + (hand + k - z.records) = omega arith in ap (λ (n : ℕ). n % z.records) e ∙ digits_mod 1 (omega arith)

  abbrev turn : ℕ → ℕ
  turn k = (hand + k) % z.records

  first_free : (j : ℕ) → j < z.records → T (free (turn j)) → ((k : ℕ) → k < j → ¬ (T (free (turn k)))) → by_hand z state hand ≡ turn j
  unfolding by_hand
  first_free j h t f = ap turn (find_at z.records (λ k. free (turn k)) 0 j (omega arith) (omega arith) t (λ k a b. f k b))

  none_free : ((k : ℕ) → k < z.records → ¬ (T (free (turn k)))) → by_hand z state hand ≡ hand
  unfolding by_hand
  none_free f = let e : 0 + z.records ≡ z.records = omega arith in ap turn (find_none z.records (λ k. free (turn k)) 0 (λ k a b. f k (omega arith)) ∙ e) ∙ round z.records (omega arith) (omega arith) ∙ omega arith

  -- one from the hand up is picked
  pub hand_high : find (z.records - hand) free hand < z.records → by_hand z state hand ≡ find (z.records - hand) free hand
  hand_high h = elim (find_cases (z.records - hand) free hand) [
    | inl r ↦
        let a = find (z.records - hand) free hand in
        let e : turn (a - hand) ≡ a = up (a - hand) (omega (arith, r.from)) ∙ omega (arith, r.from) in
        first_free (a - hand) (omega (arith, r.from)) (rw e r.passes) (λ k l t. r.first (hand + k) (omega arith) (omega arith) (rw (up k (omega arith)) at t)) ∙ e
    | inr r ↦ absurd (omega (arith, r.0))
  ]

  -- .. or else the first below it, or the hand where none is free
  pub hand_low : ¬ (find (z.records - hand) free hand < z.records) → by_hand z state hand ≡ find hand free 0
  hand_low h = elim (find_cases (z.records - hand) free hand) [
    | inl r ↦ absurd (h (omega (arith, r.inside)))
    | inr r ↦ elim (find_cases hand free 0) [
      | inl s ↦
          let b = find hand free 0 in
          let j = z.records - hand + b in
          let e : turn j ≡ b = round j (omega arith) (omega (arith, s.inside)) ∙ omega arith in
          first_free j (omega (arith, s.inside)) (rw e s.passes) (λ k l t. elim (dec_lt (hand + k) z.records) [
            | yes c ↦ r.1 (hand + k) (omega arith) (omega arith) (rw (up k c) at t)
            | no c ↦ s.first (hand + k - z.records) (omega arith) (omega arith) (rw (round k (omega arith) (omega (arith, s.inside))) at t)
          ]) ∙ e
      | inr s ↦ none_free (λ k l t. elim (dec_lt (hand + k) z.records) [
        | yes c ↦ r.1 (hand + k) (omega arith) (omega arith) (rw (up k c) at t)
        | no c ↦ s.1 (hand + k - z.records) (omega arith) (omega arith) (rw (round k (omega arith) (omega arith)) at t)
      ]) ∙ omega (arith, s.0)
    ]
  ]

-- ── by the free map ──
-- the map tells which records are free
told_free : (z : Sizes) (state : ℕ → ℕ) (r : ℕ) → r < z.records → eqb (told_by (free_map_table z state) r) FREE ≡ eqb (state r) FREE
told_free z state r h = go (eqb (state r) FREE) (bit_told z r h state)
  where
    go : {n : ℕ} (b : Bool) → n ≡ if b 1 0 → eqb (1 - n) FREE ≡ b
    go true e = rw e
    go false e = rw e

told_is_free : (z : Sizes) (state : ℕ → ℕ) (r : ℕ) → is_free z (told_by (free_map_table z state)) r ≡ is_free z state r
told_is_free z state r = elim (dec_lt r z.records) [
  | yes h ↦ ap (λ (t : Bool). ltb r z.records && t) (told_free z state r h)
  | no h ↦ rw (le-ltb r z.records (omega arith))
]

pub hand_told : (z : Sizes) (state : ℕ → ℕ) (hand : ℕ) → 0 < z.records → by_hand z (told_by (free_map_table z state)) hand ≡ by_hand z state hand
hand_told z state hand pos = hand_same z (told_by (free_map_table z state)) state hand pos (told_free z state)

-- and so the nearest of them
pub nearest_told : (z : Sizes) (state : ℕ → ℕ) (r : ℕ) → nearest z (told_by (free_map_table z state)) r ≡ nearest z state r
unfolding nearest
nearest_told z state r =
    let map = told_by (free_map_table z state) in
    let below : (d : ℕ) → free_below z map r d ≡ free_below z state r d = λ d. ap (λ (t : Bool). leb d r && t) (told_is_free z state (r - d)) in
    let far : find (suc (r + z.records)) (λ d. free_below z map r d || free_above z map r d) 0 ≡ find (suc (r + z.records)) (λ d. free_below z state r d || free_above z state r d) 0 =
    find_same (suc (r + z.records)) _ _ 0 (λ d h l. λ t. below d t || told_is_free z state (r + d) t) in
    ap (λ (d : ℕ). if (free_below z map r d) (r - d) (r + d) % z.records) far ∙ ap (λ (t : Bool). if t (r - distance) (r + distance) % z.records) (below distance)
  where
    distance : ℕ
    distance = find (suc (r + z.records)) (λ d. free_below z state r d || free_above z state r d) 0

-- and the choice of a page
pub pick_told : (z : Sizes) (address state : ℕ → ℕ) (hand i : ℕ) → 0 < z.records → pick z address (told_by (free_map_table z state)) hand i ≡ pick z address state hand i
unfolding pick
pick_told z address state hand i pos = go (neighbour z address i)
  where
    go : (a : ℕ) → picked z (told_by (free_map_table z state)) hand a ≡ picked z state hand a
    go zero = hand_told z state hand pos
    go (suc r) = nearest_told z state r
