-- The used counts and the free map as passes over the maps and the states build them.
use Rattle.std.specs.Prelude.{◌≡◌, Bool, ◌&&◌, List, ℕ, zero, suc, ◌+◌, ◌*◌, ◌/◌, ◌%◌, ◌^◌, ◌<◌, ◌≤◌, ltb, set, replicate}
use Rattle.std.proofs.Math.Path.{refl, sym}
use Rattle.std.proofs.Common.{ap, ◌∙◌, add-one, add-zero, arith}
use Rattle.std.proofs.Math.Bool.{true, false}
use Rattle.std.proofs.Math.Decide.{ℕ_discrete, dec_lt}
use Rattle.std.proofs.Math.Dec.{eqb}
use Rattle.std.proofs.lemmas.List.{length-replicate}
use borrow.Author.Tests.{lt-ltb, le-ltb, eq-eqb, ne_eqb}
use Rattle.tables.specs.Base.{at, if, count, tab}
use Rattle.tables.specs.Laws.{count_same, count_bound, at_zeros}
use Rattle.tables.specs.TabLaws.{tab_same}
use Rattle.tables.specs.Bits.{bits}
use Rattle.tables.specs.BitLaws.{bits_none, bits_suc}
use Rattle.model.specs.declared.sizes.Sizes.{Sizes}
use Rattle.model.specs.Lines.{FREE, FILED}
use Rattle.model.specs.State.{Files, Frames, all_pages, slot_of, map_words, payer, used_of, free_word}
use Rattle.tables.specs.Marks.{bit_of}
use Rattle.model.specs.Parts.{is_free}
use Rattle.leaves.specs.FreeMap.{free_map_table, free_map, bit_off, free_map_set, free_map_same}
use Rattle.leaves.specs.ByEntry.{Filled, filled_same, filled_set}

-- ── used counts ──
-- entry i is above 0 and of the account's slot
abbrev pub paid : ℕ → (ℕ → ℕ) → (ℕ → ℕ) → ℕ → ℕ → Bool
paid pages account map q i = eqb (account (i / pages)) q && ltb 0 (map i)

abbrev pub used_by : ℕ → ℕ → (ℕ → ℕ) → (ℕ → ℕ) → ℕ → ℕ
used_by n pages account map q = count n (paid pages account map q)

abbrev pub listed_used : ℕ → ℕ → ℕ → (ℕ → ℕ) → (ℕ → ℕ) → List ℕ
listed_used accounts n pages account map = tab accounts (used_by n pages account map) 0

-- two who pay alike
pub used_alike : (accounts n pages : ℕ) (account account' map : ℕ → ℕ) → ((i : ℕ) → i < n → account (i / pages) ≡ account' (i / pages)) → listed_used accounts n pages account map ≡ listed_used accounts n pages account' map
used_alike accounts n pages account account' map e = tab_same accounts (used_by n pages account map) (used_by n pages account' map)
    (λ q h. count_same n (paid pages account map q) (paid pages account' map q) (λ i l. ap (λ (a : ℕ). eqb a q && ltb 0 (map i)) (e i l)))

pub used_none : (pages : ℕ) (account map : ℕ → ℕ) (q : ℕ) → 0 ≡ used_by 0 pages account map q
unfolding count
used_none pages account map q = refl

module _ (pages : ℕ) (account map : ℕ → ℕ) (k q : ℕ) where
  step : (b : Bool) → paid pages account map q k ≡ b → used_by (k + 1) pages account map q ≡ used_by k pages account map q + if b 1 0
  unfolding count
  step b e = rw (add-one k, e)

  pub used_on : account (k / pages) ≡ q → ¬ (map k ≡ 0) → used_by k pages account map q + 1 ≡ used_by (k + 1) pages account map q
  used_on e d = sym (step true (rw (eq-eqb (account (k / pages)) q e, lt-ltb 0 (map k) (omega arith))))

  pub used_other : ¬ (account (k / pages) ≡ q) → used_by k pages account map q ≡ used_by (k + 1) pages account map q
  used_other d = sym (step false (rw (ne_eqb (account (k / pages)) q d)) ∙ add-zero (used_by k pages account map q))

  pub used_off : map k ≡ 0 → used_by k pages account map q ≡ used_by (k + 1) pages account map q
  used_off e = sym (step false (go (eqb (account (k / pages)) q)) ∙ add-zero (used_by k pages account map q))
    where
      go : (b : Bool) → b && ltb 0 (map k) ≡ false
      go true = le-ltb 0 (map k) (omega arith)
      go false = refl

  pub used_bound : used_by k pages account map q ≤ k
  used_bound = count_bound k (paid pages account map q)

-- a turn of the pass over the maps
module _ (pages : ℕ) (account map : ℕ → ℕ) (k : ℕ) {n : ℕ} {l : List ℕ} (d : Filled n (used_by k pages account map) l) where
  abbrev payer_of_holds : ℕ
  payer_of_holds = account (k / pages)

  pub used_turn : payer_of_holds < n → ¬ (map k ≡ 0) → Filled n (used_by (k + 1) pages account map) (set l payer_of_holds (at l payer_of_holds + 1))
  used_turn h nz = filled_set d (used_by (k + 1) pages account map) payer_of_holds (at l payer_of_holds + 1)
      (ap (λ (x : ℕ). x + 1) (d.entries payer_of_holds h) ∙ used_on pages account map k payer_of_holds refl nz)
      (λ q g e. used_other pages account map k q (λ c. e (sym c)))

  pub used_pass : map k ≡ 0 → Filled n (used_by (k + 1) pages account map) l
  used_pass z = filled_same d (used_by (k + 1) pages account map) (λ q h. used_off pages account map k q z)

  -- what is there is at most the turns made
  pub used_room : (q : ℕ) → q < n → at l q ≤ k
  used_room q h = rw (d.entries q h) (used_bound pages account map k q)

-- where no slot is active, the entries above 0 are all that an account is charged for
pub used_inactive : (z : Sizes) (v : Files) (c : Frames) → ((s : ℕ) → v.active s ≡ 0) → (q : ℕ) → used_of z v c q ≡ used_by (all_pages z) z.pages (payer v) v.map q
unfolding used_of
used_inactive z v c off q = count_same (all_pages z) _ _ (λ i h. rw (off (slot_of z i)))

-- ── the count of free records ──
module _ (state : ℕ → ℕ) (k : ℕ) where
  abbrev free_below : ℕ → ℕ
  free_below n = count n (λ x. eqb (state x) FREE)

  pub free_more : state k ≡ FREE → free_below k + 1 ≡ free_below (k + 1)
  unfolding count
  free_more e = rw (add-one k, eq-eqb (state k) FREE e)

  pub free_less : ¬ (state k ≡ FREE) → free_below k ≡ free_below (k + 1)
  unfolding count
  free_less d = rw (add-one k, ne_eqb (state k) FREE d) (sym (add-zero (count k (λ x. eqb (state x) FREE))))

pub free_none : (state : ℕ → ℕ) → 0 ≡ count 0 (λ x. eqb (state x) FREE)
unfolding count
free_none state = refl

-- ── the free map ──
-- the states below k; from k up no record is free
abbrev pub passed : ℕ → (ℕ → ℕ) → ℕ → ℕ
passed k state x = if (ltb x k) (state x) FILED

pub passed_below : (k : ℕ) (state : ℕ → ℕ) (x : ℕ) → x < k → passed k state x ≡ state x
passed_below k state x h = rw (lt-ltb x k h)

pub passed_above : (k : ℕ) (state : ℕ → ℕ) (x : ℕ) → k ≤ x → passed k state x ≡ FILED
passed_above k state x h = rw (le-ltb x k h)

bits_off : (n : ℕ) (p : ℕ → Bool) (i : ℕ) → ((x : ℕ) → p x ≡ false) → bits n p i ≡ 0
bits_off zero p i f = bits_none p i
bits_off (suc n) p i f = rw (bits_suc n p i, f i, bits_off n p (suc i) f)

module _ (z : Sizes) (state : ℕ → ℕ) where
  pub free_start : replicate (map_words z) 0 ≡ free_map_table z (passed 0 state)
  unfolding free_word
  free_start = free_map z (passed 0 state) (replicate (map_words z) 0) (length-replicate (map_words z) 0) (λ k h. at_zeros (map_words z) k ∙ sym (bits_off 32 (is_free z (passed 0 state)) (32 * k) (λ x. go x (ltb x z.records))))
    where
      go : (x : ℕ) (b : Bool) → b && eqb (passed 0 state x) FREE ≡ false
      go x true = rw (passed_above 0 state x (omega arith))
      go x false = refl

  pub free_end : free_map_table z (passed z.records state) ≡ free_map_table z state
  free_end = free_map_same z (passed z.records state) state (λ r h. ap (λ (s : ℕ). eqb s FREE) (passed_below z.records state r h))

  module _ (k : ℕ) (inside : k < z.records) where
    ahead : ¬ (passed k state k ≡ FREE)
    ahead e = omega (arith, e, passed_above k state k (omega arith))

    pub bit_ahead : bit_of (free_map_table z (passed k state)) k ≡ 0
    bit_ahead = bit_off z k inside (passed k state) ahead

    others : (x : ℕ) → ¬ (x ≡ k) → passed k state x ≡ passed (k + 1) state x
    others x d = elim (dec_lt x k) [
      | yes h ↦ passed_below k state x h ∙ sym (passed_below (k + 1) state x (omega arith))
      | no h ↦ passed_above k state x (omega arith) ∙ sym (passed_above (k + 1) state x (omega arith))
    ]

    pub free_on : state k ≡ FREE → set (free_map_table z (passed k state)) (k / 32) (at (free_map_table z (passed k state)) (k / 32) + 2 ^ (k % 32)) ≡ free_map_table z (passed (k + 1) state)
    free_on e = free_map_set z k inside (passed k state) (passed (k + 1) state) others ahead (passed_below (k + 1) state k (omega arith) ∙ e)

    pub free_off : ¬ (state k ≡ FREE) → free_map_table z (passed k state) ≡ free_map_table z (passed (k + 1) state)
    free_off d = free_map_same z (passed k state) (passed (k + 1) state) (λ r h. elim (ℕ_discrete r k) [
      | yes e ↦ rw e (ne_eqb (passed k state k) FREE ahead ∙ sym (ne_eqb (passed (k + 1) state k) FREE (λ a. d (sym (passed_below (k + 1) state k (omega arith)) ∙ a))))
      | no e ↦ ap (λ (s : ℕ). eqb s FREE) (others r e)
    ])
