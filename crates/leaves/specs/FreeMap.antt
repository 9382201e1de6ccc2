-- The free map: a record's bit, what the map tells of the states, and the map once one record's state has changed.
use Rattle.std.specs.Prelude.{◌≡◌, refl, Bool, ◌&&◌, List, ℕ, zero, suc, ◌+◌, ◌-◌, ◌*◌, ◌/◌, ◌%◌, ◌^◌, ◌<◌, ◌≤◌, length, set}
use Rattle.std.proofs.Math.Path.{ap, sym}
use Rattle.std.proofs.Common.{◌∙◌, arith, eqb→eq}
use Rattle.std.proofs.Math.Dec.{eqb, ltb}
use borrow.Author.Tests.{lt-ltb, le-ltb}
use Rattle.std.proofs.Math.Decide.{dec_lt}
use Rattle.tables.specs.Base.{if, at, tab}
use Rattle.tables.specs.Laws.{at_tab0, and_right, eq→T, if_true, if_false}
use Rattle.tables.specs.TabLaws.{tab_entries, tab_same, set_tab}
use Rattle.tables.specs.Bits.{bit}
use Rattle.tables.specs.Marks.{bit_of}
use Rattle.tables.specs.BitLaws.{bit_bits, bits_same, bits_set, bits_clear}
use Rattle.model.specs.declared.sizes.Sizes.{Sizes}
use Rattle.model.specs.Lines.{FREE}
use Rattle.model.specs.State.{map_words, free_word}
use Rattle.model.specs.Parts.{is_free}

-- the states as the map tells them: FREE where the bit is on
abbrev pub told_by : List ℕ → ℕ → ℕ
told_by map r = 1 - bit_of map r

-- a bit is on where the map tells FREE
pub on_free : (b : ℕ) → b ≤ 1 → eqb b 1 ≡ eqb (1 - b) FREE
on_free zero h = refl
on_free (suc zero) h = refl
on_free (suc (suc b)) h = absurd (omega arith)

-- the free map of these states
abbrev pub free_map_table : Sizes → (ℕ → ℕ) → List ℕ
free_map_table z state = tab (map_words z) (free_word z state) 0

-- a map whose words agree with the states is that map
pub free_map : (z : Sizes) (state : ℕ → ℕ) (map : List ℕ) → length map ≡ map_words z → ((k : ℕ) → k < map_words z → at map k ≡ free_word z state k) → map ≡ free_map_table z state
free_map z state map e f = tab_entries (map_words z) (free_word z state) map e f

module _ (z : Sizes) (r : ℕ) (inside : r < z.records) where
  pub word_inside : r / 32 < map_words z
  word_inside = omega arith

  placed : 32 * (r / 32) + r % 32 ≡ r
  placed = omega arith

  pub at_free_map : (state : ℕ → ℕ) → at (free_map_table z state) (r / 32) ≡ free_word z state (r / 32)
  at_free_map state = at_tab0 (map_words z) (free_word z state) (r / 32) 0 word_inside

  -- the bit tells whether the record is free
  pub bit_told : (state : ℕ → ℕ) → bit_of (free_map_table z state) r ≡ if (eqb (state r) FREE) 1 0
  unfolding free_word
  bit_told state = ap (bit (r % 32)) (at_free_map state) ∙ bit_bits 32 (is_free z state) (32 * (r / 32)) (r % 32) (omega arith) ∙ rw (placed, lt-ltb r z.records inside)

  pub bit_on : (state : ℕ → ℕ) → state r ≡ FREE → bit_of (free_map_table z state) r ≡ 1
  bit_on state e = bit_told state ∙ if_true (eqb (state r) FREE) 1 0 (eq→T e)

  pub bit_off : (state : ℕ → ℕ) → ¬ (state r ≡ FREE) → bit_of (free_map_table z state) r ≡ 0
  bit_off state d = bit_told state ∙ if_false (eqb (state r) FREE) 1 0 (λ t. d (eqb→eq _ _ t))

  -- ── one record's state changes ──
  module _ (state state' : ℕ → ℕ) (other : (x : ℕ) → ¬ (x ≡ r) → state x ≡ state' x) where
    -- a map whose word of the record is new
    renewed : (w : ℕ) → w ≡ free_word z state' (r / 32) → set (free_map_table z state) (r / 32) w ≡ free_map_table z state'
    unfolding free_word
    renewed w e = set_tab (map_words z) (free_word z state) (free_word z state') (r / 32) w e
        (λ k h c. bits_same 32 (is_free z state) (is_free z state') (32 * k) (λ x a b. ap (λ (s : ℕ). ltb x z.records && eqb s FREE) (other x (λ q. c (omega arith)))))

    same_test : (x : ℕ) → ¬ (x ≡ 32 * (r / 32) + r % 32) → is_free z state x ≡ is_free z state' x
    same_test x d = ap (λ (s : ℕ). ltb x z.records && eqb s FREE) (other x (λ q. d (omega arith)))

    -- it becomes free
    pub free_map_set : ¬ (state r ≡ FREE) → state' r ≡ FREE → set (free_map_table z state) (r / 32) (at (free_map_table z state) (r / 32) + 2 ^ (r % 32)) ≡ free_map_table z state'
    unfolding free_word
    free_map_set d e = renewed _ (ap (λ (n : ℕ). n + 2 ^ (r % 32)) (at_free_map state) ∙ sym (bits_set 32 (is_free z state) (is_free z state') (32 * (r / 32)) (r % 32) (omega arith)
        (rw placed (λ t. d (eqb→eq _ _ (and_right (ltb r z.records) (eqb (state r) FREE) t))))
        (rw (placed, lt-ltb r z.records inside) (eq→T e))
        (λ x a b n. same_test x n)))

    -- it is free no more
    pub free_map_clear : state r ≡ FREE → ¬ (state' r ≡ FREE) → set (free_map_table z state) (r / 32) (at (free_map_table z state) (r / 32) - 2 ^ (r % 32)) ≡ free_map_table z state'
    unfolding free_word
    free_map_clear e d = renewed _ (ap (λ (n : ℕ). n - 2 ^ (r % 32)) (at_free_map state) ∙ (let s = bits_clear 32 (is_free z state) (is_free z state') (32 * (r / 32)) (r % 32) (omega arith)
        (rw (placed, lt-ltb r z.records inside) (eq→T e))
        (rw placed (λ t. d (eqb→eq _ _ (and_right (ltb r z.records) (eqb (state' r) FREE) t))))
        (λ x a b n. same_test x n) in omega (arith, s)))

-- states that are free alike have one map
pub free_map_same : (z : Sizes) (state state' : ℕ → ℕ) → ((r : ℕ) → r < z.records → eqb (state r) FREE ≡ eqb (state' r) FREE) → free_map_table z state ≡ free_map_table z state'
unfolding free_word
free_map_same z state state' f = tab_same (map_words z) (free_word z state) (free_word z state') (λ k h. bits_same 32 (is_free z state) (is_free z state') (32 * k) (λ x a b. alike x))
  where
    alike : (x : ℕ) → is_free z state x ≡ is_free z state' x
    alike x = elim (dec_lt x z.records) [ yes h ↦ ap (λ (t : Bool). ltb x z.records && t) (f x h) | no h ↦ rw (le-ltb x z.records (omega arith)) ]
