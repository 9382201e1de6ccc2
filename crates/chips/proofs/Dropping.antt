-- The pass that drops copies: what it has left once the places below one are passed.
use mathlib.Core.Path.{◌≡◌, refl, ap, ◌∙◌}
use mathlib.Core.List.{List}
use mathlib.Core.Logic.{inl, inr}
use Prim.Native.Nat.{ℕ, ◌+◌, ◌*◌, ◌/◌, ◌<◌, ◌≤◌}
use native.Mathlib.Nat.{div-lt_iff_lt-mul}
use native.Mathlib.Omega.{arith}
use native.Mathlib.Decide.{ℕ_discrete}
use lib.ListN.{length, set}
use Rattle.tables.specs.Base.{at}
use Rattle.tables.specs.Rule.{Rule, Holds, same, below, non, names, ◌and◌}
use Rattle.tables.specs.Store.{Split, store, choose_none, choose_ext, choose_same, at_store, length_store}
use Rattle.tables.specs.StoreLoops.{Turned, turned_none, turn_on, turn_off, turned_by, turned_all, turned_at}
use Rattle.model.specs.declared.sizes.Sizes.{Sizes}
use Rattle.model.specs.Lines.{LIVE}
use Rattle.model.specs.Lent.{chip_of}
use Rattle.model.specs.Parts.{set_part}
use Rattle.model.specs.Chip.{only_live}

module _ (z : Sizes) (state : ℕ → ℕ) (ws cs : List ℕ) where
  -- the place has the copy of a record that is not live
  abbrev old : ℕ → Rule
  old b = names (at cs b) λ r. non (same (state r) LIVE)

  -- the words of the places below one that hold such copies
  abbrev words_old : ℕ → ℕ → Rule
  words_old p j = old (j / z.words) and below (j / z.words) p

  -- words and copies once the places below p are passed
  pub record Gone (p : ℕ) (ws' cs' : List ℕ) : Type 0 where
    pub words : ws' ≡ store ws (words_old p) (λ j. 0)
    pub copies : Turned cs old (λ b. 0) p cs'

  pub gone_none : Gone 0 ws cs
  unfolding store
  gone_none = record { words = choose_none ws (words_old 0) (λ j. 0) (λ i h. omega (arith, h.1)); copies = turned_none cs old (λ b. 0) 0 (λ i h. omega arith) }

  module _ {p : ℕ} {ws' cs' : List ℕ} (g : Gone p ws' cs') where
    pub same_entry : at cs' p ≡ at cs p
    same_entry = turned_at p g.copies p (omega arith)

    pub long_words : length ws' ≡ length ws
    long_words = ap length g.words ∙ length_store ws (words_old p) (λ j. 0)

    pub long_copies : length cs' ≡ length cs
    long_copies = g.copies.long

    pub gone_off : ¬ (Holds (old p)) → {xs ys : List ℕ} → xs ≡ ws' → ys ≡ cs' → Gone (p + 1) xs ys
    unfolding store
    gone_off n a b = record {
      words = a ∙ g.words ∙ choose_same (length ws) (words_old p) (words_old (p + 1)) (λ j. 0) (at ws) (λ i h x. (x.0, omega (arith, x.1)))
          (λ i h x. (x.0, elim (ℕ_discrete (i / z.words) p) [ yes e ↦ absurd (n (rw e at x.0)) | no e ↦ omega (arith, x.1) ]));
      copies = turned_by (p + 1) b (turn_off p g.copies n);
    }

    pub gone_on : p < length cs → Holds (old p) → {xs ys : List ℕ} → xs ≡ set_part z p (λ w. 0) ws' → ys ≡ set cs' p 0 → Gone (p + 1) xs ys
    unfolding store
    gone_on l o {xs} a b = record {
      words = choose_ext xs (length ws) (words_old (p + 1)) (λ j. 0) (at ws) (ap length a ∙ length_store ws' (λ j. same (j / z.words) p) (λ j. 0) ∙ long_words) each_word;
      copies = turned_by (p + 1) b (turn_on p g.copies l o 0 refl);
    }
      where
        each_word : (i : ℕ) → i < length ws → Split (Holds (words_old (p + 1) i)) (at xs i) 0 (at ws i)
        each_word i h = elim (at_store ws' (λ j. same (j / z.words) p) (λ j. 0) i (omega (arith, h, long_words))) [
          | inl x ↦ inl ((rw x.0 o, omega (arith, x.0)), ap (λ (l : List ℕ). at l i) a ∙ x.1)
          | inr x ↦ let e : at xs i ≡ at (store ws (words_old p) (λ j. 0)) i = ap (λ (l : List ℕ). at l i) a ∙ x.1 ∙ ap (λ (l : List ℕ). at l i) g.words in elim (at_store ws (words_old p) (λ j. 0) i h) [
            | inl y ↦ inl ((y.0.0, omega (arith, y.0.1)), e ∙ y.1)
            | inr y ↦ inr (λ t. y.0 (t.0, omega (arith, t.1, x.0)), e ∙ y.1)
          ]
        ]

    pub gone_all : 0 < z.words → length ws ≡ z.chip * z.words → length cs ≡ z.chip → z.chip ≤ p → (next : List ℕ) → chip_of ws' cs' next ≡ only_live z state (chip_of ws cs next)
    unfolding only_live store
    gone_all pos lw lc h next = λ x. chip_of ((g.words ∙ choose_same (length ws) (words_old p) (λ j. old (j / z.words)) (λ j. 0) (at ws) (λ i l t. t.0) (λ i l t. (t, inside i l))) x) (turned_all p g.copies (λ i l t. omega (arith, l, lc, h)) x) next
      where
        inside : (i : ℕ) → i < length ws → i / z.words < p
        inside i l = let e : i / z.words < z.chip = (div-lt_iff_lt-mul pos).1 (rw lw at l) in omega (arith, e, h)
