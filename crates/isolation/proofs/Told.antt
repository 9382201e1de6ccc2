-- What two ledgers tell of designs, pages and writes, and when it is alike: the same but for the words, and those are alike.
use mathlib.Core.Path.{◌≡◌, refl, ap, sym, ◌∙◌, subst}
use mathlib.Core.Bool.{Bool, true, false}
use mathlib.Core.List.{List, [], ◌∷◌}
use Prim.Native.Nat.{ℕ, zero, suc, ◌<◌, ◌+◌, ◌*◌}
use native.Mathlib.Decide.{ℕ_discrete}
use lib.Dec.{eqb}
use lib.ListN.{length}
use Rattle.tables.specs.Base.{at, if}
use Rattle.tables.specs.Rule.{Holds}
use Rattle.model.specs.declared.sizes.Sizes.{Sizes}
use Rattle.model.specs.State.{Disk, all_pages, slot_of}
use Rattle.model.specs.Ledger.{Ledger, Write, Note, no_write, recount, pack_design}
use Rattle.model.specs.Demand3.{last_into}
use Rattle.isolation.specs.Words.{like}

-- ── a word ──
pub same_like : (hidden x a : ℕ) → Holds (like hidden x a a)
same_like hidden x a = (λ e. (λ h. h, λ h. h), λ n. refl)

-- zero on both or on neither, whosever it is
pub like_zero : (hidden x a b : ℕ) → Holds (like hidden x a b) → (a ≡ 0 → b ≡ 0) × (b ≡ 0 → a ≡ 0)
like_zero hidden x a b h = elim (ℕ_discrete x hidden) [ yes e ↦ h.0 e | no e ↦ (λ p. sym (h.1 e) ∙ p, λ p. h.1 e ∙ p) ]

-- ── what of a ledger bears on the words ──
pub record Told : Type 0 where
  pub pack : Disk
  pub births : ℕ
  pub design : ℕ → ℕ
  pub number : ℕ → ℕ
  pub text : ℕ → ℕ → ℕ
  pub noted : ℕ → Note
  pub writing : ℕ → Bool
  pub write : ℕ → Write
  pub finished : List Write

abbrev pub told : Ledger → Told
told l = record {
  pack = l.pack;
  births = l.births;
  design = l.design;
  number = l.number;
  text = l.pages.text;
  noted = l.pending.noted;
  writing = l.pending.writing;
  write = l.pending.write;
  finished = l.finished;
}

-- ── alike ──
pub record WriteLike (z : Sizes) (hidden : ℕ) (x y : Write) : Type 0 where
  pub design : x.design ≡ y.design
  pub record' : x.record' ≡ y.record'
  pub serial : x.serial ≡ y.serial
  pub words : (k : ℕ) → k < z.words → Holds (like hidden x.design (x.words k) (y.words k))

abbrev pub WritesLike : Sizes → ℕ → List Write → List Write → Type 0
WritesLike z hidden [] [] = Unit {0}
WritesLike z hidden [] (y ∷ ys) = ⊥
WritesLike z hidden (x ∷ xs) [] = ⊥
WritesLike z hidden (x ∷ xs) (y ∷ ys) = WriteLike z hidden x y × WritesLike z hidden xs ys

-- the words of a page, where its slot has a design
abbrev pub TextLike : Sizes → ℕ → (ℕ → ℕ) → (ℕ → ℕ → ℕ) → (ℕ → ℕ → ℕ) → Type 0
TextLike z hidden of text text' = (i : ℕ) → i < all_pages z → 0 < of (slot_of z i) → (k : ℕ) → k < z.words → Holds (like hidden (of (slot_of z i)) (text i k) (text' i k))

pub record ToldLike (z : Sizes) (hidden : ℕ) (l l' : Told) : Type 0 where
  pub births : l.births ≡ l'.births
  pub design : l.design ≡ l'.design
  pub number : l.number ≡ l'.number
  pub text : TextLike z hidden l.design l.text l'.text
  pub noted : l.noted ≡ l'.noted
  pub writing : l.writing ≡ l'.writing
  pub write : (f : ℕ) → WriteLike z hidden (l.write f) (l'.write f)
  pub finished : WritesLike z hidden l.finished l'.finished
  pub pack : (i : ℕ) → i < all_pages z → (r : ℕ) → at l.pack.maps i ≡ suc r → (k : ℕ) → k < z.words
      → Holds (like hidden (pack_design l.pack (slot_of z i)) (at l.pack.records (r * z.words + k)) (at l'.pack.records (r * z.words + k)))

-- ── the finished writes ──
module _ (z : Sizes) (hidden : ℕ) where
  no_write_like : WriteLike z hidden no_write no_write
  unfolding no_write
  no_write_like = record { design = refl; record' = refl; serial = refl; words = λ k h. same_like hidden 0 0 }

  pub last_like : (r : ℕ) (xs ys : List Write) → WritesLike z hidden xs ys → WriteLike z hidden (last_into r xs) (last_into r ys)
  unfolding last_into
  last_like r [] [] h = no_write_like
  last_like r [] (y ∷ ys) h = absurd h
  last_like r (x ∷ xs) [] h = absurd h
  last_like r (x ∷ xs) (y ∷ ys) h =
      subst (λ (n : ℕ). WriteLike z hidden (if (eqb x.record' r) x (last_into r xs)) (if (eqb n r) y (last_into r ys))) h.0.record' (go (eqb x.record' r) (last_like r xs ys h.1))
    where
      go : (b : Bool) → WriteLike z hidden (last_into r xs) (last_into r ys) → WriteLike z hidden (if b x (last_into r xs)) (if b y (last_into r ys))
      go true i = h.0
      go false i = i

  pub length_like : (xs ys : List Write) → WritesLike z hidden xs ys → length xs ≡ length ys
  length_like [] [] h = refl
  length_like [] (y ∷ ys) h = absurd h
  length_like (x ∷ xs) [] h = absurd h
  length_like (x ∷ xs) (y ∷ ys) h = ap suc (length_like xs ys h.1)

  pub recount_like : (d d' : Disk) (g g' : ℕ → ℕ) (xs ys : List Write) → WritesLike z hidden xs ys → WritesLike z hidden (recount z d g xs) (recount z d' g' ys)
  unfolding recount
  recount_like d d' g g' [] [] h = tt
  recount_like d d' g g' [] (y ∷ ys) h = absurd h
  recount_like d d' g g' (x ∷ xs) [] h = absurd h
  recount_like d d' g g' (x ∷ xs) (y ∷ ys) h = (record { design = h.0.design; record' = h.0.record'; serial = h.0.serial; words = h.0.words }, recount_like d d' g g' xs ys h.1)
