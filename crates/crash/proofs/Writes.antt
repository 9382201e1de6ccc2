-- Laws of the ledger's functions and of its list of finished writes.
use mathlib.Core.Path.{◌≡◌, refl, ap, sym, ◌∙◌, subst}
use mathlib.Core.Bool.{Bool, true, false, ◌&&◌}
use mathlib.Core.List.{List, [], ◌∷◌}
use mathlib.Core.Logic.{◌⊎◌, inl, inr}
use Prim.Native.Nat.{ℕ, suc, ◌<◌, ◌≤◌}
use native.Mathlib.Omega.{arith}
use native.Mathlib.Decide.{ℕ_discrete}
use lib.Dec.{T, eqb, eqb→eq}
use lib.ListN.{length}
use borrow.Author.Tests.{eq-eqb, ne_eqb}
use Rattle.tables.specs.Base.{if}
use Rattle.tables.specs.Laws.{and_left, and_right, and_intro, if_false}
use Rattle.tables.specs.Rule.{Rule, Holds, test, sound, complete}
use Rattle.tables.specs.Store.{Split}
use Rattle.model.specs.declared.sizes.Sizes.{Sizes}
use Rattle.model.specs.State.{Disk}
use Rattle.model.specs.Ledger.{Ledger, Write, Update, finish_write, finish_update, put, over, no_write, no_update, recount, at_home}
use Rattle.model.specs.Demand3.{last_into, last_update, each_of, some_of}

-- ── a function with a value put ──
pub split_put : {A : Type 0} (f : ℕ → A) (i : ℕ) (a : A) (j : ℕ) → Split (j ≡ i) (put f i a j) a (f j)
unfolding put
split_put f i a j = elim (ℕ_discrete j i) [ yes e ↦ inl (e, ap (λ (b : Bool). if b a (f j)) (eq-eqb j i e)) | no e ↦ inr (e, ap (λ (b : Bool). if b a (f j)) (ne_eqb j i e)) ]

pub put_other : {A : Type 0} (h : ℕ → A) (i : ℕ) (a : A) (j : ℕ) → ¬ (j ≡ i) → put h i a j ≡ h j
put_other h i a j e = elim (split_put h i a j) [ inl x ↦ absurd (e x.0) | inr x ↦ x.1 ]

pub put_same : {A : Type 0} (h : ℕ → A) (i : ℕ) (a : A) → put h i a i ≡ a
put_same h i a = elim (split_put h i a i) [ inl x ↦ x.1 | inr x ↦ absurd (x.0 refl) ]

pub split_over : {A : Type 0} (f : ℕ → A) (t : ℕ → Rule) (a : A) (j : ℕ) → Split (Holds (t j)) (over f t a j) a (f j)
unfolding over
split_over f t a j = go (test (t j)) refl
  where
    go : (b : Bool) → test (t j) ≡ b → Split (Holds (t j)) (if (test (t j)) a (f j)) a (f j)
    go true q = inl (sound (t j) (rw q tt), ap (λ (b : Bool). if b a (f j)) q)
    go false q = inr (λ h. rw q at (complete (t j) h), ap (λ (b : Bool). if b a (f j)) q)

-- ── what is open ──
-- nothing open, nothing finished
pub no_write_holds : (f : ℕ) (l : Ledger) → ¬ (T (l.pending.writing f)) → finish_write f l ≡ l
unfolding finish_write
no_write_holds f l n = if_false (l.pending.writing f) _ l n

pub no_update_holds : (s : ℕ) (l : Ledger) → ¬ (T (l.pending.updating s)) → finish_update s l ≡ l
unfolding finish_update
no_update_holds s l n = if_false (l.pending.updating s) _ l n

-- ── the list of finished writes ──
-- the write is in the list
unfoldable pub In : Write → List Write → Type 0
In y [] = ⊥
In y (x ∷ xs) = (y ≡ x) ⊎ In y xs

pub each_of_holds : (l : List Write) (f : Write → Rule) → ((y : Write) → In y l → Holds (f y)) → Holds (each_of l f)
unfolding each_of In
each_of_holds [] f h = refl
each_of_holds (x ∷ xs) f h = (h x (inl refl), each_of_holds xs f (λ y i. h y (inr i)))

pub of_each : (l : List Write) (f : Write → Rule) → Holds (each_of l f) → (y : Write) → In y l → Holds (f y)
unfolding each_of In
of_each [] f h y i = absurd i
of_each (x ∷ xs) f h y i = elim i [ inl e ↦ subst (λ (u : Write). Holds (f u)) (sym e) h.0 | inr j ↦ of_each xs f h.1 y j ]

pub some_of_holds : (l : List Write) (f : Write → Rule) (y : Write) → In y l → Holds (f y) → Holds (some_of l f)
unfolding some_of In
some_of_holds [] f y i h = absurd i
some_of_holds (x ∷ xs) f y i h = elim i [ inl e ↦ inl (subst (λ (u : Write). Holds (f u)) e h) | inr j ↦ inr (some_of_holds xs f y j h) ]

pub of_some : (l : List Write) (f : Write → Rule) → Holds (some_of l f) → (y : Write) × In y l × Holds (f y)
unfolding some_of In
of_some [] f h = absurd (omega (arith, h))
of_some (x ∷ xs) f h = elim h [ inl a ↦ (x, inl refl, a) | inr b ↦ (let t = of_some xs f b in (t.0, inr t.1, t.2)) ]

-- the n-th finished write has serial n
unfoldable pub Numbered : List Write → Type 0
Numbered [] = Unit {0}
Numbered (x ∷ xs) = (x.serial ≡ suc (length xs)) × Numbered xs

pub bounded : (l : List Write) → Numbered l → (y : Write) → In y l → y.serial ≤ length l
unfolding In Numbered
bounded [] n y i = absurd i
bounded (x ∷ xs) n y i = elim i [ inl e ↦ rw e (omega (arith, n.0)) | inr j ↦ omega (arith, bounded xs n.1 y j) ]

pub numbered_from_1 : (l : List Write) → Numbered l → (y : Write) → In y l → 0 < y.serial
unfolding In Numbered
numbered_from_1 [] n y i = absurd i
numbered_from_1 (x ∷ xs) n y i = elim i [ inl e ↦ rw e (omega (arith, n.0)) | inr j ↦ numbered_from_1 xs n.1 y j ]

-- the last write into a record, where there is one, is in the list, and the newest of those into it
pub last_in : (r : ℕ) (l : List Write) → 0 < (last_into r l).serial → In (last_into r l) l
unfolding In last_into no_write
last_in r [] n = absurd (omega arith)
last_in r (x ∷ xs) n = go (eqb x.record' r) refl n (last_in r xs)
  where
    go : (b : Bool) → eqb x.record' r ≡ b → 0 < (if (eqb x.record' r) x (last_into r xs)).serial → (0 < (last_into r xs).serial → In (last_into r xs) xs) → In (if (eqb x.record' r) x (last_into r xs)) (x ∷ xs)
    go true e n f = rw e (inl refl)
    go false e n f = subst (λ (b : Bool). In (if b x (last_into r xs)) (x ∷ xs)) (sym e) (inr (f (rw e at n)))

pub last_into_holds : (r : ℕ) (l : List Write) → 0 < (last_into r l).serial → (last_into r l).record' ≡ r
unfolding last_into no_write
last_into_holds r [] n = absurd (omega arith)
last_into_holds r (x ∷ xs) n = go (eqb x.record' r) refl n (last_into_holds r xs)
  where
    go : (b : Bool) → eqb x.record' r ≡ b → 0 < (if (eqb x.record' r) x (last_into r xs)).serial → (0 < (last_into r xs).serial → (last_into r xs).record' ≡ r) → (if (eqb x.record' r) x (last_into r xs)).record' ≡ r
    go true e n f = rw e (eqb→eq x.record' r (rw e tt))
    go false e n f = rw e (f (rw e at n))

pub greatest : (r : ℕ) (l : List Write) → Numbered l → (y : Write) → In y l → y.record' ≡ r → y.serial ≤ (last_into r l).serial
unfolding In last_into Numbered
greatest r [] n y i q = absurd i
greatest r (x ∷ xs) n y i q = elim (ℕ_discrete x.record' r) [
  | yes e ↦ rw (eq-eqb x.record' r e) (elim i [ inl p ↦ rw p (omega arith) | inr j ↦ omega (arith, n.0, bounded xs n.1 y j) ])
  | no e ↦ rw (ne_eqb x.record' r e) (elim i [ inl p ↦ absurd (e (sym (ap (λ (u : Write). u.record') p) ∙ q)) | inr j ↦ greatest r xs n.1 y j q ])
]

-- one more finished write
pub last_here : (x : Write) (l : List Write) (r : ℕ) → x.record' ≡ r → last_into r (x ∷ l) ≡ x
unfolding last_into
last_here x l r e = rw (eq-eqb x.record' r e)

pub last_there : (x : Write) (l : List Write) (r : ℕ) → ¬ (x.record' ≡ r) → last_into r (x ∷ l) ≡ last_into r l
unfolding last_into
last_there x l r e = rw (ne_eqb x.record' r e)

-- one more stored update
pub split_update : (x : Update) (l : List Update) (d : ℕ) → Split (x.design ≡ d) (last_update d (x ∷ l)) x (last_update d l)
unfolding last_update
split_update x l d = elim (ℕ_discrete x.design d) [ yes e ↦ inl (e, rw (eq-eqb x.design d e)) | no e ↦ inr (e, rw (ne_eqb x.design d e)) ]

-- what has no design has no last update
pub none_updated : (l : List Update) → (last_update 0 l).design ≡ 0
unfolding last_update no_update
none_updated [] = refl
none_updated (x ∷ xs) = elim (split_update x xs 0) [ inl y ↦ ap (λ (u : Update). u.design) y.1 ∙ y.0 | inr y ↦ ap (λ (u : Update). u.design) y.1 ∙ none_updated xs ]

-- ── at a restart ──
module _ (z : Sizes) (d : Disk) (g : ℕ → ℕ) where
  -- a write counted anew
  unfoldable pub again : Write → Write
  again x = record { design = x.design; page = x.page; record' = x.record'; words = x.words; serial = x.serial; counts = x.counts && test (at_home z d g x) }

  pub last_again : (r : ℕ) (l : List Write) → last_into r (recount z d g l) ≡ again (last_into r l)
  unfolding last_into recount again no_write
  last_again r [] = refl
  last_again r (x ∷ xs) = go (eqb x.record' r) refl (last_again r xs)
    where
      go : (b : Bool) → eqb x.record' r ≡ b → last_into r (recount z d g xs) ≡ again (last_into r xs) → if (eqb x.record' r) (again x) (last_into r (recount z d g xs)) ≡ again (if (eqb x.record' r) x (last_into r xs))
      go true e f = rw e
      go false e f = rw e f

  -- a write of the new list is one of the old, counted anew
  pub in_again : (l : List Write) (y : Write) → In y (recount z d g l) → (x : Write) × In x l × (y ≡ again x)
  unfolding In recount again
  in_again [] y i = absurd i
  in_again (x ∷ xs) y i = elim i [ inl e ↦ (x, inl refl, e) | inr j ↦ (let t = in_again xs y j in (t.0, inr t.1, t.2)) ]

  pub length_again : (l : List Write) → length (recount z d g l) ≡ length l
  unfolding recount
  length_again [] = refl
  length_again (x ∷ xs) = ap suc (length_again xs)

  pub numbered_again : (l : List Write) → Numbered l → Numbered (recount z d g l)
  unfolding recount Numbered
  numbered_again [] n = tt
  numbered_again (x ∷ xs) n = (n.0 ∙ ap suc (sym (length_again xs)), numbered_again xs n.1)

  -- a write that still counts did, and is at home
  pub counted_was : (x : Write) → T (again x).counts → T x.counts × Holds (at_home z d g x)
  unfolding again
  counted_was x t = (and_left x.counts (test (at_home z d g x)) t, sound (at_home z d g x) (and_right x.counts (test (at_home z d g x)) t))

  pub counts_on : (x : Write) → T x.counts → Holds (at_home z d g x) → T (again x).counts
  unfolding again
  counts_on x t h = and_intro x.counts (test (at_home z d g x)) t (complete (at_home z d g x) h)
