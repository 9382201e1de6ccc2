-- What an entry makes of the home sectors: those that it writes are as its disk part has them, and the others are as they were.
use mathlib.Core.Path.{◌≡◌, refl, ap, sym, ◌∙◌}
use mathlib.Core.Logic.{◌⊎◌, inl, inr}
use mathlib.Core.List.{List, [], ◌∷◌, ◌++◌}
use Prim.Native.Nat.{ℕ, ◌<◌}
use native.Mathlib.Decide.{ℕ_discrete}
use lib.Dec.{eqb}
use borrow.Author.Tests.{eq-eqb, ne_eqb}
use Rattle.tables.specs.Base.{if}
use Rattle.model.specs.declared.sizes.Sizes.{Sizes}
use Rattle.model.specs.State.{Disk}
use Rattle.journal.specs.Device.{Content, Sectors}
use Rattle.journal.specs.Layout.{Store}
use Rattle.journal.specs.Claims.{becomes, after}
use Rattle.layout.specs.Laid.{room, laid}
use Rattle.layout.specs.Claims.{In}
use Rattle.board.specs.Calls.{Entry, written}

-- a number is in a list, or not
pub is_in : (x : ℕ) (xs : List ℕ) → In x xs ⊎ (¬ In x xs)
is_in x [] = inr (λ h. h)
is_in x (y ∷ ys) = elim (ℕ_discrete x y) [
  | yes e ↦ inl (inl e)
  | no n ↦ elim (is_in x ys) [ inl h ↦ inl (inr h) | inr h ↦ inr (λ k. elim k [ inl e ↦ n e | inr i ↦ h i ]) ]
]

pub in_left : (x : ℕ) (xs ys : List ℕ) → In x xs → In x (xs ++ ys)
in_left x [] ys h = absurd h
in_left x (y ∷ xs) ys (inl e) = inl e
in_left x (y ∷ xs) ys (inr h) = inr (in_left x xs ys h)

pub in_right : (x : ℕ) (xs ys : List ℕ) → In x ys → In x (xs ++ ys)
in_right x [] ys h = h
in_right x (y ∷ xs) ys h = inr (in_right x xs ys h)

module _ (z : Sizes) (d : Disk) where
  -- a sector that is right already stays right
  becomes_stays : (xs : List ℕ) (x : ℕ) (c : Content) → c ≡ laid z d x → becomes (written z d xs) x c ≡ laid z d x
  unfolding becomes written
  becomes_stays [] x c e = e
  becomes_stays (y ∷ xs) x c e = becomes_stays xs x (if (eqb x y) (laid z d y) c) (elim (ℕ_discrete x y) [ yes q ↦ rw (eq-eqb x y q) (ap (laid z d) (sym q)) | no q ↦ rw (ne_eqb x y q) e ])

  becomes_in : (xs : List ℕ) (x : ℕ) (c : Content) → In x xs → becomes (written z d xs) x c ≡ laid z d x
  unfolding becomes written
  becomes_in [] x c h = absurd h
  becomes_in (y ∷ xs) x c (inl e) = becomes_stays xs x (if (eqb x y) (laid z d y) c) (rw (eq-eqb x y e) (ap (laid z d) (sym e)))
  becomes_in (y ∷ xs) x c (inr h) = becomes_in xs x (if (eqb x y) (laid z d y) c) h

  becomes_out : (xs : List ℕ) (x : ℕ) (c : Content) → ¬ In x xs → becomes (written z d xs) x c ≡ c
  unfolding becomes written
  becomes_out [] x c h = refl
  becomes_out (y ∷ xs) x c h = ap (becomes (written z d xs) x) (rw (ne_eqb x y (λ e. h (inl e))) refl) ∙ becomes_out xs x c (λ i. h (inr i))

-- an entry names every sector in which its disk part differs from the one before
abbrev pub Step : Sizes → Disk → Entry → Type 0
Step z d e = (x : ℕ) → x < room z → ¬ In x e.sectors → laid z e.disk x ≡ laid z d x

-- home, after these stores, holds the disk part
abbrev pub HomeOf : Sizes → Sectors → List Store → Disk → Type 0
HomeOf z home kept d = (x : ℕ) → x < room z → after home kept x ≡ laid z d x

-- one entry more
pub home_next : (z : Sizes) (home : Sectors) (kept : List Store) (d : Disk) (e : Entry) → Step z d e → HomeOf z home kept d → HomeOf z home (written z e.disk e.sectors ∷ kept) e.disk
unfolding after
home_next z home kept d e s h x l = elim (is_in x e.sectors) [
  | inl i ↦ becomes_in z e.disk e.sectors x (after home kept x) i
  | inr n ↦ becomes_out z e.disk e.sectors x (after home kept x) n ∙ h x l ∙ sym (s x l n)
]
