-- One number, one design: what is kept of the numbers that designs were given, over a small view of the world; and how each kind of store changes that view.
use mathlib.Core.Path.{◌≡◌, refl, ap, sym, ◌∙◌}
use mathlib.Core.Bool.{Bool, true, false}
use mathlib.Core.List.{List}
use mathlib.Core.Logic.{◌⊎◌, inl, inr}
use Prim.Native.Nat.{ℕ, zero, suc, ◌<◌, ◌≤◌}
use native.Mathlib.Omega.{arith}
use native.Mathlib.Decide.{ℕ_discrete}
use lib.Dec.{T, ltb}
use lib.ListN.{length, set}
use borrow.Author.Tests.{lt-ltb}
use Rattle.tables.specs.Base.{at, if}
use Rattle.tables.specs.Laws.{last}
use Rattle.model.specs.declared.sizes.Sizes.{Sizes}
use Rattle.model.specs.State.{Disk}
use Rattle.model.specs.Laws.Index.{split_set}
use Rattle.model.specs.Restart.{highest_of}
use Rattle.model.specs.Ledger.{put, pack_design}
use Rattle.model.specs.Acts.{World}
use Rattle.crash.proofs.Writes.{split_put, put_other, put_same}

-- the designs that there were, each slot's, and their numbers; the numbers and the highest on the disk
pub record View : Type 0 where
  pub pack : Disk
  pub births : ℕ
  pub design : ℕ → ℕ
  pub number : ℕ → ℕ
  pub numbers : List ℕ
  pub highest : List ℕ

abbrev pub view : World → View
view w = let l = w.ledger in let d = w.state.disk in record { pack = l.pack; births = l.births; design = l.design; number = l.number; numbers = d.numbers; highest = d.highest }

-- ── what is kept ──
pub record Given (z : Sizes) (up : Bool) (v : View) : Type 0 where
  -- every design has a number, no design 0, and no two have the same
  pub none : v.number 0 ≡ 0
  pub some : (b : ℕ) → 0 < b → b ≤ v.births → 0 < v.number b
  pub once : (b c : ℕ) → b ≤ v.births → c ≤ v.births → v.number b ≡ v.number c → b ≡ c
  -- a slot's number on the disk, and in the pack, is its design's
  pub slots : (s : ℕ) → s < z.slots → at v.numbers s ≡ v.number (v.design s)
  pub packed : (s : ℕ) → s < z.slots → at v.pack.numbers s ≡ v.number (pack_design v.pack s)
  -- the highest is no lower than any number below 2,147,483,648 that was given; before a restart, than any whose design stands in no slot
  pub told : (b : ℕ) → b ≤ v.births → v.number b < 2147483648 → (v.number b ≤ at v.highest 0) ⊎ ((¬ (T up)) × ((s : ℕ) × (s < z.slots) × (v.design s ≡ b)))

-- what demand 3's invariant knows of the view
pub record Known (z : Sizes) (v : View) : Type 0 where
  pub young : (s : ℕ) → s < z.slots → v.design s ≤ v.births
  pub elder : (s : ℕ) → s < z.slots → pack_design v.pack s ≤ v.births
  pub numbers : length v.numbers ≡ z.slots
  pub highest : length v.highest ≡ 1

-- once restarted, the highest is no lower than any
pub reached : (z : Sizes) (v : View) → Given z true v → (b : ℕ) → b ≤ v.births → v.number b < 2147483648 → v.number b ≤ at v.highest 0
reached z v g b h l = elim (g.told b h l) [ inl x ↦ x | inr x ↦ absurd (x.0 tt) ]

-- ── a number is stored as the highest ──
abbrev pub raise_v : ℕ → View → View
raise_v n v = record { pack = v.pack; births = v.births; design = v.design; number = v.number; numbers = v.numbers; highest = set v.highest 0 n }

-- .. and a design is born under it
abbrev pub spend_v : ℕ → View → View
spend_v n v = record { pack = v.pack; births = suc v.births; design = v.design; number = put v.number (suc v.births) n; numbers = v.numbers; highest = set v.highest 0 n }

-- the design b takes a slot, under the number n
abbrev pub place_v : ℕ → ℕ → ℕ → View → View
place_v s b n v = record { pack = v.pack; births = v.births; design = put v.design s b; number = v.number; numbers = set v.numbers s n; highest = v.highest }

module _ (z : Sizes) (v : View) (k : Known z v) where
  stored : (n : ℕ) → at (set v.highest 0 n) 0 ≡ n
  stored n = elim (split_set v.highest 0 n 0 (rw k.highest (omega arith))) [ inl x ↦ x.1 | inr x ↦ absurd (x.0 refl) ]

  pub raise_given : (n : ℕ) → at v.highest 0 ≤ n → (up : Bool) → Given z up v → Given z up (raise_v n v)
  raise_given n h up g = record {
    none = g.none;
    some = g.some;
    once = g.once;
    slots = g.slots;
    packed = g.packed;
    told = λ b i l. elim (g.told b i l) [ inl x ↦ inl (omega (arith, x, h, stored n)) | inr x ↦ inr x ];
  }

  -- an older design's number stays
  old : (n b : ℕ) → b ≤ v.births → put v.number (suc v.births) n b ≡ v.number b
  old n b i = put_other v.number (suc v.births) n b (λ e. omega (arith, e, i))

  pub spend_given : (n : ℕ) → at v.highest 0 < n → n < 2147483648 → Given z true v → Given z true (spend_v n v)
  spend_given n h small g = record {
    none = old n 0 (omega arith) ∙ g.none;
    some = λ b p i. elim (split_put v.number (suc v.births) n b) [ inl x ↦ omega (arith, x.1, h) | inr x ↦ omega (arith, x.1, g.some b p (omega (arith, i, x.0))) ];
    once = λ b c i j e. elim (split_put v.number (suc v.births) n b) [
      | inl x ↦ elim (split_put v.number (suc v.births) n c) [ inl y ↦ x.0 ∙ sym y.0 | inr y ↦ absurd (new c (omega (arith, j, y.0)) (omega (arith, x.1, y.1, e))) ]
      | inr x ↦ elim (split_put v.number (suc v.births) n c) [
        | inl y ↦ absurd (new b (omega (arith, i, x.0)) (omega (arith, x.1, y.1, e)))
        | inr y ↦ g.once b c (omega (arith, i, x.0)) (omega (arith, j, y.0)) (sym x.1 ∙ e ∙ y.1)
      ]
    ];
    slots = λ s i. g.slots s i ∙ sym (old n (v.design s) (k.young s i));
    packed = λ s i. g.packed s i ∙ sym (old n (pack_design v.pack s) (k.elder s i));
    told = λ b i l. inl (elim (split_put v.number (suc v.births) n b) [
      | inl x ↦ omega (arith, x.1, stored n)
      | inr x ↦ omega (arith, x.1, h, stored n, reached z v g b (omega (arith, i, x.0)) (omega (arith, l, x.1)))
    ]);
  }
    where
      -- it is no older design's
      new : (b : ℕ) → b ≤ v.births → ¬ (v.number b ≡ n)
      new b i e = omega (arith, e, h, small, reached z v g b i (omega (arith, e, small)))

  pub place_given : (s b n : ℕ) → s < z.slots → v.number b ≡ n → Given z true v → Given z true (place_v s b n v)
  place_given s b n h e g = record {
    none = g.none;
    some = g.some;
    once = g.once;
    slots = λ t i. elim (split_set v.numbers s n t (rw k.numbers h)) [
      | inl x ↦ x.1 ∙ sym e ∙ ap v.number (sym (ap (put v.design s b) x.0 ∙ put_same v.design s b))
      | inr x ↦ x.1 ∙ g.slots t i ∙ ap v.number (sym (put_other v.design s b t x.0))
    ];
    packed = g.packed;
    told = λ c i l. inl (reached z v g c i l);
  }

  -- ── a cut ──
  pub cut_given : (up : Bool) → Given z up v → Given z false v
  cut_given up g = record {
    none = g.none;
    some = g.some;
    once = g.once;
    slots = g.slots;
    packed = g.packed;
    told = λ b i l. elim (g.told b i l) [ inl x ↦ inl x | inr x ↦ inr (λ t. t, x.1) ];
  }

-- ── restart ──
-- the highest of the disk's own and of the numbers below 2,147,483,648 in the first n slots
pub above_own : (d : Disk) (n : ℕ) → at d.highest 0 ≤ highest_of d n
unfolding highest_of
above_own d zero = omega arith
above_own d (suc s) = omega (arith, above_own d s)

pub above_slots : (d : Disk) (n s : ℕ) → s < n → at d.numbers s < 2147483648 → at d.numbers s ≤ highest_of d n
unfolding highest_of
above_slots d zero s h l = absurd (omega (arith, h))
above_slots d (suc m) s h l = elim (last h) [
  | inl g ↦ omega (arith, above_slots d m s g l)
  | inr e ↦ let counts : if (ltb (at d.numbers m) 2147483648) (at d.numbers m) 0 ≡ at d.numbers m =
      ap (λ (b : Bool). if b (at d.numbers m) 0) (lt-ltb (at d.numbers m) 2147483648 (rw e at l)) in omega (arith, counts, ap (at d.numbers) e)
]

-- a restart stores it: from then on it is no lower than any number given
pub restart_given : (z : Sizes) (up : Bool) (w : World) → Known z (view w) → Given z up (view w) → Given z true (raise_v (highest_of w.state.disk z.slots) (view w))
restart_given z up w k g = let n = highest_of w.state.disk z.slots in record {
  none = g.none;
  some = g.some;
  once = g.once;
  slots = g.slots;
  packed = g.packed;
  told = λ b i l. inl (elim (g.told b i l) [
    | inl x ↦ omega (arith, x, above_own w.state.disk z.slots, stored z (view w) k n)
    | inr (u, (s, h, e)) ↦ let same = g.slots s h ∙ ap w.ledger.number e in
        omega (arith, same, above_slots w.state.disk z.slots s h (omega (arith, same, l)), stored z (view w) k n)
  ]);
}
