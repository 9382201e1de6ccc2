-- One number, one design: at the start of a list each design of the pack stands in its slot, and no two slots have the same number.
use mathlib.Core.Path.{◌≡◌, refl, ap, sym, ◌∙◌}
use mathlib.Core.Bool.{Bool, true, false}
use mathlib.Core.Logic.{inl, inr}
use Prim.Native.Nat.{ℕ, zero, suc, ◌+◌, ◌<◌, ◌≤◌, pred}
use native.Mathlib.Omega.{arith}
use native.Mathlib.Decide.{ℕ_discrete}
use lib.Dec.{T, eqb, eqb→eq, eqb_refl}
use borrow.Author.Tests.{eq-eqb, ne_eqb}
use Rattle.tables.specs.Base.{at, if, count, find}
use Rattle.tables.specs.Laws.{found}
use Rattle.tables.specs.Rule.{Holds}
use Rattle.model.specs.declared.sizes.Sizes.{Sizes}
use Rattle.model.specs.State.{Disk, Memory, files}
use Rattle.model.specs.Laws.Ruled as R
use Rattle.model.specs.Ledger.{filled, pack_design, pack_number, unwritten}
use Rattle.model.specs.Acts.{start}
use Rattle.crash.proofs.Start.{in_pack_holds, apart, young}
use Rattle.crash.proofs.Given.{view, Given}

filled_design : (d : Disk) (s : ℕ) → filled d s ≡ true → pack_design d s ≡ suc (count s (filled d))
unfolding pack_design
filled_design d s e = ap (λ (f : Bool). if f (suc (count s (filled d))) 0) e

-- each birth of the pack has a slot
pack_slot : (d : Disk) (n b : ℕ) → 0 < b → b ≤ count n (filled d) → (s : ℕ) × (s < n) × (pack_design d s ≡ b)
unfolding count
pack_slot d zero b p h = absurd (omega (arith, p, h))
pack_slot d (suc n) b p h = go (pack_slot d n b p) (filled d n) refl h
  where
    go : (b ≤ count n (filled d) → (s : ℕ) × (s < n) × (pack_design d s ≡ b)) → (f : Bool) → filled d n ≡ f → b ≤ count n (filled d) + if f 1 0 → (s : ℕ) × (s < suc n) × (pack_design d s ≡ b)
    go before true e i = elim (ℕ_discrete b (suc (count n (filled d)))) [
      | yes q ↦ (n, omega arith, filled_design d n e ∙ sym q)
      | no q ↦ let (s, l, x) = before (omega (arith, i, q)) in (s, omega (arith, l), x)
    ]
    go before false e i = let (s, l, x) = before (omega (arith, i)) in (s, omega (arith, l), x)

module _ (z : Sizes) (d : Disk) (rules : (i : ℕ) → i < z.slots → (j : ℕ) → j < z.slots → (r : ℕ) → at d.numbers i ≡ suc r → at d.numbers j ≡ suc r → i ≡ j) where
  -- two slots with one design are one
  same_slot : (i j b : ℕ) → 0 < b → pack_design d i ≡ b → pack_design d j ≡ b → i ≡ j
  same_slot i j b p x y = let suc-of : b ≡ suc (pred b) = omega (arith, p) in
      omega (arith, apart d i j (pred b) (x ∙ suc-of) (y ∙ suc-of), apart d j i (pred b) (y ∙ suc-of) (x ∙ suc-of))

  -- its number is that slot's
  number_there : (s : ℕ) → s < z.slots → 0 < pack_design d s → pack_number z d (pack_design d s) ≡ at d.numbers s
  unfolding pack_number
  number_there s h p =
      let here : T (eqb (pack_design d s) (pack_design d s)) = eqb_refl (pack_design d s) in
      let f = found z.slots (λ t. eqb (pack_design d t) (pack_design d s)) 0 s (omega arith) (omega (arith, h)) here in
      let first = same_slot (find z.slots (λ t. eqb (pack_design d t) (pack_design d s)) 0) s (pack_design d s) p (eqb→eq _ (pack_design d s) f.passes) refl in
      ap (λ (x : Bool). if x 0 (at d.numbers (find z.slots (λ t. eqb (pack_design d t) (pack_design d s)) 0))) (ne_eqb (pack_design d s) 0 (λ e. omega (arith, e, p))) ∙ ap (at d.numbers) first

  no_number : pack_number z d 0 ≡ 0
  unfolding pack_number
  no_number = refl

  -- a slot's number is its design's, also of an empty one
  slot_number : (s : ℕ) → s < z.slots → at d.numbers s ≡ pack_number z d (pack_design d s)
  slot_number s h = elim (in_pack_holds d s) [
    | inl x ↦ sym (number_there s h (omega (arith, x.1)))
    | inr x ↦ x.0 ∙ sym (ap (pack_number z d) x.1 ∙ no_number)
  ]

  -- a filled slot's is not 0
  filled_some : (s : ℕ) → 0 < pack_design d s → 0 < at d.numbers s
  filled_some s p = elim (ℕ_discrete (at d.numbers s) 0) [
    | yes e ↦ elim (in_pack_holds d s) [ inl x ↦ (let t : T (filled d s) = rw x.0 tt in absurd (rw (eq-eqb (at d.numbers s) 0 e) at t)) | inr x ↦ absurd (omega (arith, x.1, p)) ]
    | no e ↦ omega (arith, e)
  ]

  births_some : (b : ℕ) → 0 < b → b ≤ count z.slots (filled d) → 0 < pack_number z d b
  births_some b p h =
      let (s, l, e) = pack_slot d z.slots b p h in
      omega (arith, filled_some s (omega (arith, e, p)), slot_number s l, ap (pack_number z d) e)

  pub births_once : (b c : ℕ) → b ≤ count z.slots (filled d) → c ≤ count z.slots (filled d) → pack_number z d b ≡ pack_number z d c → b ≡ c
  births_once zero zero h j e = refl
  births_once zero (suc c) h j e = absurd (omega (arith, e, no_number, births_some (suc c) (omega arith) j))
  births_once (suc b) zero h j e = absurd (omega (arith, e, no_number, births_some (suc b) (omega arith) h))
  births_once (suc b) (suc c) h j e =
      let (s, l, x) = pack_slot d z.slots (suc b) (omega arith) h in
      let (t, m, y) = pack_slot d z.slots (suc c) (omega arith) j in
      let p = filled_some s (omega (arith, x)) in
      let same : at d.numbers s ≡ at d.numbers t = slot_number s l ∙ ap (pack_number z d) x ∙ e ∙ sym (slot_number t m ∙ ap (pack_number z d) y) in
      let one : s ≡ t = rules s l t m (pred (at d.numbers s)) (omega (arith, p)) (omega (arith, p, same)) in
      sym x ∙ ap (pack_design d) one ∙ y

pub start_given : (z : Sizes) (pack : Disk) (junk : Memory) → R.OnDisk z (files (record { disk = pack; memory = junk })) → Given z false (view (start z pack junk))
unfolding start unwritten
start_given z pack junk rules = let once = rules.number_once_holds in record {
  none = no_number z pack once;
  some = births_some z pack once;
  once = births_once z pack once;
  slots = slot_number z pack once;
  packed = slot_number z pack once;
  told = λ b h l. elim (ℕ_discrete b 0) [
    | yes e ↦ inl (omega (arith, ap (pack_number z pack) e ∙ no_number z pack once))
    | no e ↦ inr (λ t. t, pack_slot pack z.slots b (omega (arith, e)) h)
  ];
}
