-- `is_charged` meets its contract.
use mathlib.Core.Path.{◌≡◌, ap, sym, ◌∙◌}
use mathlib.Core.Bool.{Bool, true, false}
use mathlib.Core.Logic.{inl, inr}
use mathlib.Core.List.{List}
use Prim.Native.Nat.{ℕ, ◌-◌}
use native.Mathlib.Omega.{arith}
use native.Mathlib.Decide.{ℕ_discrete}
use borrow.Author.Tests.{eq-eqb, ne_eqb}
use lib.Dec.{eqb}
use Rattle.tables.specs.Base.{at}
use Rattle.tables.specs.Rule.{test, told, untold}
use Rattle.tables.specs.Turn.{said_yes, said_no}
use Rattle.model.specs.declared.frame.Frame.{Frame}
use Rattle.leaves.specs.Packed.{unpacked}
use Rattle.writeback.specs.ByPage.{modified_entry, charged_entry}
use Rattle.writeback.proofs.truncate.is_charged.Goals as goal

module _ (entry : ℕ) (fs : List Frame) (addresses states : List ℕ) (i : ℕ) {b : Bool} (m : b ≡ test (modified_entry entry fs)) where
  changed : b ≡ true → true ≡ test (charged_entry entry fs addresses states i)
  changed y = sym (told (charged_entry entry fs addresses states i) (inr (said_yes (modified_entry entry fs) m y)))

  module _ (n : b ≡ false) {a : ℕ} (e : a ≡ at addresses i) where
    nothing : a ≡ 0 → false ≡ test (charged_entry entry fs addresses states i)
    nothing q = sym (untold (charged_entry entry fs addresses states i) (λ h. elim h [ inl l ↦ omega (arith, e, q, l.1) | inr d ↦ said_no (modified_entry entry fs) m n d ]))

    by_state : ¬ (a ≡ 0) → {s : ℕ} → s ≡ at states (a - 1) → eqb s 3 ≡ test (charged_entry entry fs addresses states i)
    by_state q {s} k = elim (ℕ_discrete s 3) [
      | yes l ↦ eq-eqb s 3 l ∙ sym (told (charged_entry entry fs addresses states i) (inl (a - 1, omega (arith, e, q), sym k ∙ l)))
      | no l ↦ ne_eqb s 3 l ∙ sym (untold (charged_entry entry fs addresses states i) (λ h. elim h [ inl x ↦ l (k ∙ ap (at states) (omega (arith, e, x.1)) ∙ x.2) | inr d ↦ said_no (modified_entry entry fs) m n d ]))
    ]

pub returns-then-is_modified : goal.returns-then-is_modified
returns-then-is_modified c =
    let a = c.args in
    changed a.entry (unpacked a.frames.now) a.addresses.now a.states.now a.i c.is_modified.ensures c.if-is_modified.true

pub returns-then-address-ne0 : goal.returns-then-address-ne0
returns-then-address-ne0 c =
    let a = c.args in
    by_state a.entry (unpacked a.frames.now) a.addresses.now a.states.now a.i c.is_modified.ensures c.if-is_modified.false c.at-address.ensures c.if-address-ne0.true c.at.ensures

pub returns-else-address-ne0 : goal.returns-else-address-ne0
returns-else-address-ne0 c =
    let a = c.args in
    rw (eq-eqb _ _ c.if-address-ne0.false) (nothing a.entry (unpacked a.frames.now) a.addresses.now a.states.now a.i c.is_modified.ensures c.if-is_modified.false c.at-address.ensures c.if-address-ne0.false)
