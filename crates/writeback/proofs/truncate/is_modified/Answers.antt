-- `is_modified` meets its contract.
use mathlib.Core.Path.{◌≡◌, ap, sym, ◌∙◌}
use mathlib.Core.Bool.{false}
use mathlib.Core.List.{List}
use Prim.Native.Nat.{ℕ, ◌-◌}
use native.Mathlib.Decide.{ℕ_discrete}
use borrow.Author.Tests.{eq-eqb, ne_eqb}
use lib.Dec.{eqb}
use Rattle.tables.specs.Rule.{test, told, untold}
use Rattle.model.specs.declared.frame.Frame.{Frame}
use Rattle.model.specs.State.{frame_at}
use Rattle.leaves.specs.Packed.{unpacked}
use Rattle.writeback.specs.ByPage.{modified_entry}
use Rattle.writeback.proofs.truncate.is_modified.Goals as goal

module _ (entry : ℕ) (fs : List Frame) where
  nothing : entry ≡ 0 → false ≡ test (modified_entry entry fs)
  nothing e = sym (untold (modified_entry entry fs) (λ h. h.0 e))

  by-switch : ¬ (entry ≡ 0) → {g : Frame} → g ≡ frame_at fs (entry - 1) → eqb g.modified 1 ≡ test (modified_entry entry fs)
  by-switch d {g} e = elim (ℕ_discrete g.modified 1) [
    | yes l ↦ eq-eqb g.modified 1 l ∙ sym (told (modified_entry entry fs) (d, ap (λ (v : Frame). v.modified) (sym e) ∙ l))
    | no l ↦ ne_eqb g.modified 1 l ∙ sym (untold (modified_entry entry fs) (λ h. l (ap (λ (v : Frame). v.modified) e ∙ h.1)))
  ]

pub returns-then-entry-ne0 : goal.returns-then-entry-ne0
returns-then-entry-ne0 c =
    by-switch c.args.entry (unpacked c.args.frames.now) c.if-entry-ne0.true c.frame_at.ensures

pub returns-else-entry-ne0 : goal.returns-else-entry-ne0
returns-else-entry-ne0 c =
    rw (eq-eqb _ _ c.if-entry-ne0.false) (nothing c.args.entry (unpacked c.args.frames.now) c.if-entry-ne0.false)
