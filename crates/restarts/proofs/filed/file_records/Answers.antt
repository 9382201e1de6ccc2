-- `file_records` meets its contract: after i entries the records that these list are filed, each under the slot of its entry.
use mathlib.Core.Path.{◌≡◌, sym, ◌∙◌}
use mathlib.Core.List.{List}
use Prim.Native.Nat.{ℕ, ◌-◌, ◌<◌}
use native.Mathlib.Omega.{arith}
use lib.ListN.{length}
use Rattle.tables.specs.Base.{at}
use Rattle.tables.specs.Rule.{Holds}
use Rattle.model.specs.Rules.{fit}
use Rattle.leaves.specs.ByEntry.{filled_tab, filled_by, filled_start}
use Rattle.restarts.specs.Filed.{filed_states, filed_owners, state_by, owner_by, state_none, owner_none, state_turn, state_pass, owner_turn, owner_pass}
use Rattle.restarts.proofs.filed.file_records.Goals.{then-entry-ne0, else-entry-ne0}
use Rattle.restarts.proofs.filed.file_records.Goals as goal

-- the record that the entry of a turn lists is one of the records
listed-inside : (records : ℕ) (maps : List ℕ) → Holds (fit (length maps) records (at maps)) → (i : ℕ) → i < length maps → (at maps i ≡ 0 → ⊥) → at maps i - 1 < records
listed-inside records maps f i h n = omega (arith, f i h (at maps i - 1) (omega (arith, n)))

pub loop-i-init : goal.loop-i-init
loop-i-init c =
    let e : length c.fill.new.self ≡ length c.args.states.now = c.fill.ensures.len in (
      filled_start _ (state_by 0 (at c.args.maps.now)) (c.fill.ensures.after (λ y h. h)) e (state_none (at c.args.maps.now)),
      filled_start _ (owner_by 0 c.args.pages (at c.args.maps.now)) (c.fill-2.ensures.after (λ y h. h)) (e ∙ sym c.requires.2) (owner_none c.args.pages (at c.args.maps.now)),
    )

pub bounds-states-entry : goal.bounds-states-entry
bounds-states-entry c =
    let h = c.fill.ensures.len in
    omega (arith, h, c.loop-i.invariant.0.long, listed-inside (length c.args.states.now) c.args.maps.now c.requires.3 c.loop-i.i (omega arith) c.if-entry-ne0.true)

pub bounds-owners-entry : goal.bounds-owners-entry
bounds-owners-entry c =
    let h = c.fill.ensures.len in
    omega (arith, h, c.loop-i.invariant.1.long, listed-inside (length c.args.states.now) c.args.maps.now c.requires.3 c.loop-i.i (omega arith) c.if-entry-ne0.true)

pub loop-i-preserved : goal.loop-i-preserved
loop-i-preserved c =
    let m = at c.args.maps.now in
    let l = c.loop-i in
    elim c.if-entry-ne0.branch [
      | then-entry-ne0 w ↦ (
        filled_by (state_turn m l.i l.invariant.0 w.if-entry-ne0.true) w.states-is,
        filled_by (owner_turn m l.i c.args.pages (length c.args.maps.now) c.requires.4 (omega arith) l.invariant.1 w.if-entry-ne0.true) w.owners-is,
      )
      | else-entry-ne0 w ↦ (filled_by (state_pass m l.i l.invariant.0 w.if-entry-ne0.false) w.states-is, filled_by (owner_pass m l.i c.args.pages l.invariant.1 w.if-entry-ne0.false) w.owners-is)
    ]

pub returns : goal.returns
returns c =
    let e : length c.fill.new.self ≡ length c.args.states.now = c.fill.ensures.len in
    let n : c.loop-i.i ≡ length c.args.maps.now = omega arith in record {
      states = filled_tab c.loop-i.invariant.0 ∙ (λ x. filed_states (e x) (n x) (at c.args.maps.now));
      owners = filled_tab c.loop-i.invariant.1 ∙ (λ x. filed_owners (e x) (n x) c.args.pages (at c.args.maps.now));
    }
