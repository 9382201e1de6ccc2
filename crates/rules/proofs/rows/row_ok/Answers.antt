-- By the slot's switch.
use Prim.Native.Nat.{◌*◌}
use native.Mathlib.Omega.{arith}
use borrow.Author.Tests.{eq-eqb, ne_eqb}
use lib.ListN.{length}
use Rattle.std.proofs.lemmas.Option.{IfSome_then}
use Rattle.tables.specs.Base.{at}
use Rattle.rules.proofs.Marked.{skip_run}
use Rattle.rules.proofs.ByRow.{held_only}
use Rattle.rules.proofs.rows.row_ok.Goals as goal

pub returns-then-active-eq1-clause-counted : goal.returns-then-active-eq1-clause-counted
returns-then-active-eq1-clause-counted c = rw (eq-eqb _ _ c.if-active-eq1.true) c.active_row.ensures.counted

pub inactive_row-requires : goal.inactive_row-requires
inactive_row-requires c =
    let pre = c.requires in
    let if1 = c.if-active-eq1 in
    (if1.false, pre.0, pre.1.addresses_long, pre.1.few, omega (arith, pre.1.owners_long, pre.1.states_long), rw pre.1.states_long pre.1.maps_fit)

pub returns-clause-told : goal.returns-clause-told
returns-clause-told c =
    let args = c.args in
    held_only args.pages args.s args.records (length args.maps.now) (length args.marks.now) args.marks.now _ c.requires.0
    args.active args.maps.now args.addresses.now args.states.now args.owners.now c.if-active-eq1.false c.requires.2 c.inactive_row.ensures.told

pub returns-clause-marked : goal.returns-clause-marked
returns-clause-marked c =
    let args = c.args in
    IfSome_then c.inactive_row.result c.inactive_row.ensures.zero
    (λ used zero. skip_run args.records (length args.maps.now) (at args.addresses.now) (length args.marks.now) args.marks.now (args.s * args.pages) c.requires.2 args.pages c.requires.0 zero)

pub returns-clause-counted : goal.returns-clause-counted
returns-clause-counted c = rw (ne_eqb _ _ c.if-active-eq1.false) c.inactive_row.ensures.counted
