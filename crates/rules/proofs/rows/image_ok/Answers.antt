-- By the update's switch.
use mathlib.Core.Path.{sym, ◌∙◌}
use Prim.Native.Nat.{◌+◌, ◌*◌}
use native.Mathlib.Omega.{arith}
use lib.ListN.{length}
use Rattle.tables.specs.Base.{at}
use Rattle.tables.specs.Rule.{same, each}
use Rattle.tables.specs.Turn.{learn}
use Rattle.rules.proofs.Marked.{skip_run}
use Rattle.rules.proofs.ByRow.{image_only}
use Rattle.rules.proofs.rows.image_ok.Goals as goal

pub returns : goal.returns
returns c =
    let args = c.args in let pre = c.requires in
    let if1 = c.if-updating-eq1 in
    let image-zero = c.image_zero in (
      image_only args.pages args.s args.records (length args.addresses.now) (length args.marks.now) args.marks.now _ pre.0
          args.updating args.addresses.now args.images.now args.states.now args.owners.now if1.false pre.2 image-zero.ensures,
      λ e. skip_run args.records (length args.addresses.now) (at args.images.now) (length args.marks.now) args.marks.now (args.s * args.pages) pre.2 args.pages pre.0
          (learn (each _ λ k. same (at args.images.now (args.s * args.pages + k)) 0) (sym e ∙ image-zero.ensures)),
    )
