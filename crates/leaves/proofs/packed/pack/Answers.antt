-- `pack` meets its contract: each field stands in its bytes.
use borrow.Author.Rules.{rules}
use mathlib.Core.Path.{refl}
use Prim.Native.Nat.{◌<◌}
use Rattle.leaves.specs.Packed.{unpack_packed}
use Rattle.leaves.proofs.packed.pack.Goals as goal

pub returns : goal.returns
returns c =
    let page-fits : c.args.frame.page < 65536 = search rules in
    let used-fits : c.args.frame.used < 256 = search rules in
    let modified-fits : c.args.frame.modified < 256 = search rules in
    let wired-fits : c.args.frame.wired < 256 = search rules in
    let initial-fits : c.args.frame.initial < 256 = search rules in
    let transfer-fits : c.args.frame.transfer < 256 = search rules in
    unpack_packed c.args.frame _ refl page-fits used-fits modified-fits wired-fits initial-fits transfer-fits
