-- `fill` meets its contract: eight words over zeros.
use mathlib.Core.Path.{◌≡◌}
use native.Mathlib.Omega.{arith}
use lib.ListN.{replicate}
use Rattle.disk.specs.Laws.Header.{limits}
use Rattle.layout.specs.Laid.{header}
use Rattle.disk.proofs.header.fill.Goals as goal

pub overflow_cast-words-5 : goal.overflow_cast-words-5
overflow_cast-words-5 c =
    omega (arith, (limits c.args.sizes c.requires.1).accounts)

pub returns : goal.returns
unfolding header
returns c =
    let zeroed : c.fill.new.self ≡ replicate 128 0 = rw c.requires.0 at (c.fill.ensures.after (λ y h. h)) in
    rw zeroed
