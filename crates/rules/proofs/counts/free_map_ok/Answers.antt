-- Each passes, or one does not.
use mathlib.Core.Path.{refl}
use borrow.Author.Rules.{rules}
use borrow.Author.Tests.{tests}
use Rattle.tables.specs.Base.{at}
use Prim.Native.Nat.{◌*◌}
use Rattle.tables.specs.Bits.{bits}
use Rattle.tables.specs.Rule.{same, test}
use Rattle.rules.specs.Passes.{free_record}
use Rattle.rules.proofs.Alls.{all_told}
use Rattle.rules.proofs.counts.free_map_ok.Goals as goal

pub returns : goal.returns
unfolding test
returns c =
    let a = c.args in
    all_told _ _ _ a.n (λ k. same (at a.map.now k) (bits 32 (free_record a.records a.states.now) (32 * k))) refl c.all.ensures.ran (λ x q k. search (rules, tests)) (λ x q k. search (rules, tests))
