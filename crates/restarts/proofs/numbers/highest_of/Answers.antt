-- `highest_of` meets its contract: after s slots it is the highest of itself and of their numbers.
use mathlib.Core.Path.{◌∙◌}
use Rattle.restarts.specs.Numbers.{numbered, highest_none, highest_counted, highest_uncounted}
use Rattle.restarts.proofs.numbers.highest_of.Goals.{then-number-lt-HIGH, else-number-lt-HIGH}
use Rattle.restarts.proofs.numbers.highest_of.Goals as goal

pub loop-s-init : goal.loop-s-init
loop-s-init c = c.at-top.ensures ∙ highest_none (numbered c.args.numbers.now c.args.highest.now)

pub loop-s-preserved : goal.loop-s-preserved
loop-s-preserved c =
    let d = numbered c.args.numbers.now c.args.highest.now in
    let m = c.loop-s in
    elim c.if-number-lt-HIGH.branch [
      | then-number-lt-HIGH w ↦ w.top-is ∙ w.max-top.ensures ∙ highest_counted d m.s m.top c.at-number.result m.invariant c.at-number.ensures w.if-number-lt-HIGH.true
      | else-number-lt-HIGH w ↦ w.top-is ∙ highest_uncounted d m.s m.top c.at-number.result m.invariant c.at-number.ensures w.if-number-lt-HIGH.false
    ]
