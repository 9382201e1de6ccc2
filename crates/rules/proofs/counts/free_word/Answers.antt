-- Thirty-two records, or those that are left.
use mathlib.Core.Path.{◌∙◌}
use native.Mathlib.Omega.{arith}
use Rattle.rules.proofs.Tally.{whole_word, last_word}
use Rattle.rules.proofs.counts.free_word.Goals as goal

pub returns-then-from-records : goal.returns-then-from-records
returns-then-from-records c =
    let args = c.args in
    let free-bits = c.free_bits in
    let if1 = c.if-from-records in
    free-bits.ensures ∙ whole_word args.records args.from args.states.now if1.true

pub returns : goal.returns
returns c =
    let args = c.args in let pre = c.requires in
    let free-bits2 = c.free_bits-2 in
    let if1 = c.if-from-records in
    free-bits2.ensures ∙ last_word args.records args.from args.states.now pre.1 (omega (arith, if1.false))
