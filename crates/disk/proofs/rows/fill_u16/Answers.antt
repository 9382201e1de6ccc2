-- The invariant: the first j words stand.
use native.Mathlib.Omega.{arith}
use Rattle.disk.specs.Laws.Filling.{filling_none, filling_next, filling_whole}
use Rattle.disk.proofs.rows.fill_u16.Goals as goal

pub loop-j-init : goal.loop-j-init
loop-j-init c =
    filling_none _ _ _ c.requires.0

pub bounds-words-j : goal.bounds-words-j
bounds-words-j c =
    omega (arith, c.loop-j.invariant.long)

pub loop-j-preserved : goal.loop-j-preserved
loop-j-preserved c =
    filling_next c.loop-j.j _ (omega (arith, c.loop-j-test.true)) c.word_of_u16.ensures c.loop-j.invariant

pub returns : goal.returns
returns c =
    filling_whole c.loop-j.j (omega (arith, c.loop-j-test.false)) c.loop-j.invariant
