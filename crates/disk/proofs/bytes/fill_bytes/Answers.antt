-- The invariant: the bytes of the first i words stand.
use mathlib.Core.Path.{◌∙◌}
use native.Mathlib.Omega.{arith}
use Rattle.disk.specs.Laws.Filling.{filling_none}
use Rattle.disk.specs.Laws.Bytes.{written_copied, written_whole}
use Rattle.disk.proofs.bytes.fill_bytes.Goals as goal

pub loop-i-init : goal.loop-i-init
loop-i-init c =
    filling_none _ _ _ c.requires

pub loop-i-preserved : goal.loop-i-preserved
loop-i-preserved c =
    written_copied c.args.words.now c.loop-i.i _ c.loop-i.bytes c.copy_from_slice.new.self (c.copy_from_slice.ensures.after ∙ c.to_le_bytes.ensures) (omega arith) (omega (arith, c.loop-i-test.true)) c.loop-i.invariant

pub returns : goal.returns
returns c =
    written_whole c.args.words.now c.loop-i.i c.loop-i.bytes (omega (arith, c.loop-i-test.false)) c.loop-i.invariant
