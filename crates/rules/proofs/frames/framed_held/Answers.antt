-- A frame with no page passes; another as its page does.
use Prim.Native.Nat.{◌-◌}
use native.Mathlib.Omega.{arith}
use Rattle.tables.specs.Base.{at}
use Rattle.tables.specs.Turn.{named_none}
use Rattle.rules.proofs.Entries.{fit_le}
use Rattle.rules.proofs.FrameTests.{no_address, held_page_holds}
use Rattle.rules.proofs.frames.framed_held.Goals as goal

pub returns-then-page-eq0 : goal.returns-then-page-eq0
returns-then-page-eq0 c = named_none _ _ c.if-page-eq0.true

pub returns-then-a-eq0 : goal.returns-then-a-eq0
returns-then-a-eq0 c =
    let args = c.args in
    no_address (at args.addresses.now) (at args.states.now) args.transfer args.page c.if-page-eq0.false c.if-a-eq0.true

pub bounds-states-a : goal.bounds-states-a
bounds-states-a c =
    let pre = c.requires in let args = c.args in
    let if1 = c.if-page-eq0 in
    omega (arith, c.if-a-eq0.false, fit_le _ _ (at args.addresses.now) pre.1 (args.page - 1) (omega (arith, if1.false, pre.0)))

pub returns : goal.returns
returns c =
    let args = c.args in
    let if1 = c.if-page-eq0 in
    held_page_holds (at args.addresses.now) (at args.states.now) args.transfer args.page if1.false c.if-a-eq0.false
