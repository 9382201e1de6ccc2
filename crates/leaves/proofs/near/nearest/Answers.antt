-- `nearest` meets its contract: a close record is found in the words beside, any other by `far`.
use mathlib.Core.Logic.{inl, inr}
use native.Mathlib.Omega.{arith}
use Rattle.leaves.proofs.Beside.{close_below, close_above}
use Rattle.leaves.proofs.near.nearest.Goals as goal

pub returns-then-down-le33 : goal.returns-then-down-le33
returns-then-down-le33 c =
    let a = c.args in
    (close_below a.sizes a.map.now a.«record» c.behind-down.result c.ahead-up.result c.if-record-records.true c.behind-down.ensures c.ahead-up.ensures c.if-down-up.true (omega (arith, c.if-down-le33.true))).1

pub returns-then-up-record : goal.returns-then-up-record
returns-then-up-record c =
    let a = c.args in
    close_above a.sizes a.map.now a.«record» c.behind-down.result c.ahead-up.result c.if-record-records.true c.behind-down.ensures c.ahead-up.ensures c.if-down-up.false (inl (omega (arith, c.if-up-record.true))) c.if-record-up.true c.requires.2

pub returns-then-record-lt32 : goal.returns-then-record-lt32
returns-then-record-lt32 c =
    let a = c.args in
    close_above a.sizes a.map.now a.«record» c.behind-down.result c.ahead-up.result c.if-record-records.true c.behind-down.ensures c.ahead-up.ensures c.if-down-up.false (inr c.if-record-lt32.true) c.if-record-up.true c.requires.2
