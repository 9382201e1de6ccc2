-- Test by test; at the end the words of the frame's record.
use Prim.Native.Nat.{◌-◌}
use native.Mathlib.Omega.{arith}
use Rattle.tables.specs.Base.{at}
use lib.ListN.{length}
use Rattle.tables.specs.Turn.{named_none}
use Rattle.rules.proofs.Entries.{fit_le, part}
use Rattle.rules.proofs.Words.{in_transfer, modified, no_record, has_record}
use Rattle.rules.proofs.clean.clean.Goals as goal

pub returns-then-x-eq0 : goal.returns-then-x-eq0
returns-then-x-eq0 c = named_none _ _ c.if-x-eq0.true

pub returns-then-x-ne-NONE : goal.returns-then-x-ne-NONE
returns-then-x-ne-NONE c =
    let args = c.args in
    in_transfer args.w args.x args.f args.words.now args.records.now args.addresses.now args.states.now c.if-x-eq0.false c.if-x-ne-NONE.true

pub returns-then-x-ne0 : goal.returns-then-x-ne0
returns-then-x-ne0 c =
    let args = c.args in
    let if1 = c.if-x-eq0 in
    modified args.w args.x args.f args.words.now args.records.now args.addresses.now args.states.now if1.false c.if-x-ne-NONE.false c.if-x-ne0.true

pub returns-then-a-eq0 : goal.returns-then-a-eq0
returns-then-a-eq0 c =
    let args = c.args in
    let if3 = c.if-x-ne0 in
    let if2 = c.if-x-ne-NONE in
    let if1 = c.if-x-eq0 in
    no_record args.w args.x args.f args.words.now args.records.now args.addresses.now args.states.now if1.false if2.false if3.false c.if-a-eq0.true

pub bounds-states-r : goal.bounds-states-r
bounds-states-r c =
    let args = c.args in let pre = c.requires in
    let if1 = c.if-x-eq0 in
    omega (arith, c.if-a-eq0.false, fit_le _ _ (at args.addresses.now) pre.3 (args.x.page - 1) (omega (arith, if1.false, pre.2)))

pub content_ok-requires : goal.content_ok-requires
content_ok-requires c =
    let pre = c.requires in let args = c.args in
    let if1 = c.if-x-eq0 in
    (pre.0, part (at args.addresses.now (args.x.page - 1) - 1) (length args.states.now) args.w (length args.records.now) (omega (arith, c.if-a-eq0.false, fit_le _ _ (at args.addresses.now) pre.3 (args.x.page - 1) (omega (arith, if1.false, pre.2)))) pre.1)

pub returns : goal.returns
returns c =
    let args = c.args in
    let if3 = c.if-x-ne0 in
    let if2 = c.if-x-ne-NONE in
    let if1 = c.if-x-eq0 in
    has_record args.w args.x args.f args.words.now args.records.now args.addresses.now args.states.now if1.false if2.false if3.false _ c.if-a-eq0.false c.content_ok.ensures
