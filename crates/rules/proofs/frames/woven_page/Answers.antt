-- `woven_page` meets its contract.
use mathlib.Core.Path.{sym}
use Rattle.tables.specs.Laws.{if_yes, if_no}
use Rattle.rules.proofs.frames.woven_page.Goals as goal

pub returns-then-x-eq1 : goal.returns-then-x-eq1
returns-then-x-eq1 c = sym (if_yes _ 1 _ _ c.if-x-eq1.true)

pub returns : goal.returns
returns c = sym (if_no _ 1 _ _ c.if-x-eq1.false)
