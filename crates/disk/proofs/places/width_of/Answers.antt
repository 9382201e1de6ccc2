-- `width_of` meets its contract: table by table.
use native.Mathlib.Omega.{arith}
use Rattle.disk.specs.Laws.Places.{width_words, width_pages, width_slots, width_accounts, width_one}
use Rattle.disk.proofs.places.width_of.Goals as goal

pub returns-then-t-eq0 : goal.returns-then-t-eq0
returns-then-t-eq0 c =
    width_words c.args.sizes c.args.t (omega arith)

pub returns-then-t-eq1 : goal.returns-then-t-eq1
returns-then-t-eq1 c =
    width_pages c.args.sizes c.args.t (omega arith)

pub returns-then-t-lt4 : goal.returns-then-t-lt4
returns-then-t-lt4 c =
    width_slots c.args.sizes c.args.t (omega arith) (omega arith) (omega arith)

pub returns-then-t-lt6 : goal.returns-then-t-lt6
returns-then-t-lt6 c =
    width_accounts c.args.sizes c.args.t (omega arith) (omega arith)

pub returns : goal.returns
returns c =
    width_one c.args.sizes c.args.t (omega arith)
