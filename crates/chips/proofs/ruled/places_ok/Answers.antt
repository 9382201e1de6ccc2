-- The invariant: each place before this one keeps the rules.
use mathlib.Core.Path.{sym, ◌∙◌}
use Rattle.tables.specs.Turn.{none, again, fails, done}
use Rattle.chips.proofs.ruled.places_ok.Goals as goal

pub loop-place-init : goal.loop-place-init
loop-place-init c = none _

pub place_ok-requires : goal.place_ok-requires
place_ok-requires c =
    let inside = rw c.requires.1 at c.loop-place-test.true in
    (c.requires.0, inside, c.requires.2 c.loop-place.place inside)

pub returns-then-not-place_ok : goal.returns-then-not-place_ok
returns-then-not-place_ok c =
    fails c.loop-place.place _ _ (rw c.requires.1 at c.loop-place-test.true) (sym c.if-not-place_ok.true ∙ c.place_ok.ensures)

pub loop-place-preserved : goal.loop-place-preserved
loop-place-preserved c =
    again _ _ c.loop-place.invariant (sym c.if-not-place_ok.false ∙ c.place_ok.ensures)

pub returns : goal.returns
returns c = done _ _ _ c.loop-place.invariant (rw c.requires.1 at c.loop-place-test.false)
