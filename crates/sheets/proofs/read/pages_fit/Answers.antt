-- `pages_fit` meets its contract: the fields passed are of the form.
use borrow.Author.Count.{below_more}
use mathlib.Core.Path.{◌≡◌, refl, ap, sym, ◌∙◌}
use native.Mathlib.Omega.{arith}
use Rattle.tables.specs.Rule.{Holds, each, told, untold}
use Rattle.sheets.specs.Sheet.{place_of, page_at, field_fits, page_fits}
use Rattle.sheets.proofs.Cases.{place_first, place_next, place_room, least_next, page_fits_holds, says_yes, says_no_holds}
use Rattle.sheets.proofs.read.pages_fit.Goals as goal

pub loop-init : goal.loop-init
loop-init c = (place_first c.args.s.now, refl, λ j l. absurd (omega (arith, l)))

pub field_fits-requires : goal.field_fits-requires
field_fits-requires c =
    (c.requires.2, omega (arith, c.requires.3, c.loop.invariant.0, place_room c.args.s.now c.args.w c.loop.counter c.args.count c.requires.0 (omega arith)))

pub returns-then-not-field_fits : goal.returns-then-not-field_fits
returns-then-not-field_fits c =
    let e = page_fits_holds c.args.s.now c.args.w c.args.n c.loop.counter c.loop.least c.loop.from c.requires.0 c.requires.1 c.loop.invariant.0 c.loop.invariant.1 in
    sym (untold (each c.args.count (page_fits c.args.s.now)) (λ h. says_no_holds (page_fits c.args.s.now c.loop.counter) (sym e ∙ sym c.field_fits.ensures ∙ c.if-not-field_fits.true) (h c.loop.counter (omega arith))))

pub overflow_add-from : goal.overflow_add-from
overflow_add-from c =
    omega (arith, c.requires.3, c.loop.invariant.0, place_room c.args.s.now c.args.w c.loop.counter c.args.count c.requires.0 (omega arith))

pub number_at-least-requires : goal.number_at-least-requires
number_at-least-requires c =
    (omega arith, omega (arith, c.requires.3, c.loop.invariant.0, place_room c.args.s.now c.args.w c.loop.counter c.args.count c.requires.0 (omega arith)))

pub overflow_add-least : goal.overflow_add-least
overflow_add-least c =
    let h : Holds (field_fits c.args.s.now c.args.w c.args.n c.loop.least c.loop.from) = says_yes (field_fits c.args.s.now c.args.w c.args.n c.loop.least c.loop.from) (sym c.field_fits.ensures ∙ c.if-not-field_fits.false) in
    omega (arith, c.number_at-least.ensures, h.1.0)

pub overflow_add-from-in-loop : goal.overflow_add-from-in-loop
overflow_add-from-in-loop c =
    omega (arith, c.requires.3, c.loop.invariant.0, place_room c.args.s.now c.args.w c.loop.counter c.args.count c.requires.0 (omega arith))

pub loop-preserved : goal.loop-preserved
loop-preserved c =
    let e = page_fits_holds c.args.s.now c.args.w c.args.n c.loop.counter c.loop.least c.loop.from c.requires.0 c.requires.1 c.loop.invariant.0 c.loop.invariant.1 in
    let p : page_at c.args.s.now c.loop.from ≡ page_at c.args.s.now (place_of c.args.s.now c.loop.counter) = ap (page_at c.args.s.now) c.loop.invariant.0 in (
      omega (arith, c.loop.invariant.0, place_next c.args.s.now c.args.w c.loop.counter c.requires.0),
      omega (arith, c.number_at-least.ensures, p, least_next c.args.s.now c.loop.counter),
      below_more _ _ c.loop.invariant.2 (says_yes (page_fits c.args.s.now c.loop.counter) (sym e ∙ sym c.field_fits.ensures ∙ c.if-not-field_fits.false)),
    )

pub returns : goal.returns
returns c =
    sym (told (each c.args.count (page_fits c.args.s.now)) (λ j h. c.loop.invariant.2 j (omega arith)))
