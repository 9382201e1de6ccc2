-- `chip_ruled` meets its contract: test by test.
use mathlib.Core.Path.{◌≡◌, ap, ◌∙◌}
use Prim.Native.Nat.{ℕ}
use native.Mathlib.Omega.{arith}
use Rattle.tables.specs.Base.{at}
use Rattle.tables.specs.Rule.{test}
use Rattle.tables.specs.Turn.{said_yes, said_no}
use Rattle.model.specs.Lent.{chip_of}
use Rattle.rules.specs.Passes.{distinct}
use Rattle.chips.proofs.Ruling.{next_past, named_twice, by_places}
use Rattle.chips.proofs.ruled.chip_ruled.Goals as goal

pub returns-then-next-sizes : goal.returns-then-next-sizes
returns-then-next-sizes c =
    let a = c.args in
    next_past a.sizes a.states.now (at a.records.now) (chip_of a.chip_words.now a.chip_records.now a.chip_next.now) c.requires.2 (omega (arith, c.if-next-sizes.true, c.at-next.ensures))

pub returns-then-not-named_once : goal.returns-then-not-named_once
returns-then-not-named_once c =
    let told : (let a = c.args in c.named_once.result ≡ test (distinct a.sizes.chip a.sizes.records (at a.chip_records.now))) = let a = c.args in c.named_once.ensures ∙ ap (λ (n : ℕ). test (distinct n a.sizes.records (at a.chip_records.now))) c.requires.3.copies in
    let a = c.args in
    named_twice a.sizes a.states.now (at a.records.now) (chip_of a.chip_words.now a.chip_records.now a.chip_next.now) c.requires.2
    (said_no (distinct a.sizes.chip a.sizes.records (at a.chip_records.now)) told c.if-not-named_once.true)

pub places_ok-requires : goal.places_ok-requires
places_ok-requires c =
    let told : (let a = c.args in c.named_once.result ≡ test (distinct a.sizes.chip a.sizes.records (at a.chip_records.now))) = let a = c.args in c.named_once.ensures ∙ ap (λ (n : ℕ). test (distinct n a.sizes.records (at a.chip_records.now))) c.requires.3.copies in
    let a = c.args in (
      record { sizes = c.requires.0; records = c.requires.1; states = c.requires.2; words = c.requires.3.words },
      c.requires.3.copies,
      (said_yes (distinct a.sizes.chip a.sizes.records (at a.chip_records.now)) told c.if-not-named_once.false).0,
    )

pub returns : goal.returns
returns c =
    let told : (let a = c.args in c.named_once.result ≡ test (distinct a.sizes.chip a.sizes.records (at a.chip_records.now))) = let a = c.args in c.named_once.ensures ∙ ap (λ (n : ℕ). test (distinct n a.sizes.records (at a.chip_records.now))) c.requires.3.copies in
    let a = c.args in
    c.places_ok.ensures ∙ by_places a.sizes a.states.now (at a.records.now) (chip_of a.chip_words.now a.chip_records.now a.chip_next.now) c.requires.2 (omega (arith, c.if-next-sizes.false, c.at-next.ensures))
    (said_yes (distinct a.sizes.chip a.sizes.records (at a.chip_records.now)) told c.if-not-named_once.false)
