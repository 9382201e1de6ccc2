-- `place_ok` meets its contract: test by test.
use mathlib.Core.Path.{◌≡◌, ◌∙◌}
use Prim.Native.Nat.{◌+◌, ◌-◌, ◌*◌, ◌<◌, ◌≤◌}
use native.Mathlib.Omega.{arith}
use lib.ListN.{length}
use Rattle.tables.specs.Base.{at}
use Rattle.tables.specs.StoreLoops.{part_fits}
use Rattle.chips.proofs.Ruling.{is_empty, not_live, is_live_holds}
use Rattle.chips.proofs.ruled.place_ok.Goals as goal

pub all_zero-requires : goal.all_zero-requires
all_zero-requires c =
    let place_in : (let a = c.args in a.place * a.sizes.words + a.sizes.words ≤ length a.chip_words.now) = let a = c.args in rw c.requires.0.words (part_fits a.sizes.chip a.sizes.words a.place c.requires.1) in
    place_in

pub returns-then-entry-eq0 : goal.returns-then-entry-eq0
returns-then-entry-eq0 c =
    let a = c.args in
    c.all_zero.ensures ∙ is_empty a.sizes (at a.states.now) (at a.records.now) (at a.chip_words.now) a.place a.entry c.if-entry-eq0.true

pub bounds-states-r : goal.bounds-states-r
bounds-states-r c =
    let record_is : ¬ (c.args.entry ≡ 0) → c.args.entry - 1 < c.args.sizes.records = λ n. c.requires.2 (c.args.entry - 1) (omega (arith, n)) in
    omega (arith, record_is c.if-entry-eq0.false, c.requires.0.states)

pub returns-then-states-r-ne-LIVE : goal.returns-then-states-r-ne-LIVE
returns-then-states-r-ne-LIVE c =
    let a = c.args in
    not_live a.sizes (at a.states.now) (at a.records.now) (at a.chip_words.now) a.place a.entry c.if-entry-eq0.false c.if-states-r-ne-LIVE.true

pub overflow_mul-place : goal.overflow_mul-place
overflow_mul-place c =
    let place_in : (let a = c.args in a.place * a.sizes.words + a.sizes.words ≤ length a.chip_words.now) = let a = c.args in rw c.requires.0.words (part_fits a.sizes.chip a.sizes.words a.place c.requires.1) in
    omega (arith, place_in)

pub overflow_mul-r : goal.overflow_mul-r
overflow_mul-r c =
    let record_is : ¬ (c.args.entry ≡ 0) → c.args.entry - 1 < c.args.sizes.records = λ n. c.requires.2 (c.args.entry - 1) (omega (arith, n)) in
    let record-in : ¬ (c.args.entry ≡ 0) → (let a = c.args in (a.entry - 1) * a.sizes.words + a.sizes.words ≤ length a.records.now) = λ n. let a = c.args in rw c.requires.0.records (part_fits a.sizes.records a.sizes.words (a.entry - 1) (record_is n)) in
    omega (arith, record-in c.if-entry-eq0.false)

pub equal-requires : goal.equal-requires
equal-requires c =
    let place_in : (let a = c.args in a.place * a.sizes.words + a.sizes.words ≤ length a.chip_words.now) = let a = c.args in rw c.requires.0.words (part_fits a.sizes.chip a.sizes.words a.place c.requires.1) in
    let record_is : ¬ (c.args.entry ≡ 0) → c.args.entry - 1 < c.args.sizes.records = λ n. c.requires.2 (c.args.entry - 1) (omega (arith, n)) in
    let record-in : ¬ (c.args.entry ≡ 0) → (let a = c.args in (a.entry - 1) * a.sizes.words + a.sizes.words ≤ length a.records.now) = λ n. let a = c.args in rw c.requires.0.records (part_fits a.sizes.records a.sizes.words (a.entry - 1) (record_is n)) in
    (place_in, record-in c.if-entry-eq0.false)

pub returns : goal.returns
returns c =
    let a = c.args in
    c.equal.ensures ∙ is_live_holds a.sizes (at a.states.now) (at a.records.now) (at a.chip_words.now) a.place a.entry c.if-entry-eq0.false c.if-states-r-ne-LIVE.false
