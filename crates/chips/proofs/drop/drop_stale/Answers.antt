-- `drop_stale` meets its contract: the turns of its loop are those of the two stores.
use mathlib.Core.Path.{ap, ◌∙◌}
use mathlib.Core.List.{List}
use Prim.Native.Nat.{ℕ}
use native.Mathlib.Omega.{arith}
use Rattle.tables.specs.Base.{at}
use Rattle.tables.specs.Rule.{Rule, same, non, names, test}
use Rattle.tables.specs.Turn.{said_yes, said_no}
use Rattle.model.specs.Lines.{LIVE}
use Rattle.chips.proofs.Dropping.{same_entry, long_words, long_copies, gone_none, gone_on, gone_off, gone_all}
use Rattle.chips.proofs.drop.drop_stale.Goals as goal
use Rattle.chips.proofs.drop.drop_stale.Goals.{then-is_stale, else-is_stale}

-- an entry names a record that is not live
abbrev old : List ℕ → ℕ → Rule
old states n = names n (λ r. non (same (at states r) LIVE))

pub loop-place-init : goal.loop-place-init
loop-place-init c = gone_none _ _ _ _

pub empty_place-requires : goal.empty_place-requires
empty_place-requires c =
    (c.requires.0, c.loop-place-test.true, record { words = long_words _ _ _ _ c.loop-place.invariant ∙ c.requires.1.words; copies = long_copies _ _ _ _ c.loop-place.invariant ∙ c.requires.1.copies })

pub loop-place-preserved : goal.loop-place-preserved
loop-place-preserved c =
    let a = c.args in
    let e = c.is_stale.ensures ∙ ap (λ (n : ℕ). test (old a.states.now n)) (same_entry a.sizes (at a.states.now) a.chip_words.now a.chip_records.now c.loop-place.invariant) in
    elim c.if-is_stale.branch [
      | then-is_stale w ↦ gone_on a.sizes (at a.states.now) a.chip_words.now a.chip_records.now c.loop-place.invariant (omega (arith, c.requires.1.copies, c.loop-place-test.true)) (said_yes (old a.states.now (at a.chip_records.now c.loop-place.place)) e w.if-is_stale.true) (w.chip_words-is ∙ w.empty_place.ensures.words) (w.chip_records-is ∙ w.empty_place.ensures.copies)
      | else-is_stale w ↦ gone_off a.sizes (at a.states.now) a.chip_words.now a.chip_records.now c.loop-place.invariant (said_no (old a.states.now (at a.chip_records.now c.loop-place.place)) e w.if-is_stale.false) w.chip_words-is w.chip_records-is
    ]

pub returns : goal.returns
returns c next =
    gone_all _ _ _ _ c.loop-place.invariant c.requires.0.words c.requires.1.words c.requires.1.copies c.loop-place-test.false next
