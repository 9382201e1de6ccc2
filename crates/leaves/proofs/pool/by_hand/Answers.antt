-- `by_hand` meets its contract: close to the hand, else from there up, or else from 0 up to the hand.
use mathlib.Core.Path.{◌≡◌, ap, sym, ◌∙◌}
use Prim.Native.Nat.{ℕ, ◌-◌, ◌%◌, ◌/◌, ◌<◌}
use native.Mathlib.Omega.{arith}
use mathlib.Core.List.{List}
use lib.Dec.{eqb}
use Rattle.tables.specs.Base.{at, find}
use Rattle.tables.specs.BitLaws.{bit_le}
use Rattle.tables.specs.FindLaws.{find_same}
use Rattle.model.specs.declared.sizes.Sizes.{Sizes}
use Rattle.model.specs.Lines.{FREE}
use Rattle.model.specs.Parts.{by_hand}
use Rattle.tables.specs.Marks.{bit_of}
use Rattle.leaves.specs.FreeMap.{told_by, on_free}
use Rattle.leaves.specs.Search.{first_mark}
use Rattle.leaves.specs.Picks.{hand_high, hand_low}
use Rattle.leaves.proofs.Beside.{close_first, close_none, later_first, later_none}
use Rattle.leaves.proofs.pool.by_hand.Goals as goal

told : (map : List ℕ) (n i : ℕ) → find n (λ r. eqb (bit_of map r) 1) i ≡ find n (λ r. eqb (told_by map r) FREE) i
told map n i = find_same n (λ r. eqb (bit_of map r) 1) (λ r. eqb (told_by map r) FREE) i (λ r h l. on_free (bit_of map r) (bit_le (r % 32) (at map (r / 32))))

-- from 0 up to the hand, where there is none from the hand up
wrapped : (z : Sizes) (m : List ℕ) (hand r : ℕ) → hand < z.records → z.records ≡ first_mark m hand z.records → r ≡ first_mark m 0 hand → r ≡ by_hand z (told_by m) hand
wrapped z m hand r h e f =
    let q = e ∙ told m (z.records - hand) hand in
    let all : hand - 0 ≡ hand = omega arith in
    f ∙ told m (hand - 0) 0 ∙ ap (λ (k : ℕ). find k (λ x. eqb (told_by m x) FREE) 0) all ∙ sym (hand_low z (told_by m) hand h (λ k. omega (arith, q, k)))

pub returns-then-near-records : goal.returns-then-near-records
returns-then-near-records c =
    let a = c.args in
    let m = a.map.now in
    let n = a.sizes.records in
    let up = c.ahead.result in
    let e = close_first m a.hand up n c.ahead.ensures c.if-near-records.true c.requires.2 ∙ told m (n - a.hand) a.hand in
    e ∙ sym (hand_high a.sizes (told_by m) a.hand c.requires.1 (rw (sym e) c.if-near-records.true))

pub returns-then-next-records : goal.returns-then-next-records
returns-then-next-records c =
    let a = c.args in
    let m = a.map.now in
    let n = a.sizes.records in
    let up = c.ahead.result in
    wrapped a.sizes m a.hand c.first_mark.result c.requires.1 (close_none m a.hand up n c.ahead.ensures c.requires.1 (omega (arith, c.if-near-records.false)) c.if-next-records.true) c.first_mark.ensures

pub returns-then-high-records : goal.returns-then-high-records
returns-then-high-records c =
    let a = c.args in
    let m = a.map.now in
    let n = a.sizes.records in
    let up = c.ahead.result in
    let e = later_first m a.hand up n c.ahead.ensures (omega (arith, c.if-near-records.false)) c.first_mark-high.result c.first_mark-high.ensures c.if-high-records.true ∙ told m (n - a.hand) a.hand in
    e ∙ sym (hand_high a.sizes (told_by m) a.hand c.requires.1 (rw (sym e) c.if-high-records.true))

pub returns : goal.returns
returns c =
    let a = c.args in
    let m = a.map.now in
    let n = a.sizes.records in
    let up = c.ahead.result in
    wrapped a.sizes m a.hand c.first_mark-2.result c.requires.1 (later_none m a.hand up n c.ahead.ensures (omega (arith, c.if-near-records.false)) c.first_mark-high.result c.first_mark-high.ensures c.requires.1 (λ k. omega (arith, k, c.if-high-records.false))) c.first_mark-2.ensures
