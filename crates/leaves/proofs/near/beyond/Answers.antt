-- `beyond` meets its contract: whichever record is found, all that lie between it and its mirror image on the other side have been passed.
use mathlib.Core.Path.{◌≡◌}
use mathlib.Core.List.{List}
use Prim.Native.Nat.{ℕ, ◌+◌, ◌-◌, ◌%◌, ◌<◌, ◌≤◌, min}
use native.Mathlib.Omega.{arith}
use native.Mathlib.Decide.{dec_lt}
use lib.Dec.{T}
use Rattle.model.specs.declared.sizes.Sizes.{Sizes}
use Rattle.model.specs.Parts.{nearest}
use Rattle.leaves.specs.FreeMap.{told_by}
use Rattle.leaves.specs.Search.{first_mark, last_mark, Around}
use Rattle.leaves.proofs.Searched.{Off, free, first_off, first_on, first_from, last_off, last_on, last_to, on_is_free, free_below_holds, between, nearest_low, nearest_high, nearest_none}
use Rattle.leaves.proofs.near.beyond.Goals as goal

module _ (z : Sizes) (map : List ℕ) (r below above : ℕ) (q : Around z map r below above) (floor low : ℕ) (fl : floor ≡ below - 32) (lo : low ≡ last_mark map floor below) where
  -- ── one in the word below ──
  module _ (on : floor < low) (end high : ℕ) (en : end ≡ min (r + (r + 1 - low)) z.records) (hi : high ≡ first_mark map above end) where
    to : low ≤ below
    to = last_to map floor below low lo

    pub nearer-above : high < end → high ≡ nearest z (told_by map) r
    nearer-above h =
        nearest_high z map r high (omega (arith, q.high, first_from map above end high hi)) (on_is_free z map high (omega (arith, h, en)) (first_on map above end high hi h))
        (λ i k l. between z map r below above q low high (last_off map floor below low lo) (first_off map above end high hi) i (omega (arith, h, en, k, to, q.low)) l)

    pub that-below : ¬ (high < end) → low - 1 ≡ nearest z (told_by map) r
    that-below h = nearest_low z map r (low - 1) (omega (arith, to, q.low)) (on_is_free z map (low - 1) (omega (arith, to, on, q.most)) (last_on map floor below low lo on)) passed
      where
        passed : (i : ℕ) → low - 1 < i → i + (low - 1) < r + r → ¬ T (free z map i)
        passed i k l t = between z map r below above q low high (last_off map floor below low lo) (first_off map above end high hi) i (omega (arith, k)) (omega (arith, h, en, l, on, to, q.low, free_below_holds z map i t)) t

  -- ── none in the word below ──
  module _ (off : low ≤ floor) (high : ℕ) (hi : high ≡ first_mark map above z.records) where
    -- from a mark below the word, or from where the search below ended
    down : (a low' : ℕ) → low' ≡ last_mark map a floor → (x : ℕ) → low' ≤ x → Off map x below
    down a low' e x h i k l = elim (dec_lt i floor) [ yes c ↦ last_off map a floor low' e i (omega arith) c | no c ↦ last_off map floor below low lo i (omega (arith, c, off)) l ]

    clear : (a low' : ℕ) → low' ≡ last_mark map a floor → (x : ℕ) → low' ≤ x → (i : ℕ) → x ≤ i → i < high → ¬ T (free z map i)
    clear a low' e x h = between z map r below above q x high (down a low' e x h) (first_off map above z.records high hi)

    -- one above
    module _ (on : high < z.records) (far low' : ℕ) (fa : far ≡ r - (high - r)) (lo' : low' ≡ last_mark map far floor) where
      above-it : r ≤ high
      above-it = omega (arith, q.high, first_from map above z.records high hi)

      pub as-near-below : far < low' → low' - 1 ≡ nearest z (told_by map) r
      as-near-below h =
          let t = last_to map far floor low' lo' in
          nearest_low z map r (low' - 1) (omega (arith, t, fl, q.low)) (on_is_free z map (low' - 1) (omega (arith, t, fl, h, q.most)) (last_on map far floor low' lo' h))
          (λ i k l. clear far low' lo' low' (omega arith) i (omega (arith, k)) (omega (arith, h, l, fa, above-it)))

      pub that-above : ¬ (far < low') → high ≡ nearest z (told_by map) r
      that-above h = nearest_high z map r high above-it (on_is_free z map high on (first_on map above z.records high hi on)) (λ i k l. clear far low' lo' far (omega (arith, h)) i (omega (arith, k, fa)) l)

    -- none above
    module _ (none : ¬ (high < z.records)) (low' : ℕ) (lo' : low' ≡ last_mark map 0 floor) where
      pub last-below : 0 < low' → low' - 1 ≡ nearest z (told_by map) r
      last-below h =
          let t = last_to map 0 floor low' lo' in
          nearest_low z map r (low' - 1) (omega (arith, t, fl, q.low)) (on_is_free z map (low' - 1) (omega (arith, t, fl, h, q.most)) (last_on map 0 floor low' lo' h))
          (λ i k l f. clear 0 low' lo' low' (omega arith) i (omega (arith, k)) (omega (arith, none, free_below_holds z map i f)) f)

      pub nowhere : ¬ (0 < low') → (r + r + z.records + 1) % z.records ≡ nearest z (told_by map) r
      nowhere h = nearest_none z map r (λ i f. clear 0 low' lo' 0 (omega (arith, h)) i (omega arith) (omega (arith, none, free_below_holds z map i f)) f)

pub returns-then-high-end : goal.returns-then-high-end
returns-then-high-end c =
    let a = c.args in
    nearer-above a.sizes a.map.now a.record a.below a.above c.requires.4 c.saturating_sub-floor.result c.last_mark-low.result c.saturating_sub-floor.ensures c.last_mark-low.ensures c.if-low-floor.true c.min-end.result c.first_mark-high.result c.min-end.ensures c.first_mark-high.ensures c.if-high-end.true

pub returns-then-low-floor : goal.returns-then-low-floor
returns-then-low-floor c =
    let a = c.args in
    that-below a.sizes a.map.now a.record a.below a.above c.requires.4 c.saturating_sub-floor.result c.last_mark-low.result c.saturating_sub-floor.ensures c.last_mark-low.ensures c.if-low-floor.true c.min-end.result c.first_mark-high.result c.min-end.ensures c.first_mark-high.ensures (λ k. omega (arith, k, c.if-high-end.false))

pub overflow_sub-high : goal.overflow_sub-high
overflow_sub-high c =
    let a = c.args in
    omega (arith, c.requires.4.high, first_from a.map.now a.above a.sizes.records c.first_mark-high-2.result c.first_mark-high-2.ensures)

pub returns-then-low-far : goal.returns-then-low-far
returns-then-low-far c =
    let a = c.args in
    as-near-below a.sizes a.map.now a.record a.below a.above c.requires.4 c.saturating_sub-floor.result c.last_mark-low.result c.saturating_sub-floor.ensures c.last_mark-low.ensures c.if-low-floor.false c.first_mark-high-2.result c.first_mark-high-2.ensures c.if-high-records.true
    c.saturating_sub-far.result c.last_mark-low-then-high-records.result c.saturating_sub-far.ensures c.last_mark-low-then-high-records.ensures c.if-low-far.true

pub returns-then-high-records : goal.returns-then-high-records
returns-then-high-records c =
    let a = c.args in
    that-above a.sizes a.map.now a.record a.below a.above c.requires.4 c.saturating_sub-floor.result c.last_mark-low.result c.saturating_sub-floor.ensures c.last_mark-low.ensures c.if-low-floor.false c.first_mark-high-2.result c.first_mark-high-2.ensures c.if-high-records.true
    c.saturating_sub-far.result c.last_mark-low-then-high-records.result c.saturating_sub-far.ensures c.last_mark-low-then-high-records.ensures (λ k. omega (arith, k, c.if-low-far.false))

pub returns-then-low-gt0 : goal.returns-then-low-gt0
returns-then-low-gt0 c =
    let a = c.args in
    last-below a.sizes a.map.now a.record a.below a.above c.requires.4 c.saturating_sub-floor.result c.last_mark-low.result c.saturating_sub-floor.ensures c.last_mark-low.ensures c.if-low-floor.false c.first_mark-high-2.result c.first_mark-high-2.ensures (λ k. omega (arith, k, c.if-high-records.false)) c.last_mark-low-2.result c.last_mark-low-2.ensures c.if-low-gt0.true

pub returns : goal.returns
returns c =
    let a = c.args in
    nowhere a.sizes a.map.now a.record a.below a.above c.requires.4 c.saturating_sub-floor.result c.last_mark-low.result c.saturating_sub-floor.ensures c.last_mark-low.ensures c.if-low-floor.false c.first_mark-high-2.result c.first_mark-high-2.ensures (λ k. omega (arith, k, c.if-high-records.false)) c.last_mark-low-2.result c.last_mark-low-2.ensures (λ k. omega (arith, k, c.if-low-gt0.false))
