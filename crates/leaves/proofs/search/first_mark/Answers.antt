-- `first_mark` meets its contract: in the first word, or in the first of the later words that has a mark.
use mathlib.Core.Path.{◌≡◌, ◌∙◌}
use mathlib.Core.List.{List}
use Prim.Native.Nat.{ℕ, ◌+◌, ◌-◌, ◌*◌, ◌/◌, ◌%◌, ◌<◌}
use native.Mathlib.Omega.{arith}
use native.Mathlib.Decide.{dec_lt}
use lib.Dec.{eqb, ltb}
use Rattle.tables.specs.Base.{at, find}
use Rattle.tables.specs.Bits.{bit}
use Rattle.leaves.proofs.Searched.{Off, word_off, first_none, first_least, first_empty, up_off, up_on, up_least, up_most, up_some, up_zero, up_more, up_from}
use Rattle.leaves.proofs.search.first_mark.Goals as goal

-- nothing in the first word, nor in those up to word w
module _ (map : List ℕ) (a e p w : ℕ) (first : p ≡ find (32 - a % 32) (λ k. eqb (bit k (at map (a / 32))) 1) (a % 32)) (all : ¬ (p < 32)) (next : w ≡ find (e - (a / 32 + 1)) (λ k. ltb 0 (at map k)) (a / 32 + 1)) where
  pub words-passed : Off map a (w * 32)
  words-passed i h l = elim (dec_lt i (a / 32 * 32 + 32)) [
    | yes c ↦ up_off map (a / 32) (a % 32) p (omega arith) first i (omega arith) (omega (arith, c, all, up_most map (a / 32) (a % 32) p (omega arith) first))
    | no c ↦ word_off map i (up_zero map (a / 32 + 1) e w next (i / 32) (omega arith) (omega arith))
  ]

pub returns-then-from-to : goal.returns-then-from-to
returns-then-from-to c = let a = c.args in first_empty a.map.now a.from a.to c.if-from-to.true

pub returns-then-place-lt32 : goal.returns-then-place-lt32
returns-then-place-lt32 c =
    let a = c.args in
    let m = a.map.now in
    let f = a.from in
    let p = c.lowest-place.result in
    let q = c.lowest-place.ensures in
    c.min.ensures ∙ first_least m f a.to (f / 32 * 32 + p) (omega (arith, up_least m (f / 32) (f % 32) p (omega arith) q)) (omega (arith, c.if-from-to.false)) (λ i h g. up_off m (f / 32) (f % 32) p (omega arith) q i (omega (arith, h)) g) (up_on m (f / 32) (f % 32) p (omega arith) q c.if-place-lt32.true)

pub returns-then-w-end : goal.returns-then-w-end
returns-then-w-end c =
    let a = c.args in
    let w = c.next_word-w.result in
    first_none a.map.now a.from a.to (omega (arith, c.if-from-to.false)) (λ i h b. words-passed a.map.now a.from ((a.to + 31) / 32) c.lowest-place.result w c.lowest-place.ensures (λ k. omega (arith, k, c.if-place-lt32.false)) c.next_word-w.ensures i h (omega (arith, b, c.if-w-end.true)))

pub overflow_add-w : goal.overflow_add-w
overflow_add-w c =
    let inside : c.next_word-w.result < (c.args.to + 31) / 32 = omega (arith, c.if-w-end.false) in
    omega (arith, inside, c.requires.1, up_most c.args.map.now c.next_word-w.result 0 c.lowest.result (omega arith) c.lowest.ensures)

pub returns : goal.returns
returns c =
    let inside : c.next_word-w.result < (c.args.to + 31) / 32 = omega (arith, c.if-w-end.false) in
    let a = c.args in
    let m = a.map.now in
    let end = (a.to + 31) / 32 in
    let w = c.next_word-w.result in
    let nw = c.next_word-w.ensures in
    let p = c.lowest.result in
    let q = c.lowest.ensures in
    let off = words-passed m a.from end c.lowest-place.result w c.lowest-place.ensures (λ b. omega (arith, b, c.if-place-lt32.false)) nw in
    let some = up_more m (a.from / 32 + 1) end w nw inside in
    c.min-2.ensures ∙ first_least m a.from a.to (w * 32 + p) (omega (arith, up_from m (a.from / 32 + 1) end w nw)) (omega (arith, c.if-from-to.false)) (λ i h b. elim (dec_lt i (w * 32)) [ yes d ↦ off i h d | no d ↦ up_off m w 0 p (omega arith) q i (omega arith) b ])
    (up_on m w 0 p (omega arith) q (up_some m w some (c.type_inv.map w).fits p q))
