-- `last_mark` meets its contract: in the last word, or in the last of the earlier words that has a mark.
use mathlib.Core.Path.{◌≡◌, ◌∙◌}
use mathlib.Core.List.{List}
use Prim.Native.Nat.{ℕ, suc, ◌+◌, ◌-◌, ◌*◌, ◌/◌, ◌%◌, ◌<◌, ◌≤◌}
use native.Mathlib.Omega.{arith}
use native.Mathlib.Decide.{dec_lt}
use lib.Dec.{eqb, ltb}
use Rattle.tables.specs.Base.{at, find}
use Rattle.tables.specs.Bits.{bit}
use Rattle.leaves.proofs.Searched.{Off, word_off, last_none, last_most, last_empty, down_off, down_on, down_most, down_some, down_zero, down_more, down_to}
use Rattle.leaves.proofs.search.last_mark.Goals as goal

-- nothing in the last word, nor in those down to word w
module _ (map : List ℕ) (a b p w : ℕ) (pos : 0 < b) (last : p ≡ find (suc ((b - 1) % 32)) (λ k. eqb (bit ((b - 1) % 32 - k) (at map ((b - 1) / 32))) 1) 0) (all : (b - 1) % 32 < p) (next : w ≡ (b - 1) / 32 - find ((b - 1) / 32 - a) (λ k. ltb 0 (at map ((b - 1) / 32 - suc k))) 0) where
  pub words-passed : Off map (w * 32) b
  words-passed i h l = elim (dec_lt i ((b - 1) / 32 * 32)) [
    | yes c ↦ word_off map i (down_zero map a ((b - 1) / 32) w next (i / 32) (omega arith) (omega arith))
    | no c ↦ down_off map ((b - 1) / 32) ((b - 1) % 32) p (omega arith) last i (omega (arith, c, all)) (omega arith)
  ]

-- the word before word w ends where word w starts
lower : (w p i : ℕ) → 0 < w → w * 32 - p ≤ i → (w - 1) * 32 + suc 31 - p ≤ i
lower w p i h l = let e : (w - 1) * 32 + suc 31 ≡ w * 32 = omega arith in rw e l

upper : (w i : ℕ) → 0 < w → i < w * 32 → i < (w - 1) * 32 + suc 31
upper w i h l = omega arith

at_last : (w p : ℕ) → 0 < w → p ≤ 31 → (w - 1) * 32 + (31 - p) ≡ w * 32 - p - 1
at_last w p h l = omega arith

no-higher : (w p b : ℕ) → w ≤ (b - 1) / 32 → w * 32 - p ≤ b
no-higher w p b h = let e : w * 32 ≤ b = omega arith in omega (arith, e)

pub returns-then-from-to : goal.returns-then-from-to
returns-then-from-to c = let a = c.args in last_empty a.map.now a.from a.to c.if-from-to.true

pub returns-then-passed-place : goal.returns-then-passed-place
returns-then-passed-place c =
    let a = c.args in
    let m = a.map.now in
    let b = a.to in
    let p = c.highest-passed.result in
    let q = c.highest-passed.ensures in
    let l = c.if-passed-place.true in
    let same : (b - 1) / 32 * 32 + ((b - 1) % 32 - p) ≡ b - p - 1 = omega (arith, c.if-from-to.false, l) in
    c.max.ensures ∙ last_most m a.from b (b - p) (omega arith) (omega (arith, c.if-from-to.false)) (λ i g k. down_off m ((b - 1) / 32) ((b - 1) % 32) p (omega arith) q i (omega (arith, g, c.if-from-to.false)) (omega (arith, k))) (rw same at (down_on m ((b - 1) / 32) ((b - 1) % 32) p (omega arith) q l))

pub returns-then-w-first : goal.returns-then-w-first
returns-then-w-first c =
    let a = c.args in
    last_none a.map.now a.from a.to (omega (arith, c.if-from-to.false)) (λ i k b. words-passed a.map.now (a.from / 32) a.to c.highest-passed.result c.last_word-w.result (omega (arith, c.if-from-to.false)) c.highest-passed.ensures c.if-passed-place.false c.last_word-w.ensures i (omega (arith, k, c.if-w-first.true)) b)

pub overflow_sub-w-2 : goal.overflow_sub-w-2
overflow_sub-w-2 c = omega (arith, c.if-w-first.false, down_most c.args.map.now (c.last_word-w.result - 1) 31 c.highest.result (omega arith) c.highest.ensures)

pub returns : goal.returns
returns c =
    let below : c.last_word-w.result ≤ (c.args.to - 1) / 32 = down_to c.args.map.now (c.args.from / 32) ((c.args.to - 1) / 32) c.last_word-w.result c.last_word-w.ensures in
    let a = c.args in
    let m = a.map.now in
    let b = a.to in
    let w = c.last_word-w.result in
    let nw = c.last_word-w.ensures in
    let p = c.highest.result in
    let q = c.highest.ensures in
    let off = words-passed m (a.from / 32) b c.highest-passed.result w (omega (arith, c.if-from-to.false)) c.highest-passed.ensures c.if-passed-place.false nw in
    let l = down_some m (w - 1) (down_more m (a.from / 32) ((b - 1) / 32) w nw c.if-w-first.false) (c.type_inv.map (w - 1)).fits p q in
    let pos : 0 < w = omega (arith, c.if-w-first.false) in
    let same = at_last w p pos l in
    c.max-2.ensures ∙ last_most m a.from b (w * 32 - p) (no-higher w p b below) (omega (arith, c.if-from-to.false)) (λ i d f. elim (dec_lt i (w * 32)) [ yes y ↦ down_off m (w - 1) 31 p (omega arith) q i (lower w p i pos d) (upper w i pos y) | no y ↦ off i (omega (arith, y)) f ])
    (rw same at (down_on m (w - 1) 31 p (omega arith) q l))
