-- `store_words` meets its contract: the turns of its loop are those of the store.
use mathlib.Core.Path.{◌≡◌, ap, sym, ◌∙◌}
use Prim.Native.Nat.{ℕ, ◌+◌, ◌*◌, ◌%◌, ◌<◌}
use native.Mathlib.Omega.{arith}
use lib.Arith.{digits_mod}
use Rattle.tables.specs.StoreLoops.{turned_none, turn_on, turned_all}
use Rattle.sheets.specs.Sheet.{word_in}
use Rattle.carrying.proofs.steps.store_words.Goals as goal

pub loop-j-init : goal.loop-j-init
loop-j-init c = (turned_none _ _ _ _ (λ i h. omega (arith, h.0)))

pub loop-j-preserved : goal.loop-j-preserved
loop-j-preserved c =
    let a = c.args in
    let less : a.first + c.loop-j.j < a.w = omega (arith, c.requires.0) in
    let at : ℕ = a.target * a.w + a.first in
    let e : at + c.loop-j.j ≡ a.target * a.w + (a.first + c.loop-j.j) = omega arith in
    let f : at + c.loop-j.j + 1 ≡ at + (c.loop-j.j + 1) = omega arith in (
    rw f at (turn_on (at + c.loop-j.j) c.loop-j.invariant (omega (arith, c.requires.0, c.requires.5)) (λ h. omega (arith, h), omega arith) _
    (c.word_in.ensures ∙ ap (word_in a.sheet.now a.k) (sym (digits_mod a.target less) ∙ ap (λ (i : ℕ). i % a.w) (sym e))))
    )

pub returns : goal.returns
returns c = turned_all _ c.loop-j.invariant (λ i h k. omega (arith, k.1))
