-- `pick` meets its contract: by the neighbour's address.
use mathlib.Core.Path.{◌≡◌, ap, sym, ◌∙◌}
use Prim.Native.Nat.{ℕ, suc, ◌-◌}
use native.Mathlib.Omega.{arith}
use Rattle.tables.specs.Base.{at}
use Rattle.model.specs.declared.sizes.Sizes.{Sizes}
use Rattle.model.specs.Parts.{by_hand, nearest, neighbour, picked, pick}
use Rattle.leaves.specs.FreeMap.{told_by}
use Rattle.leaves.proofs.near.pick.Goals as goal

from_hand : (z : Sizes) (address state : ℕ → ℕ) (hand i a : ℕ) → a ≡ neighbour z address i → a ≡ 0 → by_hand z state hand ≡ pick z address state hand i
unfolding pick
from_hand z address state hand i a e n = ap (picked z state hand) (sym n ∙ e)

near : (z : Sizes) (address state : ℕ → ℕ) (hand i a : ℕ) → a ≡ neighbour z address i → ¬ (a ≡ 0) → nearest z state (a - 1) ≡ pick z address state hand i
unfolding pick
near z address state hand i a e n = let s : suc (a - 1) ≡ a = omega (arith, n) in ap (picked z state hand) (s ∙ e)

pub returns-then-near-eq0 : goal.returns-then-near-eq0
returns-then-near-eq0 c =
    let a = c.args in
    c.by_hand.ensures ∙ from_hand a.sizes (at a.addresses.now) (told_by a.map.now) a.hand a.page c.neighbour-near.result c.neighbour-near.ensures c.if-near-eq0.true

pub returns : goal.returns
returns c =
    let a = c.args in
    c.nearest.ensures ∙ near a.sizes (at a.addresses.now) (told_by a.map.now) a.hand a.page c.neighbour-near.result c.neighbour-near.ensures c.if-near-eq0.false
