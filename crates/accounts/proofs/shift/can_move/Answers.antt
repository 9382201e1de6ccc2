-- Question 25 in three tests.
use mathlib.Core.Path.{◌≡◌, refl, sym, ◌∙◌}
use mathlib.Core.Bool.{Bool, true, false, not, ◌&&◌, ◌||◌}
use Prim.Native.Nat.{ℕ, ◌+◌}
use native.Mathlib.Omega.{arith}
use lib.Dec.{eqb, ltb}
use native.Mathlib.Decide.{ℕ_discrete}
use borrow.Author.Tests.{eq-eqb, ne_eqb, lt-ltb, le-ltb}
use Rattle.tables.specs.Base.{at}
use Rattle.tables.specs.Rule.{Rule, Holds, below, non, ◌and◌, ◌or◌, test}
use Rattle.tables.specs.Turn.{learn, unlearn, not_so, second_told}
use Rattle.accounts.specs.Asks.{is_parent, kin}
use Rattle.accounts.proofs.shift.can_move.Goals as goal

either : (f g : Rule) {a b : Bool} → a ≡ test f → b ≡ test g → a || b ≡ test (f or g)
unfolding test
either f g p q = rw (p, q)

-- one is the other's parent
abbrev related : (ℕ → ℕ) → ℕ → ℕ → Rule
related parent giver taker = is_parent parent giver taker or is_parent parent taker giver

-- the giver has that much
abbrev has : (ℕ → ℕ) → ℕ → ℕ → Rule
has limit giver pages = below 0 pages and non (below (limit giver) pages)

lacks : (pages : ℕ) (b : Bool) → eqb pages 0 || b ≡ not (ltb 0 pages && not b)
lacks pages b = elim (ℕ_discrete pages 0) [ yes e ↦ rw (eq-eqb pages 0 e, le-ltb 0 pages (omega arith)) | no d ↦ rw (ne_eqb pages 0 d, lt-ltb 0 pages (omega arith)) (twice b) ]
  where
    twice : (b : Bool) → b ≡ not (not b)
    twice true = refl
    twice false = refl

module _ (limit : ℕ → ℕ) (giver pages x : ℕ) (e : x ≡ limit giver) where
  lacks_told : eqb pages 0 || ltb x pages ≡ not (test (has limit giver pages))
  unfolding test
  lacks_told = lacks pages (ltb x pages) ∙ (λ i. not (ltb 0 pages && not (ltb (e i) pages)))

  -- the code asks whether the giver has too little
  lacks_so : eqb pages 0 || ltb x pages ≡ true → ¬ (Holds (has limit giver pages))
  lacks_so q = unlearn (has limit giver pages) (opposite (test (has limit giver pages)) (sym q ∙ lacks_told))
    where
      opposite : (b : Bool) → true ≡ not b → false ≡ b
      opposite true r = sym r
      opposite false r = refl

  has_so : eqb pages 0 || ltb x pages ≡ false → Holds (has limit giver pages)
  has_so q = learn (has limit giver pages) (opposite (test (has limit giver pages)) (sym q ∙ lacks_told))
    where
      opposite : (b : Bool) → false ≡ not b → true ≡ b
      opposite true r = refl
      opposite false r = sym r

stays_told : (l pages x : ℕ) → x ≡ l → ltb (x + pages) 65536 ≡ test (below (l + pages) 65536)
unfolding test
stays_told l pages x e = λ i. ltb (e i + pages) 65536

pub returns-then-not-is_parent : goal.returns-then-not-is_parent
returns-then-not-is_parent c =
    let parent = at c.args.parents.now in
    let asked = either (is_parent parent c.args.giver c.args.taker) (is_parent parent c.args.taker c.args.giver) c.is_parent.ensures c.is_parent-2.ensures in
    not_so (kin (at c.args.limits.now) (at c.args.parents.now) c.args.giver c.args.taker c.args.pages) (λ h. unlearn (related (at c.args.parents.now) c.args.giver c.args.taker) (sym c.if-not-is_parent.true ∙ asked) h.0)

pub returns-then-pages-from : goal.returns-then-pages-from
returns-then-pages-from c =
    not_so (kin (at c.args.limits.now) (at c.args.parents.now) c.args.giver c.args.taker c.args.pages)
    (λ h. lacks_so (at c.args.limits.now) c.args.giver c.args.pages c.from.result (c.from.ensures ∙ c.at.ensures) c.if-pages-from.true (h.1.0, h.1.1.0))

-- both are numbers of 16 bits
pub overflow_add-result : goal.overflow_add-result
overflow_add-result c =
    let held = has_so (at c.args.limits.now) c.args.giver c.args.pages c.from.result (c.from.ensures ∙ c.at.ensures) c.if-pages-from.false in
    omega (arith, held.1, c.type_inv.limits c.args.giver, c.type_inv.limits c.args.taker, c.from-2.ensures, c.at-2.ensures)

pub returns : goal.returns
returns c =
    let parent = at c.args.parents.now in
    let asked = either (is_parent parent c.args.giver c.args.taker) (is_parent parent c.args.taker c.args.giver) c.is_parent.ensures c.is_parent-2.ensures in
    let held = has_so (at c.args.limits.now) c.args.giver c.args.pages c.from.result (c.from.ensures ∙ c.at.ensures) c.if-pages-from.false in
    let stays = below (at c.args.limits.now c.args.taker + c.args.pages) 65536 in let more = below 0 c.args.pages in let enough = non (below (at c.args.limits.now c.args.giver) c.args.pages) in
    second_told (related (at c.args.parents.now) c.args.giver c.args.taker) (more and enough and stays) _ (learn (related (at c.args.parents.now) c.args.giver c.args.taker) (sym c.if-not-is_parent.false ∙ asked)) (second_told more (enough and stays) _ held.0 (second_told enough stays _ held.1
    (stays_told (at c.args.limits.now c.args.taker) c.args.pages c.from-2.result (c.from-2.ensures ∙ c.at-2.ensures))))
