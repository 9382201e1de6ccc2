-- Questions 3 and 25, the first that says no.
use mathlib.Core.Path.{sym, ◌∙◌}
use Prim.Native.Nat.{ℕ}
use Rattle.tables.specs.Base.{at}
use Rattle.tables.specs.Questions.{yes_all}
use Rattle.tables.specs.Rule.{Rule, Holds, below, ◌and◌, test}
use Rattle.tables.specs.Turn.{learn, unlearn}
use Rattle.model.specs.Laws.Own.{first_yes, first_no_holds}
use Rattle.accounts.specs.Asks.{kin}
use Rattle.accounts.proofs.shift.ask_move.Goals as goal

abbrev range : ℕ → ℕ → ℕ → Rule
range accounts giver taker = below giver accounts and below taker accounts

pub returns-then-not-giver-accounts : goal.returns-then-not-giver-accounts
unfolding test
returns-then-not-giver-accounts c = sym (first_no_holds 3 (range c.args.accounts c.args.giver c.args.taker) _ (unlearn (range c.args.accounts c.args.giver c.args.taker) (sym c.if-not-giver-accounts.true)))

pub returns-then-not-can_move : goal.returns-then-not-can_move
unfolding test
returns-then-not-can_move c =
    let inside : (Holds (range c.args.accounts c.args.giver c.args.taker)) = learn (range c.args.accounts c.args.giver c.args.taker) (sym c.if-not-giver-accounts.false) in
    sym (first_yes 3 (range c.args.accounts c.args.giver c.args.taker) _ inside ∙ first_no_holds 25 (kin (at c.args.limits.now) (at c.args.parents.now) c.args.giver c.args.taker c.args.pages) _ (unlearn (kin (at c.args.limits.now) (at c.args.parents.now) c.args.giver c.args.taker c.args.pages) (sym c.if-not-can_move.true ∙ c.can_move.ensures)))

pub returns : goal.returns
unfolding test
returns c =
    let inside : (Holds (range c.args.accounts c.args.giver c.args.taker)) = learn (range c.args.accounts c.args.giver c.args.taker) (sym c.if-not-giver-accounts.false) in
    sym (yes_all _ (inside, (learn (kin (at c.args.limits.now) (at c.args.parents.now) c.args.giver c.args.taker c.args.pages) (sym c.if-not-can_move.false ∙ c.can_move.ensures), tt)))
