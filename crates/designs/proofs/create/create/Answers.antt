-- `create` meets its contract: the questions, then the highest number, then number and account.
use mathlib.Core.Path.{sym, ◌∙◌}
use mathlib.Core.List.{[]}
use native.Mathlib.Omega.{arith}
use Rattle.std.proofs.lemmas.Result.{err_from_is_err_and}
use Rattle.tables.specs.Questions.{all_yes}
use Rattle.model.specs.declared.event.Design.{Design}
use Rattle.model.specs.declared.event.Event.TheVariants as Event
use Rattle.model.specs.State.{State}
use Rattle.model.specs.Questions.{questions}
use Rattle.designs.specs.Seen.{seen_create}
use Rattle.designs.proofs.Carried.{carried_out_holds, refused_holds, create_numbers, create_accounts, create_highest}
use Rattle.designs.proofs.create.create.Goals as goal

pub returns-in_err-ask_create : goal.returns-in_err-ask_create
returns-in_err-ask_create c =
    let state : State = seen_create c.args.numbers.now c.args.accounts.now c.args.highest.now in
    let event : Design = Design.Create c.args.slot c.args.account c.args.number in
    let p = err_from_is_err_and c.from_residual.result c.from_residual.ensures.1 in
    let o = refused_holds c.args.sizes state event _ c.in_err-ask_create.ensures in
    record {
      answer = rw (p.1, p.2) (λ i. (o i).answer);
      numbers = λ i. (o i).left.disk.numbers;
      accounts = λ i. (o i).left.disk.accounts;
      highest = λ i. (o i).left.disk.highest;
    }

pub overflow_cast-account : goal.overflow_cast-account
overflow_cast-account c =
    let event : Design = Design.Create c.args.slot c.args.account c.args.number in
    let t = all_yes 0 (questions c.args.sizes (seen_create c.args.numbers.now [] c.args.highest.now) (Event.Design event)) tt (sym c.in_ok-ask_create.ensures) in
    omega (arith, t.0.1.0, c.requires.accounts_most)

pub returns : goal.returns
returns c =
    let state : State = seen_create c.args.numbers.now c.args.accounts.now c.args.highest.now in
    let event : Design = Design.Create c.args.slot c.args.account c.args.number in
    let a = c.args in
    let o = carried_out_holds a.sizes state event c.in_ok-ask_create.ensures in record {
      answer = λ i. (o i).answer;
      numbers = c.fill_slot.ensures.numbers ∙ create_numbers a.sizes state a.slot a.account a.number ∙ (λ i. (o i).left.disk.numbers);
      accounts = c.fill_slot.ensures.accounts ∙ create_accounts a.sizes state a.slot a.account a.number ∙ (λ i. (o i).left.disk.accounts);
      highest = c.store_highest.ensures ∙ create_highest a.sizes state a.slot a.account a.number ∙ (λ i. (o i).left.disk.highest);
    }
