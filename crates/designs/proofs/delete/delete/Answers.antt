-- `delete` meets its contract: the questions, then number and account.
use mathlib.Core.Path.{◌∙◌}
use Rattle.std.proofs.lemmas.Result.{err_from_is_err_and}
use Rattle.model.specs.declared.event.Design.{Design}
use Rattle.model.specs.State.{State}
use Rattle.designs.specs.Seen.{seen_files}
use Rattle.designs.proofs.Carried.{carried_out_holds, refused_holds, delete_numbers, delete_accounts}
use Rattle.designs.proofs.delete.delete.Goals as goal

pub returns-in_err-ask_delete : goal.returns-in_err-ask_delete
returns-in_err-ask_delete c =
    let state : State = seen_files c.args.numbers.now c.args.accounts.now c.args.maps.now c.args.active.now in
    let event : Design = Design.Delete c.args.slot in
    let p = err_from_is_err_and c.from_residual.result c.from_residual.ensures.1 in
    let o = refused_holds c.args.sizes state event _ c.in_err-ask_delete.ensures in
    record {
      answer = rw (p.1, p.2) (λ i. (o i).answer);
      numbers = λ i. (o i).left.disk.numbers;
      accounts = λ i. (o i).left.disk.accounts;
    }

pub returns : goal.returns
returns c =
    let state : State = seen_files c.args.numbers.now c.args.accounts.now c.args.maps.now c.args.active.now in
    let event : Design = Design.Delete c.args.slot in
    let a = c.args in
    let o = carried_out_holds a.sizes state event c.in_ok-ask_delete.ensures in record {
      answer = λ i. (o i).answer;
      numbers = c.fill_slot.ensures.numbers ∙ delete_numbers a.sizes state a.slot ∙ (λ i. (o i).left.disk.numbers);
      accounts = c.fill_slot.ensures.accounts ∙ delete_accounts a.sizes state a.slot ∙ (λ i. (o i).left.disk.accounts);
    }
