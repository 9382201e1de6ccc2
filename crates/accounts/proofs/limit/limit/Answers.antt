-- `limit` meets its contract: the range, one store, and the counts where who pays may be another.
use mathlib.Core.Path.{◌≡◌, refl, sym, ◌∙◌}
use Prim.Native.Nat.{ℕ}
use native.Mathlib.Omega.{arith}
use lib.ListN.{take, length-replicate}
use Rattle.tables.specs.Base.{at}
use Rattle.tables.specs.Laws.{at_zeros}
use Rattle.tables.specs.Questions.{yes_all}
use Rattle.tables.specs.Rule.{Rule, Holds, below, ◌and◌, test}
use Rattle.tables.specs.Turn.{learn, unlearn, said_yes}
use Rattle.model.specs.declared.event.Account.{Account}
use Rattle.model.specs.declared.event.Account.TheVariants.{Limit}
use Rattle.model.specs.declared.event.Event.TheVariants as Event
use Rattle.model.specs.State.{State}
use Rattle.model.specs.Laws.Own.{first_no_holds}
use Rattle.model.specs.Laws.OwnLaws.{own_no}
use Rattle.leaves.specs.Packed.{unpacked}
use Rattle.accounts.specs.Seen.{seen}
use Rattle.accounts.specs.Asks.{stays_payer}
use Rattle.accounts.proofs.Carried.{carried_out_holds, limit_limits, limit_used, used_then, used_told}
use Rattle.accounts.proofs.Stays.{used_stays}
use Rattle.accounts.proofs.limit.limit.Goals as goal

pub returns-then-not-in_range : goal.returns-then-not-in_range
unfolding test
returns-then-not-in_range c =
    let state : State = let a = c.args in seen (take a.sizes.frames (unpacked a.frames.now)) a.accounts.now a.maps.now a.limits.now a.parents.now a.addresses.now a.states.now a.active.now a.used.now in
    let event : Account = Limit c.args.account c.args.pages in
    let range : Rule = below c.args.account c.args.sizes.accounts and below c.args.pages 65536 in
    let o = own_no c.args.sizes state (Event.Account event) 3 (sym (first_no_holds 3 range _ (unlearn range (sym c.if-not-in_range.true)))) (omega arith) in
    record {
      answer = λ i. (o i).answer;
      limits = λ i. (o i).left.disk.limits;
      used = λ i. (o i).left.memory.used;
    }

pub overflow_cast-pages : goal.overflow_cast-pages
unfolding test
overflow_cast-pages c =
    let range : Rule = below c.args.account c.args.sizes.accounts and below c.args.pages 65536 in
    let inside : Holds range = learn range (sym c.if-not-in_range.false) in
    omega (arith, inside.1)

pub returns-then-stays : goal.returns-then-stays
unfolding test
returns-then-stays c =
    let state : State = let a = c.args in seen (take a.sizes.frames (unpacked a.frames.now)) a.accounts.now a.maps.now a.limits.now a.parents.now a.addresses.now a.states.now a.active.now a.used.now in
    let event : Account = Limit c.args.account c.args.pages in
    let range : Rule = below c.args.account c.args.sizes.accounts and below c.args.pages 65536 in
    let inside : Holds range = learn range (sym c.if-not-in_range.false) in
    let asked : Rule = let a = c.args in stays_payer a.account (at a.limits.now a.account) a.pages in
    let asked-so : (c.stays_payer-stays.result ≡ test asked) =
    c.stays_payer-stays.ensures ∙ (λ x. test (stays_payer c.args.account ((c.from.ensures ∙ c.at.ensures) x) c.args.pages)) in
    let a = c.args in let z = a.sizes in
    let o = carried_out_holds z state event 0 (sym (yes_all _ (inside, tt))) refl in record {
      answer = λ i. (o i).answer;
      limits = c.put.ensures ∙ limit_limits z state a.account a.pages ∙ (λ i. (o i).left.disk.limits);
      used = used_stays a.limits.now a.account a.pages (omega (arith, inside.0, c.requires.ready.limits_long)) (said_yes asked asked-so c.if-stays.true) z (take z.frames (unpacked a.frames.now)) a.accounts.now
          a.maps.now a.parents.now a.addresses.now a.states.now a.active.now a.used.now c.requires.ready.used_long c.requires.counted
          ∙ limit_used z state a.account a.pages ∙ (λ i. (o i).left.memory.used);
    }

pub count_used-requires : goal.count_used-requires
count_used-requires c =
    (c.requires.ready.countable, length-replicate {A = ℕ} 16 0, λ q h. at_zeros 16 q)

pub put_counts-requires : goal.put_counts-requires
put_counts-requires c =
    (omega (arith, c.requires.ready.used_long, c.requires.ready.countable.within.accounts_most, c.count_used.auto.totals), λ q h. (c.count_used.ensures q (omega (arith, h, c.requires.ready.used_long, c.requires.ready.countable.within.accounts_most))).1)

pub returns : goal.returns
unfolding test
returns c =
    let state : State = let a = c.args in seen (take a.sizes.frames (unpacked a.frames.now)) a.accounts.now a.maps.now a.limits.now a.parents.now a.addresses.now a.states.now a.active.now a.used.now in
    let event : Account = Limit c.args.account c.args.pages in
    let range : Rule = below c.args.account c.args.sizes.accounts and below c.args.pages 65536 in
    let inside : Holds range = learn range (sym c.if-not-in_range.false) in
    let a = c.args in let z = a.sizes in
    let o = carried_out_holds z state event 0 (sym (yes_all _ (inside, tt))) refl in record {
      answer = λ i. (o i).answer;
      limits = c.put.ensures ∙ limit_limits z state a.account a.pages ∙ (λ i. (o i).left.disk.limits);
      used = c.put_counts.ensures
          ∙ used_told z (take z.frames (unpacked a.frames.now)) a.accounts.now a.maps.now a.limits.now a.parents.now a.addresses.now a.states.now a.active.now a.used.now c.put.new.s c.count_used.new.totals c.requires.ready.used_long
          (omega (arith, c.requires.ready.countable.within.accounts_most)) c.count_used.ensures
          ∙ (λ x. used_then z state (c.put.ensures x)) ∙ limit_used z state a.account a.pages ∙ (λ i. (o i).left.memory.used);
    }
