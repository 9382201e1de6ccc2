-- `move_pages` meets its contract: 3 and 25; what would be, beside the tables; 26; the stores.
use mathlib.Core.Path.{◌≡◌, refl, ap, sym, ◌∙◌}
use mathlib.Core.List.{List, []}
use Prim.Native.Nat.{ℕ, ◌≤◌}
use native.Mathlib.Omega.{arith}
use lib.ListN.{length, take, replicate, length-replicate}
use Rattle.tables.specs.Base.{at, tab}
use Rattle.tables.specs.Laws.{at_tab0, at_zeros}
use Rattle.tables.specs.Questions.{Asked, yes_all, all_yes}
use Rattle.tables.specs.Rule.{Rule, test}
use Rattle.tables.specs.Turn.{learn, unlearn}
use Rattle.model.specs.declared.event.Account.TheVariants.{Move}
use Rattle.model.specs.declared.event.Event.TheVariants as Event
use Rattle.model.specs.declared.frame.Frame.{Frame}
use Rattle.model.specs.declared.sizes.Sizes.{Sizes}
use Rattle.model.specs.State.{State}
use Rattle.model.specs.Accounts.{shifted}
use Rattle.model.specs.Accounts as Accounts
use Rattle.model.specs.Setters.{counted}
use Rattle.std.proofs.lemmas.Result.{err_from_is_err_and}
use Rattle.model.specs.Refusals.{number, number_above}
use Rattle.model.specs.Laws.Own.{first_yes, first_no_holds}
use Rattle.model.specs.Laws.OwnLaws.{own_no}
use Rattle.leaves.specs.Packed.{unpacked}
use Rattle.accounts.specs.Seen.{seen}
use Rattle.accounts.specs.Promises.{Counts, Ready}
use Rattle.accounts.specs.Asks.{first_asked, enough}
use Rattle.accounts.proofs.Carried.{carried_out_holds, move_limits, move_used, used_then, used_told, used_alike, at_shifted, back, first_refused, enough_alike}
use Rattle.accounts.proofs.shift.move_pages.Goals as goal

module _ (z : Sizes) (fs : List Frame) (accounts maps limits parents addresses states active used : List ℕ) (giver taker pages : ℕ) where
  abbrev state : State
  state = seen fs accounts maps limits parents addresses states active used

  -- question 26
  abbrev after : State
  after = Accounts.move z state giver taker pages

  abbrev lasting : Rule
  lasting = enough z.accounts (at limits) (at used) (at after.disk.limits) (at after.memory.used)

  -- 3 and 25 said yes; the limits and counts that there would be
  module _ (ready : Ready z fs accounts maps limits addresses states active used) (allowed : Asked (first_asked z.accounts (at limits) (at parents) giver taker pages))
      (n : ℕ) (room : 16 ≤ n) (wanted totals : List ℕ) (shifting : wanted ≡ shifted (tab n (at limits) 0) giver taker pages) (counting : Counts z (seen fs accounts maps wanted parents addresses states active []) totals) where
    few : z.accounts ≤ 16
    few = omega (arith, ready.countable.within.accounts_most)

    wanted-at : (i : ℕ) → at wanted i ≡ at (shifted limits giver taker pages) i
    wanted-at i = ap (λ (l : List ℕ). at l i) shifting
        ∙ at_shifted limits n (omega (arith, ready.limits_long, few, room)) giver taker pages (omega (arith, allowed.0.0, ready.limits_long)) (omega (arith, allowed.0.1, ready.limits_long)) i

    -- the counts are those that the move leaves
    counted-so : tab (length used) (at totals) 0 ≡ used_then z state (shifted limits giver taker pages)
    counted-so = used_told z fs accounts maps limits parents addresses states active used wanted totals ready.used_long few counting
        ∙ used_alike z fs accounts maps limits parents addresses states active used wanted (shifted limits giver taker pages) wanted-at

    asked-so : test (enough z.accounts (at limits) (at used) (at wanted) (at totals)) ≡ test lasting
    unfolding Accounts.move counted
    asked-so = enough_alike z.accounts (at limits) (at used) (at wanted) (at totals) (at after.disk.limits) (at after.memory.used) (λ x h. wanted-at x)
        (λ x h. sym (at_tab0 (length used) (at totals) x 0 (omega (arith, h, ready.used_long))) ∙ ap (λ (l : List ℕ). at l x) counted-so)

    -- copied back, they are the shifted limits
    back-so : tab (length limits) (at wanted) 0 ≡ shifted limits giver taker pages
    back-so = (λ x. tab (length limits) (at (shifting x)) 0)
        ∙ back limits n (omega (arith, ready.limits_long, few, room)) giver taker pages (omega (arith, allowed.0.0, ready.limits_long)) (omega (arith, allowed.0.1, ready.limits_long))

pub returns-in_err-ask_move : goal.returns-in_err-ask_move
returns-in_err-ask_move c =
    let a = c.args in let z = a.sizes in
    let p = err_from_is_err_and c.from_residual.result c.from_residual.ensures.1 in
    let st = state z (take z.frames (unpacked a.frames.now)) a.accounts.now a.maps.now a.limits.now a.parents.now a.addresses.now a.states.now a.active.now a.used.now a.giver a.taker a.pages in
    let e = c.in_err-ask_move.field-0.0 in
    let above = number_above e in
    let asked = c.in_err-ask_move.ensures in
    let o = own_no z st (Event.Account (Move a.giver a.taker a.pages)) (number e) (asked ∙ first_refused _ _ _ (λ x. omega (arith, above, asked, x))) (λ x. omega (arith, above, x)) in
    rw (p.1, p.2) (record {
      answer = λ i. (o i).answer;
      limits = λ i. (o i).left.disk.limits;
      used = λ i. (o i).left.memory.used;
    })

pub shift_limits-requires : goal.shift_limits-requires
shift_limits-requires c =
    let r = c.requires in
    let allowed : (let a = c.args in Asked (first_asked a.sizes.accounts (at a.limits.now) (at a.parents.now) a.giver a.taker a.pages)) =
    all_yes 2 _ tt (sym c.in_ok-ask_move.ensures) in
    (omega (arith, r.limits_long, r.countable.within.accounts_most, length-replicate {A = ℕ} 16 0), omega (arith, allowed.1.0.1.1.0), allowed.1.0.1.1.1)

pub count_used-requires : goal.count_used-requires
count_used-requires c = (c.requires.countable, length-replicate {A = ℕ} 16 0, λ q h. at_zeros 16 q)

pub within-requires : goal.within-requires
within-requires c =
    let r = c.requires in let few = r.countable.within.accounts_most in (
      omega (arith, r.limits_long),
      omega (arith, r.used_long),
      omega (arith, few, c.shift_limits.auto.wanted, length-replicate {A = ℕ} 16 0),
      omega (arith, few, c.count_used.auto.totals, length-replicate {A = ℕ} 16 0),
    )

pub returns-then-not-within : goal.returns-then-not-within
returns-then-not-within c =
    let a = c.args in let z = a.sizes in
    let allowed : (Asked (first_asked z.accounts (at a.limits.now) (at a.parents.now) a.giver a.taker a.pages)) = all_yes 2 _ tt (sym c.in_ok-ask_move.ensures) in
    let st = state z (take z.frames (unpacked a.frames.now)) a.accounts.now a.maps.now a.limits.now a.parents.now a.addresses.now a.states.now a.active.now a.used.now a.giver a.taker a.pages in
    let last = lasting z (take z.frames (unpacked a.frames.now)) a.accounts.now a.maps.now a.limits.now a.parents.now a.addresses.now a.states.now a.active.now a.used.now a.giver a.taker a.pages in
    let so = asked-so z (take z.frames (unpacked a.frames.now)) a.accounts.now a.maps.now a.limits.now a.parents.now a.addresses.now a.states.now a.active.now a.used.now a.giver a.taker a.pages
    c.requires allowed _ (omega (arith, length-replicate {A = ℕ} 16 0)) c.shift_limits.new.wanted c.count_used.new.totals c.shift_limits.ensures c.count_used.ensures in
    let q = first_yes 3 _ _ allowed.0 ∙ first_yes 25 _ _ allowed.1.0 ∙ first_no_holds 26 last _ (unlearn last (sym c.if-not-within.true ∙ c.within.ensures ∙ so)) in
    let o = own_no z st (Event.Account (Move a.giver a.taker a.pages)) 26 (sym q) (omega arith) in record {
      answer = λ i. (o i).answer;
      limits = λ i. (o i).left.disk.limits;
      used = λ i. (o i).left.memory.used;
    }

pub put_counts-requires : goal.put_counts-requires
put_counts-requires c =
    let r = c.requires in let few = r.countable.within.accounts_most in
    (omega (arith, r.used_long, few, c.count_used.auto.totals, length-replicate {A = ℕ} 16 0), λ q h. (c.count_used.ensures q (omega (arith, h, r.used_long, few))).1)

pub returns : goal.returns
returns c =
    let a = c.args in let z = a.sizes in
    let allowed : (Asked (first_asked z.accounts (at a.limits.now) (at a.parents.now) a.giver a.taker a.pages)) = all_yes 2 _ tt (sym c.in_ok-ask_move.ensures) in
    let room : 16 ≤ length (replicate {A = ℕ} 16 0) = omega (arith, length-replicate {A = ℕ} 16 0) in
    let st = state z (take z.frames (unpacked a.frames.now)) a.accounts.now a.maps.now a.limits.now a.parents.now a.addresses.now a.states.now a.active.now a.used.now a.giver a.taker a.pages in
    let last = lasting z (take z.frames (unpacked a.frames.now)) a.accounts.now a.maps.now a.limits.now a.parents.now a.addresses.now a.states.now a.active.now a.used.now a.giver a.taker a.pages in
    let so = asked-so z (take z.frames (unpacked a.frames.now)) a.accounts.now a.maps.now a.limits.now a.parents.now a.addresses.now a.states.now a.active.now a.used.now a.giver a.taker a.pages
    c.requires allowed _ room c.shift_limits.new.wanted c.count_used.new.totals c.shift_limits.ensures c.count_used.ensures in
    let put = counted-so z (take z.frames (unpacked a.frames.now)) a.accounts.now a.maps.now a.limits.now a.parents.now a.addresses.now a.states.now a.active.now a.used.now a.giver a.taker a.pages
    c.requires allowed _ room c.shift_limits.new.wanted c.count_used.new.totals c.shift_limits.ensures c.count_used.ensures in
    let copied = back-so z (take z.frames (unpacked a.frames.now)) a.accounts.now a.maps.now a.limits.now a.parents.now a.addresses.now a.states.now a.active.now a.used.now a.giver a.taker a.pages
    c.requires allowed _ room c.shift_limits.new.wanted c.count_used.new.totals c.shift_limits.ensures c.count_used.ensures in
    let o = carried_out_holds z st (Move a.giver a.taker a.pages) 0 (sym (yes_all _ (allowed.0, (allowed.1.0, (learn last (sym c.if-not-within.false ∙ c.within.ensures ∙ so), tt))))) refl in record {
      answer = λ i. (o i).answer;
      limits = c.copy16.ensures ∙ copied ∙ move_limits z st a.giver a.taker a.pages ∙ (λ i. (o i).left.disk.limits);
      used = c.put_counts.ensures ∙ put ∙ move_used z st a.giver a.taker a.pages ∙ (λ i. (o i).left.memory.used);
    }
