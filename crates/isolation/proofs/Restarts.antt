-- A restart of both boards is carried out, and leaves them alike.
use mathlib.Core.Path.{◌≡◌, refl, ap, sym, ◌∙◌, subst, subst₂}
use mathlib.Core.Bool.{true}
use Prim.Native.Nat.{ℕ, zero, suc, max}
use lib.Dec.{T, eqb, ltb}
use Rattle.tables.specs.Base.{at, if}
use Rattle.tables.specs.Questions.{first_no, ask, none}
use Rattle.model.specs.declared.sizes.Sizes.{Sizes}
use Rattle.model.specs.declared.event.Answer.{Answer}
use Rattle.model.specs.State.{Disk, State}
use Rattle.model.specs.Setters.{raise, counted}
use Rattle.model.specs.Rules.{disk_rules}
use Rattle.model.specs.Laws.Ruled as R
use Rattle.model.specs.Laws.Fit.{ChipFit, all_fit_holds}
use Rattle.model.specs.Restart.{restarted, raised, highest_of, is_listed, listed_at}
use Rattle.model.specs.Step.{outcome, all_fit, restart}
use Rattle.model.specs.Ledger as L
use Rattle.model.specs.Ledger.{note}
use Rattle.model.specs.Acts.{restarting, World, noted, act, allowed}
use Rattle.invariant.proofs.Kept.{restart_answer}
use Rattle.invariant.proofs.ChipKept.{restarted_chip}
use Rattle.crash.proofs.Steps.{Good}
use Rattle.crash.proofs.Demand3.{act_keeps}
use Rattle.isolation.specs.Words.{bare_disk, bare}
use Rattle.isolation.specs.Answers.{Answers}
use Rattle.isolation.proofs.Ledgers.{restarted_like}
use Rattle.isolation.proofs.Standing.{Stands}
use Rattle.isolation.proofs.StandingAlong.{act_stands}
use Rattle.isolation.proofs.Alike.{Alike, found_like}

restart_yes : (z : Sizes) (w : World) → Good z w → ChipFit z w.state.memory.chip → first_no (ask 1 (all_fit z w.state) (ask 2 (disk_rules z w.state) none)) ≡ 0
restart_yes z w g k = restart_answer z w.state (all_fit_holds z w.state g.fit k) (R.rules_disk z w.state g.rules)

-- the highest number that it stores, and what it leaves, look at no word of the disk
highest_same : (d d' : Disk) → bare_disk d ≡ bare_disk d' → (n : ℕ) → highest_of d n ≡ highest_of d' n
unfolding highest_of
highest_same d d' e zero = ap (λ (x : Disk). at x.highest 0) e
highest_same d d' e (suc s) = λ x. max (highest_same d d' e s x) (if (ltb (at (e x).numbers s) 2147483648) (at (e x).numbers s) 0)

raised_bare : (z : Sizes) (d d' : Disk) → bare_disk d ≡ bare_disk d' → bare_disk (raised z d) ≡ bare_disk (raised z d')
unfolding raised
raised_bare z d d' e = λ x. raise (highest_same d d' e z.slots x) (e x)

restarted_bare : (z : Sizes) (d d' : Disk) → bare_disk d ≡ bare_disk d' → bare (restarted z d) ≡ bare (restarted z d')
unfolding restarted counted is_listed listed_at
restarted_bare z d d' e = ap (λ (x : Disk). bare (restarted z x)) e

abbrev restarted_world : Sizes → World → World
restarted_world z w = record { up = true; state = restarted z (raised z w.state.disk); ledger = note z w.ledger (L.restarted w.state.disk) }

restart_act : (z : Sizes) (w : World) → Good z w → ChipFit z w.state.memory.chip → act z w restarting ≡ restarted_world z w
unfolding act restart noted
restart_act z w g k =
    ap (λ (n : ℕ). let o = outcome n 0 w.state (restarted z (raised z w.state.disk)) in record { up = if (eqb o.answer.refusal 0) true w.up; state = o.left; ledger = noted z o (L.restarted w.state.disk) w.ledger }) (restart_yes z w g k)

anytime : (z : Sizes) (w : World) → T (allowed z w restarting)
unfolding allowed
anytime z w = tt

pub restart_alike : (z : Sizes) (hidden : ℕ) (w w' : World) → Alike z hidden w w' → Alike z hidden (act z w restarting) (act z w' restarting)
restart_alike z hidden w w' a =
    let e = restart_act z w a.good a.chip in let e' = restart_act z w' a.good' a.chip' in let t = restarted_bare z (raised z w.state.disk) (raised z w'.state.disk) (raised_bare z w.state.disk w'.state.disk a.disk) in
    subst₂ (λ (x y : World). Alike z hidden x y) (sym e) (sym e') (record {
      good = subst (λ (x : World). Good z x) e (act_keeps z w restarting (anytime z w) a.good);
      good' = subst (λ (x : World). Good z x) e' (act_keeps z w' restarting (anytime z w') a.good');
      stands = subst (λ (x : World). Stands z x) e (act_stands z w restarting (anytime z w) a.good a.stands);
      stands' = subst (λ (x : World). Stands z x) e' (act_stands z w' restarting (anytime z w') a.good' a.stands');
      chip = (restarted_chip z (raised z w.state.disk) a.good.fit.sizes).fit;
      chip' = (restarted_chip z (raised z w'.state.disk) a.good'.fit.sizes).fit;
      up = refl;
      disk = ap (λ (s : State). s.disk) t;
      tables = λ u. t;
      ledger = restarted_like z hidden w.ledger w'.ledger a.ledger w.state.disk w'.state.disk (found_like z hidden w w' a);
    })

restart_said : (z : Sizes) (w : World) → Good z w → ChipFit z w.state.memory.chip → (restart z w.state).answer ≡ record { refusal = 0; result = 0 }
unfolding restart
restart_said z w g k = ap (λ (n : ℕ). (outcome n 0 w.state (restarted z (raised z w.state.disk))).answer) (restart_yes z w g k)

pub restart_answers : (z : Sizes) (hidden : ℕ) (w w' : World) → Alike z hidden w w' → Answers z hidden w w' restarting restarting
restart_answers z hidden w w' a =
    let e = restart_said z w a.good a.chip ∙ sym (restart_said z w' a.good' a.chip') in
    record { refusal = ap (λ (x : Answer). x.refusal) e; result = ap (λ (x : Answer). x.result) e; handed = tt }
