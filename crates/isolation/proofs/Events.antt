-- An event, carried out or refused on both boards: answers, tables and ledgers stay alike.
use mathlib.Core.Path.{◌≡◌, refl, ap, sym, ◌∙◌, subst}
use mathlib.Core.Bool.{Bool}
use Prim.Native.Nat.{ℕ, zero, suc}
use native.Mathlib.Omega.{arith}
use lib.Dec.{T}
use borrow.Author.Tests.{ne_eqb}
use Rattle.tables.specs.Base.{if}
use Rattle.tables.specs.Questions.{Questions, Asked, ask, first_no}
use Rattle.tables.specs.Rule.{Holds}
use Rattle.model.specs.declared.sizes.Sizes.{Sizes}
use Rattle.model.specs.declared.event.Design.TheVariants.{Create, Delete, Activate, Deactivate}
use Rattle.model.specs.declared.event.Page.TheVariants.{Fault, Read, Write, Wire, Unwire}
use Rattle.model.specs.declared.event.Writeback.TheVariants.{Claim, Truncate, Update, PageDone, MapDone}
use Rattle.model.specs.declared.event.Waiting.TheVariants.{Join, Turn}
use Rattle.model.specs.declared.event.Event.{Event}
use Rattle.model.specs.declared.event.Event.TheVariants as Event
use Rattle.model.specs.State.{State, page_of, slot_of, charged}
use Rattle.model.specs.Rules.{all_rules}
use Rattle.model.specs.Laws.Ruled.{rules}
use Rattle.model.specs.Laws.Fit.{all_fit_holds}
use Rattle.model.specs.Laws.Index.{slot_of_page}
use Rattle.model.specs.Laws.Own.{first_yes}
use Rattle.model.specs.Questions.{Turning, nobody, serves, goes_back, faults, claims, sends_away, questions, turning, turn_questions}
use Rattle.model.specs.Pages.{fault_frame}
use Rattle.model.specs.Writeback.{looking, begins_write, record_in}
use Rattle.model.specs.Step.{outcome, all_fit, asked, answer, whole, result, step}
use Rattle.model.specs.Ledger as L
use Rattle.model.specs.Ledger.{Ledger, note}
use Rattle.model.specs.Acts.{World, fed, fed_turn, noted, act, allowed, event}
use Rattle.invariant.proofs.Kept.{asked_all}
use Rattle.crash.proofs.Steps.{Good}
use Rattle.crash.proofs.Demand3.{act_keeps}
use Rattle.isolation.specs.Words.{bare, like}
use Rattle.isolation.proofs.Reworded.{reworded_as, is_reworded, questions_same, carried_bare}
use Rattle.isolation.proofs.Copied.{whole_bare, write_whole}
use Rattle.isolation.proofs.Told.{told, ToldLike, same_like}
use Rattle.isolation.proofs.Ledgers.{created_like, deleted_like, faulted_like, wrote_like, claimed_like, truncated_like, page_end_like}
use Rattle.isolation.proofs.Landed.{map_end_like}
use Rattle.isolation.proofs.StandingAlong.{act_stands}
use Rattle.isolation.proofs.Alike.{Alike, taken_noted, begins_same}

-- once restarted, questions 1 and 2 say yes, and a call is answered by its own
pub own_questions : (z : Sizes) (w : World) (own : Questions) → T w.up → Good z w → first_no (asked z w.state own) ≡ first_no own
own_questions z w own u g = let st = w.state in first_yes 1 (all_fit z st) (ask 2 (all_rules z st) own) (all_fit_holds z st g.fit (g.copies u).fit) ∙ first_yes 2 (all_rules z st) own (rules z st (g.ruled u) (g.copies u).rules)

own_answer : (z : Sizes) (w : World) (e : Event) → T w.up → Good z w → answer z w.state e ≡ first_no (questions z w.state e)
unfolding answer
own_answer z w e u g = own_questions z w (questions z w.state e) u g

-- once restarted every event may come
up_allowed : (z : Sizes) (x : World) (d : Event) → T x.up → T (allowed z x (event d))
unfolding allowed
up_allowed z x d v = v

-- an outcome's refusal is the answer
pub refused : {A : Type 0} (n r : ℕ) (old new : A) → (outcome n r old new).answer.refusal ≡ n
refused zero r old new = refl
refused (suc n) r old new = refl

module _ (z : Sizes) (hidden : ℕ) (w w' : World) (a : Alike z hidden w w') (u : T w.up) where
  abbrev st : State
  st = w.state

  abbrev l : Ledger
  l = w.ledger

  abbrev l' : Ledger
  l' = w'.ledger

  -- the second board's state, as the first's with other words
  abbrev other : State
  other = reworded_as w'.state st

  is_other : w'.state ≡ other
  is_other = is_reworded st w'.state (a.tables u)

  abbrev Noted : L.Fed → L.Fed → Type 0
  Noted x y = ToldLike z hidden (told (note z l x)) (told (note z l' y))

  -- ── what the ledgers are fed ──
  claim_fed : Asked (questions z st (Event.Writeback Claim)) → Noted (fed z st (Event.Writeback Claim)) (fed z other (Event.Writeback Claim))
  unfolding fed looking
  claim_fed q = let f = (looking z st).taken in
      subst (λ (b : Bool). Noted (fed z st (Event.Writeback Claim)) (L.claimed f (if b (suc (record_in z st f)) 0))) (sym (begins_same z hidden w w' a u q))
      (claimed_like z hidden l l' a.ledger f (if (begins_write z st) (suc (record_in z st f)) 0) (taken_noted z hidden w w' a u q))

  fault_fed : (s p : ℕ) → Noted (fed z st (Event.Page (Fault s p))) (fed z other (Event.Page (Fault s p)))
  unfolding fed fault_frame
  fault_fed s p = faulted_like z hidden l l' a.ledger s p (fault_frame st)

  turned_fed : (t : Turning) → Asked (turn_questions z st t) → Noted (fed_turn z st t) (fed_turn z other t)
  unfolding fed note
  turned_fed nobody q = a.ledger
  turned_fed serves q = a.ledger
  turned_fed goes_back q = a.ledger
  turned_fed faults q = fault_fed _ _
  turned_fed claims q = claim_fed q
  turned_fed (sends_away n) q = a.ledger

  turn_fed : Asked (questions z st (Event.Waiting Turn)) → Noted (fed z st (Event.Waiting Turn)) (fed z other (Event.Waiting Turn))
  unfolding fed turning charged
  turn_fed q = turned_fed (turning z st) q

  event_fed : (e : Event) → Asked (questions z st e) → Noted (fed z st e) (fed z other e)
  unfolding fed note
  event_fed (Event.Design (Create s q n)) k = created_like z hidden l l' a.ledger s n
  event_fed (Event.Design (Delete s)) k = deleted_like z hidden l l' a.ledger s
  event_fed (Event.Design (Activate s)) k = a.ledger
  event_fed (Event.Design (Deactivate s)) k = a.ledger
  event_fed (Event.Account e) k = a.ledger
  event_fed (Event.Page (Fault s p)) k = fault_fed s p
  event_fed (Event.Page (Read s p w)) k = a.ledger
  event_fed (Event.Page (Write s p w x)) k = wrote_like z hidden l l' a.ledger s p w x x (same_like hidden (l.design (slot_of z (page_of z s p))) x)
  event_fed (Event.Page (Wire s p)) k = a.ledger
  event_fed (Event.Page (Unwire s p)) k = a.ledger
  event_fed (Event.Writeback Claim) k = claim_fed k
  event_fed (Event.Writeback (Truncate s n)) k = truncated_like z hidden l l' a.ledger s n
  event_fed (Event.Writeback (Update s)) k = a.ledger
  event_fed (Event.Writeback (PageDone f good)) k = page_end_like z hidden l l' a.ledger f good
  event_fed (Event.Writeback (MapDone s good)) k = map_end_like z hidden s good l l' a.ledger
  event_fed (Event.Waiting (Join s p)) k = a.ledger
  event_fed (Event.Waiting Turn) k = turn_fed k

  -- ── two events with the same questions, tables and notes ──
  pub record Paired (e e' : Event) : Type 0 where
    pub asks : questions z w'.state e' ≡ questions z st e
    pub tables : Asked (questions z st e) → bare (whole z st e) ≡ bare (whole z w'.state e')
    pub noted : Asked (questions z st e) → Noted (fed z st e) (fed z w'.state e')

  pub answer_same : (e e' : Event) → Paired e e' → answer z w'.state e' ≡ answer z st e
  answer_same e e' p = own_answer z w' e' (rw a.up at u) a.good' ∙ ap first_no p.asks ∙ sym (own_answer z w e u a.good)

  -- what an answer leaves
  abbrev after : World → Event → ℕ → World
  after x e n = let o = outcome n (result z x.state e) x.state (whole z x.state e) in record { up = x.up; state = o.left; ledger = noted z o (fed z x.state e) x.ledger }

  module _ (e e' : Event) (p : Paired e e') where
    tables_after : (n : ℕ) → answer z st e ≡ n → bare (after w e n).state ≡ bare (after w' e' n).state
    tables_after zero h = p.tables (asked_all z st e h).1.1
    tables_after (suc n) h = a.tables u

    told_after : (n : ℕ) → answer z st e ≡ n → ToldLike z hidden (told (after w e n).ledger) (told (after w' e' n).ledger)
    unfolding noted
    told_after zero h = p.noted (asked_all z st e h).1.1
    told_after (suc n) h = rw (ne_eqb (suc n) 0 (λ x. omega (arith, x))) a.ledger

    pub event_alike : Alike z hidden (act z w (event e)) (act z w' (event e'))
    unfolding act step
    event_alike = record {
      good = act_keeps z w (event e) (up_allowed z w e u) a.good;
      good' = act_keeps z w' (event e') (up_allowed z w' e' (rw a.up at u)) a.good';
      stands = act_stands z w (event e) (up_allowed z w e u) a.good a.stands;
      stands' = act_stands z w' (event e') (up_allowed z w' e' (rw a.up at u)) a.good' a.stands';
      chip = ((act_keeps z w (event e) (up_allowed z w e u) a.good).copies u).fit;
      chip' = ((act_keeps z w' (event e') (up_allowed z w' e' (rw a.up at u)) a.good').copies (rw a.up at u)).fit;
      up = a.up;
      disk = ap (λ (s : State). s.disk) t;
      tables = λ x. t;
      ledger = subst (λ (n : ℕ). ToldLike z hidden (told (after w e (answer z st e)).ledger) (told (after w' e' n).ledger)) (sym (answer_same e e' p)) (told_after (answer z st e) refl);
    }
      where
        t : bare (after w e (answer z st e)).state ≡ bare (after w' e' (answer z w'.state e')).state
        t = subst (λ (n : ℕ). bare (after w e (answer z st e)).state ≡ bare (after w' e' n).state) (sym (answer_same e e' p)) (tables_after (answer z st e) refl)

    -- the answers
    pub refusals_same : (step z st e).answer.refusal ≡ (step z w'.state e').answer.refusal
    unfolding step
    refusals_same = refused (answer z st e) _ _ _ ∙ sym (answer_same e e' p) ∙ sym (refused (answer z w'.state e') _ _ _)

    pub results_same : result z w'.state e' ≡ result z st e → (step z st e).answer.result ≡ (step z w'.state e').answer.result
    unfolding step
    results_same q = subst (λ (n : ℕ). (outcome (answer z st e) (result z st e) st (whole z st e)).answer.result ≡ (outcome n (result z w'.state e') w'.state (whole z w'.state e')).answer.result) (sym (answer_same e e' p)) (go (answer z st e))
      where
        go : (n : ℕ) → (outcome n (result z st e) st (whole z st e)).answer.result ≡ (outcome n (result z w'.state e') w'.state (whole z w'.state e')).answer.result
        go zero = sym q
        go (suc n) = refl

  -- ── the same event, and a write of another value ──
  pub both_paired : (e : Event) → Paired e e
  both_paired e = record {
    asks = ap (λ (s : State). questions z s e) is_other ∙ questions_same z st _ _ _ e;
    tables = λ q. subst (λ (s : State). bare (whole z st e) ≡ bare (whole z s e)) (sym is_other) (sym (whole_bare z st _ _ _ e (carried_bare z st _ _ _ e q (λ k. begins_same z hidden w w' a u k))).tables);
    noted = λ q. subst (λ (s : State). Noted (fed z st e) (fed z s e)) (sym is_other) (event_fed e q);
  }

  pub write_paired : (s p k x y : ℕ) → Holds (like hidden (l.design s) x y) → Paired (Event.Page (Write s p k x)) (Event.Page (Write s p k y))
  unfolding fed
  write_paired s p k x y v = record {
    asks = ap (λ (t : State). questions z t (Event.Page (Write s p k y))) is_other ∙ questions_same z st w'.state.disk.records w'.state.memory.core.words w'.state.memory.chip.words (Event.Page (Write s p k y));
    tables = λ q. subst (λ (t : State). bare (whole z st (Event.Page (Write s p k x))) ≡ bare (whole z t (Event.Page (Write s p k y)))) (sym is_other) (sym (write_whole z st _ _ _ s p k x y).tables);
    noted = λ q. wrote_like z hidden l l' a.ledger s p k x y (rw (slot_of_page z a.good.fit.sizes.pages s p q.0.1.0) v);
  }
