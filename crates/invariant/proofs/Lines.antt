-- "A record moves only along these eleven lines": every event leaves each record's state alone or moves it along one of them, and an import along the twelfth, over every list of acts.
use mathlib.Core.Path.{◌≡◌, refl, ap, sym, ◌∙◌}
use mathlib.Core.List.{List, [], ◌∷◌, ◌++◌}
use mathlib.Core.Logic.{inl}
use Prim.Native.Nat.{ℕ, zero, suc, ◌<◌}
use native.Mathlib.Omega.{arith}
use lib.Dec.{T}
use lib.ListN.{length, get_or}
use Rattle.tables.specs.Questions.{Asked}
use Rattle.tables.specs.Rule.{Holds, sound, complete}
use Rattle.model.specs.declared.sizes.Sizes.{Sizes}
use Rattle.model.specs.declared.event.Waiting.TheVariants.{Join, Turn}
use Rattle.model.specs.declared.event.Event.{Event}
use Rattle.model.specs.declared.event.Event.TheVariants as Event
use Rattle.model.specs.declared.event.Design.TheVariants.{Create, Delete, Activate, Deactivate}
use Rattle.model.specs.declared.event.Account.TheVariants.{Limit, Move}
use Rattle.model.specs.declared.event.Page.TheVariants.{Fault, Read, Write, Wire, Unwire}
use Rattle.model.specs.declared.event.Writeback.TheVariants.{Claim, Truncate, Update, PageDone, MapDone}
use Rattle.model.specs.Lines.{RELEASED, LEAVING, Line, line, eleven, twelfth, led_by, led, allowed, by_event, by_import}
use Rattle.model.specs.State.{State, files}
use Rattle.model.specs.Setters.{counted}
use Rattle.model.specs.Questions.{questions}
use Rattle.model.specs.Laws.Ruled.{Ruled, ruled}
use Rattle.model.specs.Laws.Fit.{Fit, fit}
use Rattle.model.specs.Designs
use Rattle.model.specs.Accounts
use Rattle.model.specs.Pages
use Rattle.model.specs.Line
use Rattle.model.specs.Step.{outcome, answer, carried, result, step, supplied, whole}
use Rattle.model.specs.Acts.{Act, event, looking, importing, exporting, restarting, cutting, cutting_in, World, act}
use Rattle.model.specs.Terms.{MovedBy, Moves, AllMove}
use Rattle.invariant.proofs.Kept.{asked_all}
use Rattle.invariant.proofs.Imported.{import_moves}
use Rattle.invariant.proofs.LineKept.{by_turn}
use Rattle.invariant.proofs.RecordsTurned.{turned_moves, activate_turned, deactivate_turned}
use Rattle.invariant.proofs.RecordsPaged.{fault_done, claim_done, page_done_done}
use Rattle.invariant.proofs.RecordsDropped.{dropped_moves, truncate_dropped, update_dropped}
use Rattle.invariant.proofs.RecordsStored.{map_done_done}

-- ── the code's table has the eleven and the twelfth ──
front : (xs ys : List Line) (k : ℕ) → k < length xs → get_or (xs ++ ys) k (line 0 0) ≡ get_or xs k (line 0 0)
front [] ys k h = absurd (omega (arith, h))
front (x ∷ xs) ys zero h = refl
front (x ∷ xs) ys (suc k) h = front xs ys k (omega (arith, h))

pub event_allowed : (a b : ℕ) → T (by_event a b) → T (allowed a b)
unfolding by_event allowed
event_allowed a b t =
    let k = sound (led_by eleven a b) t in
    let e = front eleven (twelfth ∷ []) k.0 k.1 in
    complete (led a b) (k.0, omega (arith, k.1), (k.2.0 ∙ ap (λ (l : Line). l.from) (sym e), k.2.1 ∙ ap (λ (l : Line). l.to) (sym e)))

pub import_allowed : (a b : ℕ) → T (by_import a b) → T (allowed a b)
unfolding by_import allowed
import_allowed a b t = one_line (sound (led_by (twelfth ∷ []) a b) t)
  where
    one_line : Holds (led_by (twelfth ∷ []) a b) → T (allowed a b)
    one_line (zero, h, e) = complete (led a b) (11, omega arith, e)
    one_line (suc k, h, e) = absurd (omega (arith, h))

-- ── an event that is carried out ──
pub along : (z : Sizes) (st : State) (e : Event) → Fit z st → Ruled z st → Asked (questions z st e) → MovedBy by_event z st (carried z st e)
unfolding carried counted Accounts.limit Accounts.move Designs.create Designs.delete Pages.read Pages.write Pages.wire Pages.unwire Line.join
along z st (Event.Design (Create s q n)) f k a = λ r h. inl refl
along z st (Event.Design (Delete s)) f k a = λ r h. inl refl
along z st (Event.Design (Activate s)) f k a = turned_moves z f.sizes.pages s _ _ _ _ (files st) k.disk k.records _ _ _ (activate_turned z st f k s a)
along z st (Event.Design (Deactivate s)) f k a = turned_moves z f.sizes.pages s _ _ _ _ (files st) k.disk k.records _ _ _ (deactivate_turned z st f k s a)
along z st (Event.Account (Limit q n)) f k a = λ r h. inl refl
along z st (Event.Account (Move g t m)) f k a = λ r h. inl refl
along z st (Event.Page (Fault s p)) f k a = (fault_done z st f k s p a).1
along z st (Event.Page (Read s p w)) f k a = λ r h. inl refl
along z st (Event.Page (Write s p w x)) f k a = λ r h. inl refl
along z st (Event.Page (Wire s p)) f k a = λ r h. inl refl
along z st (Event.Page (Unwire s p)) f k a = λ r h. inl refl
along z st (Event.Writeback Claim) f k a = (claim_done z st f k).1
along z st (Event.Writeback (Truncate s n)) f k a = dropped_moves z f.sizes.pages s RELEASED _ _ (files st) k.disk k.records _ _ _ _ (truncate_dropped z st f k s a.1.1.0 n)
along z st (Event.Writeback (Update s)) f k a = dropped_moves z f.sizes.pages s LEAVING _ _ (files st) k.disk k.records _ _ _ _ (update_dropped z st f k s a.1.1.0 a.0)
along z st (Event.Writeback (PageDone g good)) f k a = (page_done_done z st f k g good a).1
along z st (Event.Writeback (MapDone s good)) f k a = (map_done_done z st f k s good a).1
along z st (Event.Waiting (Join s p)) f k a = λ r h. inl refl
along z st (Event.Waiting Turn) f k a = by_turn z st f k (MovedBy by_event z st) (λ l h r b. inl refl) (λ q. (fault_done z st f k _ _ q).1) (λ q. (claim_done z st f k).1) a

-- ── over lists ──
module _ (z : Sizes) where
  event_moves : (st : State) (e : Event) → MovedBy by_event z st (step z st e).left
  unfolding step whole supplied
  event_moves st e = go (answer z st e) refl
    where
      go : (n : ℕ) → answer z st e ≡ n → MovedBy by_event z st (outcome n (result z st e) st (whole z st e)).left
      go zero h = let a = asked_all z st e h in along z st e (fit z st a.0) (ruled z st a.1.0) a.1.1
      go (suc n) h = λ r b. inl refl

  act_moves : (w : World) (a : Act) → Moves z w a
  unfolding act
  act_moves w (event e) = event_moves w.state e
  act_moves w (looking s p) = refl
  act_moves w (importing s q n b) = import_moves z w.state s q n b
  act_moves w (exporting s buffer) = refl
  act_moves w restarting = tt
  act_moves w (cutting writes updates junk) = tt
  act_moves w (cutting_in c k writes updates junk) = tt

  -- every list of acts, from any world: an act that is carried out has passed questions 1 and 2
  pub along_list : (acts : List Act) (w : World) → AllMove z w acts
  along_list [] w = tt
  along_list (a ∷ acts) w = (act_moves w a, along_list acts (act z w a))
