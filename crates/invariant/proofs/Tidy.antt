-- Over every legal list of acts from a pack that keeps the disk rules, so from a finished format, once restarted: a free record is of slot 0, and a released one of an active slot. No rule asks it.
use mathlib.Core.Path.{◌≡◌, refl, sym, ◌∙◌}
use mathlib.Core.Logic.{inl, inr}
use mathlib.Core.List.{List, [], ◌∷◌}
use Prim.Native.Nat.{ℕ, zero, suc}
use native.Mathlib.Omega.{arith}
use lib.Dec.{T}
use Rattle.tables.specs.Base.{at}
use Rattle.tables.specs.Laws.{and_left, and_right}
use Rattle.tables.specs.Questions.{Asked}
use Rattle.tables.specs.Rule.{Holds}
use Rattle.model.specs.declared.sizes.Sizes.{Sizes}
use Rattle.model.specs.declared.event.Waiting.TheVariants.{Join, Turn}
use Rattle.model.specs.declared.event.Event.{Event}
use Rattle.model.specs.declared.event.Event.TheVariants as Event
use Rattle.model.specs.declared.event.Design.TheVariants.{Create, Delete, Activate, Deactivate}
use Rattle.model.specs.declared.event.Account.TheVariants.{Limit, Move}
use Rattle.model.specs.declared.event.Page.TheVariants.{Fault, Read, Write, Wire, Unwire}
use Rattle.model.specs.declared.event.Writeback.TheVariants.{Claim, Truncate, Update, PageDone, MapDone}
use Rattle.model.specs.Lines.{RELEASED, LEAVING}
use Rattle.model.specs.Sizes.{sizes_fit}
use Rattle.model.specs.State.{Disk, Memory, State, files}
use Rattle.model.specs.Rules.{lower, disk_rules}
use Rattle.model.specs.Setters.{on_disk, raise, counted}
use Rattle.model.specs.Questions.{questions}
use Rattle.model.specs.Laws.Ruled.{OnDisk, Ruled, ruled, disk_ruled}
use Rattle.model.specs.Laws.Fit.{Fit, Within, within, fit}
use Rattle.model.specs.Designs
use Rattle.model.specs.Accounts
use Rattle.model.specs.Pages
use Rattle.model.specs.Writeback
use Rattle.model.specs.Line
use Rattle.model.specs.Restart as R
use Rattle.model.specs.Step.{outcome, disk_lengths, memory_lengths, answer, carried, supplied, whole, result, step, restart}
use Rattle.model.specs.Acts.{Act, event, looking, importing, exporting, restarting, cutting, cutting_in, World, act, allowed, legal, run, start}
use Rattle.model.specs.Terms.{tidy}
use Rattle.invariant.proofs.LineKept.{by_turn}
use Rattle.invariant.proofs.Records.{Tidied}
use Rattle.invariant.proofs.RecordsTurned.{turned_tidy, activate_turned, deactivate_turned}
use Rattle.invariant.proofs.RecordsPaged.{fault_done, claim_done, page_done_done}
use Rattle.invariant.proofs.RecordsDropped.{dropped_tidy, truncate_dropped, update_dropped}
use Rattle.invariant.proofs.RecordsStored.{map_done_done}
use Rattle.invariant.proofs.RestartedRecords.{sorted}
use Rattle.invariant.proofs.Kept.{asked_all, restart_answer}
use Rattle.invariant.proofs.Imported.{import_tidy}
use Rattle.invariant.proofs.Never.{Safe, safe_fit, one, start_safe, format_safe}

-- every event that is carried out keeps it
tidies : (z : Sizes) (st : State) (e : Event) → Fit z st → Ruled z st → Asked (questions z st e) → Tidied z st → Tidied z (carried z st e)
unfolding carried counted Accounts.limit Accounts.move Designs.create Designs.delete Designs.activate Designs.deactivate Pages.read Pages.write Pages.wire Pages.unwire Writeback.truncate Writeback.update Line.join
tidies z st (Event.Design (Create s q n)) f k a = λ t. t
tidies z st (Event.Design (Delete s)) f k a = λ t. t
tidies z st (Event.Design (Activate s)) f k a =
    turned_tidy z f.sizes.pages s _ _ _ _ (files st) k.disk k.records _ _ _ (activate_turned z st f k s a) (λ w. absurd (omega (arith, w.switch)))
tidies z st (Event.Design (Deactivate s)) f k a =
    turned_tidy z f.sizes.pages s _ _ _ _ (files st) k.disk k.records _ _ _ (deactivate_turned z st f k s a) (λ w r h o e. a.1.1.1.1.1.0.1 r h o (inr e))
tidies z st (Event.Account (Limit q n)) f k a = λ t. t
tidies z st (Event.Account (Move g t m)) f k a = λ x. x
tidies z st (Event.Page (Fault s p)) f k a = (fault_done z st f k s p a).2
tidies z st (Event.Page (Read s p w)) f k a = λ t. t
tidies z st (Event.Page (Write s p w x)) f k a = λ t. t
tidies z st (Event.Page (Wire s p)) f k a = λ t. t
tidies z st (Event.Page (Unwire s p)) f k a = λ t. t
tidies z st (Event.Writeback Claim) f k a = (claim_done z st f k).2
tidies z st (Event.Writeback (Truncate s n)) f k a = dropped_tidy z f.sizes.pages s RELEASED _ _ (files st) k.disk k.records _ _ _ _ (truncate_dropped z st f k s a.1.1.0 n)
tidies z st (Event.Writeback (Update s)) f k a = dropped_tidy z f.sizes.pages s LEAVING _ _ (files st) k.disk k.records _ _ _ _ (update_dropped z st f k s a.1.1.0 a.0)
tidies z st (Event.Writeback (PageDone g good)) f k a = (page_done_done z st f k g good a).2
tidies z st (Event.Writeback (MapDone s good)) f k a = (map_done_done z st f k s good a).2
tidies z st (Event.Waiting (Join s p)) f k a = λ t. t
tidies z st (Event.Waiting Turn) f k a = by_turn z st f k (λ x. Tidied z st → Tidied z x) (λ l h t. t) (λ q. (fault_done z st f k _ _ q).2) (λ q. (claim_done z st f k).2) a

-- a restart makes it: a record is filed, or free and of slot 0
restarted_tidy : (z : Sizes) → Within z → (st : State) → OnDisk z (files st) → Tidied z (R.restarted z st.disk)
restarted_tidy z w st d = record {
  free = λ r h e. elim (sorted z w st d r h) [ inl t ↦ absurd (omega (arith, e, t.state)) | inr t ↦ t.owner ];
  released = λ r h e. elim (sorted z w st d r h) [ inl t ↦ absurd (omega (arith, e, t.state)) | inr t ↦ absurd (omega (arith, e, t.state)) ];
}

module _ (z : Sizes) where
  event_tidy : (st : State) (e : Event) → Tidied z st → Tidied z (step z st e).left
  unfolding step whole supplied
  event_tidy st e t = go (answer z st e) refl
    where
      go : (n : ℕ) → answer z st e ≡ n → Tidied z (outcome n (result z st e) st (whole z st e)).left
      go zero h = let a = asked_all z st e h in tidies z st e (fit z st a.0) (ruled z st a.1.0) a.1.1 t
      go (suc n) h = t

  restart_tidy : (w : World) → Safe z w → Tidied z (restart z w.state).left
  unfolding restart R.raised
  restart_tidy w s = rw (restart_answer z w.state (safe_fit z w s) s.rules) (restarted_tidy z (within z s.sizes) (on_disk (raise (R.highest_of w.state.disk z.slots)) w.state) (disk_ruled z w.state s.rules))

  act_tidy : (w : World) (a : Act) → Safe z w → (T w.up → Tidied z w.state) → T (act z w a).up → Tidied z (act z w a).state
  unfolding act
  act_tidy w (event e) s t u = event_tidy w.state e (t u)
  act_tidy w (looking p q) s t u = t u
  act_tidy w (importing s q n b) x t u = import_tidy z w.state s q n b (t u)
  act_tidy w (exporting s buffer) x t u = t u
  act_tidy w restarting s t u = restart_tidy w s
  act_tidy w (cutting writes updates junk) s t u = absurd u
  act_tidy w (cutting_in c k writes updates junk) s t u = absurd u

  run_tidy : (w : World) (acts : List Act) → T (legal z w acts) → Safe z w → (T w.up → Tidied z w.state) → T (run z w acts).up → Tidied z (run z w acts).state
  unfolding legal run
  run_tidy w [] l s t = t
  run_tidy w (a ∷ acts) l s t =
      run_tidy (act z w a) acts (and_right (allowed z w a) (legal z (act z w a) acts) l) (one z w a (and_left (allowed z w a) (legal z (act z w a) acts) l) s).1 (act_tidy w a s t)

as_rule : (z : Sizes) (st : State) → Tidied z st → Holds (tidy z st)
as_rule z st t r h = (t.free r h, t.released r h)

pub always_tidy_from_pack : (z : Sizes) (pack : Disk) (junk : Memory) (acts : List Act) → Holds (sizes_fit z) → Holds (disk_lengths z pack) → Holds (memory_lengths z junk)
    → Holds (disk_rules z (record { disk = pack; memory = junk })) → T (legal z (start z pack junk) acts) → T (run z (start z pack junk) acts).up → Holds (tidy z (run z (start z pack junk) acts).state)
unfolding start
always_tidy_from_pack z pack junk acts f d m r l u = as_rule z (run z (start z pack junk) acts).state (run_tidy z (start z pack junk) acts l (start_safe z pack junk f d m r) (λ x. absurd x) u)

pub always_tidy : (z : Sizes) (parents : List ℕ) (junk : Memory) (acts : List Act) → Holds (sizes_fit z) → Holds (lower z.accounts (at parents)) → Holds (memory_lengths z junk)
    → T (legal z (start z (R.formatted z parents) junk) acts) → T (run z (start z (R.formatted z parents) junk) acts).up → Holds (tidy z (run z (start z (R.formatted z parents) junk) acts).state)
unfolding start
always_tidy z parents junk acts f low m l u = as_rule z (run z (start z (R.formatted z parents) junk) acts).state (run_tidy z (start z (R.formatted z parents) junk) acts l (format_safe z parents junk f low m) (λ x. absurd x) u)
