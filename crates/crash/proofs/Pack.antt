-- The ledger keeps the pack that its list started from.
use mathlib.Core.Path.{◌≡◌, refl, ◌∙◌}
use mathlib.Core.Bool.{Bool, true, false}
use mathlib.Core.List.{List, [], ◌∷◌}
use Prim.Native.Nat.{ℕ, zero, suc}
use lib.Dec.{eqb}
use Rattle.tables.specs.Base.{if}
use Rattle.model.specs.declared.sizes.Sizes.{Sizes}
use Rattle.model.specs.State.{Disk, State}
use Rattle.model.specs.Step.{Outcome, step, restart}
use Rattle.model.specs.Import.{Sheet, sheet_of, taken, has, said, import}
use Rattle.model.specs.Stores as S
use Rattle.model.specs.Stores.{Call}
use Rattle.model.specs.Ledger.{Ledger, Fed, nothing, restarted, created, deleted, activated, deactivated, faulted, wrote, claimed, truncated, began, page_end, map_end, import_begun, imported_page, imported_slot, cut}
use Rattle.model.specs.Ledger.{spent, carried_in, placed, note, lose, voided, finish_write, finish_update, strike_write, strike_update, finish_writes, finish_updates}
use Rattle.model.specs.Acts.{Act, event, looking, importing, exporting, restarting, cutting, cutting_in, World, fed, noted, partly, wholly, fed_part, part, act, run}

-- either of two ledgers
either : (b : Bool) (x y : Ledger) (p : Disk) → x.pack ≡ p → y.pack ≡ p → (if b x y).pack ≡ p
either true x y p e f = e
either false x y p e f = f

write_pack : (f : ℕ) (l : Ledger) → (finish_write f l).pack ≡ l.pack
unfolding finish_write
write_pack f l = either (l.pending.writing f) _ l l.pack refl refl

update_pack : (s : ℕ) (l : Ledger) → (finish_update s l).pack ≡ l.pack
unfolding finish_update
update_pack s l = either (l.pending.updating s) _ l l.pack refl refl

writes_pack : (n : ℕ) (lands : ℕ → Bool) (l : Ledger) → (finish_writes n lands l).pack ≡ l.pack
unfolding finish_writes
writes_pack zero lands l = refl
writes_pack (suc f) lands l = let e = writes_pack f lands l in either (lands f) _ _ l.pack (write_pack f (finish_writes f lands l) ∙ e) e

updates_pack : (n : ℕ) (lands : ℕ → Bool) (l : Ledger) → (finish_updates n lands l).pack ≡ l.pack
unfolding finish_updates
updates_pack zero lands l = refl
updates_pack (suc s) lands l = let e = updates_pack s lands l in either (lands s) _ _ l.pack (update_pack s (finish_updates s lands l) ∙ e) e

module _ (z : Sizes) where
  note_pack : (l : Ledger) (f : Fed) → (note z l f).pack ≡ l.pack
  unfolding note lose strike_write strike_update spent carried_in placed
  note_pack l nothing = refl
  note_pack l (restarted d) = refl
  note_pack l (created s n) = refl
  note_pack l (deleted s) = refl
  note_pack l (activated s d) = refl
  note_pack l (deactivated s) = refl
  note_pack l (faulted s p f) = refl
  note_pack l (wrote s p w x) = refl
  note_pack l (claimed f zero) = either (voided z l (l.pending.noted f).place) _ l l.pack refl refl
  note_pack l (claimed f (suc r)) = refl
  note_pack l (truncated s k) = refl
  note_pack l (began s) = refl
  note_pack l (page_end f good) = either (eqb good 1) _ _ l.pack (write_pack f l) refl
  note_pack l (map_end s good) = either (eqb good 1) _ _ l.pack (update_pack s l) refl
  note_pack l (import_begun n) = refl
  note_pack l (imported_page p r words) = refl
  note_pack l (imported_slot s has said) = refl
  note_pack l (cut writes updates) = updates_pack z.slots updates (finish_writes z.frames writes l) ∙ writes_pack z.frames writes l

  noted_pack : (o : Outcome State) (f : Fed) (l : Ledger) → (noted z o f l).pack ≡ l.pack
  unfolding noted
  noted_pack o f l = either (eqb o.answer.refusal 0) _ l l.pack (note_pack l f) refl

  partly_pack : (st : State) (s n : ℕ) (h : Sheet) (k : ℕ) (l : Ledger) → (partly z st s n h k l).pack ≡ l.pack
  unfolding partly
  partly_pack st s n h zero l = note_pack l (import_begun n)
  partly_pack st s n h (suc k) l = note_pack (partly z st s n h k l) (imported_page (h.page k) (taken z st s k) (h.word k)) ∙ partly_pack st s n h k l

  wholly_pack : (st : State) (s n : ℕ) (h : Sheet) (l : Ledger) → (wholly z st s n h l).pack ≡ l.pack
  unfolding wholly
  wholly_pack st s n h l = note_pack (partly z st s n h h.count l) (imported_slot s (has h) (said h)) ∙ partly_pack st s n h h.count l

  part_pack : (st : State) (c : Call) (k : ℕ) (l : Ledger) → (fed_part z st c k l).pack ≡ l.pack
  unfolding fed_part
  part_pack st (S.event e) k l = refl
  part_pack st (S.importing s q n b) zero l = refl
  part_pack st (S.importing s q n b) (suc k) l = partly_pack st s n (sheet_of b) k l

  act_pack : (w : World) (a : Act) → (act z w a).ledger.pack ≡ w.ledger.pack
  unfolding act part
  act_pack w (event e) = noted_pack (step z w.state e) (fed z w.state e) w.ledger
  act_pack w (looking s p) = refl
  act_pack w (importing s q n b) = either (eqb (import z w.state s q n b).answer.refusal 0) _ w.ledger w.ledger.pack (wholly_pack w.state s n (sheet_of b) w.ledger) refl
  act_pack w (exporting s buffer) = refl
  act_pack w restarting = noted_pack (restart z w.state) (restarted w.state.disk) w.ledger
  act_pack w (cutting writes updates junk) = note_pack w.ledger (cut writes updates)
  act_pack w (cutting_in c k writes updates junk) = note_pack (fed_part z w.state c k w.ledger) (cut writes updates) ∙ part_pack w.state c k w.ledger

  pub same_pack : (acts : List Act) (w : World) → (run z w acts).ledger.pack ≡ w.ledger.pack
  unfolding run
  same_pack [] w = refl
  same_pack (a ∷ acts) w = same_pack acts (act z w a) ∙ act_pack w a
