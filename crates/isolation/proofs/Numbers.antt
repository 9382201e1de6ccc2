-- A design keeps its number: what an act adds is the number of a new birth.
use mathlib.Core.Path.{◌≡◌, refl, ◌∙◌}
use mathlib.Core.Bool.{Bool}
use mathlib.Core.List.{List, [], ◌∷◌}
use Prim.Native.Nat.{ℕ, zero, suc, ◌≤◌}
use native.Mathlib.Omega.{arith}
use lib.Dec.{eqb}
use Rattle.tables.specs.Laws.{if_elim}
use Rattle.model.specs.declared.sizes.Sizes.{Sizes}
use Rattle.model.specs.State.{State}
use Rattle.model.specs.Step.{step, restart}
use Rattle.model.specs.Import.{Sheet, sheet_of, taken, has, said, import}
use Rattle.model.specs.Stores as S
use Rattle.model.specs.Stores.{Call}
use Rattle.model.specs.Ledger as L
use Rattle.model.specs.Ledger.{Ledger, Fed, spent, carried_in, placed, note, lose, voided, finish_write, finish_update, strike_write, strike_update, finish_writes, finish_updates}
use Rattle.model.specs.Acts.{Act, event, looking, importing, exporting, restarting, cutting, cutting_in, World, fed, noted, partly, wholly, fed_part, part, act, run}
use Rattle.crash.proofs.Writes.{put_other}

-- every birth that there was has the number that it had, and there are no fewer
pub record Keeps (l l' : Ledger) : Type 0 where
  pub births : l.births ≤ l'.births
  pub number : (b : ℕ) → b ≤ l.births → l'.number b ≡ l.number b

stays : (l : Ledger) → Keeps l l
stays l = record { births = omega arith; number = λ b h. refl }

then : {l m k : Ledger} → Keeps l m → Keeps m k → Keeps l k
then p q = record { births = omega (arith, p.births, q.births); number = λ b h. q.number b (omega (arith, h, p.births)) ∙ p.number b h }

module _ (l : Ledger) where
  write_keeps : (f : ℕ) → Keeps l (finish_write f l)
  unfolding finish_write
  write_keeps f = if_elim (Keeps l) (l.pending.writing f) _ _ (λ t. record { births = omega arith; number = λ b h. refl }) (λ t. stays l)

  update_keeps : (s : ℕ) → Keeps l (finish_update s l)
  unfolding finish_update
  update_keeps s = if_elim (Keeps l) (l.pending.updating s) _ _ (λ t. record { births = omega arith; number = λ b h. refl }) (λ t. stays l)

writes_keep : (n : ℕ) (lands : ℕ → Bool) (l : Ledger) → Keeps l (finish_writes n lands l)
unfolding finish_writes
writes_keep zero lands l = stays l
writes_keep (suc f) lands l = if_elim (Keeps l) (lands f) _ _ (λ t. then (writes_keep f lands l) (write_keeps (finish_writes f lands l) f)) (λ t. writes_keep f lands l)

updates_keep : (n : ℕ) (lands : ℕ → Bool) (l : Ledger) → Keeps l (finish_updates n lands l)
unfolding finish_updates
updates_keep zero lands l = stays l
updates_keep (suc s) lands l = if_elim (Keeps l) (lands s) _ _ (λ t. then (updates_keep s lands l) (update_keeps (finish_updates s lands l) s)) (λ t. updates_keep s lands l)

module _ (z : Sizes) where
  note_keeps : (l : Ledger) (f : Fed) → Keeps l (note z l f)
  unfolding note lose strike_write strike_update spent carried_in placed
  note_keeps l L.nothing = stays l
  note_keeps l (L.restarted d) = record { births = omega arith; number = λ b h. refl }
  note_keeps l (L.created s n) = record { births = omega arith; number = λ b h. put_other l.number (suc l.births) n b (λ e. omega (arith, e, h)) }
  note_keeps l (L.deleted s) = record { births = omega arith; number = λ b h. refl }
  note_keeps l (L.activated s d) = record { births = omega arith; number = λ b h. refl }
  note_keeps l (L.deactivated s) = record { births = omega arith; number = λ b h. refl }
  note_keeps l (L.faulted s p f) = record { births = omega arith; number = λ b h. refl }
  note_keeps l (L.wrote s p w x) = record { births = omega arith; number = λ b h. refl }
  note_keeps l (L.claimed f zero) = if_elim (Keeps l) (voided z l (l.pending.noted f).place) _ _ (λ t. record { births = omega arith; number = λ b h. refl }) (λ t. stays l)
  note_keeps l (L.claimed f (suc r)) = record { births = omega arith; number = λ b h. refl }
  note_keeps l (L.truncated s k) = record { births = omega arith; number = λ b h. refl }
  note_keeps l (L.began s) = record { births = omega arith; number = λ b h. refl }
  note_keeps l (L.page_end f good) = if_elim (Keeps l) (eqb good 1) _ _ (λ t. write_keeps l f) (λ t. record { births = omega arith; number = λ b h. refl })
  note_keeps l (L.map_end s good) = if_elim (Keeps l) (eqb good 1) _ _ (λ t. update_keeps l s) (λ t. record { births = omega arith; number = λ b h. refl })
  note_keeps l (L.import_begun n) = record { births = omega arith; number = λ b h. put_other l.number (suc l.births) n b (λ e. omega (arith, e, h)) }
  note_keeps l (L.imported_page p r words) = record { births = omega arith; number = λ b h. refl }
  note_keeps l (L.imported_slot s has said) = record { births = omega arith; number = λ b h. refl }
  note_keeps l (L.cut writes updates) =
      let k = then (writes_keep z.frames writes l) (updates_keep z.slots updates (finish_writes z.frames writes l)) in record { births = k.births; number = k.number }

  partly_keeps : (st : State) (s n : ℕ) (h : Sheet) (k : ℕ) (l : Ledger) → Keeps l (partly z st s n h k l)
  unfolding partly
  partly_keeps st s n h zero l = note_keeps l (L.import_begun n)
  partly_keeps st s n h (suc k) l = then (partly_keeps st s n h k l) (note_keeps (partly z st s n h k l) (L.imported_page (h.page k) (taken z st s k) (h.word k)))

  wholly_keeps : (st : State) (s n : ℕ) (h : Sheet) (l : Ledger) → Keeps l (wholly z st s n h l)
  unfolding wholly
  wholly_keeps st s n h l = then (partly_keeps st s n h h.count l) (note_keeps (partly z st s n h h.count l) (L.imported_slot s (has h) (said h)))

  part_keeps : (st : State) (c : Call) (k : ℕ) (l : Ledger) → Keeps l (fed_part z st c k l)
  unfolding fed_part
  part_keeps st (S.event e) k l = stays l
  part_keeps st (S.importing s q n b) zero l = stays l
  part_keeps st (S.importing s q n b) (suc k) l = partly_keeps st s n (sheet_of b) k l

  act_keeps : (w : World) (a : Act) → Keeps w.ledger (act z w a).ledger
  unfolding act part noted
  act_keeps w (event e) = if_elim (Keeps w.ledger) (eqb (step z w.state e).answer.refusal 0) _ _ (λ t. note_keeps w.ledger (fed z w.state e)) (λ t. stays w.ledger)
  act_keeps w (looking s p) = stays w.ledger
  act_keeps w (importing s q n b) = if_elim (Keeps w.ledger) (eqb (import z w.state s q n b).answer.refusal 0) _ _ (λ t. wholly_keeps w.state s n (sheet_of b) w.ledger) (λ t. stays w.ledger)
  act_keeps w (exporting s buffer) = stays w.ledger
  act_keeps w restarting = if_elim (Keeps w.ledger) (eqb (restart z w.state).answer.refusal 0) _ _ (λ t. note_keeps w.ledger (L.restarted w.state.disk)) (λ t. stays w.ledger)
  act_keeps w (cutting writes updates junk) = note_keeps w.ledger (L.cut writes updates)
  act_keeps w (cutting_in c k writes updates junk) = then (part_keeps w.state c k w.ledger) (note_keeps (fed_part z w.state c k w.ledger) (L.cut writes updates))

  pub run_keeps : (acts : List Act) (w : World) → Keeps w.ledger (run z w acts).ledger
  unfolding run
  run_keeps [] w = stays w.ledger
  run_keeps (a ∷ acts) w = then (act_keeps w a) (run_keeps acts (act z w a))
