-- No finished write is of a design that is not born yet, over every legal list of acts.
use mathlib.Core.Path.{◌≡◌, refl, ap, sym, ◌∙◌, subst}
use mathlib.Core.Bool.{Bool, true, false}
use mathlib.Core.List.{List, [], ◌∷◌}
use Prim.Native.Nat.{ℕ, zero, suc, ◌<◌, ◌≤◌}
use native.Mathlib.Omega.{arith}
use lib.Dec.{T, eqb}
use borrow.Author.Tests.{ne_eqb}
use Rattle.tables.specs.Base.{if}
use Rattle.tables.specs.Laws.{if_elim, and_left, and_right}
use Rattle.tables.specs.Questions.{first_no, ask, none}
use Rattle.sheets.specs.Sheet.{number_in}
use Rattle.model.specs.declared.sizes.Sizes.{Sizes}
use Rattle.model.specs.declared.event.Event.{Event}
use Rattle.model.specs.State.{State, slot_of}
use Rattle.model.specs.Rules.{disk_rules}
use Rattle.model.specs.Laws.Index.{slot_below}
use Rattle.model.specs.Restart.{restarted}
use Rattle.model.specs.Step.{outcome, all_fit, answer, carried, result, step, restart, supplied, whole}
use Rattle.model.specs.Import.{sheet_of, has, said, imported, import_answer, import}
use Rattle.model.specs.Stores as S
use Rattle.model.specs.Stores.{Call}
use Rattle.model.specs.Ledger as L
use Rattle.model.specs.Ledger.{Ledger, Fed, Pending, note, lose, finish_write, finish_writes, finish_updates, strike_write, strike_update, spent, carried_in, placed, voided}
use Rattle.model.specs.Acts.{Act, event, looking, importing, exporting, restarting, cutting, cutting_in, World, fed, noted, partly, wholly, fed_part, part, cut_off, act, allowed, legal, run}
use Rattle.invariant.proofs.Midst.{Inside, inside}
use Rattle.crash.proofs.Steps.{Good, Before, before}
use Rattle.crash.proofs.Demand3.{act_keeps}
use Rattle.crash.proofs.Origins.{Each, Open, OfText, Beside, Aside, beside_finish, beside_all, aside_finish, aside_all, each_note, fed_each, all_open, partly_births, partly_pending, partly_each}

-- ── births are never fewer ──
abbrev Grows : Ledger → Ledger → Type 0
Grows l l' = l.births ≤ l'.births

cut_births : (z : Sizes) (l : Ledger) (writes updates : ℕ → Bool) → (note z l (L.cut writes updates)).births ≡ l.births
unfolding note lose
cut_births z l writes updates = (aside_all z.slots updates (finish_writes z.frames writes l)).births ∙ (beside_all z.frames writes l).births

note_grows : (z : Sizes) (l : Ledger) (f : Fed) → Grows l (note z l f)
unfolding note lose strike_write strike_update spent carried_in placed
note_grows z l L.nothing = omega arith
note_grows z l (L.restarted d) = omega arith
note_grows z l (L.created s n) = omega arith
note_grows z l (L.deleted s) = omega arith
note_grows z l (L.activated s d) = omega arith
note_grows z l (L.deactivated s) = omega arith
note_grows z l (L.faulted s p f) = omega arith
note_grows z l (L.wrote s p w x) = omega arith
note_grows z l (L.claimed f zero) = if_elim (Grows l) (voided z l (l.pending.noted f).place) _ l (λ u. omega arith) (λ u. omega arith)
note_grows z l (L.claimed f (suc r)) = omega arith
note_grows z l (L.truncated s k) = omega arith
note_grows z l (L.began s) = omega arith
note_grows z l (L.page_end f good) = if_elim (Grows l) (eqb good 1) _ _ (λ u. omega (arith, (beside_finish f l).births)) (λ u. omega arith)
note_grows z l (L.map_end s good) = if_elim (Grows l) (eqb good 1) _ _ (λ u. omega (arith, (aside_finish s l).births)) (λ u. omega arith)
note_grows z l (L.import_begun n) = omega arith
note_grows z l (L.imported_page p r words) = omega arith
note_grows z l (L.imported_slot s h t) = omega arith
note_grows z l (L.cut writes updates) = omega (arith, cut_births z l writes updates)

pub wholly_births : (z : Sizes) (w : World) (s n : ℕ) (b : List ℕ) → (wholly z w.state s n (sheet_of b) w.ledger).births ≡ suc w.ledger.births
unfolding wholly note placed
wholly_births z w s n b = partly_births z w.state s n (sheet_of b) w.ledger (sheet_of b).count

part_births : (z : Sizes) (w : World) (c : Call) (k : ℕ) → Grows w.ledger (part z w c k).ledger
unfolding part fed_part
part_births z w (S.event e) k = omega arith
part_births z w (S.importing s q n b) zero = omega arith
part_births z w (S.importing s q n b) (suc k) = omega (arith, partly_births z w.state s n (sheet_of b) w.ledger k)

pub act_grows : (z : Sizes) (w : World) (a : Act) → Grows w.ledger (act z w a).ledger
unfolding act noted
act_grows z w (event e) = if_elim (Grows w.ledger) (eqb (step z w.state e).answer.refusal 0) _ w.ledger (λ u. note_grows z w.ledger (fed z w.state e)) (λ u. omega arith)
act_grows z w (looking s p) = omega arith
act_grows z w (importing s q n b) =
    if_elim (Grows w.ledger) (eqb (import z w.state s q n b).answer.refusal 0) _ w.ledger (λ u. omega (arith, wholly_births z w s n b)) (λ u. omega arith)
act_grows z w (exporting s buffer) = omega arith
act_grows z w restarting = if_elim (Grows w.ledger) (eqb (restart z w.state).answer.refusal 0) _ w.ledger (λ u. note_grows z w.ledger (L.restarted w.state.disk)) (λ u. omega arith)
act_grows z w (cutting writes updates junk) = note_grows z w.ledger (L.cut writes updates)
act_grows z w (cutting_in c k writes updates junk) = omega (arith, part_births z w c k, note_grows z (part z w c k).ledger (L.cut writes updates))

-- ── what holds of every finished write is kept by an act ──
module _ (z : Sizes) (P : ℕ → ℕ → (ℕ → ℕ) → Type 0) where
  -- .. and of what an import adds
  abbrev Own : Ledger → Ledger → Type 0
  Own l l' = l.births < l'.births → (p : ℕ) (words : ℕ → ℕ) → P (suc l.births) p words

  event_each : (w : World) (e : Event) → T w.up → Good z w → OfText z P w.ledger → Each P w.ledger.finished → Each P (act z w (event e)).ledger.finished
  unfolding act step whole supplied noted
  event_each w e u k o p = go (answer z w.state e) refl
    where
      go : (n : ℕ) → answer z w.state e ≡ n → Each P (noted z (outcome n (result z w.state e) w.state (whole z w.state e)) (fed z w.state e) w.ledger).finished
      go zero a = fed_each z P w.state w.ledger e (before z w.state w.ledger e a (record { disk = k.disk; memory = k.memory u })) o p
      go (suc n) a = rw (ne_eqb (suc n) 0 (λ x. omega (arith, x))) p

  part_each : (w : World) (c : Call) (n : ℕ) → Own w.ledger (part z w c n).ledger → Each P w.ledger.finished → Each P (part z w c n).ledger.finished
  unfolding part fed_part
  part_each w (S.event e) n own p = p
  part_each w (S.importing s q m b) zero own p = p
  part_each w (S.importing s q m b) (suc n) own p = partly_each z w.state s m (sheet_of b) w.ledger P (own (omega (arith, partly_births z w.state s m (sheet_of b) w.ledger n))) p n

  -- what is open in the midst of a call is what was open before it
  part_open : (w : World) (c : Call) (n : ℕ) (f : ℕ) → Open P w.ledger f → Open P (part z w c n).ledger f
  unfolding part fed_part
  part_open w (S.event e) n f o = o
  part_open w (S.importing s q m b) zero f o = o
  part_open w (S.importing s q m b) (suc n) f o =
      subst (λ (x : Pending). T (x.writing f) → P (x.write f).design (x.write f).page (x.write f).words) (sym (partly_pending z w.state s m (sheet_of b) w.ledger n)) o

  pub act_each : (w : World) (a : Act) → T (allowed z w a) → Good z w → OfText z P w.ledger → Own w.ledger (act z w a).ledger → Each P w.ledger.finished → Each P (act z w a).ledger.finished
  unfolding allowed act noted wholly
  act_each w (event e) t k o own p = event_each w e t k o p
  act_each w (looking s q) t k o own p = p
  act_each w (importing s q n b) t k o own p = go (import z w.state s q n b).answer.refusal own
    where
      go : (m : ℕ) → Own w.ledger (if (eqb m 0) (wholly z w.state s n (sheet_of b) w.ledger) w.ledger) → Each P (if (eqb m 0) (wholly z w.state s n (sheet_of b) w.ledger) w.ledger).finished
      go zero x =
          let l = w.ledger in
          each_note P z (partly z w.state s n (sheet_of b) (sheet_of b).count l) (L.imported_slot s (has (sheet_of b)) (said (sheet_of b))) tt
          (partly_each z w.state s n (sheet_of b) l P (x (omega (arith, wholly_births z w s n b))) p (sheet_of b).count)
      go (suc m) x = rw (ne_eqb (suc m) 0 (λ e. omega (arith, e))) p
  act_each w (exporting s buffer) t k o own p = p
  act_each w restarting t k o own p = if_elim (λ (l : Ledger). Each P l.finished) (eqb (restart z w.state).answer.refusal 0) _ w.ledger (λ u. each_note P z w.ledger (L.restarted w.state.disk) tt p) (λ u. p)
  act_each w (cutting writes updates junk) t k o own p = each_note P z w.ledger (L.cut writes updates) (all_open z P w k o) p
  act_each w (cutting_in c n writes updates junk) t k o own p = each_note P z (part z w c n).ledger (L.cut writes updates) (λ f h. part_open w c n f (all_open z P w k o f h))
      (part_each w c n (λ g. own (omega (arith, g, cut_births z (part z w c n).ledger writes updates))) p)

-- ── born ──
abbrev pub Born : World → Type 0
Born w = Each (λ d p words. d ≤ w.ledger.births) w.ledger.finished

act_born : (z : Sizes) (w : World) (a : Act) → T (allowed z w a) → Good z w → Born w → Born (act z w a)
act_born z w a t k b =
    let more = act_grows z w a in
    act_each z (λ d p words. d ≤ (act z w a).ledger.births) w a t k (λ i h words e. omega (arith, more, k.disk.designs.young (slot_of z i) (slot_below z k.fit.sizes.pages i h))) (λ h p words. h) (λ y i. omega (arith, more, b y i))

pub run_born : (z : Sizes) (acts : List Act) (w : World) → T (legal z w acts) → Good z w → Born w → Born (run z w acts)
unfolding run legal
run_born z [] w t k b = b
run_born z (a ∷ acts) w t k b =
    let may = and_left (allowed z w a) (legal z (act z w a) acts) t in
    run_born z acts (act z w a) (and_right (allowed z w a) (legal z (act z w a) acts) t) (act_keeps z w a may k) (act_born z w a may k b)
