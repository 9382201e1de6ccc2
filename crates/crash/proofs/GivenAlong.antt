-- One number, one design: what is kept of the numbers, after every act of every legal list.
use mathlib.Core.Path.{◌≡◌, refl, ap, sym, ◌∙◌, subst}
use mathlib.Core.Bool.{Bool, true, false}
use mathlib.Core.List.{List, [], ◌∷◌}
use mathlib.Core.Logic.{inl, inr}
use Prim.Native.Nat.{ℕ, zero, suc, ◌<◌, ◌≤◌}
use native.Mathlib.Omega.{arith}
use lib.Dec.{T, eqb}
use lib.ListN.{length-set}
use borrow.Author.Tests.{ne_eqb}
use Rattle.tables.specs.Base.{at, if}
use Rattle.tables.specs.Laws.{if_elim, and_left, and_right}
use Rattle.tables.specs.Questions.{Asked, first_no, ask, none}
use Rattle.sheets.specs.Sheet.{number_in}
use Rattle.model.specs.declared.sizes.Sizes.{Sizes}
use Rattle.model.specs.declared.event.Design.TheVariants.{Create, Delete, Activate, Deactivate}
use Rattle.model.specs.declared.event.Event.{Event}
use Rattle.model.specs.declared.event.Event.TheVariants as Event
use Rattle.model.specs.State.{Memory, State}
use Rattle.model.specs.Setters.{on_disk, raise, counted}
use Rattle.model.specs.Rules.{disk_rules}
use Rattle.model.specs.Questions.{questions}
use Rattle.model.specs.Laws.Creating.{creating}
use Rattle.model.specs.Designs
use Rattle.model.specs.Restart.{highest_of, raised, restarted}
use Rattle.model.specs.Step.{outcome, all_fit, answer, carried, result, step, restart, supplied, whole}
use Rattle.model.specs.Import.{Sheet, sheet_of, store_record, store_slot, made, imported, import_answer, import}
use Rattle.model.specs.Stores as S
use Rattle.model.specs.Stores.{Call}
use Rattle.model.specs.Ledger as L
use Rattle.model.specs.Ledger.{Ledger, note, spent, carried_in, placed}
use Rattle.model.specs.Acts.{Act, event, looking, importing, exporting, restarting, cutting, cutting_in, World, fed, landed, noted, partly, wholly, fed_part, part, cut_off, act, allowed, legal, run}
use Rattle.invariant.proofs.RecordsCut.{landed_cut}
use Rattle.invariant.proofs.Imports.{Before}
use Rattle.invariant.proofs.Imported.{import_before}
use Rattle.invariant.proofs.Midst.{Inside, inside, raised_in, part_none, Between, part_event, part_import}
use Rattle.crash.proofs.Writes.{put_same}
use Rattle.crash.proofs.Steps as Steps
use Rattle.crash.proofs.Steps.{Good, before}
use Rattle.crash.proofs.Demand3.{part_keeps, act_keeps}
use Rattle.crash.proofs.Given.{View, view, Given, Known, raise_v, spend_v, place_v, raise_given, spend_given, place_given, cut_given, restart_given}
use Rattle.crash.proofs.GivenQuiet.{SameNames, SameNumbers, NoName, names_same, note_names, numbers_same, view_same, event_numbers, fed_quiet}

-- what the invariant of demand 3 knows of the view
pub known : (z : Sizes) (w : World) → Good z w → Known z (view w)
known z w k = record { young = k.disk.designs.young; elder = k.disk.designs.elder; numbers = k.fit.disk.numbers; highest = k.fit.disk.highest }

module _ (z : Sizes) where
  abbrev Keeps : World → World → Type 0
  Keeps w w' = Given z w.up (view w) → Given z w'.up (view w')

  quiet_given : (w : World) (e : Event) → NoName e → Keeps w (act z w (event e))
  unfolding act noted
  quiet_given w e i g = subst (Given z w.up) (sym (view_same w (act z w (event e)) names (event_numbers z w.state e i))) g
    where
      names : SameNames w.ledger (act z w (event e)).ledger
      names = if_elim (SameNames w.ledger) (eqb (step z w.state e).answer.refusal 0) _ _ (λ u. note_names z w.ledger (fed z w.state e) (fed_quiet z w.state e i)) (λ u. names_same w.ledger)

  -- with the keeper up, as a plain `true`
  raised_up : {v v' : View} (up : Bool) → T up → (Given z true v → Given z true v') → Given z up v → Given z up v'
  raised_up true u f g = f g
  raised_up false u f g = absurd u

  named_given : (w : World) (e : Event) → T w.up → Good z w
      → (Steps.Before z w.state w.ledger e → Given z true (view w) → Given z true (view (record { up = w.up; state = carried z w.state e; ledger = note z w.ledger (fed z w.state e) }))) → Keeps w (act z w (event e))
  unfolding act step whole supplied noted
  named_given w e u k f g = go (answer z w.state e) refl
    where
      go : (n : ℕ) → answer z w.state e ≡ n → (let o = outcome n (result z w.state e) w.state (whole z w.state e) in Given z w.up (view (record { up = w.up; state = o.left; ledger = noted z o (fed z w.state e) w.ledger })))
      go zero a = raised_up w.up u (f (before z w.state w.ledger e a (record { disk = k.disk; memory = k.memory u }))) g
      go (suc n) a = rw (ne_eqb (suc n) 0 (λ x. omega (arith, x))) g

  -- what the invariant knows after a birth
  spend_known : (n : ℕ) (v : View) → Known z v → Known z (spend_v n v)
  spend_known n v k = record { young = λ s h. omega (arith, k.young s h); elder = λ s h. omega (arith, k.elder s h); numbers = k.numbers; highest = length-set v.highest 0 n ∙ k.highest }

  -- a birth, and its slot taken
  born_given : (v : View) → Known z v → (s n : ℕ) → s < z.slots → at v.highest 0 < n → n < 2147483648 → Given z true v → Given z true (place_v s (suc v.births) n (spend_v n v))
  born_given v k s n slot above low g = place_given z (spend_v n v) (spend_known n v k) s (suc v.births) n slot (put_same v.number (suc v.births) n) (spend_given z v k n above low g)

  create_given : (w : World) (s q n : ℕ) → T w.up → Good z w → Keeps w (act z w (event (Event.Design (Create s q n))))
  unfolding carried fed note Designs.create counted
  create_given w s q n u k = named_given w (Event.Design (Create s q n)) u k
      (λ b g. let a = creating z w.state s q n b.asked in born_given (view w) (known z w k) s n a.slot a.above a.low g)

  delete_given : (w : World) (s : ℕ) → T w.up → Good z w → Keeps w (act z w (event (Event.Design (Delete s))))
  unfolding carried fed note Designs.delete counted
  delete_given w s u k = named_given w (Event.Design (Delete s)) u k (λ b g. place_given z (view w) (known z w k) s 0 0 b.asked.0 g.none g)

  event_given : (w : World) (e : Event) → T w.up → Good z w → Keeps w (act z w (event e))
  event_given w (Event.Design (Create s q n)) u k = create_given w s q n u k
  event_given w (Event.Design (Delete s)) u k = delete_given w s u k
  event_given w (Event.Design (Activate s)) u k = quiet_given w (Event.Design (Activate s)) tt
  event_given w (Event.Design (Deactivate s)) u k = quiet_given w (Event.Design (Deactivate s)) tt
  event_given w (Event.Account e) u k = quiet_given w (Event.Account e) tt
  event_given w (Event.Page e) u k = quiet_given w (Event.Page e) tt
  event_given w (Event.Writeback e) u k = quiet_given w (Event.Writeback e) tt
  event_given w (Event.Waiting e) u k = quiet_given w (Event.Waiting e) tt

  -- ── imports ──
  -- the ledger once the birth is spent and the first m records are stored
  partly_names : (st : State) (s n : ℕ) (h : Sheet) (l : Ledger) (m : ℕ) → SameNames (spent n l) (partly z st s n h m l)
  unfolding partly note carried_in
  partly_names st s n h l zero = names_same (spent n l)
  partly_names st s n h l (suc m) = let x = partly_names st s n h l m in record { pack = x.pack; births = x.births; design = x.design; number = x.number }

  made_numbers : (st : State) (s q n : ℕ) (h : Sheet) (m : ℕ) → SameNumbers (raise n st.disk) (made z st s q n h m (raise n st.disk))
  unfolding made store_record
  made_numbers st s q n h zero = numbers_same (raise n st.disk)
  made_numbers st s q n h (suc m) = let x = made_numbers st s q n h m in record { numbers = x.numbers; highest = x.highest }

  -- the world in the midst of an import, and its view
  abbrev midst : World → ℕ → ℕ → ℕ → Sheet → ℕ → World
  midst w s q n h m = record { up = w.up; state = on_disk (λ d. made z w.state s q n h m (raise n d)) w.state; ledger = partly z w.state s n h m w.ledger }

  midst_view : (w : World) (s q n : ℕ) (h : Sheet) (m : ℕ) → view (midst w s q n h m) ≡ spend_v n (view w)
  unfolding spent
  midst_view w s q n h m = view_same (record { up = w.up; state = on_disk (raise n) w.state; ledger = spent n w.ledger }) (midst w s q n h m) (partly_names w.state s n h w.ledger m) (made_numbers w.state s q n h m)

  midst_given : (w : World) (s q n : ℕ) (h : Sheet) (m : ℕ) → Good z w → Before z w.state s q n h → Given z true (view w) → Given z true (view (midst w s q n h m))
  midst_given w s q n h m k b g = subst (Given z true) (sym (midst_view w s q n h m)) (spend_given z (view w) (known z w k) n b.above b.low g)

  -- the slot is stored: the view is that of a create
  import_view : (w : World) (s q n : ℕ) (h : Sheet)
      → view (record { up = w.up; state = imported z w.state s q n h; ledger = wholly z w.state s n h w.ledger }) ≡ place_v s (suc w.ledger.births) n (spend_v n (view w))
  unfolding imported counted wholly note placed store_slot
  import_view w s q n h = ap (λ (v : View). place_v s v.births n v) (midst_view w s q n h h.count)

  import_given : (w : World) (s q n : ℕ) (b : List ℕ) → T w.up → Good z w → Keeps w (act z w (importing s q n b))
  unfolding act import
  import_given w s q n b u k g = go (import_answer z w.state s q n b) refl
    where
      go : (m : ℕ) → import_answer z w.state s q n b ≡ m → (let o = outcome m (number_in b) w.state (imported z w.state s q n (sheet_of b)) in
          Given z w.up (view (record { up = w.up; state = o.left; ledger = if (eqb o.answer.refusal 0) (wholly z w.state s n (sheet_of b) w.ledger) w.ledger })))
      go zero a =
          let c = import_before z w.state s q n b a in
          subst (Given z w.up) (sym (import_view w s q n (sheet_of b))) (raised_up w.up u (born_given (view w) (known z w k) s n c.slot c.above c.low) g)
      go (suc m) a = rw (ne_eqb (suc m) 0 (λ x. omega (arith, x))) g

  -- ── restart and cuts ──
  restarts_given : (w : World) → Good z w → Keeps w (act z w restarting)
  unfolding act restart noted
  restarts_given w k g = go (first_no (ask 1 (all_fit z w.state) (ask 2 (disk_rules z w.state) none)))
    where
      after : World
      after = record { up = true; state = restarted z (raised z w.state.disk); ledger = note z w.ledger (L.restarted w.state.disk) }

      same : view after ≡ raise_v (highest_of w.state.disk z.slots) (view w)
      same = unfold raised in unfold restarted in unfold counted in
          view_same (raised_in (highest_of w.state.disk z.slots) w) after (note_names z w.ledger (L.restarted w.state.disk) tt) (numbers_same (raise (highest_of w.state.disk z.slots) w.state.disk))

      go : (n : ℕ) → (let o = outcome n 0 w.state (restarted z (raised z w.state.disk)) in
          Given z (if (eqb o.answer.refusal 0) true w.up) (view (record { up = w.up; state = o.left; ledger = noted z o (L.restarted w.state.disk) w.ledger })))
      go zero = subst (Given z true) (sym same) (restart_given z w.up w (known z w k) g)
      go (suc n) = rw (ne_eqb (suc n) 0 (λ x. omega (arith, x))) g

  cuts_given : (w : World) (writes updates : ℕ → Bool) (junk : Memory) → Good z w → Given z w.up (view w) → Given z false (view (cut_off z w writes updates junk))
  cuts_given w writes updates junk k g = subst (Given z false) (sym (view_same w (cut_off z w writes updates junk) (note_names z w.ledger (L.cut writes updates) tt) (stay w.up refl))) (cut_given z (view w) (known z w k) w.up g)
    where
      stay : (b : Bool) → w.up ≡ b → SameNumbers w.state.disk (if b (landed z w.state writes updates) w.state.disk)
      stay true e = let c = landed_cut z w.state k.fit (k.ruled (rw e tt)) writes updates in record { numbers = c.numbers; highest = c.highest }
      stay false e = numbers_same w.state.disk

  between_above : (w : World) (e : Event) (n : ℕ) (b : Between z w e n) → T w.up → Good z w → at w.state.disk.highest 0 ≤ b.number
  between_above w e n b u k =
      let x = before z w.state w.ledger e b.carried (record { disk = k.disk; memory = k.memory u }) in
      let a = creating z w.state b.slot b.account b.number (subst (λ (y : Event). Asked (questions z w.state y)) b.event x.asked) in
      omega (arith, a.above)

  import_part : (w : World) (s q n : ℕ) (b : List ℕ) (m : ℕ) → (part z w (S.importing s q n b) (suc m)).state ≡ on_disk (λ d. made z w.state s q n (sheet_of b) m (raise n d)) w.state
      → part z w (S.importing s q n b) (suc m) ≡ midst w s q n (sheet_of b) m
  unfolding part fed_part
  import_part w s q n b m e = ap (λ (st : State). record { up = w.up; state = st; ledger = partly z w.state s n (sheet_of b) m w.ledger }) e

  -- in the midst of a call
  part_given : (w : World) (c : Call) (n : ℕ) (junk : Memory) → Inside z w c n junk → Good z w → Given z w.up (view w) → Given z w.up (view (part z w c n))
  part_given w (S.event e) n junk i k g = elim (part_event z w e n junk i) [
    | inl same ↦ subst (λ (x : World). Given z w.up (view x)) (sym same) g
    | inr b ↦ subst (λ (x : World). Given z w.up (view x)) (sym b.world) (raise_given z (view w) (known z w k) b.number (between_above w e n b i.up k) w.up g)
  ]
  part_given w (S.importing s q m b) zero junk i k g = subst (λ (x : World). Given z w.up (view x)) (sym (part_none z w (S.importing s q m b))) g
  part_given w (S.importing s q m b) (suc n) junk i k g =
      let p = part_import z w s q m b n junk i in
      let x = import_before z w.state s q m b p.0 in
      subst (λ (y : World). Given z w.up (view y)) (sym (import_part w s q m b n p.2)) (raised_up w.up i.up (midst_given w s q m (sheet_of b) n k x) g)

  -- ── every act, every list ──
  act_given : (w : World) (a : Act) → T (allowed z w a) → Good z w → Keeps w (act z w a)
  unfolding allowed act part
  act_given w (event e) t k = event_given w e t k
  act_given w (looking s p) t k = λ g. g
  act_given w (importing s q n b) t k = import_given w s q n b t k
  act_given w (exporting s buffer) t k = λ g. g
  act_given w restarting t k = restarts_given w k
  act_given w (cutting writes updates junk) t k = cuts_given w writes updates junk k
  act_given w (cutting_in c n writes updates junk) t k = λ g.
      let i = inside z w c n writes updates junk t in cuts_given (part z w c n) writes updates junk (part_keeps z w c n junk i k) (part_given w c n junk i k g)

  pub run_given : (acts : List Act) (w : World) → T (legal z w acts) → Good z w → Given z w.up (view w) → Given z (run z w acts).up (view (run z w acts))
  unfolding run legal
  run_given [] w t k g = g
  run_given (a ∷ acts) w t k g =
      let may = and_left (allowed z w a) (legal z (act z w a) acts) t in
      run_given acts (act z w a) (and_right (allowed z w a) (legal z (act z w a) acts) t) (act_keeps z w a may k) (act_given w a may k g)
