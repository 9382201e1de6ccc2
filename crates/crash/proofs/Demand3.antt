-- Demand 3, over every legal list of acts with cuts anywhere, from a pack that keeps the disk rules and from a finished format: the induction over the list.
use mathlib.Core.Path.{◌≡◌, refl, ap, sym, ◌∙◌, subst}
use mathlib.Core.Bool.{Bool, true, false}
use mathlib.Core.List.{List, [], ◌∷◌}
use mathlib.Core.Logic.{inl, inr}
use Prim.Native.Nat.{ℕ, zero, suc, ◌<◌}
use native.Mathlib.Omega.{arith}
use lib.Dec.{T, eqb}
use borrow.Author.Tests.{ne_eqb}
use Rattle.tables.specs.Base.{at, if}
use Rattle.tables.specs.Laws.{and_left, and_right}
use Rattle.tables.specs.Rule.{Holds, sound}
use Rattle.tables.specs.Questions.{first_no, ask, none}
use Rattle.model.specs.declared.sizes.Sizes.{Sizes}
use Rattle.model.specs.declared.event.Event.{Event}
use Rattle.model.specs.State.{Disk, Memory, State, files, all_pages}
use Rattle.model.specs.Rules.{disk_rules}
use Rattle.model.specs.Laws.Ruled as R
use Rattle.model.specs.Step.{outcome, answer, whole, result, step, restart, all_fit, memory_lengths}
use Rattle.model.specs.Laws.Fit.{Fit, disk_fit, memory_fit}
use Rattle.model.specs.Restart.{formatted, raised, restarted}
use Rattle.model.specs.Ledger as L
use Rattle.model.specs.Ledger.{Ledger, unwritten, note, lose, finish_write, finish_update, finish_writes, finish_updates}
use Rattle.model.specs.Acts.{Act, event, looking, importing, exporting, restarting, cutting, cutting_in, World, fed, landed, noted, partly, wholly, fed_part, part, act, allowed, legal, run, start}
use Rattle.model.specs.Demand3.{Demand3}
use Rattle.model.specs.FromPack.{FromPack, ListedLive}
use Rattle.sheets.specs.Sheet.{number_in}
use Rattle.model.specs.Import.{sheet_of, imported, import_answer, import}
use Rattle.model.specs.Stores as S
use Rattle.model.specs.Stores.{Call}
use Rattle.invariant.proofs.ChipKept.{Copies}
use Rattle.crash.proofs.Found.{whole_tied}
use Rattle.invariant.proofs.Kept.{raised_good, whole_kept}
use Rattle.invariant.proofs.Imports.{midway, import_kept}
use Rattle.invariant.proofs.ImportChip.{midway_chip, import_chip}
use Rattle.invariant.proofs.Imported.{import_before}
use Rattle.invariant.proofs.Midst.{Inside, inside, part_none, part_event, part_import}
use Rattle.crash.proofs.Partly.{mid_tied}
use Rattle.crash.proofs.ImportTied.{import_tied}
use Rattle.invariant.proofs.RestartedRecords.{zero_at}
use Rattle.crash.proofs.Writes.{no_write_holds, no_update_holds}
use Rattle.crash.proofs.Link.{OnDisk, Tied}
use Rattle.crash.proofs.Steps.{Good, before}
use Rattle.crash.proofs.Raised.{raise_good}
use Rattle.crash.proofs.Events.{steps}
use Rattle.crash.proofs.Says.{says, says_from_pack, listed_live_holds}
use Rattle.crash.proofs.Start.{start_good, format_good}
use Rattle.crash.proofs.Restarted.{raised_tied}
use Rattle.crash.proofs.Cut.{all_landed}
use Rattle.crash.proofs.Pack.{same_pack}

-- nothing open, nothing finished at a cut
pub none_written : (n : ℕ) (lands : ℕ → Bool) (l : Ledger) → ((f : ℕ) → f < n → ¬ (T (l.pending.writing f))) → finish_writes n lands l ≡ l
unfolding finish_writes
none_written zero lands l c = refl
none_written (suc f) lands l c = go (lands f) (none_written f lands l (λ g h. c g (omega arith)))
  where
    go : (b : Bool) → finish_writes f lands l ≡ l → if b (finish_write f (finish_writes f lands l)) (finish_writes f lands l) ≡ l
    go true e = ap (finish_write f) e ∙ no_write_holds f l (c f (omega arith))
    go false e = e

none_updated : (n : ℕ) (lands : ℕ → Bool) (l : Ledger) → ((s : ℕ) → s < n → ¬ (T (l.pending.updating s))) → finish_updates n lands l ≡ l
unfolding finish_updates
none_updated zero lands l c = refl
none_updated (suc s) lands l c = go (lands s) (none_updated s lands l (λ t h. c t (omega arith)))
  where
    go : (b : Bool) → finish_updates s lands l ≡ l → if b (finish_update s (finish_updates s lands l)) (finish_updates s lands l) ≡ l
    go true e = ap (finish_update s) e ∙ no_update_holds s l (c s (omega arith))
    go false e = e

-- what a cut leaves: the disk, and the ledger's finished part
lost : (z : Sizes) (st : State) (l : Ledger) (junk : Memory) → Holds (memory_lengths z junk) → Fit z st → R.OnDisk z (files st) → OnDisk z st l → Good z (record { up = false; state = record { disk = st.disk; memory = junk }; ledger = lose l })
unfolding lose
lost z st l junk lengths f r d = record {
  fit = record { sizes = f.sizes; disk = f.disk; memory = memory_fit z junk lengths.0 };
  rules = record { empty_account_holds = r.empty_account_holds; empty_map_holds = r.empty_map_holds; map_fit_holds = r.map_fit_holds; map_once_holds = r.map_once_holds; number_once_holds = r.number_once_holds; account_fit_holds = r.account_fit_holds; parent_lower_holds = r.parent_lower_holds };
  disk = record { designs = d.designs; listing = d.listing };
  ruled = λ u. absurd u;
  copies = λ u. absurd u;
  memory = λ u. absurd u;
  closed = λ n. record { writing = λ f h t. t; updating = λ s h t. t };
}

-- a restarted keeper
up_good : (z : Sizes) (u : Bool) (st : State) (l : Ledger) → T u → Fit z st → R.Ruled z st → Copies z st → Tied z st l → Good z (record { up = u; state = st; ledger = l })
up_good z u st l t f r c k = record { fit = f; rules = r.disk; disk = k.disk; ruled = λ x. r; copies = λ x. c; memory = λ x. k.memory; closed = λ n. absurd (n t) }

module _ (z : Sizes) where
  event_keeps : (w : World) (e : Event) → T w.up → Good z w → Good z (act z w (event e))
  unfolding act step noted
  event_keeps w e u k = go (answer z w.state e) refl
    where
      go : (n : ℕ) → answer z w.state e ≡ n → (let o = outcome n (result z w.state e) w.state (whole z w.state e) in Good z (record { up = w.up; state = o.left; ledger = noted z o (fed z w.state e) w.ledger }))
      go zero a =
          let q = before z w.state w.ledger e a (record { disk = k.disk; memory = k.memory u }) in
          let b = whole_kept z w.state e q.fit q.ruled (k.copies u) q.asked in
          up_good z w.up (whole z w.state e) (note z w.ledger (fed z w.state e)) u b.0 b.1 b.2 (whole_tied z w.state e q.fit q.ruled (k.copies u) q.asked _ (steps z e w.state w.ledger q))
      go (suc n) a = rw (ne_eqb (suc n) 0 (λ x. omega (arith, x))) k

  restart_keeps : (w : World) → Good z w → Good z (act z w restarting)
  unfolding act restart noted
  restart_keeps w k = go (first_no (ask 1 (all_fit z w.state) (ask 2 (disk_rules z w.state) none)))
    where
      go : (n : ℕ) → (let o = outcome n 0 w.state (restarted z (raised z w.state.disk)) in Good z (record { up = if (eqb o.answer.refusal 0) true w.up; state = o.left; ledger = noted z o (L.restarted w.state.disk) w.ledger }))
      go zero =
          let b = raised_good z w.state k.fit k.rules in
          up_good z true (restarted z (raised z w.state.disk)) (note z w.ledger (L.restarted w.state.disk)) tt b.0 b.1 b.2 (raised_tied z w.state w.ledger k.fit.sizes.pages k.rules k.disk)
      go (suc n) = rw (ne_eqb (suc n) 0 (λ x. omega (arith, x))) k

  cut_keeps : (w : World) (writes updates : ℕ → Bool) (junk : Memory) → Holds (memory_lengths z junk) → Good z w → Good z (act z w (cutting writes updates junk))
  unfolding act landed note
  cut_keeps w writes updates junk lengths k = go w.up refl
    where
      after : Disk → Ledger → World
      after d l = record { up = false; state = record { disk = d; memory = junk }; ledger = lose l }

      go : (b : Bool) → w.up ≡ b → Good z (record { up = false; state = record { disk = if b (landed z w.state writes updates) w.state.disk; memory = junk }; ledger = note z w.ledger (L.cut writes updates) })
      go true e =
          let u : T w.up = rw e tt in
          let t = all_landed z w.state writes updates w.ledger (record { fit = k.fit; ruled = k.ruled u; tied = record { disk = k.disk; memory = k.memory u } }) in
          subst (λ (d : Disk). Good z (after d (finish_updates z.slots updates (finish_writes z.frames writes w.ledger)))) t.2 (lost z t.0 _ junk lengths t.1.fit t.1.ruled.disk t.1.tied.disk)
      go false e =
          let c = k.closed (λ u. rw e at u) in
          let same : finish_updates z.slots updates (finish_writes z.frames writes w.ledger) ≡ w.ledger =
          ap (finish_updates z.slots updates) (none_written z.frames writes w.ledger c.writing) ∙ none_updated z.slots updates w.ledger c.updating in
          subst (λ (l : Ledger). Good z (after w.state.disk l)) (sym same) (lost z w.state w.ledger junk lengths k.fit k.rules k.disk)

  tied_of : (w : World) → T w.up → Good z w → Tied z w.state w.ledger
  tied_of w u k = record { disk = k.disk; memory = k.memory u }

  -- in the midst of a call
  pub part_keeps : (w : World) (c : Call) (n : ℕ) (junk : Memory) → Inside z w c n junk → Good z w → Good z (part z w c n)
  unfolding part fed_part
  part_keeps w (S.event e) n junk i k = elim (part_event z w e n junk i) [ inl same ↦ subst (Good z) (sym same) k | inr b ↦ subst (Good z) (sym b.world) (raise_good z w b.number k) ]
  part_keeps w (S.importing s q m b) zero junk i k = subst (Good z) (sym (part_none z w (S.importing s q m b))) k
  part_keeps w (S.importing s q m b) (suc n) junk i k =
      let p = part_import z w s q m b n junk i in
      let x = import_before z w.state s q m b p.0 in
      let y = midway z w.state s q m (sheet_of b) x n p.1 in
      let l : Ledger = partly z w.state s m (sheet_of b) n w.ledger in
      subst (λ (st : State). Good z (record { up = w.up; state = st; ledger = l })) (sym p.2)
      (up_good z w.up _ l i.up y.fit y.ruled (midway_chip z w.state s q m (sheet_of b) x (k.copies i.up) n p.1) (mid_tied z w.state s q m (sheet_of b) w.ledger x (tied_of w i.up k) n p.1))

  import_keeps : (w : World) (s q n : ℕ) (b : List ℕ) → T w.up → Good z w → Good z (act z w (importing s q n b))
  unfolding act import
  import_keeps w s q n b u k = go (import_answer z w.state s q n b) refl
    where
      go : (m : ℕ) → import_answer z w.state s q n b ≡ m → (let o = outcome m (number_in b) w.state (imported z w.state s q n (sheet_of b)) in
          Good z (record { up = w.up; state = o.left; ledger = if (eqb o.answer.refusal 0) (wholly z w.state s n (sheet_of b) w.ledger) w.ledger }))
      go zero a =
          let c = import_before z w.state s q n b a in
          let x = import_kept z w.state s q n (sheet_of b) c in
          up_good z w.up (imported z w.state s q n (sheet_of b)) _ u x.0 x.1 (import_chip z w.state s q n (sheet_of b) c (k.copies u)) (import_tied z w.state w.ledger s q n (sheet_of b) c (tied_of w u k))
      go (suc m) a = rw (ne_eqb (suc m) 0 (λ x. omega (arith, x))) k

  pub act_keeps : (w : World) (a : Act) → T (allowed z w a) → Good z w → Good z (act z w a)
  unfolding allowed act
  act_keeps w (event e) t k = event_keeps w e t k
  act_keeps w (looking s p) t k = k
  act_keeps w (importing s q n b) t k = import_keeps w s q n b t k
  act_keeps w (exporting s buffer) t k = k
  act_keeps w restarting t k = restart_keeps w k
  act_keeps w (cutting writes updates junk) t k = cut_keeps w writes updates junk (sound (memory_lengths z junk) t) k
  act_keeps w (cutting_in c n writes updates junk) t k = let i = inside z w c n writes updates junk t in cut_keeps (part z w c n) writes updates junk i.lengths (part_keeps w c n junk i k)

  pub run_keeps : (acts : List Act) (w : World) → T (legal z w acts) → Good z w → Good z (run z w acts)
  unfolding run legal
  run_keeps [] w t k = k
  run_keeps (a ∷ acts) w t k = run_keeps acts (act z w a) (and_right (allowed z w a) (legal z (act z w a) acts) t) (act_keeps w a (and_left (allowed z w a) (legal z (act z w a) acts) t) k)

-- Demand 3 from any pack that keeps the disk rules.
pub demand3_from_pack : FromPack
unfolding start unwritten
demand3_from_pack z pack junk acts sizes disk lengths rules t =
    (same_pack z acts (start z pack junk), says_from_pack z (run z (start z pack junk) acts) (run_keeps z acts (start z pack junk) t (start_good z pack junk sizes (disk_fit z pack disk) lengths (R.disk_ruled z (record { disk = pack; memory = junk }) rules))))

-- Demand 3, from a finished format.
pub demand3 : Demand3
unfolding start unwritten formatted
demand3 z parents junk acts sizes low lengths t = let w = start z (formatted z parents) junk in
    says z (run z w acts) (run_keeps z acts w t (format_good z parents junk sizes low lengths)) (λ i. ap (λ (d : Disk). at d.maps i) (same_pack z acts w) ∙ zero_at (all_pages z) i)

-- Beyond the papers: a listed page was live when its design's last finished update began, or is the pack's.
pub listed_was_live : ListedLive
unfolding start unwritten
listed_was_live z pack junk acts sizes disk lengths rules t =
    listed_live_holds z (run z (start z pack junk) acts) (run_keeps z acts (start z pack junk) t (start_good z pack junk sizes (disk_fit z pack disk) lengths (R.disk_ruled z (record { disk = pack; memory = junk }) rules)))
