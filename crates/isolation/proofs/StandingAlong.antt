-- That every record holds the words of the last finished write into it, or the pack's, is kept by cuts, imports and every act.
use mathlib.Core.Path.{◌≡◌, refl, ap, sym, ◌∙◌, subst}
use mathlib.Core.Bool.{Bool, true, false, ◌&&◌}
use mathlib.Core.List.{List, [], ◌∷◌}
use mathlib.Core.Logic.{inl, inr}
use Prim.Native.Nat.{ℕ, zero, suc, ◌≤◌, ◌*◌}
use native.Mathlib.Omega.{arith}
use native.Mathlib.Decide.{ℕ_discrete}
use lib.Dec.{T, eqb}
use lib.ListN.{length}
use borrow.Author.Tests.{eq-eqb, ne_eqb}
use Rattle.tables.specs.Base.{at, if}
use Rattle.tables.specs.Laws.{T→true, if_elim}
use Rattle.tables.specs.Questions.{first_no, ask, none}
use Rattle.tables.specs.Store.{length_store}
use Rattle.sheets.specs.Sheet.{number_in}
use Rattle.model.specs.declared.sizes.Sizes.{Sizes}
use Rattle.model.specs.declared.event.Event.{Event}
use Rattle.model.specs.State.{Disk, Memory, State, files, frames, WRITING}
use Rattle.model.specs.Setters.{raise, counted}
use Rattle.model.specs.Parts.{word_at, set_part}
use Rattle.model.specs.Writeback as Writeback
use Rattle.model.specs.Writeback.{record_in}
use Rattle.model.specs.Rules.{disk_rules}
use Rattle.model.specs.Laws.Ruled.{Ruled}
use Rattle.model.specs.Restart.{raised, restarted}
use Rattle.model.specs.Laws.Fit.{Fit}
use Rattle.model.specs.Step.{outcome, all_fit, answer, supplied, whole, result, step, restart}
use Rattle.model.specs.Ledger as L
use Rattle.model.specs.Ledger.{Ledger, note, ended, spent, carried_in, page_write, placed, lose, finish_write, finish_update, finish_writes, finish_updates, no_write, unwritten}
use Rattle.model.specs.Demand3.{last_into}
use Rattle.model.specs.Import.{Sheet, sheet_of, taken, store_record, store_slot, made, imported, import_answer, import}
use Rattle.model.specs.Stores as S
use Rattle.model.specs.Stores.{Call}
use Rattle.model.specs.Acts.{Act, event, looking, importing, exporting, restarting, cutting, cutting_in, World, fed, partly, wholly, fed_part, part, land_writes, land_updates, landed, noted, act, allowed, run, start}
use Rattle.invariant.proofs.Kept.{asked_all}
use Rattle.invariant.proofs.Imports.{Before, midway, nth_below}
use Rattle.invariant.proofs.Imported.{import_before}
use Rattle.invariant.proofs.Midst.{Inside, inside, part_none, part_event, part_import}
use Rattle.crash.proofs.Writes.{last_again, again, no_write_holds, put_other}
use Rattle.crash.proofs.Link.{InMemory}
use Rattle.crash.proofs.Steps.{Good}
use Rattle.crash.proofs.Pack.{same_pack}
use Rattle.crash.proofs.Demand3.{none_written, part_keeps}
use Rattle.isolation.proofs.Standing.{Stand, Stands, stand_write, writing_frame, carried_stands}

-- ── a cut: what lands is finished ──
finish_stand : (z : Sizes) (word : ℕ → ℕ) (pack : Disk) (g : ℕ) (x : Ledger) → T (x.pending.writing g) → Stand z word pack (ended (x.pending.write g) (suc (length x.finished)) ∷ x.finished) → Stand z word pack (finish_write g x).finished
unfolding finish_write
finish_stand z word pack g x t s = rw (T→true (x.pending.writing g) t) s

module _ (z : Sizes) (st : State) (lands : ℕ → Bool) (l : Ledger) where
  -- what finishing a write leaves as it was
  once_write : (f : ℕ) (x : Ledger) → (finish_write f x).pending.write ≡ x.pending.write
  unfolding finish_write
  once_write f x = if_elim (λ (y : Ledger). y.pending.write ≡ x.pending.write) (x.pending.writing f) _ _ (λ t. refl) (λ t. refl)

  once_flag : (f : ℕ) (x : Ledger) (g : ℕ) → ¬ (g ≡ f) → (finish_write f x).pending.writing g ≡ x.pending.writing g
  unfolding finish_write
  once_flag f x g n = if_elim (λ (y : Ledger). y.pending.writing g ≡ x.pending.writing g) (x.pending.writing f) _ _ (λ t. put_other x.pending.writing f false g n) (λ t. refl)

  same_write : (n : ℕ) → (finish_writes n lands l).pending.write ≡ l.pending.write
  unfolding finish_writes
  same_write zero = refl
  same_write (suc f) = if_elim (λ (y : Ledger). y.pending.write ≡ l.pending.write) (lands f) _ _ (λ t. once_write f (finish_writes f lands l) ∙ same_write f) (λ t. same_write f)

  same_flag : (n g : ℕ) → n ≤ g → (finish_writes n lands l).pending.writing g ≡ l.pending.writing g
  unfolding finish_writes
  same_flag zero g h = refl
  same_flag (suc f) g h = if_elim (λ (y : Ledger). y.pending.writing g ≡ l.pending.writing g) (lands f) _ _ (λ t. once_flag f (finish_writes f lands l) g (λ e. omega (arith, e, h)) ∙ same_flag f g (omega arith)) (λ t. same_flag f g (omega arith))

  module _ (f : Fit z st) (r : Ruled z st) (m : InMemory z st l) (s : Stand z (at st.disk.records) l.pack l.finished) where
    -- the first n frames' writes have landed
    record Landed (n : ℕ) : Type 0 where
      pub long : length (land_writes z st lands n st.disk).records ≡ z.records * z.words
      pub stand : Stand z (at (land_writes z st lands n st.disk).records) l.pack (finish_writes n lands l).finished

    landed_writes : (n : ℕ) → n ≤ z.frames → Landed n
    unfolding land_writes finish_writes Writeback.store_frame
    landed_writes zero h = record { long = f.disk.records; stand = s }
    landed_writes (suc g) h = let i = landed_writes g (omega arith) in record { long = long i (lands g && eqb t WRITING); stand = stand i (lands g) (ℕ_discrete t WRITING) }
      where
        t : ℕ
        t = ((frames st).frame g).transfer

        d : Disk
        d = land_writes z st lands g st.disk

        x : Ledger
        x = finish_writes g lands l

        long : Landed g → (b : Bool) → length (if b (Writeback.store_frame z st g d) d).records ≡ z.records * z.words
        long i true = length_store d.records _ _ ∙ i.long
        long i false = i.long

        stand : Landed g → (b : Bool) → Dec (t ≡ WRITING) → Stand z (at (if (b && eqb t WRITING) (Writeback.store_frame z st g d) d).records) l.pack (if b (finish_write g x) x).finished
        stand i true (yes e) =
            let o = writing_frame z st l r m g h e in
            rw (eq-eqb t WRITING e) (finish_stand z (at (set_part z (record_in z st g) (word_at z st.memory.core.words g) d.records)) l.pack g x (rw (same_flag g g (omega arith)) o.flag)
            (stand_write z d.records l.pack x.finished (x.pending.write g) (length x.finished) (record_in z st g) (word_at z st.memory.core.words g) i.long
            (o.same ∙ sym (ap (λ (y : ℕ → L.Write). (y g).record') (same_write g))) o.within (λ k k'. o.words k k' ∙ sym (ap (λ (y : ℕ → L.Write). (y g).words k) (same_write g))) i.stand))
        stand i true (no e) = rw (ne_eqb t WRITING e, no_write_holds g x (λ y. e ((m.framed g h).only (subst T (same_flag g g (omega arith)) y)))) i.stand
        stand i false e = i.stand

-- updates are no words, and finish no write
updates_records : (z : Sizes) (st : State) (lands : ℕ → Bool) (n : ℕ) (d : Disk) → (land_updates z st lands n d).records ≡ d.records
unfolding land_updates Writeback.store_image
updates_records z st lands zero d = refl
updates_records z st lands (suc s) d = if_elim (λ (x : Disk). x.records ≡ d.records) (lands s && eqb ((files st).updating s) 1) _ _ (λ t. updates_records z st lands s d) (λ t. updates_records z st lands s d)

updates_finished : (n : ℕ) (lands : ℕ → Bool) (l : Ledger) → (finish_updates n lands l).finished ≡ l.finished
unfolding finish_updates finish_update
updates_finished zero lands l = refl
updates_finished (suc s) lands l = if_elim (λ (x : Ledger). x.finished ≡ l.finished) (lands s) _ _
    (λ t. if_elim (λ (x : Ledger). x.finished ≡ l.finished) ((finish_updates s lands l).pending.updating s) _ _ (λ u. updates_finished s lands l) (λ u. updates_finished s lands l)) (λ t. updates_finished s lands l)

-- a restart counts writes anew, and changes none
recounted : (z : Sizes) (d : Disk) (l : Ledger) (word : ℕ → ℕ) → Stand z word l.pack l.finished → Stand z word l.pack (note z l (L.restarted d)).finished
unfolding note lose again
recounted z d l word s r h k m = let e = last_again z d l.design r l.finished in record {
  wrote = λ t. rw e ((s r h k m).wrote (rw e at t));
  none = λ t. (s r h k m).none (rw e at t);
}

-- ── an import: each record store is a finished write ──
module _ (z : Sizes) (st : State) (l : Ledger) (s q n : ℕ) (h : Sheet) (b : Before z st s q n h) (stand : Stand z (at st.disk.records) l.pack l.finished) where
  pub midway_stands : (k : ℕ) → k ≤ h.count → (let x = partly z st s n h k l in Stand z (at (made z st s q n h k (raise n st.disk)).records) x.pack x.finished)
  unfolding made store_record partly note spent carried_in
  midway_stands zero i = stand
  midway_stands (suc k) i =
      let x : Ledger = partly z st s n h k l in
      stand_write z (made z st s q n h k (raise n st.disk)).records x.pack x.finished (page_write x.births (h.page k) (taken z st s k) (h.word k)) (length x.finished) (taken z st s k) (h.word k)
      (midway z st s q n h b k (omega (arith, i))).fit.disk.records refl (nth_below z st s q n h b k) (λ j g. refl) (midway_stands k (omega (arith, i)))

  whole_stands : (let x = wholly z st s n h l in Stand z (at (imported z st s q n h).disk.records) x.pack x.finished)
  unfolding imported counted store_slot wholly note placed
  whole_stands = midway_stands h.count (omega arith)

-- ── every act ──
module _ (z : Sizes) where
  import_stands : (w : World) (s q n : ℕ) (b : List ℕ) → Stands z w → Stands z (act z w (importing s q n b))
  unfolding act import
  import_stands w s q n b k = go (import_answer z w.state s q n b) refl
    where
      go : (m : ℕ) → import_answer z w.state s q n b ≡ m → (let o = outcome m (number_in b) w.state (imported z w.state s q n (sheet_of b)) in
          Stands z (record { up = w.up; state = o.left; ledger = if (eqb o.answer.refusal 0) (wholly z w.state s n (sheet_of b) w.ledger) w.ledger }))
      go zero a = whole_stands z w.state w.ledger s q n (sheet_of b) (import_before z w.state s q n b a) k
      go (suc m) a = rw (ne_eqb (suc m) 0 (λ x. omega (arith, x))) k

  -- in the midst of a call
  pub part_stands : (w : World) (c : Call) (n : ℕ) (junk : Memory) → Inside z w c n junk → Stands z w → Stands z (part z w c n)
  unfolding part fed_part
  part_stands w (S.event e) n junk i k = elim (part_event z w e n junk i) [ inl same ↦ subst (Stands z) (sym same) k | inr b ↦ subst (Stands z) (sym b.world) k ]
  part_stands w (S.importing s q m b) zero junk i k = subst (Stands z) (sym (part_none z w (S.importing s q m b))) k
  part_stands w (S.importing s q m b) (suc n) junk i k =
      let p = part_import z w s q m b n junk i in
      let x : Ledger = partly z w.state s m (sheet_of b) n w.ledger in
      subst (λ (st : State). Stand z (at st.disk.records) x.pack x.finished) (sym p.2) (midway_stands z w.state w.ledger s q m (sheet_of b) (import_before z w.state s q m b p.0) k n p.1)

  event_stands : (w : World) (e : Event) → T w.up → Good z w → Stands z w → Stand z (at (act z w (event e)).state.disk.records) w.ledger.pack (act z w (event e)).ledger.finished
  unfolding act step noted whole supplied
  event_stands w e u g s = go (answer z w.state e) refl
    where
      go : (n : ℕ) → answer z w.state e ≡ n → (let o = outcome n (result z w.state e) w.state (whole z w.state e) in Stand z (at o.left.disk.records) w.ledger.pack (noted z o (fed z w.state e) w.ledger).finished)
      go zero a = carried_stands z w.state w.ledger g.fit (g.ruled u) (g.memory u) s e (asked_all z w.state e a).1.1
      go (suc n) a = rw (ne_eqb (suc n) 0 (λ x. omega (arith, x))) s

  restart_stands : (w : World) → Stands z w → Stand z (at (act z w restarting).state.disk.records) w.ledger.pack (act z w restarting).ledger.finished
  unfolding act restart noted restarted raised counted
  restart_stands w s = go (first_no (ask 1 (all_fit z w.state) (ask 2 (disk_rules z w.state) none)))
    where
      go : (n : ℕ) → (let o = outcome n 0 w.state (restarted z (raised z w.state.disk)) in Stand z (at o.left.disk.records) w.ledger.pack (noted z o (L.restarted w.state.disk) w.ledger).finished)
      go zero = recounted z w.state.disk w.ledger (at w.state.disk.records) s
      go (suc n) = rw (ne_eqb (suc n) 0 (λ x. omega (arith, x))) s

  cut_stands : (w : World) (writes updates : ℕ → Bool) (junk : Memory) → Good z w → Stands z w → Stand z (at (act z w (cutting writes updates junk)).state.disk.records) w.ledger.pack (act z w (cutting writes updates junk)).ledger.finished
  unfolding act landed note lose
  cut_stands w writes updates junk g s = go w.up refl
    where
      x : Ledger
      x = finish_writes z.frames writes w.ledger

      go : (b : Bool) → w.up ≡ b → Stand z (at (if b (landed z w.state writes updates) w.state.disk).records) w.ledger.pack (finish_updates z.slots updates x).finished
      go true e = let u : T w.up = rw e tt in
          rw (updates_records z w.state updates z.slots (land_writes z w.state writes z.frames w.state.disk), updates_finished z.slots updates x)
          (landed_writes z w.state writes w.ledger g.fit (g.ruled u) (g.memory u) s z.frames (omega arith)).stand
      go false e = rw (updates_finished z.slots updates x, none_written z.frames writes w.ledger (g.closed (λ u. rw e at u)).writing) s

  -- an act leaves the ledger its pack
  packed : (w : World) (a : Act) → Stand z (at (act z w a).state.disk.records) w.ledger.pack (act z w a).ledger.finished → Stands z (act z w a)
  unfolding run
  packed w a s = subst (λ (p : Disk). Stand z (at (act z w a).state.disk.records) p (act z w a).ledger.finished) (sym (same_pack z (a ∷ []) w)) s

  pub act_stands : (w : World) (a : Act) → T (allowed z w a) → Good z w → Stands z w → Stands z (act z w a)
  unfolding allowed act run
  act_stands w (event e) t g s = packed w (event e) (event_stands w e t g s)
  act_stands w (looking p q) t g s = s
  act_stands w (importing p q n b) t g s = import_stands w p q n b s
  act_stands w (exporting p buffer) t g s = s
  act_stands w restarting t g s = packed w restarting (restart_stands w s)
  act_stands w (cutting writes updates junk) t g s = packed w (cutting writes updates junk) (cut_stands w writes updates junk g s)
  act_stands w (cutting_in c n writes updates junk) t g s =
      let i = inside z w c n writes updates junk t in
      packed (part z w c n) (cutting writes updates junk) (cut_stands (part z w c n) writes updates junk (part_keeps z w c n junk i g) (part_stands w c n junk i s))

  pub start_stands : (pack : Disk) (junk : Memory) → Stands z (start z pack junk)
  unfolding start unwritten last_into no_write
  start_stands pack junk r h k m = record { wrote = λ t. absurd (omega arith); none = λ t. refl }
