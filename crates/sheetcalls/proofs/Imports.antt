-- An import that is carried out: the tables that the code leaves make the imported state.
use mathlib.Core.Path.{◌≡◌, refl, ap, sym, ◌∙◌}
use mathlib.Core.Bool.{Bool}
use mathlib.Core.List.{List}
use Prim.Native.Nat.{ℕ, zero, suc, ◌+◌, ◌-◌, ◌%◌, ◌<◌}
use native.Mathlib.Omega.{arith}
use native.Mathlib.Decide.{ℕ_discrete}
use lib.Dec.{eqb}
use lib.ListN.{set, length-set}
use lib.Seq.{get_or-set_same, get_or-set_other}
use borrow.Author.Tests.{eq-eqb, ne_eqb}
use Rattle.tables.specs.Base.{at, if}
use Rattle.tables.specs.Questions.{Questions, first_no}
use Rattle.tables.specs.Store.{store}
use Rattle.tables.specs.TabLaws.{tab_entries}
use Rattle.sheets.specs.Sheet.{number_in, count_in}
use Rattle.model.specs.declared.sizes.Sizes.{Sizes}
use Rattle.model.specs.declared.event.Answer.{Answer}
use Rattle.model.specs.State.{Disk, State, files, frames, used_of, free_count}
use Rattle.model.specs.Setters.{raise, counted}
use Rattle.model.specs.Parts.{of_slot}
use Rattle.model.specs.Payer.{payer}
use Rattle.model.specs.Pool.{taken}
use Rattle.model.specs.Lent.{state_in, same_state}
use Rattle.model.specs.Questions.{import_questions}
use Rattle.model.specs.Laws.Own.{leaves}
use Rattle.model.specs.Laws.Takes.{left}
use Rattle.model.specs.Step.{Outcome, outcome}
use Rattle.model.specs.Import.{Sheet, Taking, sheet_of, taking, store_record, store_slot, made, imported, import, import_answer}
use Rattle.leaves.specs.FreeMap.{free_map_table}
use Rattle.invariant.proofs.Imports.{Before}
use Rattle.invariant.proofs.Imported.{import_before}
use Rattle.invariant.proofs.ImportUsed.{import_used}
use Rattle.carrying.specs.Seen.{seen}
use Rattle.carrying.specs.Imports.{Tables, tables_of, used_more, answered, imported_tables, import_of}
use Rattle.carrying.proofs.Whole.{same_taking, same_entry, same_records}
use Rattle.calls.specs.Common.{common, common_passes}

-- the tables of a state that an import changes, and the state with others in their place
abbrev pub tables_in : State → Tables
tables_in st = tables_of st.memory.held.pool st.disk.records st.disk.numbers st.disk.accounts st.disk.maps st.disk.highest st.memory.held.states st.memory.held.owners st.memory.held.free_map st.memory.used

abbrev pub with : State → Tables → State
with st t = let m = st.memory in let d = st.disk in
    state_in m.chip m.line m.core.frames t.pool t.records t.numbers t.accounts t.maps d.limits d.parents t.highest m.core.words m.core.free_queue m.core.removal_list
    m.held.addresses t.states t.owners t.free_map m.slots.active m.slots.updating m.slots.images t.used

module _ (z : Sizes) (st : State) (s q n : ℕ) (b : List ℕ) where
  abbrev h : Sheet
  h = sheet_of b

  abbrev c : ℕ
  c = count_in b

  abbrev seen' : State
  seen' = seen st.memory.held.pool.hand st.memory.held.states st.memory.held.owners

  abbrev pays : ℕ
  pays = payer (files st).parent (files st).limit q

  -- ── carried out ──
  module _ (k : Before z st s q n h) where
    abbrev t : Taking
    t = taking z st s c

    -- so many free less
    free_left_holds : st.memory.held.pool.free - c ≡ free_count z (at t.states)
    free_left_holds = omega (arith, k.ruled.counts.free, left z st s k.fit.sizes.records k.fit.memory.states k.fit.memory.owners k.ruled.counts.hand c k.enough c (omega arith))

    -- so many used more
    used_now : (a : ℕ) → a < z.accounts → at (used_more st.memory.used pays c) a ≡ used_of z (files (imported z st s q n h)) (frames (imported z st s q n h)) a
    used_now a i = elim (ℕ_discrete a pays) [
      | yes e ↦ rw e (get_or-set_same st.memory.used pays (at st.memory.used pays + c) 0 (rw (k.fit.memory.used, ← e) i)) ∙ counted_here e
      | no e ↦ get_or-set_other st.memory.used pays a (at st.memory.used pays + c) 0 e ∙ counted_there e
    ]
      where
        was : at st.memory.used a ≡ used_of z (files st) (frames st) a
        was = k.ruled.counts.used a i

        more : used_of z (files (imported z st s q n h)) (frames (imported z st s q n h)) a ≡ used_of z (files st) (frames st) a + if (eqb pays a) c 0
        more = import_used z st s q n h k a

        counted_here : a ≡ pays → at st.memory.used pays + c ≡ used_of z (files (imported z st s q n h)) (frames (imported z st s q n h)) a
        counted_here e = ap (λ (x : ℕ). at st.memory.used x + c) (sym e) ∙ ap (λ (x : ℕ). x + c) was ∙ ap (λ (y : Bool). used_of z (files st) (frames st) a + if y c 0) (sym (eq-eqb pays a (sym e))) ∙ sym more

        counted_there : ¬ (a ≡ pays) → at st.memory.used a ≡ used_of z (files (imported z st s q n h)) (frames (imported z st s q n h)) a
        counted_there e = was ∙ omega arith ∙ ap (λ (y : Bool). used_of z (files st) (frames st) a + if y c 0) (sym (ne_eqb pays a (λ f. e (sym f)))) ∙ sym more

    used_left_holds : used_more st.memory.used pays c ≡ (imported z st s q n h).memory.used
    unfolding imported counted
    used_left_holds = tab_entries z.accounts _ (used_more st.memory.used pays c) (length-set st.memory.used pays _ ∙ k.fit.memory.used) used_now

    -- the stores of records leave the other tables of the disk alone
    made_same : (x : Disk) (k : ℕ) → (let d = made z st s q n h k x in
        (d.numbers ≡ x.numbers) × (d.accounts ≡ x.accounts) × (d.maps ≡ x.maps) × (d.limits ≡ x.limits) × (d.parents ≡ x.parents) × (d.highest ≡ x.highest))
    unfolding made store_record
    made_same x zero = (refl, refl, refl, refl, refl, refl)
    made_same x (suc k) = made_same x k

    pub import_left : with st (imported_tables z s q n b st.disk.limits st.disk.parents (tables_in st)) ≡ imported z st s q n h
    unfolding imported_tables imported counted store_slot
    import_left =
        let took : taking z seen' s c ≡ taking z st s c = sym (same_taking z st s c) in
        let (numbers, accounts, maps, limits, parents, highest) = made_same (raise n st.disk) c in
        same_state refl
        (λ i. record { hand = (taken z (took i).last st.memory.held.pool).hand; free = free_left_holds i })
        (sym (same_records z st s q n h c (raise n st.disk)))
        (ap (λ (l : List ℕ). set l s n) (sym numbers))
        (ap (λ (l : List ℕ). set l s q) (sym accounts))
        (λ i. store (sym maps i) (of_slot z s) (λ j. sym (same_entry z st s q n h (j % z.pages)) i))
        (sym limits)
        (sym parents)
        (sym highest)
        refl
        refl
        refl
        refl
        (λ i. (took i).states)
        (λ i. (took i).owners)
        (λ i. free_map_table z (at (took i).states))
        refl
        refl
        refl
        used_left_holds

  abbrev questions : Questions
  questions = import_questions z st s q n b

  abbrev after : Tables
  after = imported_tables z s q n b st.disk.limits st.disk.parents (tables_in st)

  -- the call, by the event's outcome
  pub import_done : {answer : Answer} {t : Tables} → common z st ≡ 0 → answered answer t ≡ import_of z s q n b st.disk.limits st.disk.parents (tables_in st) → leaves answer (with st t) ≡ import z st s q n b
  unfolding import import_of import_answer
  import_done {answer} {t} e p =
      ap (λ (o : Outcome Tables). leaves o.answer (with st o.left)) p ∙ go (first_no questions) refl ∙ ap (λ (m : ℕ). outcome m (number_in b) st (imported z st s q n h)) (sym (common_passes z st questions e))
    where
      go : (m : ℕ) → first_no questions ≡ m → (let o = outcome m (number_in b) (tables_in st) after in leaves o.answer (with st o.left) ≡ outcome m (number_in b) st (imported z st s q n h))
      go zero f = ap (leaves (record { refusal = 0; result = number_in b })) (import_left (import_before z st s q n b (common_passes z st questions e ∙ f)))
      go (suc m) f = refl
