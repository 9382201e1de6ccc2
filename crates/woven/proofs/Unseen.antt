-- A read shows a function of the disk that the last restart found and of what was woven since; so two keepers that differ in memory alone show the same.
use mathlib.Core.Path.{◌≡◌, refl, ap, sym, ◌∙◌}
use mathlib.Core.List.{List, [], ◌∷◌}
use Prim.Native.Nat.{ℕ, zero, suc, ◌<◌}
use native.Mathlib.Omega.{arith}
use lib.Dec.{T}
use lib.ListN.{length}
use lib.Seq.{ext_get_or}
use Rattle.tables.specs.Base.{at}
use Rattle.tables.specs.Laws.{and_left, and_right}
use Rattle.tables.specs.Rule.{Holds}
use Rattle.tables.specs.Questions.{first_no, all_yes}
use Rattle.model.specs.declared.sizes.Sizes.{Sizes}
use Rattle.model.specs.declared.event.Page.TheVariants.{Read}
use Rattle.model.specs.declared.event.Event.{Event}
use Rattle.model.specs.declared.event.Event.TheVariants as Event
use Rattle.model.specs.Sizes.{sizes_fit}
use Rattle.model.specs.State.{Disk, Memory, State, all_pages, page_of}
use Rattle.model.specs.Rules.{disk_rules}
use Rattle.model.specs.Laws.Ruled as R
use Rattle.model.specs.Laws.Index.{page_below}
use Rattle.model.specs.Questions.{questions, look_questions}
use Rattle.model.specs.Step.{outcome, answer, asked, result, step, look, all_above, disk_lengths, memory_lengths}
use Rattle.model.specs.Laws.Fit.{disk_fit}
use Rattle.model.specs.Ledger.{Fed, found}
use Rattle.model.specs.Acts.{Act, World, act, allowed, legal, run, start}
use Rattle.crash.proofs.Steps.{Good}
use Rattle.crash.proofs.Start.{start_good}
use Rattle.crash.proofs.Says.{says_from_pack}
use Rattle.crash.proofs.Demand3.{act_keeps}
use Rattle.woven.specs.Woven.{overlaid, woven, Since, act_by, run_by, legal_by, along, alike}
use Rattle.woven.specs.Without.{itself}
use Rattle.woven.proofs.Text.{told}

-- an outcome with refusal 0 has passed all questions
carried_out_holds : {A : Type 0} (n result : ℕ) (old new : A) → (outcome n result old new).answer.refusal ≡ 0 → n ≡ 0
carried_out_holds zero result old new e = refl
carried_out_holds (suc n) result old new e = absurd (omega (arith, e))

-- ── the keeper itself ──
module _ (z : Sizes) where
  pub run_itself : (acts : List Act) (w : World) → run_by z itself w acts ≡ run z w acts
  unfolding run_by act_by run
  run_itself [] w = refl
  run_itself (a ∷ acts) w = run_itself acts (act z w a)

  pub legal_itself : (acts : List Act) (w : World) → legal_by z itself w acts ≡ legal z w acts
  unfolding legal_by act_by legal
  legal_itself [] w = refl
  legal_itself (a ∷ acts) w = rw (legal_itself acts (act z w a))

  -- ── what is changed after an act keeps the invariant of demand 3 ──
  abbrev pub Keeps : (State → State) → Type 0
  Keeps tidy = (w : World) → Good z w → Good z (record { up = w.up; state = tidy w.state; ledger = w.ledger })

  pub itself_keeps : Keeps itself
  itself_keeps w k = k

  run_keeps : (tidy : State → State) → Keeps tidy → (acts : List Act) (w : World) → T (legal_by z tidy w acts) → Good z w → Good z (run_by z tidy w acts)
  unfolding run_by legal_by act_by
  run_keeps tidy h [] w t k = k
  run_keeps tidy h (a ∷ acts) w t k = run_keeps tidy h acts (act_by z tidy w a) (and_right (allowed z w a) (legal_by z tidy (act_by z tidy w a) acts) t)
      (h (act z w a) (act_keeps z w a (and_left (allowed z w a) (legal_by z tidy (act_by z tidy w a) acts) t) k))

  -- what a read and a page look show is woven
  pub record Shows (w : World) (c : Since) : Type 0 where
    pub reads : (s p n : ℕ) → (let o = step z w.state (Event.Page (Read s p n)) in o.answer.refusal ≡ 0 → o.answer.result ≡ woven z c.disk c.list (page_of z s p) n)
    pub looks : (s p : ℕ) → (let o = look z w.state s p in o.answer.refusal ≡ 0
        → (length o.left ≡ z.words) × ((n : ℕ) → n < z.words → at o.left n ≡ woven z c.disk c.list (page_of z s p) n))

  -- a list of acts of a keeper, from a pack that keeps the disk rules
  pub record List' : Type 0 where
    pub tidy : State → State
    pub keeps : Keeps tidy
    pub pack : Disk
    pub junk : Memory
    pub acts : List Act
    pub sizes : Holds (sizes_fit z)
    pub lengths : Holds (disk_lengths z pack)
    pub memory : Holds (memory_lengths z junk)
    pub rules : Holds (disk_rules z (record { disk = pack; memory = junk }))
    pub lawful : T (legal_by z tidy (start z pack junk) acts)

  abbrev pub after : List' → World
  after k = run_by z k.tidy (start z k.pack k.junk) k.acts

  abbrev pub since : List' → Since
  since k = along z k.tidy (start z k.pack k.junk) (record { disk = k.pack; list = [] }) k.acts

  good : (k : List') → Good z (after k)
  good k = run_keeps k.tidy k.keeps k.acts (start z k.pack k.junk) k.lawful
      (start_good z k.pack k.junk k.sizes (disk_fit z k.pack k.lengths) k.memory (R.disk_ruled z (record { disk = k.pack; memory = k.junk }) k.rules))

  -- Demand 2's reads in one function: after every list of demand 3 that is up, what is read is woven.
  pub reads_woven : (k : List') → T (after k).up → Shows (after k) (since k)
  unfolding start
  reads_woven k u =
      let a = says_from_pack z (after k) (good k) in
      let t = told z k.tidy k.acts (start z k.pack k.junk) (record { disk = k.pack; list = [] }) (λ x. absurd x) u in
      record {
        reads = λ s p n e. a.reads s p n u e ∙ t (page_of z s p) n;
        looks = λ s p e. ((a.looks s p u e).0, λ n h. (a.looks s p u e).1 n h ∙ t (page_of z s p) n);
      }

  -- ── two keepers ──
  woven_alike : (d e : Disk) (fs : List Fed) (i n : ℕ) → found z d i n ≡ found z e i n → woven z d fs i n ≡ woven z e fs i n
  unfolding woven
  woven_alike d e [] i n h = h
  woven_alike d e (f ∷ fs) i n h = ap (overlaid z f i n) (woven_alike d e fs i n h)

  -- a read that is not refused is of a page and a word within the sizes
  in_range : (st : State) (s p n : ℕ) → (step z st (Event.Page (Read s p n))).answer.refusal ≡ 0 → (page_of z s p < all_pages z) × (n < z.words)
  unfolding step answer
  in_range st s p n e =
      let e' : Event = Event.Page (Read s p n) in
      let a = (all_yes 0 (asked z st (questions z st e')) (all_above z st e') (carried_out_holds (answer z st e') (result z st e') st _ e)).1.1 in
      (page_below z (omega (arith, a.0.1.0)) s p a.0.0 a.0.1.0, a.0.1.1)

  -- Two lists of demand 3, of keepers that differ in what they do to memory alone, each from its last restart to the next cut: the restarts found like disks, and the accepted writes, truncations, creates and imports since were the same list.
  -- Then a read that both accept shows the same word.
  pub unseen : (a b : List') → T (after a).up → T (after b).up → Holds (alike z (since a).disk (since b).disk) → (since a).list ≡ (since b).list
      → (s p n : ℕ) → (let o = step z (after a).state (Event.Page (Read s p n)) in let o' = step z (after b).state (Event.Page (Read s p n)) in
      o.answer.refusal ≡ 0 → o'.answer.refusal ≡ 0 → o.answer.result ≡ o'.answer.result)
  unseen a b u v d l s p n e f =
      let r = in_range (after a).state s p n e in
      (reads_woven a u).reads s p n e ∙ ap (λ (x : List Fed). woven z (since a).disk x (page_of z s p) n) l
      ∙ woven_alike (since a).disk (since b).disk (since b).list (page_of z s p) n (d (page_of z s p) r.0 n r.1) ∙ sym ((reads_woven b v).reads s p n f)

  look_range : (st : State) (s p : ℕ) → (look z st s p).answer.refusal ≡ 0 → page_of z s p < all_pages z
  unfolding look
  look_range st s p e =
      let a = (all_yes 0 (asked z st (look_questions z st s p)) tt (carried_out_holds (first_no (asked z st (look_questions z st s p))) 0 [] _ e)).1.1 in
      page_below z (omega (arith, a.0.1)) s p a.0.0 a.0.1

  -- .. and a page look that both accept hands back the same words
  pub unseen_looks : (a b : List') → T (after a).up → T (after b).up → Holds (alike z (since a).disk (since b).disk) → (since a).list ≡ (since b).list
      → (s p : ℕ) → (let o = look z (after a).state s p in let o' = look z (after b).state s p in o.answer.refusal ≡ 0 → o'.answer.refusal ≡ 0 → o.left ≡ o'.left)
  unseen_looks a b u v d l s p e f =
      let r = look_range (after a).state s p e in let x = (reads_woven a u).looks s p e in let y = (reads_woven b v).looks s p f in
      ext_get_or 0 _ _ (x.0 ∙ sym y.0) (λ n h. let k : n < z.words = omega (arith, h, x.0) in
      x.1 n k ∙ ap (λ (t : List Fed). woven z (since a).disk t (page_of z s p) n) l
      ∙ woven_alike (since a).disk (since b).disk (since b).list (page_of z s p) n (d (page_of z s p) r n k) ∙ sym (y.1 n k))
