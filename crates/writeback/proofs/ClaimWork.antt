-- Claim: each of the code's ways out leaves what the definition says.
use mathlib.Core.Path.{◌≡◌, refl, ap, sym, ◌∙◌}
use mathlib.Core.Bool.{Bool, true, false, not}
use mathlib.Core.List.{List}
use mathlib.Core.Logic.{◌⊎◌}
use Prim.Native.Nat.{ℕ, suc, ◌+◌, ◌-◌, ◌*◌, ◌/◌, ◌<◌, ◌≤◌, pred}
use native.Mathlib.Omega.{arith}
use native.Mathlib.Decide.{ℕ_discrete}
use lib.Dec.{eqb}
use lib.ListN.{length, take, set}
use borrow.Author.Tests.{eq-eqb, ne_eqb}
use Rattle.tables.specs.Base.{at, if, all}
use Rattle.tables.specs.Queue.{queue_of, size, members, packed, times, first, pop, push_back}
use Rattle.tables.specs.QueueLaws.{size_members, members_within}
use Rattle.tables.specs.QueueEntries.{size_more, size_zero}
use Rattle.tables.specs.Questions.{first_no, yes_all}
use Rattle.tables.specs.Rule.{Holds}
use Rattle.model.specs.declared.sizes.Sizes.{Sizes}
use Rattle.model.specs.declared.frame.Frame.{Frame}
use Rattle.model.specs.declared.event.Answer.{Answer}
use Rattle.model.specs.Lines.{NULLED, LIVE}
use Rattle.model.specs.State.{State, WRITING, frame_at, no_frame, payer}
use Rattle.model.specs.Setters.{on_core, on_held, set_states, set_transfer, counted}
use Rattle.model.specs.Pages.{on_frame}
use Rattle.model.specs.Questions.{questions}
use Rattle.model.specs.Writeback.{Looked, look, looked, looking, begins_write, zeros, record_in, free_frame}
use Rattle.model.specs.Writeback
use Rattle.model.specs.Step.{Outcome, outcome, carried, result}
use Rattle.model.specs.Laws.Own.{own, refusal, completed, first_no_holds}
use Rattle.leaves.specs.FrameLaws.{frame_take, take_frame}
use Rattle.model.specs.Laws.OwnLaws.{own_yes, own_no}
use Rattle.leaves.specs.Payers.{who_pays}
use Rattle.writeback.specs.Claim.{payer_of, used_then, used_left, LooksEnded}
use Rattle.writeback.specs.Needs.{Queues, Listed, Claimable}
use Rattle.writeback.specs.Seen.{claim, seen_claim}
use Rattle.writeback.proofs.Looks.{Like, cut, look_take, look_like, taken_in}
use Rattle.tables.specs.StoreLoops.{part_fits}

-- what the contract says of the answer, the frames, both queues, the states and the used counts
abbrev pub Said : Sizes → State → List Frame → Answer → List ℕ → List ℕ → List ℕ → List ℕ → Type 0
Said z st fs a fq rl ss us =
    let o = own z st claim in
    record {
      answer : a ≡ o.answer;
      frames : fs ≡ o.left.memory.core.frames;
      free_queue : fq ≡ o.left.memory.core.free_queue;
      removal_list : rl ≡ o.left.memory.core.removal_list;
      states : ss ≡ o.left.memory.held.states;
      used : us ≡ used_left z st;
    }

-- the frame that the looks end at, as the calls after them ask it
pub record Taken (z : Sizes) (g : Frame) (ac ls ps ws fq ads ss us : List ℕ) (f : ℕ) : Type 0 where
  pub words_fit : f * z.words + z.words ≤ length ws
  pub room : (f < 65535) × ((m : ℕ) × Holds (queue_of (length fq) m fq)) × (size fq < length fq)
  pub pays : g.modified ≡ 1 → 0 < at us (who_pays ac ls ps (pred g.page / z.pages))
  pub moves : (r : ℕ) → r ≡ pred (at ads (pred g.page)) → (at ss r ≡ NULLED) ⊎ (at ss r ≡ LIVE)

module _ (z : Sizes) (fs : List Frame) (ac ls ps ws fq rl ads ss us : List ℕ) where
  abbrev st : State
  st = seen_claim (take z.frames fs) ac ls ps ws fq rl ads ss us

  -- the answer with so many looks, and the tables left
  abbrev Left : ℕ → List Frame → List ℕ → List ℕ → List ℕ → List ℕ → Type 0
  Left n fs' fq' rl' ss' us' = Said z st (take z.frames fs') (record { refusal = 0; result = n }) fq' rl' ss' us'

  pub refused : {e : ℕ} → e ≡ at rl 0 → e ≡ 0 → Said z st (take z.frames fs) (record { refusal = 21; result = 0 }) fq rl ss us
  refused a b = record {
    answer = sym (ap (λ (o : Outcome State). o.answer) no);
    frames = sym (ap (λ (o : Outcome State). o.left.memory.core.frames) no);
    free_queue = sym (ap (λ (o : Outcome State). o.left.memory.core.free_queue) no);
    removal_list = sym (ap (λ (o : Outcome State). o.left.memory.core.removal_list) no);
    states = sym (ap (λ (o : Outcome State). o.left.memory.held.states) no);
    used = sym (ap (λ (n : ℕ). (outcome n 0 us (used_then z st)).left) says);
  }
    where
      says : first_no (questions z st claim) ≡ 21
      says = first_no_holds 21 _ _ (λ h. omega (arith, size_zero rl (sym a ∙ b)))

      no : own z st claim ≡ refusal 21 st
      no = sym (own_no z st claim _ (sym says) (λ h. omega arith))

  module _ {e : ℕ} (a : e ≡ at rl 0) (d : ¬ (e ≡ 0)) where
    some : 0 < size rl
    some = size_more rl 0 (omega arith) (λ h. d (a ∙ h))

    pub says : first_no (questions z st claim) ≡ 0
    says = yes_all (questions z st claim) (some, tt)

    module _ (ready : Queues z.frames fq rl × Claimable z (take z.frames fs) ac ls ps ws fq rl ads ss us) {kept : List Frame} {looks f : ℕ} {list : List ℕ} {g : Frame}
        (t : LooksEnded fs rl kept looks list) (here : f ≡ first list) (seen : g ≡ frame_at kept f) where
      looked_is : looking z st ≡ cut z.frames (look (suc (size rl)) 0 fs (members rl))
      unfolding looking
      looked_is = ap (λ (n : ℕ). look (suc n) 0 (take z.frames fs) (members rl)) (sym (size_members rl)) ∙ look_take z.frames (suc (size rl)) 0 fs (members rl) (members_within rl ready.0.list_long ready.0.list_packed)

      pub taken_is : (looking z st).taken ≡ f
      taken_is = ap (λ (l : Looked). l.taken) looked_is ∙ sym t.the_taken ∙ sym here

      frames_are : (looking z st).frames ≡ take z.frames kept
      frames_are = ap (λ (l : Looked). l.frames) looked_is ∙ ap (take z.frames) (sym t.the_frames)

      looks_are : (looking z st).looks ≡ looks
      looks_are = ap (λ (l : Looked). l.looks) looked_is ∙ sym t.the_looks

      list_is : pop list ≡ packed (length rl) (looking z st).list
      list_is = t.the_list ∙ ap (λ (l : Looked). packed (length rl) l.list) (sym looked_is)

      in_list : 0 < times (members rl) f
      in_list = rw (here ∙ t.the_taken) (taken_in fs rl some)

      below : f < z.frames
      below = members_within rl ready.0.list_long ready.0.list_packed f in_list

      -- the looks leave it its page and its modified switch
      alike : Like (frame_at kept f) (frame_at fs f)
      alike = rw t.the_frames (look_like (suc (size rl)) 0 fs (members rl) f)

      same_frame : frame_at (take z.frames fs) f ≡ frame_at fs f
      same_frame = frame_take z.frames fs f below

      same_page : (frame_at (take z.frames fs) f).page ≡ g.page
      same_page = ap (λ (x : Frame). x.page) same_frame ∙ sym alike.0 ∙ ap (λ (x : Frame). x.page) (sym seen)

      pub same_modified : (frame_at (take z.frames fs) f).modified ≡ g.modified
      same_modified = ap (λ (x : Frame). x.modified) same_frame ∙ sym alike.1 ∙ ap (λ (x : Frame). x.modified) (sym seen)

      pub held : Listed z g.page g.modified ac ls ps fq ads ss us
      held = rw (← same_page, ← same_modified) (ready.1.listed f below in_list)

      module _ {r : ℕ} (found : r ≡ pred (at ads (pred g.page))) where
        item_is : r ≡ held.item
        item_is = found ∙ ap pred held.holds

        pub record_is : record_in z st (looking z st).taken ≡ r
        record_is = rw (taken_is, same_page) (sym found)

      pub taken : Taken z g ac ls ps ws fq ads ss us f
      taken = record {
        words_fit = rw ready.1.words_long (part_fits z.frames z.words f below);
        room = (omega (arith, below, ready.1.frames_most), (z.frames, rw ready.0.free_long ready.0.free_packed), omega (arith, held.room, ready.0.free_long));
        pays = held.pays;
        moves = λ r found. rw (item_is found) held.moves;
      }

      -- ── a write begins, or not ──
      module _ {b : Bool} (w : b ≡ if (eqb g.modified 1) (not (all z.words (λ k. eqb (at ws (f * z.words + k)) 0))) false) where
        pub begins : begins_write z st ≡ b
        unfolding begins_write zeros
        begins = rw (taken_is, same_modified) (sym w)

        by_way : (st' : State) → carried z st claim ≡ counted z st' → own z st claim ≡ completed (looking z st).looks (counted z st')
        unfolding result
        by_way st' c = sym (own_yes z st claim _ (sym says) refl) ∙ ap (completed (looking z st).looks) c

        -- what every way leaves: the answer, the list and the used counts
        the_answer : {st' : State} → own z st claim ≡ completed (looking z st).looks st' → record { refusal = 0; result = looks } ≡ (own z st claim).answer
        the_answer c = ap (λ (n : ℕ). record { refusal = 0; result = n }) (sym looks_are) ∙ sym (ap (λ (o : Outcome State). o.answer) c)

        used_by_holds : {us' : List ℕ} → us' ≡ used_then z st → us' ≡ used_left z st
        used_by_holds u = u ∙ sym (ap (λ (n : ℕ). (outcome n 0 us (used_then z st)).left) says)

        pub write_begins : b ≡ true → {rl' : List ℕ} {h : Frame} {fs' : List Frame} → rl' ≡ pop list → h ≡ set_transfer WRITING g → fs' ≡ set kept f h → Left looks fs' fq rl' ss us
        unfolding carried Writeback.claim counted used_then
        write_begins v p q y = record {
          answer = the_answer way;
          frames = ap (take z.frames) y ∙ take_frame z.frames kept f _ ∙ ap (set (take z.frames kept) f) (q ∙ ap (set_transfer WRITING) (seen ∙ sym (frame_take z.frames kept f below))) ∙ rw (← frames_are, ← taken_is) (sym (ap (λ (o : Outcome State). o.left.memory.core.frames) way));
          free_queue = sym (ap (λ (o : Outcome State). o.left.memory.core.free_queue) way);
          removal_list = p ∙ list_is ∙ sym (ap (λ (o : Outcome State). o.left.memory.core.removal_list) way);
          states = sym (ap (λ (o : Outcome State). o.left.memory.held.states) way);
          used = used_by_holds (rw (begins ∙ v));
        }
          where
            way : own z st claim ≡ completed (looking z st).looks (counted z (on_core (λ c. on_frame (looking z st).taken (set_transfer WRITING) c) (looked z st)))
            way = by_way (on_core (λ c. on_frame (looking z st).taken (set_transfer WRITING) c) (looked z st)) (rw (begins ∙ v))

        module _ (v : b ≡ false) {r i : ℕ} (found : r ≡ pred (at ads (pred g.page))) (named : i ≡ pred g.page) where
          mod_is : (frame_at (take z.frames fs) (looking z st).taken).modified ≡ g.modified
          mod_is = rw taken_is same_modified

          abbrev payer_at : ℕ
          payer_at = who_pays ac ls ps (i / z.pages)

          abbrev less : List ℕ
          less = set us payer_at (at us payer_at - 1)

          payer_is : payer_of z st (looking z st).taken ≡ payer_at
          unfolding payer
          payer_is = rw (taken_is, same_page, named)

          -- the used counts, by whether the frame was modified
          used_nulled : g.modified ≡ 1 → less ≡ used_then z st
          unfolding used_then
          used_nulled m = rw (begins ∙ v, eq-eqb _ _ (mod_is ∙ m), payer_is)

          used_kept : ¬ (g.modified ≡ 1) → us ≡ used_then z st
          unfolding used_then
          used_kept m = rw (begins ∙ v, ne_eqb _ _ (λ h. m (sym mod_is ∙ h)))

          freed_frames : {h : Frame} {fs' : List Frame} → h ≡ no_frame → fs' ≡ set kept f h → take z.frames fs' ≡ set (looking z st).frames (looking z st).taken no_frame
          freed_frames n y = ap (take z.frames) (y ∙ ap (set kept f) n) ∙ take_frame z.frames kept f no_frame ∙ rw (frames_are, taken_is)

          abbrev nulled_st : State
          nulled_st = on_held (λ h. set_states (set h.states (record_in z st (looking z st).taken) NULLED) h) (looked z st)

          way_nulled : g.modified ≡ 1 → own z st claim ≡ completed (looking z st).looks (counted z (free_frame (looking z st).taken nulled_st))
          unfolding carried Writeback.claim
          way_nulled m = by_way (free_frame (looking z st).taken nulled_st) (rw (begins ∙ v, eq-eqb _ _ (mod_is ∙ m)))

          way_kept : ¬ (g.modified ≡ 1) → own z st claim ≡ completed (looking z st).looks (counted z (free_frame (looking z st).taken (looked z st)))
          unfolding carried Writeback.claim
          way_kept m = by_way (free_frame (looking z st).taken (looked z st)) (rw (begins ∙ v, ne_eqb _ _ (λ h. m (sym mod_is ∙ h))))

          module _ {h : Frame} {fs' : List Frame} {fq' rl' ss' us' : List ℕ} (p : rl' ≡ pop list) (q : fq' ≡ push_back fq f)
              (u : us' ≡ if (eqb g.modified 1) less us) (n : h ≡ no_frame) (y : fs' ≡ set kept f h) where
            free_nulled : g.modified ≡ 1 → ss' ≡ set ss r NULLED → Left looks fs' fq' rl' ss' us'
            unfolding counted free_frame
            free_nulled m s = record {
              answer = the_answer (way_nulled m);
              frames = freed_frames n y ∙ sym (ap (λ (o : Outcome State). o.left.memory.core.frames) (way_nulled m));
              free_queue = q ∙ ap (push_back fq) (sym taken_is) ∙ sym (ap (λ (o : Outcome State). o.left.memory.core.free_queue) (way_nulled m));
              removal_list = p ∙ list_is ∙ sym (ap (λ (o : Outcome State). o.left.memory.core.removal_list) (way_nulled m));
              states = s ∙ ap (λ (i : ℕ). set ss i NULLED) (sym (record_is found)) ∙ sym (ap (λ (o : Outcome State). o.left.memory.held.states) (way_nulled m));
              used = used_by_holds (u ∙ rw (eq-eqb _ _ m) (used_nulled m));
            }

            free_kept : ¬ (g.modified ≡ 1) → ss' ≡ ss → Left looks fs' fq' rl' ss' us'
            unfolding counted free_frame
            free_kept m s = record {
              answer = the_answer (way_kept m);
              frames = freed_frames n y ∙ sym (ap (λ (o : Outcome State). o.left.memory.core.frames) (way_kept m));
              free_queue = q ∙ ap (push_back fq) (sym taken_is) ∙ sym (ap (λ (o : Outcome State). o.left.memory.core.free_queue) (way_kept m));
              removal_list = p ∙ list_is ∙ sym (ap (λ (o : Outcome State). o.left.memory.core.removal_list) (way_kept m));
              states = s ∙ sym (ap (λ (o : Outcome State). o.left.memory.held.states) (way_kept m));
              used = used_by_holds (u ∙ rw (ne_eqb _ _ m) (used_kept m));
            }

            pub freed : ss' ≡ if (eqb g.modified 1) (set ss r NULLED) ss → Left looks fs' fq' rl' ss' us'
            freed s = elim (ℕ_discrete g.modified 1) [
              | yes m ↦ free_nulled m (s ∙ rw (eq-eqb _ _ m))
              | no m ↦ free_kept m (s ∙ rw (ne_eqb _ _ m))
            ]
