-- Page done: each of the code's ways out leaves what the definition says.
use mathlib.Core.Path.{◌≡◌, refl, ap, sym, ◌∙◌, subst}
use mathlib.Core.List.{List}
use mathlib.Core.Logic.{◌⊎◌}
use Prim.Native.Nat.{ℕ, suc, ◌+◌, ◌*◌, ◌/◌, ◌%◌, ◌<◌, ◌≤◌, pred}
use native.Mathlib.Omega.{arith}
use lib.ListN.{length, take, set}
use borrow.Author.Tests.{eq-eqb, ne_eqb}
use Rattle.tables.specs.Base.{at}
use Rattle.tables.specs.Queue.{queue, queue_of, size, push_back, push_front}
use Rattle.tables.specs.Questions.{first_no, Asked, all_yes}
use Rattle.tables.specs.Rule.{Holds, same}
use Rattle.tables.specs.Store.{store}
use Rattle.model.specs.declared.sizes.Sizes.{Sizes}
use Rattle.model.specs.declared.frame.Frame.{Frame}
use Rattle.model.specs.declared.event.Answer.{Answer}
use Rattle.model.specs.declared.refusals.Refusal.{Refusal}
use Rattle.model.specs.Lines.{NULLED, LIVE}
use Rattle.model.specs.State.{State, NONE, READING, frame_at, no_frame}
use Rattle.model.specs.Setters.{counted, set_modified, set_initial, set_transfer}
use Rattle.model.specs.Pages.{fresh}
use Rattle.model.specs.Questions.{questions}
use Rattle.model.specs.Refusals.{number}
use Rattle.model.specs.Writeback
use Rattle.model.specs.Step.{Outcome, carried, result}
use Rattle.model.specs.Laws.Own.{own, completed}
use Rattle.model.specs.Laws.OwnLaws.{own_yes, own_no}
use Rattle.writeback.specs.Needs.{Queues, InTransfer, Transfers}
use Rattle.writeback.specs.Seen.{page_done, seen_page_done}
use Rattle.leaves.specs.FrameLaws.{frame_take, take_frame}
use Rattle.tables.specs.StoreLoops.{part_fits}
use Rattle.writeback.proofs.Refused.{number_some}

-- an answer without a result
abbrev pub answer : ℕ → Answer
answer n = record { refusal = n; result = 0 }

-- a frame whose write has failed
abbrev pub unwritten : Frame → Frame
unwritten g = set_transfer NONE (set_modified 1 (set_initial 0 g))

-- what the contract says of the answer, the frames, the records, the words, both queues and the states
abbrev pub Said : Outcome State → List Frame → Answer → List ℕ → List ℕ → List ℕ → List ℕ → List ℕ → Type 0
Said o fs a rs ws fq rl ss =
    record {
      answer : a ≡ o.answer;
      frames : fs ≡ o.left.memory.core.frames;
      records : rs ≡ o.left.disk.records;
      words : ws ≡ o.left.memory.core.words;
      free_queue : fq ≡ o.left.memory.core.free_queue;
      removal_list : rl ≡ o.left.memory.core.removal_list;
      states : ss ≡ o.left.memory.held.states;
    }

-- what the answers tell of the frame, as the calls after them ask it
pub record Passed (z : Sizes) (fs : List Frame) (rs ws fq rl ads ss : List ℕ) (f : ℕ) : Type 0 where
  pub paged : 0 < (frame_at fs f).page
  pub room_queue : (f < 65535) × ((m : ℕ) × Holds (queue_of (length fq) m fq)) × (size fq < length fq)
  pub room_list : (f < 65535) × Holds (queue (length rl) rl) × (size rl < length rl)
  pub part_frame : f * z.words + z.words ≤ length ws
  pub part_record : (r : ℕ) → r ≡ pred (at ads (pred (frame_at fs f).page)) → r * z.words + z.words ≤ length rs
  pub moves : (r : ℕ) → r ≡ pred (at ads (pred (frame_at fs f).page)) → (at ss r ≡ NULLED) ⊎ (at ss r ≡ LIVE)

module _ (z : Sizes) (fs : List Frame) (rs ws fq rl ads ss : List ℕ) (f good : ℕ) where
  abbrev st : State
  st = seen_page_done (take z.frames fs) rs ws fq rl ads ss

  abbrev old : Frame
  old = frame_at fs f

  abbrev out : Outcome State
  out = own z st (page_done f good)

  abbrev Left : Answer → List Frame → List ℕ → List ℕ → List ℕ → List ℕ → List ℕ → Type 0
  Left a gs rs' ws' fq' rl' ss' = Said out (take z.frames gs) a rs' ws' fq' rl' ss'

  -- the outcome by another name
  left_by_holds : {p : Outcome State} (a : Answer) (gs : List Frame) {rs' ws' fq' rl' ss' : List ℕ} → out ≡ p → Said p (take z.frames gs) a rs' ws' fq' rl' ss' → Left a gs rs' ws' fq' rl' ss'
  left_by_holds a gs {rs' = rs'} {ws' = ws'} {fq' = fq'} {rl' = rl'} {ss' = ss'} e h = subst (λ (o : Outcome State). Said o (take z.frames gs) a rs' ws' fq' rl' ss') (sym e) h

  pub refused : (x : Refusal) → number x ≡ first_no (questions z st (page_done f good)) → Left (answer (number x)) fs rs ws fq rl ss
  refused x e = left_by_holds (answer (number x)) fs (sym (own_no z st (page_done f good) _ e (number_some x))) (record { answer = refl; frames = refl; records = refl; words = refl; free_queue = refl; removal_list = refl; states = refl })

  module _ (e : 0 ≡ first_no (questions z st (page_done f good))) where
    asked : Asked (questions z st (page_done f good))
    asked = all_yes 2 (questions z st (page_done f good)) tt (sym e)

    inside : f < z.frames
    inside = asked.0.0

    same_frame : frame_at (take z.frames fs) f ≡ old
    same_frame = frame_take z.frames fs f inside

    moving : ¬ ((frame_at (take z.frames fs) f).transfer ≡ NONE)
    moving = asked.1.0

    -- ── what the leaves ask for ──
    module _ (ready : Queues z.frames fq rl × Transfers z (take z.frames fs) rs ws fq rl ads ss) where
      held : InTransfer z (frame_at (take z.frames fs) f).page fq rl ads ss
      held = ready.1.moving f inside moving

      page_is : old.page ≡ suc held.index
      page_is = ap (λ (g : Frame). g.page) (sym same_frame) ∙ held.named

      item_is : pred (at ads (pred old.page)) ≡ held.item
      item_is = ap (λ (n : ℕ). pred (at ads (pred n))) page_is ∙ ap pred held.holds

      pub passed : Passed z fs rs ws fq rl ads ss f
      passed = record {
        paged = omega (arith, page_is);
        room_queue = (omega (arith, inside, ready.1.frames_most), (z.frames, rw ready.0.free_long ready.0.free_packed), omega (arith, held.free_room, ready.0.free_long));
        room_list = (omega (arith, inside, ready.1.frames_most), rw ready.0.list_long ready.0.list_packed, omega (arith, held.list_room, ready.0.list_long));
        part_frame = rw ready.1.words_long (part_fits z.frames z.words f inside);
        part_record = λ r found. rw (found ∙ item_is, ready.1.records_long) (part_fits z.records z.words held.item held.inside);
        moves = λ r found. rw (found ∙ item_is) held.moves;
      }

    -- the frames with one stored anew, as the model has them
    stored : (g h : Frame) → g ≡ h → {gs : List Frame} → gs ≡ set fs f g → take z.frames gs ≡ set (take z.frames fs) f h
    stored g h a y = ap (take z.frames) y ∙ take_frame z.frames fs f g ∙ ap (set (take z.frames fs) f) a

    abbrev Way : State → Type 0
    Way st' = carried z st (page_done f good) ≡ counted z st'

    by_way : (st' : State) → Way st' → out ≡ completed 0 (counted z st')
    unfolding result
    by_way st' w = sym (own_yes z st (page_done f good) _ e refl) ∙ ap (completed 0) w

    module _ (reads : old.transfer ≡ READING) where
      t : (frame_at (take z.frames fs) f).transfer ≡ READING
      t = ap (λ (g : Frame). g.transfer) same_frame ∙ reads

      pub read_good_holds : good ≡ 1 → {r : ℕ} {ws' rl' : List ℕ} {gs : List Frame} → r ≡ pred (at ads (pred old.page))
          → ws' ≡ store ws (λ k. same (k / z.words) f) (λ k. at rs (r * z.words + k % z.words)) → rl' ≡ push_front rl f → gs ≡ set fs f (fresh (pred old.page)) → Left (answer 0) gs rs ws' fq rl' ss
      unfolding carried Writeback.page_done Writeback.read_good counted
      read_good_holds g {gs = gs} found a b y = left_by_holds (answer 0) gs (by_way (Writeback.read_good z st f) (rw (eq-eqb _ _ t, eq-eqb _ _ g))) (record {
        answer = refl;
        frames = stored (fresh (pred old.page)) (fresh (pred (frame_at (take z.frames fs) f).page)) (ap (λ (v : Frame). fresh (pred v.page)) (sym same_frame)) y;
        records = refl;
        words = a ∙ rw (found, same_frame);
        free_queue = refl;
        removal_list = b;
        states = refl;
      })

      pub read_failed_holds : ¬ (good ≡ 1) → {fq' : List ℕ} {gs : List Frame} → fq' ≡ push_back fq f → gs ≡ set fs f no_frame → Left (answer 0) gs rs ws fq' rl ss
      unfolding carried Writeback.page_done Writeback.read_failed Writeback.free_frame counted
      read_failed_holds g {gs = gs} a y = left_by_holds (answer 0) gs (by_way (Writeback.read_failed z st f) (rw (eq-eqb _ _ t, ne_eqb _ _ g))) (record {
        answer = refl;
        frames = stored no_frame no_frame refl y;
        records = refl;
        words = refl;
        free_queue = a;
        removal_list = refl;
        states = refl;
      })

    module _ (writes : ¬ (old.transfer ≡ READING)) where
      u : ¬ ((frame_at (take z.frames fs) f).transfer ≡ READING)
      u h = writes (ap (λ (g : Frame). g.transfer) (sym same_frame) ∙ h)

      pub write_good_holds : good ≡ 1 → {r : ℕ} {rs' fq' ss' : List ℕ} {gs : List Frame} → r ≡ pred (at ads (pred old.page))
          → rs' ≡ store rs (λ k. same (k / z.words) r) (λ k. at ws (f * z.words + k % z.words)) → ss' ≡ set ss r LIVE → fq' ≡ push_back fq f → gs ≡ set fs f no_frame → Left (answer 0) gs rs' ws fq' rl ss'
      unfolding carried Writeback.page_done Writeback.write_good Writeback.store_frame Writeback.free_frame counted
      write_good_holds g {gs = gs} found a b d y = left_by_holds (answer 0) gs (by_way (Writeback.write_good z st f) (rw (ne_eqb _ _ u, eq-eqb _ _ g))) (record {
        answer = refl;
        frames = stored no_frame no_frame refl y;
        records = a ∙ rw (found, same_frame);
        words = refl;
        free_queue = d;
        removal_list = refl;
        states = b ∙ rw (found, same_frame);
      })

      pub write_failed_holds : ¬ (good ≡ 1) → {rl' : List ℕ} {gs : List Frame} → rl' ≡ push_back rl f → gs ≡ set fs f (unwritten old) → Left (answer 0) gs rs ws fq rl' ss
      unfolding carried Writeback.page_done Writeback.write_failed counted
      write_failed_holds g {gs = gs} a y = left_by_holds (answer 0) gs (by_way (Writeback.write_failed z st f) (rw (ne_eqb _ _ u, ne_eqb _ _ g))) (record {
        answer = refl;
        frames = stored (unwritten old) (unwritten (frame_at (take z.frames fs) f)) (ap unwritten (sym same_frame)) y;
        records = refl;
        words = refl;
        free_queue = refl;
        removal_list = a;
        states = refl;
      })
