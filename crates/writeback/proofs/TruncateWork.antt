-- Truncate: what the code's passes leave is what the definition says.
use mathlib.Core.Path.{◌≡◌, refl, ap, sym, ◌∙◌, subst}
use mathlib.Core.Bool.{Bool, ◌&&◌}
use mathlib.Core.List.{List, ◌++◌, map}
use mathlib.Core.Logic.{inl, inr}
use Prim.Native.Nat.{ℕ, zero, suc, ◌+◌, ◌-◌, ◌*◌, ◌<◌, ◌≤◌}
use native.Mathlib.Omega.{arith}
use native.Mathlib.Decide.{dec_lt}
use lib.Dec.{leb}
use lib.ListN.{length, take, set, length-take}
use lib.Seq.{ext_get_or}
use Rattle.tables.specs.Base.{at, if, those, tab}
use Rattle.tables.specs.Laws.{at_tab0, length_tab, count_same, if_true, if_false}
use Rattle.tables.specs.Queue.{members, packed, without}
use Rattle.tables.specs.QueueLaws.{members_within}
use Rattle.tables.specs.Questions.{first_no, Asked, all_yes}
use Rattle.tables.specs.Rule.{Holds, same, some, ◌and◌, test, alike, complete, sound}
use Rattle.tables.specs.Store.{Split, store}
use Rattle.tables.specs.StoreLoops.{from_inside, inside_from}
use Rattle.tables.specs.ThoseLaws.{those_same}
use Rattle.model.specs.declared.sizes.Sizes.{Sizes}
use Rattle.model.specs.declared.frame.Frame.{Frame}
use Rattle.model.specs.declared.event.Answer.{Answer}
use Rattle.model.specs.declared.refusals.Refusal.{Refusal}
use Rattle.model.specs.Lines.{RELEASED}
use Rattle.model.specs.State.{State, frames, frame_at, no_frame, page_of, all_pages, payer}
use Rattle.model.specs.State as Model
use Rattle.model.specs.Setters.{counted}
use Rattle.model.specs.Parts.{from_page}
use Rattle.model.specs.Questions.{questions}
use Rattle.model.specs.Refusals.{number}
use Rattle.model.specs.Writeback
use Rattle.model.specs.Step.{Outcome, outcome, carried, result}
use Rattle.model.specs.Laws.Own.{own, completed}
use Rattle.leaves.specs.FrameLaws.{frame_in, frame_take, frame_found}
use Rattle.model.specs.Laws.OwnLaws.{own_yes, own_no}
use Rattle.leaves.specs.Payers.{who_pays}
use Rattle.writeback.specs.Needs.{Sized, Queues, Placed, Addressed, Releasable, Paid}
use Rattle.writeback.specs.Pages.{framed, live, charged, live_from, charges_from}
use Rattle.writeback.specs.Seen.{truncate, seen_truncate}
use Rattle.writeback.specs.Truncate.{quiet, all_quiet, ask_frames, cut_frame, cut_frames, NoneCut, CutGiven, Cutting, Releasing, ClearedLeft, used_then, used_left}
use Rattle.writeback.proofs.Cut.{not_up}
use Rattle.writeback.proofs.CutFrames.{without_alike}
use Rattle.writeback.proofs.Refused.{number_some}
use Rattle.writeback.proofs.UpdateWork.{answer}
use Rattle.tables.specs.StoreLoops.{part_fits}

-- no frame has one of the pages: only those with a live address are charged
pub live_only : (n pages s k : ℕ) (fs : List Frame) (ds ss : List ℕ) → NoneCut n pages s k fs → live_from pages s k ds ss ≡ charges_from n pages s k fs ds ss
live_only n pages s k fs ds ss d = count_same pages _ _ (λ p h. elim (dec_lt p k) [
  | yes l ↦ rw (not_up k p l)
  | no l ↦ ap (λ (b : Bool). leb k p && b) (alike (live ds ss (s * pages + p)) (charged n fs ds ss (s * pages + p)) (λ x. inl x)
      (λ x. elim x [ inl y ↦ y | inr y ↦ absurd (d y.0 y.1 (omega (arith, y.2.0), omega (arith, y.2.0))) ]))
])

-- ── the code's frames and the model's, which are the first n of them ──
module _ (n : ℕ) (fs : List Frame) where
  abbrev page_of_holds : Frame → ℕ
  page_of_holds g = g.page

  same_page : (f : ℕ) → f < n → (frame_at fs f).page ≡ (frame_at (take n fs) f).page
  same_page f h = ap page_of_holds (sym (frame_take n fs f h))

  quiet_model : (w pages s k : ℕ) → Holds (all_quiet w n pages s k fs) → Holds (all_quiet w n pages s k (take n fs))
  quiet_model w pages s k h p b d f c e = subst (λ (g : Frame). Holds (quiet w g)) (sym (frame_take n fs f c)) (h p b d f c (same_page f c ∙ e))

  model_quiet : (w pages s k : ℕ) → Holds (all_quiet w n pages s k (take n fs)) → Holds (all_quiet w n pages s k fs)
  model_quiet w pages s k h p b d f c e = subst (λ (g : Frame). Holds (quiet w g)) (frame_take n fs f c) (h p b d f c (sym (same_page f c) ∙ e))

  quiet_alike : (w pages s k : ℕ) → test (all_quiet w n pages s k fs) ≡ test (all_quiet w n pages s k (take n fs))
  quiet_alike w pages s k = alike (all_quiet w n pages s k fs) (all_quiet w n pages s k (take n fs)) (quiet_model w pages s k) (model_quiet w pages s k)

  pub asked_alike : (pages s k : ℕ) → first_no (ask_frames n pages s k fs) ≡ first_no (ask_frames n pages s k (take n fs))
  unfolding first_no
  asked_alike pages s k = λ j. if (quiet_alike 0 pages s k j) (if (quiet_alike 1 pages s k j) 0 16) 14

  framed_alike : (i : ℕ) → test (framed n fs i) ≡ test (framed n (take n fs) i)
  framed_alike i = alike (framed n fs i) (framed n (take n fs) i) (λ h. (h.0, h.1, sym (same_page h.0 h.1) ∙ h.2)) (λ h. (h.0, h.1, same_page h.0 h.1 ∙ h.2))

  charged_alike : (ds ss : List ℕ) (i : ℕ) → test (charged n fs ds ss i) ≡ test (charged n (take n fs) ds ss i)
  charged_alike ds ss i = alike (charged n fs ds ss i) (charged n (take n fs) ds ss i)
      (λ h. elim h [ inl l ↦ inl l | inr q ↦ inr (q.0, q.1, rw (frame_take n fs q.0 q.1) q.2) ])
      (λ h. elim h [ inl l ↦ inl l | inr q ↦ inr (q.0, q.1, rw (frame_take n fs q.0 q.1) at q.2) ])

-- what the contract says of the answer, the frames, both queues, the addresses, the states and the used counts
abbrev pub Said : Sizes → State → ℕ → ℕ → List Frame → Answer → List ℕ → List ℕ → List ℕ → List ℕ → List ℕ → Type 0
Said z st s k fs a fq rl ds ss us =
    let o = own z st (truncate s k) in
    record {
      answer : a ≡ o.answer;
      frames : fs ≡ o.left.memory.core.frames;
      free_queue : fq ≡ o.left.memory.core.free_queue;
      removal_list : rl ≡ o.left.memory.core.removal_list;
      addresses : ds ≡ o.left.memory.held.addresses;
      states : ss ≡ o.left.memory.held.states;
      used : us ≡ used_left z st s k;
    }

-- what the answers tell, as the passes ask it
pub record Passed (z : Sizes) (fs : List Frame) (ac ls ps fq rl ds ss us : List ℕ) (s k : ℕ) : Type 0 where
  pub sized : CutGiven z.frames z.pages s k
  pub cutting : Cutting z.frames z.pages s k fs fq rl
  pub releasing : Releasing z s k ss ds
  pub pays : (m : ℕ) → m ≡ charges_from z.frames z.pages s k fs ds ss → m ≤ at us (who_pays ac ls ps s)

module _ (z : Sizes) (fs : List Frame) (ns ac ls ps fq rl ds ss act us : List ℕ) (s k : ℕ) where
  abbrev st : State
  st = seen_truncate (take z.frames fs) ns ac ls ps fq rl ds ss act us

  abbrev out : Outcome State
  out = own z st (truncate s k)

  abbrev Left : ℕ → List Frame → List ℕ → List ℕ → List ℕ → List ℕ → List ℕ → Type 0
  Left n gs fq' rl' ds' ss' us' = Said z st s k (take z.frames gs) (answer n) fq' rl' ds' ss' us'

  pub refused : (x : Refusal) → number x ≡ first_no (questions z st (truncate s k)) → Left (number x) fs fq rl ds ss us
  refused x e = record {
    answer = sym (ap (λ (o : Outcome State). o.answer) as_it_was);
    frames = sym (ap (λ (o : Outcome State). o.left.memory.core.frames) as_it_was);
    free_queue = sym (ap (λ (o : Outcome State). o.left.memory.core.free_queue) as_it_was);
    removal_list = sym (ap (λ (o : Outcome State). o.left.memory.core.removal_list) as_it_was);
    addresses = sym (ap (λ (o : Outcome State). o.left.memory.held.addresses) as_it_was);
    states = sym (ap (λ (o : Outcome State). o.left.memory.held.states) as_it_was);
    used = stays (number x) (number_some x) ∙ ap (λ (m : ℕ). (outcome m 0 us (used_then z st s k)).left) e;
  }
    where
      as_it_was : out ≡ record { answer = answer (number x); left = st }
      as_it_was = sym (own_no z st (truncate s k) _ e (number_some x))

      stays : (m : ℕ) → ¬ (m ≡ 0) → us ≡ (outcome m 0 us (used_then z st s k)).left
      stays zero d = absurd (d refl)
      stays (suc m) d = refl

  module _ (e : 0 ≡ first_no (questions z st (truncate s k))) (ready : Sized z × Queues z.frames fq rl × Placed z.frames (take z.frames fs) fq rl × Addressed z ds ss × Releasable z ds ss × Paid z (take z.frames fs) ac ls ps ds ss us) where
    asked : Asked (questions z st (truncate s k))
    asked = all_yes 2 (questions z st (truncate s k)) tt (sym e)

    inside : s < z.slots
    inside = asked.0.0

    from : k ≤ z.pages
    from = omega (arith, asked.0.1)

    sized : CutGiven z.frames z.pages s k
    sized = record { most = ready.0.frames_most; pages_most = ready.0.pages_most; slots_most = omega (arith, inside, ready.0.slots_most); from = from }

    cutting : Cutting z.frames z.pages s k fs fq rl
    cutting = record {
      sized = sized;
      queues = ready.1;
      placed = record {
        free_once = ready.2.free_once;
        list_once = ready.2.list_once;
        unqueued = λ f h b. ready.2.unqueued f h (rw (same_page z.frames fs f h) at b);
        seated = λ f g h i b q. ready.2.seated f g h i (rw (same_page z.frames fs f h) at b) (sym (same_page z.frames fs g i) ∙ q ∙ same_page z.frames fs f h);
      };
    }

    releasing : Releasing z s k ss ds
    releasing = record {
      pages_some = ready.0.pages_some;
      from = from;
      inside = part_fits z.slots z.pages s inside;
      addresses_long = ready.3.long;
      held_once_holds = ready.3.held_once_holds;
      along = λ i r h a. let b : i < all_pages z = omega (arith, (from_inside z.pages s ready.0.pages_some k i h).1, part_fits z.slots z.pages s inside) in (ready.3.inside i r b a, ready.4.along i r b a);
    }

    -- the charges counted
    charges_are : charges_from z.frames z.pages s k fs ds ss ≡ charges_from z.frames z.pages s k (take z.frames fs) ds ss
    charges_are = count_same z.pages _ _ (λ p h. ap (λ (b : Bool). leb k p && b) (charged_alike z.frames fs ds ss (s * z.pages + p)))

    pub passed : Passed z fs ac ls ps fq rl ds ss us s k
    passed = record {
      sized = sized;
      cutting = cutting;
      releasing = releasing;
      pays = λ m q. rw (q ∙ charges_are) (ready.5.enough s k inside);
    }

    -- a frame is cut off
    to_cut : (f : ℕ) → f < z.frames → Holds (cut_frame z.pages s k z.pages (frame_at fs f)) → Holds (Writeback.cut_frame z st s k f)
    to_cut f h y = let p = (frame_at fs f).page - 1 in (p, sym (same_page z.frames fs f h) ∙ omega (arith, y.0), inside_from z.pages s ready.0.pages_some k p (λ l. omega (arith, y.0), omega (arith, y.0, y.1)))

    from_cut : (f : ℕ) → f < z.frames → Holds (Writeback.cut_frame z st s k f) → Holds (cut_frame z.pages s k z.pages (frame_at fs f))
    from_cut f h y = let b = from_inside z.pages s ready.0.pages_some k y.0 y.2 in let q : (frame_at fs f).page ≡ suc y.0 = same_page z.frames fs f h ∙ y.1 in (omega (arith, b.0), omega (arith, b.1))

    cut_alike : (f : ℕ) → f < z.frames → test (cut_frame z.pages s k z.pages (frame_at fs f)) ≡ test (Writeback.cut_frame z st s k f)
    cut_alike f h = alike (cut_frame z.pages s k z.pages (frame_at fs f)) (Writeback.cut_frame z st s k f) (to_cut f h) (from_cut f h)

    frames_are : (gs : List Frame) → length gs ≡ length fs → ((f : ℕ) → f < z.frames → Split (Holds (cut_frame z.pages s k z.pages (frame_at fs f))) (frame_at gs f) no_frame (frame_at fs f))
        → take z.frames gs ≡ tab (length (take z.frames fs)) (λ f. if (test (Writeback.cut_frame z st s k f)) no_frame (frame_at (take z.frames fs) f)) 0
    frames_are gs m t = ext_get_or no_frame (take z.frames gs) (tab (length (take z.frames fs)) then 0) (long ∙ sym (length_tab (length (take z.frames fs)) then 0))
        (λ f h. let b : f < z.frames = omega (arith, length-take z.frames gs) in let i : f < length (take z.frames fs) = omega (arith, long) in frame_take z.frames gs f b ∙ elim (t f b) [
          | inl y ↦ y.1 ∙ sym (at_tab0 (length (take z.frames fs)) then f no_frame i ∙ if_true (test (Writeback.cut_frame z st s k f)) no_frame (frame_at (take z.frames fs) f) (complete (Writeback.cut_frame z st s k f) (to_cut f b y.0)))
          | inr y ↦ y.1 ∙ sym (frame_take z.frames fs f b) ∙ sym (at_tab0 (length (take z.frames fs)) then f no_frame i ∙ if_false (test (Writeback.cut_frame z st s k f)) no_frame (frame_at (take z.frames fs) f) (λ q. y.0 (from_cut f b (sound (Writeback.cut_frame z st s k f) q))))
        ])
      where
        then : ℕ → Frame
        then f = if (test (Writeback.cut_frame z st s k f)) no_frame (frame_at (take z.frames fs) f)

        long : length (take z.frames gs) ≡ length (take z.frames fs)
        long = omega (arith, length-take z.frames gs, length-take z.frames fs)

    queue_is : cut_frames z.frames z.pages s k fs z.pages ≡ Writeback.cut_frames z st s k
    unfolding Writeback.cut_frames
    queue_is = ap (map (λ p. frame_in z.frames fs (s * z.pages + p))) (those_same z.pages _ _ 0 (λ p a b. ap (λ (t : Bool). leb k p && t) (framed_alike z.frames fs (s * z.pages + p))))
        ∙ ap (λ (g : ℕ → ℕ). map g (those z.pages (λ p. leb k p && test (Model.framed z (frames st) (page_of z s p))) 0)) (λ j p. frame_found z (frames st) fs (page_of z s p) (λ f h. frame_take z.frames fs f h) j)

    list_is : without (λ f. test (cut_frame z.pages s k z.pages (frame_at fs f))) (members rl) ≡ without (λ f. test (Writeback.cut_frame z st s k f)) (members rl)
    list_is = without_alike _ _ (members rl) (λ f h. cut_alike f (members_within rl ready.1.list_long ready.1.list_packed f h))

    used_is : {m : ℕ} → m ≡ charges_from z.frames z.pages s k fs ds ss → set us (who_pays ac ls ps s) (at us (who_pays ac ls ps s) - m) ≡ used_then z st s k
    unfolding used_then payer Model.charged
    used_is q = ap (λ (m : ℕ). set us (who_pays ac ls ps s) (at us (who_pays ac ls ps s) - m)) (q ∙ charges_are)

    pub cut_off_holds : (gs : List Frame) {m : ℕ} {fq' rl' ds' ss' us' : List ℕ} → m ≡ charges_from z.frames z.pages s k fs ds ss
        → us' ≡ set us (who_pays ac ls ps s) (at us (who_pays ac ls ps s) - m) → fq' ≡ packed (length fq) (members fq ++ cut_frames z.frames z.pages s k fs z.pages)
        → rl' ≡ packed (length rl) (without (λ f. test (cut_frame z.pages s k z.pages (frame_at fs f))) (members rl))
        → ss' ≡ store ss (λ r. some (all_pages z) λ i. from_page z s k i and same (at ds i) (suc r)) (λ r. RELEASED) → ds' ≡ store ds (from_page z s k) (λ i. 0)
        → ClearedLeft z.frames z.pages s k fs gs → Left 0 gs fq' rl' ds' ss' us'
    unfolding carried result Writeback.truncate counted
    cut_off_holds gs q u a b c d g = record {
      answer = sym (ap (λ (o : Outcome State). o.answer) way);
      frames = frames_are gs g.0 g.1 ∙ sym (ap (λ (o : Outcome State). o.left.memory.core.frames) way);
      free_queue = a ∙ ap (λ (xs : List ℕ). packed (length fq) (members fq ++ xs)) queue_is ∙ sym (ap (λ (o : Outcome State). o.left.memory.core.free_queue) way);
      removal_list = b ∙ ap (packed (length rl)) list_is ∙ sym (ap (λ (o : Outcome State). o.left.memory.core.removal_list) way);
      addresses = d ∙ sym (ap (λ (o : Outcome State). o.left.memory.held.addresses) way);
      states = c ∙ sym (ap (λ (o : Outcome State). o.left.memory.held.states) way);
      used = u ∙ used_is q ∙ sym (ap (λ (m : ℕ). (outcome m 0 us (used_then z st s k)).left) (sym e));
    }
      where
        way : out ≡ completed 0 (carried z st (truncate s k))
        way = sym (own_yes z st (truncate s k) _ e refl)
