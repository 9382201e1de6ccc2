-- The events about a page in a frame, and the page look: their questions as the code asks them, and what the code stores is what the model leaves.
use mathlib.Core.Path.{◌≡◌, refl, ap, sym, ◌∙◌}
use mathlib.Core.Bool.{Bool, true, false}
use mathlib.Core.List.{List}
use Prim.Native.Nat.{ℕ, ◌+◌, ◌*◌, ◌<◌, ◌≤◌}
use native.Mathlib.Nat.{mul-le-mul_right}
use native.Mathlib.Omega.{arith}
use lib.ListN.{take, set, length}
use Rattle.tables.specs.Questions.{first_no, Questions, yes_all}
use Rattle.tables.specs.Also.{◌also◌, also_yes, also_no}
use Rattle.tables.specs.Base.{at}
use Rattle.tables.specs.Rule.{Holds}
use Rattle.tables.specs.Queue.{queue, queue_of, size, members, times, remove, push_back}
use Rattle.tables.specs.QueueLaws.{room}
use Rattle.model.specs.declared.sizes.Sizes.{Sizes}
use Rattle.model.specs.declared.frame.Frame.{Frame}
use Rattle.model.specs.declared.applied.Part.{Part}
use Rattle.model.specs.declared.event.Answer.{Answer}
use Rattle.model.specs.declared.event.Event.TheVariants as Event
use Rattle.model.specs.declared.event.Page.TheVariants as Page
use Rattle.model.specs.State.{State, frames, frame_at}
use Rattle.model.specs.Questions.{served, still, look_questions}
use Rattle.model.specs.Pages as Pages
use Rattle.model.specs.Part.{part, no_part}
use Rattle.model.specs.Setters.{set_used_switch, set_wired, set_initial}
use Rattle.model.specs.Parts.{frame_of}
use Rattle.model.specs.Step.{carried, result}
use Rattle.model.specs.Laws.OwnLaws.{done, own_no, own_yes}
use Rattle.model.specs.Laws.Own.{own, refusal, first_no_holds}
use Rattle.leaves.specs.Asks.{slot_asked}
use Rattle.leaves.specs.FrameLaws.{frame_in, frame_take, is_unwired}
use Rattle.pages.specs.Asks.{frame_asked, unwired_asked, wired_asked}
use Rattle.pages.specs.Looks.{placed}
use Rattle.pages.specs.Needs.{Seats, RemovalList}
use Rattle.pages.proofs.ItsFrame.{its_found, its_changed, its_tells, its_told}
use Rattle.pages.proofs.Served.{Call, state, flat, quiet_of, page_test, page_range, page_test_holds, served_answer, word_test, word_range, word_test_holds}

module _ (a : Call) where
  abbrev z : Sizes
  z = a.sizes

  abbrev fs : List Frame
  fs = a.frames

  abbrev s : ℕ
  s = a.slot

  abbrev p : ℕ
  p = a.page

  abbrev i : ℕ
  i = flat a

  abbrev st : State
  st = state a

  abbrev list : List ℕ
  list = a.list

  abbrev words : List ℕ
  words = a.words

  -- the model's frame of the page
  its_place : (f : ℕ) → f ≡ frame_in z.frames fs i → f ≡ frame_of z (frames st) i
  its_place f ef = ef ∙ its_found z fs i (frames st) (λ k j. refl)

  abbrev asked : Questions
  asked = served z st (page_range z s p) (still z st) s p

  -- ── the questions of a page look: n is their answer ──
  module _ (n : ℕ) (e : n ≡ first_no (slot_asked (page_test z s p) s a.numbers a.active also frame_asked true z (take z.frames fs) i)) where
    shown : n ≡ first_no (look_questions z st s p)
    shown = served_answer a (page_range z s p) n (page_test z s p) (page_test_holds z s p) true e

    pub placed_no : ¬ (n ≡ 0) → ◌≡◌ {A = Part} (record { refusal = n; start = 0; count = 0 }) (placed z st s p)
    unfolding placed
    placed_no h = no_part n (Pages.look_start z st s p) z.words h ∙ ap (λ (m : ℕ). part m (Pages.look_start z st s p) z.words) shown

    pub placed_yes : n ≡ 0 → (f k : ℕ) → f ≡ frame_in z.frames fs i → k ≡ f * z.words + 0 → ◌≡◌ {A = Part} (record { refusal = 0; start = k; count = z.words }) (placed z st s p)
    unfolding placed Pages.look_start
    placed_yes h f k ef ek =
        let q : k ≡ f * z.words = ek ∙ omega arith in
        ap (λ (m : ℕ). part 0 m z.words) (q ∙ ap (λ (j : ℕ). j * z.words) (its_place f ef))
        ∙ ap (λ (m : ℕ). part m (Pages.look_start z st s p) z.words) (sym h ∙ shown)

  -- ── the questions of wire and unwire: n is the answer to the first five ──
  module _ (n : ℕ) (e : n ≡ first_no (slot_asked (page_test z s p) s a.numbers a.active also frame_asked false z (take z.frames fs) i)) where
    answered : n ≡ first_no asked
    answered = served_answer a (page_range z s p) n (page_test z s p) (page_test_holds z s p) false e

    more_no : (q : Questions) → ¬ (n ≡ 0) → n ≡ first_no (asked also q)
    more_no q h = answered ∙ sym (also_no asked q (λ x. h (answered ∙ x)))

    more_yes : (q : Questions) → n ≡ 0 → first_no q ≡ first_no (asked also q)
    more_yes q h = sym (also_yes 0 asked q tt (sym answered ∙ h))

    pub wire_no : ¬ (n ≡ 0) → refusal n st ≡ own z st (Event.Page (Page.Wire s p))
    wire_no h = own_no z st (Event.Page (Page.Wire s p)) n (more_no (unwired_asked z (take z.frames fs) i) h) h

    pub unwire_no : ¬ (n ≡ 0) → refusal n st ≡ own z st (Event.Page (Page.Unwire s p))
    unwire_no h = own_no z st (Event.Page (Page.Unwire s p)) n (more_no (wired_asked z (take z.frames fs) i) h) h

    -- g is the page's frame
    module _ (yes : n ≡ 0) (h : frame_in z.frames fs i < z.frames) (seats : Seats z (take z.frames fs)) (g : Frame) (eg : g ≡ frame_at fs (frame_in z.frames fs i)) where
      pub wire_wired : g.wired ≡ 1 → refusal 16 st ≡ own z st (Event.Page (Page.Wire s p))
      wire_wired w = own_no z st (Event.Page (Page.Wire s p)) 16 (sym (first_no_holds 16 _ _ (λ k. its_tells z fs i h is_unwired k (rw eg at w))) ∙ more_yes (unwired_asked z (take z.frames fs) i) yes) (λ x. omega arith)

      pub wire_yes : ¬ (g.wired ≡ 1) → done z st (Event.Page (Page.Wire s p)) ≡ own z st (Event.Page (Page.Wire s p))
      wire_yes w = own_yes z st (Event.Page (Page.Wire s p)) 0 (sym (yes_all _ (its_told z fs i h seats is_unwired (rw eg at w), tt)) ∙ more_yes (unwired_asked z (take z.frames fs) i) yes) refl

      pub unwire_unwired : ¬ (g.wired ≡ 1) → refusal 17 st ≡ own z st (Event.Page (Page.Unwire s p))
      unwire_unwired w = own_no z st (Event.Page (Page.Unwire s p)) 17 (sym (first_no_holds 17 _ _ (λ k. k (its_told z fs i h seats is_unwired (rw eg at w)))) ∙ more_yes (wired_asked z (take z.frames fs) i) yes) (λ x. omega arith)

      pub unwire_yes : g.wired ≡ 1 → done z st (Event.Page (Page.Unwire s p)) ≡ own z st (Event.Page (Page.Unwire s p))
      unwire_yes w = own_yes z st (Event.Page (Page.Unwire s p)) 0 (sym (yes_all _ ((λ k. its_tells z fs i h is_unwired k (rw eg at w)), tt)) ∙ more_yes (wired_asked z (take z.frames fs) i) yes) refl

  -- the part that a look hands back ends within the words
  pub place_fits : (f k : ℕ) → f < z.frames → k ≡ f * z.words + 0 → k + z.words ≤ z.frames * z.words
  place_fits f k h e = omega (arith, mul-le-mul_right z.words h)

  -- ── read ──
  module _ (w : ℕ) where
    pub word_answer : (reads : Bool) (n : ℕ) → n ≡ first_no (slot_asked (word_test z s p w) s a.numbers a.active also frame_asked reads z (take z.frames fs) i)
        → n ≡ first_no (served z st (word_range z s p w) (quiet_of reads z st) s p)
    word_answer reads n = served_answer a (word_range z s p w) n (word_test z s p w) (word_test_holds z s p w) reads

    -- f and g are the page's frame and what it holds, l the frames that the code stores
    module _ (h : frame_in z.frames fs i < z.frames) (f : ℕ) (g : Frame) (ef : f ≡ frame_in z.frames fs i) (eg : g ≡ frame_at fs f) where
      pub read_answer : (k x : ℕ) → k ≡ f * z.words + w → x ≡ at words k → ◌≡◌ {A = Answer} (record { refusal = 0; result = x }) (done z st (Event.Page (Page.Read s p w))).answer
      unfolding result Pages.word_read
      read_answer k x ek ex = ap (λ (n : ℕ). record { refusal = 0; result = n }) (ex ∙ ap (at words) (ek ∙ ap (λ (j : ℕ). j * z.words + w) (its_place f ef)))

      pub read_frames : (l : List Frame) → l ≡ set fs f (set_used_switch 1 g) → take z.frames l ≡ (done z st (Event.Page (Page.Read s p w))).left.memory.core.frames
      unfolding carried Pages.read
      read_frames l el = its_changed z fs i (frames st) (λ k j. refl) h (set_used_switch 1) f g l ef eg el

  -- ── wire and unwire ──
  module _ (h : frame_in z.frames fs i < z.frames) (f : ℕ) (ef : f ≡ frame_in z.frames fs i) where
    pub wire_frames : (g : Frame) (l : List Frame) → g ≡ frame_at fs f → l ≡ set fs f (set_wired 1 g) → take z.frames l ≡ (done z st (Event.Page (Page.Wire s p))).left.memory.core.frames
    unfolding carried Pages.wire
    wire_frames g l eg el = its_changed z fs i (frames st) (λ k j. refl) h (set_wired 1) f g l ef eg el

    pub wire_list : (m : List ℕ) → m ≡ remove list f → m ≡ (done z st (Event.Page (Page.Wire s p))).left.memory.core.removal_list
    unfolding carried Pages.wire
    wire_list m em = em ∙ ap (remove list) (its_place f ef)

    pub unwire_frames : (g : Frame) (l : List Frame) → g ≡ frame_at fs f → l ≡ set fs f (set_wired 0 (set_initial 0 g)) → take z.frames l ≡ (done z st (Event.Page (Page.Unwire s p))).left.memory.core.frames
    unfolding carried Pages.unwire
    unwire_frames g l eg el = its_changed z fs i (frames st) (λ k j. refl) h (λ x. set_wired 0 (set_initial 0 x)) f g l ef eg el

    pub unwire_list : (m : List ℕ) → m ≡ push_back list f → m ≡ (done z st (Event.Page (Page.Unwire s p))).left.memory.core.removal_list
    unfolding carried Pages.unwire
    unwire_list m em = em ∙ ap (push_back list) (its_place f ef)

    -- ── what the queue's parts require ──
    module _ (seats : Seats z (take z.frames fs)) (listed : RemovalList z (take z.frames fs) list) where
      inside : f < z.frames
      inside = rw ef h

      packed : Holds (queue (length list) list)
      packed = rw listed.long listed.packed

      pub wire_needs : (f < 65535) × Holds (queue (length list) list) × (times (members list) f ≤ 1)
      wire_needs = (omega (arith, inside, seats.sizes.frames_most), packed, omega (arith, listed.placed f inside))

      pub unwire_needs : (g : Frame) → g ≡ frame_at fs f → g.wired ≡ 1 → (f < 65535) × ((m : ℕ) × Holds (queue_of (length list) m list)) × (size list < length list)
      unwire_needs g eg w = (omega (arith, inside, seats.sizes.frames_most), (_, packed), room list listed.long listed.packed (λ x l. omega (arith, listed.placed x l)) f inside (omega (arith, listed.placed f inside, one)))
        where
          one : (frame_at (take z.frames fs) f).wired ≡ 1
          one = ap (λ (x : Frame). x.wired) (frame_take z.frames fs f inside ∙ sym eg) ∙ w
