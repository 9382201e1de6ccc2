-- A write in code: question 18 after those of every access, what it charges, and what it stores is what the model leaves.
use mathlib.Core.Path.{◌≡◌, refl, ap, sym, ◌∙◌}
use mathlib.Core.Bool.{Bool, true, false, not, ◌&&◌, ◌||◌}
use mathlib.Core.Logic.{inl, inr}
use mathlib.Core.List.{List, []}
use Prim.Native.Nat.{ℕ, suc, ◌+◌, ◌*◌, ◌<◌}
use native.Mathlib.Omega.{arith}
use lib.Dec.{ltb}
use lib.ListN.{take, set}
use Rattle.tables.specs.Base.{if, at}
use Rattle.tables.specs.Questions.{Questions, first_no, yes_all}
use Rattle.tables.specs.Also.{◌also◌, also_yes, also_no}
use Rattle.tables.specs.Rule.{Rule, same, below, ◌or◌, test, sound, complete, alike}
use Rattle.model.specs.declared.sizes.Sizes.{Sizes}
use Rattle.model.specs.declared.frame.Frame.{Frame}
use Rattle.model.specs.State.{State, files, frames, frame_at, page_of, charged, payer}
use Rattle.model.specs.Setters.{set_used_switch, set_modified, counted}
use Rattle.model.specs.Parts.{frame_of}
use Rattle.model.specs.Pages as Pages
use Rattle.model.specs.Questions.{questions, served, still, payable}
use Rattle.model.specs.Step.{Outcome, outcome, carried}
use Rattle.model.specs.Laws.Own.{own, refusal, first_no_holds}
use Rattle.model.specs.Laws.OwnLaws.{done, own_no, own_yes, outcome_no}
use Rattle.leaves.specs.Asks.{slot_asked}
use Rattle.leaves.specs.FrameLaws.{frame_in, frame_take}
use Rattle.leaves.specs.Payers.{who_pays}
use Rattle.pages.specs.Asks.{frame_asked}
use Rattle.pages.specs.Needs.{Seats}
use Rattle.pages.specs.Seen.{seen_write}
use Rattle.pages.specs.Writes.{writing, is_charged, charge_asked, charged1, used_then, used_left}
use Rattle.pages.proofs.ItsFrame.{its_found, its_changed, its_page, its_told}
use Rattle.pages.proofs.Served.{served_answer, word_test, word_range, word_test_holds}

-- what a write is passed
pub record WriteCall : Type 0 where
  pub sizes : Sizes
  pub frames : List Frame
  pub numbers : List ℕ
  pub accounts : List ℕ
  pub limits : List ℕ
  pub parents : List ℕ
  pub words : List ℕ
  pub addresses : List ℕ
  pub states : List ℕ
  pub active : List ℕ
  pub used : List ℕ
  pub slot : ℕ
  pub page : ℕ
  pub word : ℕ
  pub value : ℕ

module _ (a : WriteCall) where
  abbrev z : Sizes
  z = a.sizes

  abbrev fs : List Frame
  fs = a.frames

  abbrev s : ℕ
  s = a.slot

  abbrev p : ℕ
  p = a.page

  abbrev i : ℕ
  i = page_of z s p

  abbrev pub state : State
  state = seen_write (take z.frames fs) a.numbers a.accounts a.limits a.parents a.words a.addresses a.states a.active a.used

  -- who pays for the slot
  abbrev who : ℕ
  who = who_pays a.accounts a.limits a.parents s

  abbrev is_charged? : Rule
  is_charged? = charged z (files state) (frames state) i

  abbrev asked : Questions
  asked = questions z state (writing s p a.word a.value)

  abbrev first5 : Questions
  first5 = served z state (word_range z s p a.word) (still z state) s p

  -- the model's frame of the page
  its_place : (f : ℕ) → f ≡ frame_in z.frames fs i → f ≡ frame_of z (frames state) i
  its_place f ef = ef ∙ its_found z fs i (frames state) (λ k j. refl)

  -- used is left as it was where a question fails
  left_no : ¬ (first_no asked ≡ 0) → a.used ≡ used_left z state s p a.word a.value
  left_no h = sym (ap (λ (o : Outcome (List ℕ)). o.left) (outcome_no (first_no asked) 0 a.used (used_then z state s i) h))

  -- ── n answers the first five, as the code asks them ──
  module _ (n : ℕ) (e : n ≡ first_no (slot_asked (word_test z s p a.word) s a.numbers a.active also frame_asked false z (take z.frames fs) i)) where
    answered : n ≡ first_no first5
    answered = served_answer (record { sizes = z; frames = fs; numbers = a.numbers; words = a.words; list = []; active = a.active; slot = s; page = p }) (word_range z s p a.word) n
        (word_test z s p a.word) (word_test_holds z s p a.word) false e

    module _ (h : ¬ (n ≡ 0)) where
      five_no : n ≡ first_no asked
      five_no = answered ∙ sym (also_no first5 (charge_asked z state s i) (λ x. h (answered ∙ x)))

      pub write_no : refusal n state ≡ own z state (writing s p a.word a.value)
      write_no = own_no z state (writing s p a.word a.value) n five_no h

      pub used_no : a.used ≡ used_left z state s p a.word a.value
      used_no = left_no (λ x. h (five_no ∙ x))

    -- ── they say yes; f and g are the page's frame and what it holds ──
    module _ (yes : n ≡ 0) (h : frame_in z.frames fs i < z.frames) (seats : Seats z (take z.frames fs)) (f : ℕ) (g : Frame) (ef : f ≡ frame_in z.frames fs i) (eg : g ≡ frame_at fs f) where
      five_yes : first_no (charge_asked z state s i) ≡ first_no asked
      five_yes = sym (also_yes 0 first5 (charge_asked z state s i) tt (sym answered ∙ yes))

      its_switch : (frame_at fs (frame_in z.frames fs i)).modified ≡ g.modified
      its_switch = ap (λ (k : ℕ). (frame_at fs k).modified) (sym ef) ∙ sym (ap (λ (x : Frame). x.modified) eg)

      -- whether it is charged, by that frame
      its_charge : test (is_charged g.modified a.addresses a.states i) ≡ test is_charged?
      unfolding charged
      its_charge = alike (is_charged g.modified a.addresses a.states i) is_charged?
          (λ k. elim k [
            | inl l ↦ inl l
            | inr m ↦ inr (frame_in z.frames fs i, h, (ap (λ (x : Frame). x.page) (frame_take z.frames fs (frame_in z.frames fs i) h) ∙ its_page z fs i h, ap (λ (x : Frame). x.modified) (frame_take z.frames fs (frame_in z.frames fs i) h) ∙ its_switch ∙ m))
          ])
          (λ k. elim k [ inl l ↦ inl l | inr (j, l, (x, m)) ↦ inr (sym (its_told z fs i h seats (λ y. same y.modified g.modified) its_switch j l x) ∙ m) ])

      -- b is what the code finds, r what the payment tells and us what it leaves
      module _ (j : ℕ) (b r : Bool) (us : List ℕ) (ej : j ≡ i) (eb : b ≡ test (is_charged g.modified a.addresses a.states j))
          (er : r ≡ if b true (ltb (at a.used who) (at a.limits who))) (eu : us ≡ if (r && not b) (charged1 a.used who) a.used) where
        found : b ≡ test is_charged?
        found = eb ∙ ap (λ (k : ℕ). test (is_charged g.modified a.addresses a.states k)) ej ∙ its_charge

        below_more : (u l : ℕ) → ltb u l ≡ test (below (u + 1) (suc l))
        unfolding test
        below_more u l = alike (below u l) (below (u + 1) (suc l)) (λ x. omega (arith, x)) (λ x. omega (arith, x))

        tells : r ≡ test (is_charged? or payable z state s 1)
        unfolding test payer
        tells = er ∙ (λ t. if (found t) true (ltb (at a.used who) (at a.limits who))) ∙ go (test is_charged?) (below_more (at a.used who) (at a.limits who))
          where
            go : (c : Bool) {x y : Bool} → x ≡ y → if c true x ≡ (c || y)
            go true w = refl
            go false w = w

        module _ (no : r ≡ false) where
          denied : ◌≡◌ {A = ℕ} 18 (first_no asked)
          denied = sym (first_no_holds 18 _ _ (λ k. rw (sym tells ∙ no) at (complete (is_charged? or payable z state s 1) k))) ∙ five_yes

          pub write_denied : refusal 18 state ≡ own z state (writing s p a.word a.value)
          write_denied = own_no z state (writing s p a.word a.value) 18 denied (λ x. omega arith)

          pub used_denied : us ≡ used_left z state s p a.word a.value
          used_denied = eu ∙ ap (λ (c : Bool). if (c && not b) (charged1 a.used who) a.used) no ∙ left_no (λ x. omega (arith, denied, x))

        module _ (ok : r ≡ true) where
          all : first_no asked ≡ 0
          all = sym five_yes ∙ yes_all (charge_asked z state s i) (sound (is_charged? or payable z state s 1) (rw (sym tells ∙ ok) tt), tt)

          pub write_yes : done z state (writing s p a.word a.value) ≡ own z state (writing s p a.word a.value)
          write_yes = own_yes z state (writing s p a.word a.value) 0 (sym all) refl

          pub used_yes : us ≡ used_left z state s p a.word a.value
          unfolding used_then payer
          used_yes = eu ∙ (λ t. if (ok t && not (found t)) (charged1 a.used who) a.used) ∙ go (test is_charged?) (charged1 a.used who) a.used
              ∙ sym (ap (λ (m : ℕ). (outcome m 0 a.used (used_then z state s i)).left) all)
            where
              go : (c : Bool) (x y : List ℕ) → if (not c) x y ≡ if c y x
              go true x y = refl
              go false x y = refl

          -- the frames and the words that the code stores
          pub write_frames : (l : List Frame) → l ≡ set fs f (set_used_switch 1 (set_modified 1 g)) → take z.frames l ≡ (own z state (writing s p a.word a.value)).left.memory.core.frames
          unfolding carried Pages.write counted
          write_frames l el = its_changed z fs i (frames state) (λ k j. refl) h (λ y. set_used_switch 1 (set_modified 1 y)) f g l ef eg el ∙ (λ t. (write_yes t).left.memory.core.frames)

          pub write_words : (k : ℕ) (m : List ℕ) → k ≡ f * z.words + a.word → m ≡ set a.words k a.value → m ≡ (own z state (writing s p a.word a.value)).left.memory.core.words
          unfolding carried Pages.write counted
          write_words k m ek em = em ∙ ap (λ (j : ℕ). set a.words j a.value) (ek ∙ ap (λ (j : ℕ). j * z.words + a.word) (its_place f ef)) ∙ (λ t. (write_yes t).left.memory.core.words)
