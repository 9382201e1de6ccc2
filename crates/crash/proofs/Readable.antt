-- A listed page of an inactive design can be read: where a frame is free, activate, fault, a good page done and read are all carried out. So the theorems on what is read after an import are not empty.
use mathlib.Core.Path.{◌≡◌, refl, ap, sym, ◌∙◌, subst}
use mathlib.Core.Bool.{Bool}
use mathlib.Core.List.{List}
use mathlib.Core.Logic.{inl, inr}
use Prim.Native.Nat.{ℕ, zero, suc, ◌<◌, pred}
use native.Mathlib.Omega.{arith}
use native.Mathlib.Decide.{ℕ_discrete}
use lib.ListN.{length, set}
use lib.Seq.{get_or-set_same, get_or-set_other}
use borrow.Author.Tests.{eq-eqb}
use Rattle.tables.specs.Base.{at, if}
use Rattle.tables.specs.Laws.{if_true, not_zero}
use Rattle.tables.specs.Rule.{Holds, test, complete, untold, same, ◌and◌}
use Rattle.tables.specs.Queue.{size, first}
use Rattle.tables.specs.QueueLaws.{first_below}
use Rattle.tables.specs.Questions.{Asked, first_no, yes_all}
use Rattle.tables.specs.Store.{at_store}
use Rattle.model.specs.declared.sizes.Sizes.{Sizes}
use Rattle.model.specs.declared.frame.Frame.{Frame}
use Rattle.model.specs.declared.event.Design.TheVariants.{Activate}
use Rattle.model.specs.declared.event.Page.TheVariants.{Fault, Read}
use Rattle.model.specs.declared.event.Writeback.TheVariants.{PageDone}
use Rattle.model.specs.declared.event.Event.{Event}
use Rattle.model.specs.declared.event.Event.TheVariants as Event
use Rattle.model.specs.Lines.{FILED, LIVE}
use Rattle.model.specs.State.{State, Core, Chip, Frames, files, frames, no_frame, frame_at, NONE, READING, framed, live, page_of, slot_of, all_pages}
use Rattle.model.specs.Setters.{counted}
use Rattle.model.specs.Parts.{of_slot}
use Rattle.model.specs.Questions.{questions}
use Rattle.model.specs.Laws.Ruled.{Ruled, ruled}
use Rattle.model.specs.Laws.Fit.{Fit, fit}
use Rattle.model.specs.Laws.Index.{slot_of_page, page_below}
use Rattle.model.specs.Designs
use Rattle.model.specs.Pages
use Rattle.model.specs.Writeback
use Rattle.model.specs.Step.{Outcome, outcome, asked, answer, carried, result, step, is_fault, supplied, whole}
use Rattle.model.specs.Terms.{Good}
use Rattle.model.specs.Chip.{found, arrives}
use Rattle.invariant.proofs.Kept.{kept, good_chip}
use Rattle.invariant.proofs.ChipLaws.{chip_stays}

-- a state that passes questions 1 and 2, with a free frame, and in it a listed page of a design that is not active
pub record Listed (z : Sizes) (st : State) (s p : ℕ) : Type 0 where
  pub good : Good z st
  pub slot : s < z.slots
  pub page : p < z.pages
  pub filled : ¬ ((files st).number s ≡ 0)
  pub resting : ¬ ((files st).active s ≡ 1)
  pub listed : ¬ ((files st).map (page_of z s p) ≡ 0)
  pub frame : 0 < size st.memory.core.free_queue

module _ (z : Sizes) where
  -- an event whose questions all say yes is carried out
  all_asked : (st : State) (e : Event) → Good z st → Asked (questions z st e) → step z st e ≡ outcome 0 (result z st e) st (whole z st e)
  unfolding step answer
  all_asked st e g a = ap (λ (n : ℕ). outcome n (result z st e) st (whole z st e)) (yes_all (asked z st (questions z st e)) (g.0, (g.1, a)))

module _ (z : Sizes) (st : State) (s p : ℕ) (k : Listed z st s p) where
  abbrev i : ℕ
  i = page_of z s p

  f₀ : Fit z st
  f₀ = fit z st k.good.0

  r₀ : Ruled z st
  r₀ = ruled z st k.good.1

  within : i < all_pages z
  within = page_below z f₀.sizes.pages s p k.slot k.page

  slot_is : slot_of z i ≡ s
  slot_is = slot_of_page z f₀.sizes.pages s p k.page

  -- the page is in no frame
  not_framed : (g : ℕ) → g < z.frames → ¬ (((frames st).frame g).page ≡ suc i)
  not_framed g h e = k.resting (ap (files st).active (sym slot_is) ∙ r₀.frames.active g h i e)

  -- ── activate ──
  abbrev st₁ : State
  st₁ = whole z st (Event.Design (Activate s))

  woken : step z st (Event.Design (Activate s)) ≡ outcome 0 (result z st (Event.Design (Activate s))) st st₁
  woken = all_asked z st (Event.Design (Activate s)) k.good (k.slot, (k.filled, (k.resting, tt)))

  good₁ : Good z st₁
  good₁ = subst (λ (o : Outcome State). Good z o.left) woken (kept z st (Event.Design (Activate s)) k.good)

  active₁ : (files st₁).active s ≡ 1
  unfolding whole supplied is_fault carried counted Designs.activate
  active₁ = get_or-set_same st.memory.slots.active s 1 0 (omega (arith, f₀.memory.active, k.slot))

  address₁ : (files st₁).address i ≡ (files st).map i
  unfolding whole supplied is_fault carried counted Designs.activate
  address₁ = elim (at_store st.memory.held.addresses (of_slot z s) (at st.disk.maps) i (omega (arith, f₀.memory.addresses, within))) [ inl x ↦ x.1 | inr x ↦ absurd (x.0 slot_is) ]

  live₁ : Holds (live (files st₁) i)
  unfolding whole supplied is_fault carried counted Designs.activate
  live₁ = go ((files st).map i) refl k.listed
    where
      go : (m : ℕ) → (files st).map i ≡ m → ¬ (m ≡ 0) → Holds (live (files st₁) i)
      go zero e n = absurd (n refl)
      go (suc r) e n =
          let filed = r₀.records.filed i within r e (λ a. k.resting (ap (files st).active (sym slot_is) ∙ a)) in
          let below = r₀.disk.map_fit_holds i within r e in (
            r,
            address₁ ∙ e,
            elim (at_store st.memory.held.states (λ q. same (at st.memory.held.states q) FILED and same (at st.memory.held.owners q) s) (λ q. LIVE) r (omega (arith, f₀.memory.states, below))) [
              | inl x ↦ x.1
              | inr x ↦ absurd (x.0 (filed.1, filed.0 ∙ slot_is))
            ],
          )

  same₁ : ((files st₁).number s ≡ (files st).number s) × (frames st₁ ≡ frames st) × (st₁.memory.core.free_queue ≡ st.memory.core.free_queue)
  unfolding whole supplied is_fault carried counted Designs.activate
  same₁ = (refl, refl, refl)

  -- the chip has no copy of a record that was filed, and an activate brings none in
  chip₁ : st₁.memory.chip ≡ st.memory.chip
  chip₁ = chip_stays z st f₀ r₀ (good_chip z st k.good) (Event.Design (Activate s)) tt (k.slot, (k.filled, (k.resting, tt)))

  uncopied : (b : ℕ) → b < z.chip → ¬ (at st.memory.chip.copies b ≡ (files st).map i)
  uncopied b h = go ((files st).map i) refl k.listed
    where
      go : (m : ℕ) → (files st).map i ≡ m → ¬ (m ≡ 0) → ¬ (at st.memory.chip.copies b ≡ m)
      go zero e n c = n refl
      go (suc r) e n c =
          let filed = r₀.records.filed i within r e (λ a. k.resting (ap (files st).active (sym slot_is) ∙ a)) in
          omega (arith, filed.1, ((good_chip z st k.good).rules.live b h r c).0)

  f₁ : Fit z st₁
  f₁ = fit z st₁ good₁.0

  r₁ : Ruled z st₁
  r₁ = ruled z st₁ good₁.1

  some₁ : 0 < size st₁.memory.core.free_queue
  some₁ = subst (λ (q : List ℕ). 0 < size q) (sym same₁.2) k.frame

  not_framed₁ : (g : ℕ) → g < z.frames → ¬ (((frames st₁).frame g).page ≡ suc i)
  not_framed₁ g h e = not_framed g h (sym (ap (λ (c : Frames). (c.frame g).page) same₁.1) ∙ e)

  filled₁ : ¬ ((files st₁).number s ≡ 0)
  filled₁ e = k.filled (sym same₁.0 ∙ e)

  -- ── fault ──
  abbrev f : ℕ
  f = Pages.fault_frame st₁

  below : f < z.frames
  unfolding Pages.fault_frame
  below = first_below st₁.memory.core.free_queue f₁.memory.free_queue r₁.queues.free_queue some₁

  abbrev c₂ : State
  c₂ = carried z st₁ (Event.Page (Fault s p))

  abbrev st₂ : State
  st₂ = whole z st₁ (Event.Page (Fault s p))

  faulted : step z st₁ (Event.Page (Fault s p)) ≡ outcome 0 (result z st₁ (Event.Page (Fault s p))) st₁ st₂
  faulted = all_asked z st₁ (Event.Page (Fault s p)) good₁
      ((k.slot, k.page), (filled₁, (active₁, ((λ g h e. absurd (not_framed₁ g h e)), ((λ x. not_framed₁ x.0 x.1 x.2), (inl (λ e. k.listed (sym address₁ ∙ e)), (some₁, tt)))))))

  good₂ : Good z st₂
  good₂ = subst (λ (o : Outcome State). Good z o.left) faulted (kept z st₁ (Event.Page (Fault s p)) good₁)

  begun : c₂ ≡ counted z (Pages.begin_read z st₁ i f)
  unfolding carried Pages.fault
  begun = ap (counted z) (if_true (test (live (files st₁) i)) _ _ (complete (live (files st₁) i) live₁))

  awaits : (frames c₂).frame f ≡ Pages.awaiting i
  unfolding Pages.begin_read counted
  awaits = ap (λ (x : State). (frames x).frame f) begun ∙ get_or-set_same st₁.memory.core.frames f (Pages.awaiting i) no_frame (omega (arith, f₁.memory.frames, below))

  address₂ : (files c₂).address i ≡ (files st).map i
  unfolding Pages.begin_read counted
  address₂ = ap (λ (x : State). (files x).address i) begun ∙ address₁

  -- so its words must be read
  not_found : ¬ (Holds (found z st₁.memory.chip c₂ f))
  not_found h =
      let (b, l, e) = h.1 in
      let is : suc (Writeback.record_in z c₂ f) ≡ (files st).map i = ap (λ (g : Frame). suc (pred ((files c₂).address (pred g.page)))) awaits ∙ ap (λ (a : ℕ). suc (pred a)) address₂ ∙ sym (not_zero ((files st).map i) k.listed) in
      uncopied b l (ap (λ (c : Chip). at c.copies b) (sym chip₁) ∙ e ∙ is)

  core₂ : st₂.memory.core ≡ c₂.memory.core
  unfolding whole supplied is_fault arrives
  core₂ = rw (untold (found z st₁.memory.chip c₂ f) not_found) refl

  frame₂ : (frames st₂).frame f ≡ Pages.awaiting i
  frame₂ = ap (λ (c : Core). frame_at c.frames f) core₂ ∙ awaits

  other₂ : (g : ℕ) → ¬ (g ≡ f) → (frames st₂).frame g ≡ (frames st₁).frame g
  unfolding Pages.begin_read counted
  other₂ g d = ap (λ (c : Core). frame_at c.frames g) core₂ ∙ ap (λ (x : State). (frames x).frame g) begun ∙ get_or-set_other st₁.memory.core.frames f g (Pages.awaiting i) no_frame d

  same₂ : ((files st₂).number s ≡ (files st₁).number s) × ((files st₂).active s ≡ (files st₁).active s)
  unfolding whole supplied Pages.begin_read counted
  same₂ = (ap (λ (x : State). (files x).number s) begun, ap (λ (x : State). (files x).active s) begun)

  -- ── page done ──
  abbrev c₃ : State
  c₃ = carried z st₂ (Event.Writeback (PageDone f 1))

  abbrev st₃ : State
  st₃ = whole z st₂ (Event.Writeback (PageDone f 1))

  reading : ((frames st₂).frame f).transfer ≡ READING
  reading = ap (λ (g : Frame). g.transfer) frame₂

  arrived : step z st₂ (Event.Writeback (PageDone f 1)) ≡ outcome 0 (result z st₂ (Event.Writeback (PageDone f 1))) st₂ st₃
  arrived = all_asked z st₂ (Event.Writeback (PageDone f 1)) good₂ ((below, omega arith), ((λ e. omega (arith, e, reading)), tt))

  good₃ : Good z st₃
  good₃ = subst (λ (o : Outcome State). Good z o.left) arrived (kept z st₂ (Event.Writeback (PageDone f 1)) good₂)

  served : c₃ ≡ counted z (Writeback.read_good z st₂ f)
  unfolding carried Writeback.page_done
  served = rw (eq-eqb ((frames st₂).frame f).transfer READING reading)

  f₂ : Fit z st₂
  f₂ = fit z st₂ good₂.0

  frame₃ : (frames st₃).frame f ≡ Pages.fresh (pred ((frames st₂).frame f).page)
  unfolding whole supplied is_fault Writeback.read_good counted
  frame₃ = ap (λ (x : State). (frames x).frame f) served ∙ get_or-set_same st₂.memory.core.frames f (Pages.fresh (pred ((frames st₂).frame f).page)) no_frame (omega (arith, f₂.memory.frames, below))

  other₃ : (g : ℕ) → ¬ (g ≡ f) → (frames st₃).frame g ≡ (frames st₂).frame g
  unfolding whole supplied is_fault Writeback.read_good counted
  other₃ g d = ap (λ (x : State). (frames x).frame g) served ∙ get_or-set_other st₂.memory.core.frames f g (Pages.fresh (pred ((frames st₂).frame f).page)) no_frame d

  same₃ : ((files st₃).number s ≡ (files st₂).number s) × ((files st₃).active s ≡ (files st₂).active s)
  unfolding whole supplied is_fault Writeback.read_good counted
  same₃ = (ap (λ (x : State). (files x).number s) served, ap (λ (x : State). (files x).active s) served)

  page₃ : ((frames st₃).frame f).page ≡ suc i
  page₃ = ap (λ (g : Frame). g.page) frame₃ ∙ ap (λ (g : Frame). suc (pred g.page)) frame₂

  -- ── read ──
  can_read : (j : ℕ) → j < z.words → (step z st₃ (Event.Page (Read s p j))).answer.refusal ≡ 0
  can_read j hj = ap (λ (o : Outcome State). o.answer.refusal) (all_asked z st₃ (Event.Page (Read s p j)) good₃
      ((k.slot, (k.page, hj)), ((λ e. filled₁ (sym same₂.0 ∙ sym same₃.0 ∙ e)), (same₃.1 ∙ same₂.1 ∙ active₁, ((f, below, page₃), (there, tt))))))
    where
      there : (g : ℕ) → g < z.frames → ((frames st₃).frame g).page ≡ suc i → ¬ (((frames st₃).frame g).transfer ≡ READING)
      there g h e t = elim (ℕ_discrete g f) [
        | yes q ↦ omega (arith, t, ap (λ (a : ℕ). ((frames st₃).frame a).transfer) q, ap (λ (c : Frame). c.transfer) frame₃)
        | no q ↦ not_framed₁ g h (sym (ap (λ (c : Frame). c.page) (other₃ g q ∙ other₂ g q)) ∙ e)
      ]

pub readable : (z : Sizes) (st : State) (s p : ℕ) → Listed z st s p → (j : ℕ) → j < z.words
    → (let a = step z st (Event.Design (Activate s)) in let b = step z a.left (Event.Page (Fault s p)) in let c = step z b.left (Event.Writeback (PageDone b.answer.result 1)) in
    (a.answer.refusal ≡ 0) × (b.answer.refusal ≡ 0) × (c.answer.refusal ≡ 0) × ((step z c.left (Event.Page (Read s p j))).answer.refusal ≡ 0))
unfolding result
readable z st s p k j h = rw (woken z st s p k) (refl, rw (faulted z st s p k) refl, rw (faulted z st s p k) (rw (arrived z st s p k) refl), rw (faulted z st s p k) (rw (arrived z st s p k) (can_read z st s p k j h)))
