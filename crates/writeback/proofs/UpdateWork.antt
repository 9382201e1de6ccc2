-- Update: what the code's passes leave is what the definition says.
use mathlib.Core.Path.{◌≡◌, refl, ap, sym, ◌∙◌, subst}
use mathlib.Core.List.{List}
use mathlib.Core.Logic.{◌⊎◌, inl, inr}
use Prim.Native.Nat.{ℕ, suc, ◌+◌, ◌*◌, ◌/◌, ◌<◌, ◌≤◌}
use native.Mathlib.Omega.{arith}
use lib.ListN.{length, set, take}
use Rattle.tables.specs.Base.{at}
use Rattle.tables.specs.Questions.{first_no, all_yes}
use Rattle.tables.specs.Rule.{Rule, Holds, same, some, ◌and◌}
use Rattle.tables.specs.Store.{store, at_store}
use Rattle.tables.specs.StoreLoops.{store_same}
use Rattle.tables.specs.StoreNamed.{store_or}
use Rattle.model.specs.declared.sizes.Sizes.{Sizes}
use Rattle.model.specs.declared.frame.Frame.{Frame}
use Rattle.model.specs.declared.event.Answer.{Answer}
use Rattle.model.specs.declared.refusals.Refusal.{Refusal}
use Rattle.model.specs.Lines.{RELEASED, LEAVING}
use Rattle.model.specs.Refusals.{number}
use Rattle.model.specs.State.{State, all_pages}
use Rattle.model.specs.Setters.{counted}
use Rattle.model.specs.Questions.{questions, would_store}
use Rattle.model.specs.Writeback
use Rattle.model.specs.Step.{Outcome, carried, result}
use Rattle.model.specs.Laws.Own.{own}
use Rattle.leaves.specs.FrameLaws.{frame_take}
use Rattle.model.specs.Laws.OwnLaws.{own_yes, own_no}
use Rattle.leaves.specs.Addresses.{live_address}
use Rattle.writeback.specs.Needs.{Sized, Addressed}
use Rattle.writeback.specs.Seen.{update, seen_update}
use Rattle.writeback.specs.Update.{leaving_page, SlotPages}
use Rattle.tables.specs.StoreLoops.{part_fits}
use Rattle.writeback.proofs.Named.{fits}
use Rattle.writeback.proofs.Refused.{number_some}

-- what the contract says of the answer, the addresses, the states, the update switches and the images
abbrev pub Said : Outcome State → Answer → List ℕ → List ℕ → List ℕ → List ℕ → Type 0
Said o a ds ss us is =
    record {
      answer : a ≡ o.answer;
      addresses : ds ≡ o.left.memory.held.addresses;
      states : ss ≡ o.left.memory.held.states;
      updating : us ≡ o.left.memory.slots.updating;
      images : is ≡ o.left.memory.slots.images;
    }

abbrev pub answer : ℕ → Answer
answer n = record { refusal = n; result = 0 }

module _ (z : Sizes) (fs : List Frame) (ns ds ss os ac us is : List ℕ) (s : ℕ) where
  abbrev st : State
  st = seen_update (take z.frames fs) ns ds ss os ac us is

  abbrev Left : ℕ → List ℕ → List ℕ → List ℕ → List ℕ → Type 0
  Left n ds' ss' us' is' = Said (own z st (update s)) (answer n) ds' ss' us' is'

  left_by_holds : {p : Outcome State} {n : ℕ} {ds' ss' us' is' : List ℕ} → own z st (update s) ≡ p → Said p (answer n) ds' ss' us' is' → Left n ds' ss' us' is'
  left_by_holds {n = n} {ds' = ds'} {ss' = ss'} {us' = us'} {is' = is'} e h = subst (λ (o : Outcome State). Said o (answer n) ds' ss' us' is') (sym e) h

  -- the code's frames and the model's
  to_model : (i : ℕ) → Holds (leaving_page z fs ds ss s i) → Holds (Writeback.leaving_page z st s i)
  to_model i h = (h.0, (h.1.0, λ k. h.1.1 (k.0, k.1, ap (λ (g : Frame). g.page) (sym (frame_take z.frames fs k.0 k.1)) ∙ k.2)))

  from_model : (i : ℕ) → Holds (Writeback.leaving_page z st s i) → Holds (leaving_page z fs ds ss s i)
  from_model i h = (h.0, (h.1.0, λ k. h.1.1 (k.0, k.1, ap (λ (g : Frame). g.page) (frame_take z.frames fs k.0 k.1) ∙ k.2)))

  -- the records of those pages
  abbrev paged : ℕ → Rule
  paged r = some (length ds) λ i. leaving_page z fs ds ss s i and same (at ds i) (suc r)

  abbrev marked : List ℕ
  marked = store ss paged (λ r. LEAVING)

  abbrev released : ℕ → Rule
  released r = same (at marked r) RELEASED and same (at os r) s

  pub refused : (x : Refusal) → number x ≡ first_no (questions z st (update s)) → Left (number x) ds ss us is
  refused x e = left_by_holds (sym (own_no z st (update s) _ e (number_some x))) (record { answer = refl; addresses = refl; states = refl; updating = refl; images = refl })

  module _ (e : 0 ≡ first_no (questions z st (update s))) (ready : Sized z × Addressed z ds ss × (length os ≡ length ss) × (length is ≡ all_pages z)) where
    inside : s < z.slots
    inside = (all_yes 2 (questions z st (update s)) tt (sym e)).0

    pub images_fit : s * z.pages + z.pages ≤ length is
    images_fit = rw ready.3 (part_fits z.slots z.pages s inside)

    pub pages_ready : SlotPages z s ds ss
    pages_ready = record {
      frames_most = ready.0.frames_most;
      pages_some = ready.0.pages_some;
      long = rw ready.1.long (part_fits z.slots z.pages s inside);
      short = omega (arith, ready.1.long, fits z.slots z.pages ready.0.slots_most ready.0.pages_most);
      inside = λ i r h. ready.1.inside i r (rw ready.1.long at h);
      held_once_holds = rw ready.1.long ready.1.held_once_holds;
    }

    to : (r : ℕ) → r < length ss → Holds (Writeback.leaving_record z st s r) → Holds (paged r) ⊎ Holds (released r)
    to r h (inl x) = inl (x.0, rw ready.1.long x.1, (from_model x.0 x.2.0, x.2.1))
    to r h (inr x) = elim (at_store ss paged (λ k. LEAVING) r h) [ inl y ↦ inl y.0 | inr y ↦ inr (y.1 ∙ x.1, x.0) ]

    from : (r : ℕ) → r < length ss → Holds (paged r) ⊎ Holds (released r) → Holds (Writeback.leaving_record z st s r)
    from r h (inl x) = inl (x.0, rw ready.1.long at x.1, (to_model x.0 x.2.0, x.2.1))
    from r h (inr x) = elim (at_store ss paged (λ k. LEAVING) r h) [ inl y ↦ absurd (omega (arith, x.0, y.1)) | inr y ↦ inr (x.1, sym y.1 ∙ x.0) ]

    pub updated : {ds' ss₁ ss' us' is' : List ℕ} → us' ≡ set us s 1 → is' ≡ store is (λ i. same (i / z.pages) s) (live_address ds ss) → ds' ≡ store ds (leaving_page z fs ds ss s) (λ i. 0)
        → ss₁ ≡ marked → ss' ≡ store ss₁ (λ r. same (at ss₁ r) RELEASED and same (at os r) s) (λ r. LEAVING) → Left 0 ds' ss' us' is'
    unfolding carried result Writeback.update would_store counted
    updated a b c d f = left_by_holds (sym (own_yes z st (update s) _ e refl)) (record {
      answer = refl;
      addresses = c ∙ store_same ds (leaving_page z fs ds ss s) (Writeback.leaving_page z st s) (λ i. 0) (λ i. 0) (λ i h k. to_model i k) (λ i h k. from_model i k) (λ i h k. refl);
      states = f ∙ ap (λ (l : List ℕ). store l (λ r. same (at l r) RELEASED and same (at os r) s) (λ r. LEAVING)) d ∙ store_or ss paged released (Writeback.leaving_record z st s) (λ r. LEAVING) to from;
      updating = a;
      images = b;
    })
