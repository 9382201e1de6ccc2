-- Update's pass over the pages of a slot: the turns of its loop are those of the two stores, and each record is met once.
use mathlib.Core.Path.{◌≡◌, refl, ap, sym, ◌∙◌}
use mathlib.Core.Logic.{inl, inr}
use mathlib.Core.List.{List}
use Prim.Native.Nat.{ℕ, suc, ◌+◌, ◌-◌, ◌*◌, ◌/◌, ◌<◌, ◌≤◌}
use native.Mathlib.Omega.{arith}
use lib.Dec.{T, eqb, eqb→eq}
use lib.ListN.{length, set}
use Rattle.tables.specs.Base.{at}
use Rattle.tables.specs.FindLaws.{find_cases}
use Rattle.tables.specs.Laws.{eq→T}
use Rattle.tables.specs.Rule.{Holds}
use Rattle.tables.specs.Store.{Split}
use Rattle.tables.specs.StoreLoops.{Turned, turn_on, turn_off, turned_by, turned_at, inside_part}
use Rattle.tables.specs.StoreNamed.{Named, named_on, named_off, named_at}
use Rattle.model.specs.declared.sizes.Sizes.{Sizes}
use Rattle.model.specs.declared.frame.Frame.{Frame}
use Rattle.model.specs.Lines.{NULLED, LEAVING, allowed}
use Rattle.model.specs.State.{frame_at}
use Rattle.leaves.specs.FrameLaws.{frame_in}
use Rattle.writeback.specs.Pages.{framed}
use Rattle.writeback.specs.Update.{leaving, leaving_page, SlotPages}
use Rattle.writeback.proofs.Moves.{nulled_leaving}

-- the page is in one of the first n frames, or in none
module _ (n : ℕ) (fs : List Frame) (i : ℕ) where
  pub in_frame : {f : ℕ} → f ≡ frame_in n fs i → f < n → Holds (framed n fs i)
  in_frame e h = elim (find_cases n (λ f. eqb (frame_at fs f).page (suc i)) 0) [
    | inl x ↦ (frame_in n fs i, omega (arith, e), eqb→eq _ _ x.passes)
    | inr x ↦ absurd (omega (arith, e, x.0))
  ]

  pub in_none : {f : ℕ} → f ≡ frame_in n fs i → ¬ (f < n) → ¬ Holds (framed n fs i)
  in_none e h k = elim (find_cases n (λ f. eqb (frame_at fs f).page (suc i)) 0) [
    | inl x ↦ h (omega (arith, e, x.inside))
    | inr x ↦ x.1 k.0 (omega arith) (omega (arith, k.1)) (eq→T k.2)
  ]

-- the lists that the turns below page i leave
pub record LeavesTurn (z : Sizes) (s : ℕ) (fs : List Frame) (ads₀ ss₀ : List ℕ) (i : ℕ) (ads ss : List ℕ) : Type 0 where
  pub turned : Turned ads₀ (leaving_page z fs ads₀ ss₀ s) (λ k. 0) i ads
  pub named : Named ss₀ (length ads₀) (leaving_page z fs ads₀ ss₀ s) ads₀ (λ r. LEAVING) i ss

-- ── one turn ──
module _ {z : Sizes} {s : ℕ} (fs : List Frame) {ads₀ ss₀ ads ss : List ℕ} (ready : SlotPages z s ads₀ ss₀) (i : ℕ)
    (t : LeavesTurn z s fs ads₀ ss₀ i ads ss) (from : s * z.pages ≤ i) (to : i < s * z.pages + z.pages) where
  within : i < length ads₀
  within = omega (arith, ready.long)

  of_slot_holds : i / z.pages ≡ s
  of_slot_holds = inside_part z.pages s ready.pages_some i (λ h. omega arith, to)

  address_same : at ads i ≡ at ads₀ i
  address_same = turned_at i t.turned i (omega arith)

  unmet : (r : ℕ) → at ads₀ i ≡ suc r → at ss r ≡ at ss₀ r
  unmet r e = named_at i t.named r (λ j b u lt q. omega (arith, ready.held_once_holds j b i within r q e))

  back : Holds (leaving z.frames fs ads ss i) → Holds (leaving z.frames fs ads₀ ss₀ i)
  back h = let e = sym address_same ∙ h.0.1 in ((h.0.0, e, sym (unmet h.0.0 e) ∙ h.0.2), h.1)

  forth : Holds (leaving z.frames fs ads₀ ss₀ i) → Holds (leaving z.frames fs ads ss i)
  forth h = ((h.0.0, address_same ∙ h.0.1, unmet h.0.0 h.0.1 ∙ h.0.2), h.1)

  module _ {a : ℕ} (got : Split (Holds (leaving z.frames fs ads ss i)) a (at ads i) 0) where
    module _ (d : ¬ (a ≡ 0)) where
      does : Holds (leaving z.frames fs ads ss i)
      does = elim got [ inl x ↦ x.0 | inr x ↦ absurd (d x.1) ]

      reads : a ≡ at ads i
      reads = elim got [ inl x ↦ x.1 | inr x ↦ absurd (d x.1) ]

      entry : at ads₀ i ≡ suc (a - 1)
      entry = omega (arith, reads, address_same, d)

      pub may : T (allowed (at ss (a - 1)) LEAVING)
      may = let q : at ss (a - 1) ≡ NULLED = ap (at ss) (omega (arith, reads, does.0.1)) ∙ does.0.2 in rw q nulled_leaving

      pub turn_leaves : {ads' ss' : List ℕ} → ads' ≡ set ads i 0 → ss' ≡ set ss (a - 1) LEAVING → LeavesTurn z s fs ads₀ ss₀ (i + 1) ads' ss'
      turn_leaves x y = record {
        turned = turned_by (i + 1) x (turn_on i t.turned within (of_slot_holds, back does) 0 refl);
        named = named_on i t.named within (of_slot_holds, back does) (a - 1) entry (ready.inside i (a - 1) within entry) LEAVING refl y;
      }

    pub turn_stays : a ≡ 0 → {ads' ss' : List ℕ} → ads' ≡ ads → ss' ≡ ss → LeavesTurn z s fs ads₀ ss₀ (i + 1) ads' ss'
    turn_stays e x y = record { turned = turned_by (i + 1) x (turn_off i t.turned (λ h. not h.1)); named = named_off i t.named (λ h. absurd (not h.1)) y }
      where
        not : ¬ Holds (leaving z.frames fs ads₀ ss₀ i)
        not h = elim got [ inl v ↦ omega (arith, e, v.1, v.0.0.1) | inr v ↦ v.0 (forth h) ]
