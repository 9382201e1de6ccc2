-- Wish 1 of the event itself: what a fault that is carried out takes for a page without an address, over every state.
use mathlib.Core.Path.{◌≡◌, refl}
use mathlib.Core.Logic.{◌⊎◌, inl, inr}
use Prim.Native.Nat.{ℕ, zero, suc, ◌%◌, ◌<◌}
use native.Mathlib.Omega.{arith}
use lib.Dec.{eqb, eqb→eq, T_not}
use lib.Seq.{get_or-set_same}
use Rattle.tables.specs.Base.{at}
use Rattle.tables.specs.Laws.{if_elim}
use Rattle.tables.specs.CountLaws.{count_some}
use Rattle.tables.specs.Questions.{Asked}
use Rattle.tables.specs.Rule.{test, sound, told, same}
use Rattle.model.specs.declared.sizes.Sizes.{Sizes}
use Rattle.model.specs.declared.event.Event.TheVariants as Event
use Rattle.model.specs.declared.event.Page.TheVariants.{Fault}
use Rattle.model.specs.Lines.{FREE, NULLED}
use Rattle.model.specs.State.{State, Files, files, page_of, slot_of, live, free_count}
use Rattle.model.specs.Setters.{counted}
use Rattle.model.specs.Terms.{Takes}
use Rattle.model.specs.Laws.Choice.{pick_below, pick_free, pick_nearest, pick_by_hand}
use Rattle.model.specs.Parts.{pick}
use Rattle.model.specs.Questions.{questions}
use Rattle.model.specs.Laws.Ruled.{Ruled, ruled}
use Rattle.model.specs.Laws.Fit.{Fit, fit}
use Rattle.model.specs.Laws.Index.{page_below}
use Rattle.model.specs.Pages
use Rattle.model.specs.Step.{outcome, answer, carried, result, step, supplied, whole}
use Rattle.invariant.proofs.Kept.{asked_all}

-- what a fault's questions say of the page, and that it has an address or a record is free
record Faulting (z : Sizes) (st : State) (s p : ℕ) : Type 0 where
  pub slot : s < z.slots
  pub page : p < z.pages
  pub supply : (¬ ((files st).address (page_of z s p) ≡ 0)) ⊎ (0 < st.memory.held.pool.free)

faulting : (z : Sizes) (st : State) (s p : ℕ) → Asked (questions z st (Event.Page (Fault s p))) → Faulting z st s p
faulting z st s p ((slot, page), (filled, (active, (still, (out, (supply, rest)))))) = record { slot = slot; page = page; supply = supply }

module _ (z : Sizes) (st : State) (f : Fit z st) (r : Ruled z st) where
  abbrev v : Files
  v = files st

  a_free_record : 0 < st.memory.held.pool.free → (q : ℕ) × (q < z.records) × (v.state q ≡ FREE)
  unfolding free_count
  a_free_record h = let s = count_some z.records (λ q. eqb (v.state q) FREE) (rw r.counts.free at h) in (s.0, s.1, eqb→eq (v.state s.0) FREE s.2)

  fault_takes : (s p : ℕ) → Asked (questions z st (Event.Page (Fault s p))) → v.address (page_of z s p) ≡ 0
      → Takes z st (page_of z s p) (pick z v.address v.state st.memory.held.pool.hand (page_of z s p)) (Pages.fault z st s p)
  unfolding Pages.fault Pages.serve_zeros Pages.take_record counted
  fault_takes s p a e = if_elim (λ (x : State). Takes z st i q (counted z x)) (test (live v i)) _ _ (λ t. let l = sound (live v i) t in absurd (omega (arith, l.1, e)))
      (λ t. if_elim (λ (x : State). Takes z st i q (counted z x)) (test (same (v.address i) 0)) _ _ (λ u. takes) (λ u. absurd (T_not (test (same (v.address i) 0)) u (rw (told (same (v.address i) 0) e) tt))))
    where
      i : ℕ
      i = page_of z s p

      q : ℕ
      q = pick z v.address v.state st.memory.held.pool.hand i

      some_free : (x : ℕ) × (x < z.records) × (v.state x ≡ FREE)
      some_free = elim (faulting z st s p a).supply [ inl n ↦ absurd (n e) | inr n ↦ a_free_record n ]

      below : q < z.records
      below = pick_below z v.address v.state st.memory.held.pool.hand i f.sizes.records

      takes : Takes z st i q (counted z (Pages.serve_zeros z (Pages.take_record z st i q) i (Pages.fault_frame st)))
      takes = record {
        was_free = pick_free z v.address v.state st.memory.held.pool.hand i some_free.0 some_free.1 r.counts.hand some_free.2;
        near = λ n m. pick_nearest z v.address v.state st.memory.held.pool.hand i n m some_free.0 some_free.1 some_free.2;
        by_hand_holds = λ m. pick_by_hand z v.address v.state st.memory.held.pool.hand i m;
        address = get_or-set_same st.memory.held.addresses i (suc q) 0 (rw f.memory.addresses (page_below z f.sizes.pages s p (faulting z st s p a).slot (faulting z st s p a).page));
        nulled = get_or-set_same st.memory.held.states q NULLED 0 (rw f.memory.states below);
        owner = get_or-set_same st.memory.held.owners q (slot_of z i) 0 (rw f.memory.owners below);
        hand = refl;
      }

-- Over every state: a fault that is carried out, of a page without an address.
pub takes_nearest : (z : Sizes) (st : State) (s p : ℕ) → (step z st (Event.Page (Fault s p))).answer.refusal ≡ 0 → (files st).address (page_of z s p) ≡ 0
    → (q : ℕ) × Takes z st (page_of z s p) q (step z st (Event.Page (Fault s p))).left
unfolding step whole supplied carried
takes_nearest z st s p = go (answer z st (Event.Page (Fault s p))) refl
  where
    go : (n : ℕ) → answer z st (Event.Page (Fault s p)) ≡ n → (let o = outcome n (result z st (Event.Page (Fault s p))) st (whole z st (Event.Page (Fault s p))) in
        o.answer.refusal ≡ 0 → (files st).address (page_of z s p) ≡ 0 → (q : ℕ) × Takes z st (page_of z s p) q o.left)
    go zero h u e = let a = asked_all z st (Event.Page (Fault s p)) h in (
      _,
      (let t = fault_takes z st (fit z st a.0) (ruled z st a.1.0) s p a.1.1 e in
          record { was_free = t.was_free; near = t.near; by_hand_holds = t.by_hand_holds; address = t.address; nulled = t.nulled; owner = t.owner; hand = t.hand }),
    )
    go (suc n) h u e = absurd (omega (arith, u))
