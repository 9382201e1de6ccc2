-- What a read and a page look hand back on the two boards: the pages' texts, which are alike.
use mathlib.Core.Path.{◌≡◌, refl, ap, sym, ◌∙◌, subst}
use mathlib.Core.List.{List, []}
use Prim.Native.Nat.{ℕ, zero, suc, ◌<◌}
use native.Mathlib.Omega.{arith}
use lib.Dec.{T}
use lib.Seq.{ext_get_or}
use Rattle.tables.specs.Base.{at}
use Rattle.tables.specs.Questions.{Asked, first_no, all_yes}
use Rattle.tables.specs.Rule.{Holds}
use Rattle.model.specs.declared.sizes.Sizes.{Sizes}
use Rattle.model.specs.declared.event.Page.TheVariants.{Read}
use Rattle.model.specs.declared.event.Event.{Event}
use Rattle.model.specs.declared.event.Event.TheVariants as Event
use Rattle.model.specs.State.{State, page_of}
use Rattle.model.specs.Laws.Ruled.{rules}
use Rattle.model.specs.Laws.Index.{slot_of_page, page_below}
use Rattle.model.specs.Questions.{questions, look_questions}
use Rattle.model.specs.Step.{outcome, asked, answer, whole, result, step, look}
use Rattle.model.specs.Acts.{World}
use Rattle.invariant.proofs.Kept.{asked_all}
use Rattle.crash.proofs.Says.{says_from_pack}
use Rattle.isolation.specs.Words.{like}
use Rattle.isolation.proofs.Reworded.{is_reworded}
use Rattle.isolation.proofs.Told.{same_like}
use Rattle.isolation.proofs.Alike.{Alike, filled_design}
use Rattle.isolation.proofs.Events.{own_questions, refused, both_paired, refusals_same}

-- a refused event has result 0, and one that is not refused has its questions' rules
pub no_result : (z : Sizes) (x : State) (e : Event) (n : ℕ) → (step z x e).answer.refusal ≡ suc n → (step z x e).answer.result ≡ 0
unfolding step
no_result z x e n = go (answer z x e)
  where
    go : (m : ℕ) → (outcome m (result z x e) x (whole z x e)).answer.refusal ≡ suc n → (outcome m (result z x e) x (whole z x e)).answer.result ≡ 0
    go zero h = absurd (omega (arith, h))
    go (suc m) h = refl

pub no_part : (z : Sizes) (x : State) (s p n : ℕ) → (look z x s p).answer.refusal ≡ suc n → (look z x s p).left ≡ []
unfolding look
no_part z x s p n = go (first_no (asked z x (look_questions z x s p))) _
  where
    go : (m : ℕ) (part : List ℕ) → (outcome m 0 [] part).answer.refusal ≡ suc n → (outcome m 0 [] part).left ≡ []
    go zero part h = absurd (omega (arith, h))
    go (suc m) part h = refl

pub zero_result : {A : Type 0} (n : ℕ) (old new : A) → (outcome n 0 old new).answer.result ≡ 0
zero_result zero old new = refl
zero_result (suc n) old new = refl

pub look_asked : (z : Sizes) (x : State) (s p : ℕ) → (look z x s p).answer.refusal ≡ 0 → Asked (look_questions z x s p)
unfolding look
look_asked z x s p h = (all_yes 0 (asked z x (look_questions z x s p)) tt (sym (refused (first_no (asked z x (look_questions z x s p))) 0 [] _) ∙ h)).1.1

pub read_asked : (z : Sizes) (x : State) (s p k : ℕ) → (step z x (Event.Page (Read s p k))).answer.refusal ≡ 0 → Asked (questions z x (Event.Page (Read s p k)))
unfolding step
read_asked z x s p k h = let e : Event = Event.Page (Read s p k) in (asked_all z x e (sym (refused (answer z x e) (result z x e) x (whole z x e)) ∙ h)).1.1

module _ (z : Sizes) (hidden : ℕ) (w w' : World) (a : Alike z hidden w w') (u : T w.up) where
  abbrev st : State
  st = w.state

  u' : T w'.up
  u' = rw a.up at u

  -- the texts of a page of a filled slot
  text_like : (s p k : ℕ) → s < z.slots → p < z.pages → k < z.words → ¬ (at st.disk.numbers s ≡ 0) → Holds (like hidden (w.ledger.design s) (w.ledger.pages.text (page_of z s p) k) (w'.ledger.pages.text (page_of z s p) k))
  text_like s p k hs hp hk n =
      let e = slot_of_page z a.good.fit.sizes.pages s p hp in
      subst (λ (t : ℕ). Holds (like hidden (w.ledger.design t) (w.ledger.pages.text (page_of z s p) k) (w'.ledger.pages.text (page_of z s p) k))) e (a.ledger.text (page_of z s p) (page_below z a.good.fit.sizes.pages s p hs hp) (rw e (filled_design z hidden w w' a s hs n)) k hk)

  -- ── a read ──
  pub read_like : (s p k : ℕ) → Holds (like hidden (w.ledger.design s) (step z st (Event.Page (Read s p k))).answer.result (step z w'.state (Event.Page (Read s p k))).answer.result)
  read_like s p k = go (step z st e).answer.refusal refl
    where
      e : Event
      e = Event.Page (Read s p k)

      go : (n : ℕ) → (step z st e).answer.refusal ≡ n → Holds (like hidden (w.ledger.design s) (step z st e).answer.result (step z w'.state e).answer.result)
      go zero h =
          let h' : (step z w'.state e).answer.refusal ≡ 0 = sym (refusals_same z hidden w w' a u e e (both_paired z hidden w w' a u e)) ∙ h in
          let q = read_asked z st s p k h in
          rw ((says_from_pack z w a.good).reads s p k u h, (says_from_pack z w' a.good').reads s p k u' h') (text_like s p k q.0.0 q.0.1.0 q.0.1.1 q.1.0)
      go (suc n) h =
          let h' : (step z w'.state e).answer.refusal ≡ suc n = sym (refusals_same z hidden w w' a u e e (both_paired z hidden w w' a u e)) ∙ h in
          rw (no_result z st e n h, no_result z w'.state e n h') (same_like hidden (w.ledger.design s) 0)

  -- ── a page look ──
  look_same : (s p : ℕ) → first_no (asked z w'.state (look_questions z w'.state s p)) ≡ first_no (asked z st (look_questions z st s p))
  look_same s p =
      own_questions z w' (look_questions z w'.state s p) u' a.good' ∙ ap (λ (x : State). first_no (look_questions z x s p)) (is_reworded st w'.state (a.tables u)) ∙ sym (own_questions z w (look_questions z st s p) u a.good)

  pub look_refusals : (s p : ℕ) → (look z st s p).answer.refusal ≡ (look z w'.state s p).answer.refusal
  unfolding look
  look_refusals s p = refused (first_no (asked z st (look_questions z st s p))) _ _ _ ∙ sym (look_same s p) ∙ sym (refused (first_no (asked z w'.state (look_questions z w'.state s p))) _ _ _)

  pub look_results : (x y : World) (s p : ℕ) → (look z x.state s p).answer.result ≡ (look z y.state s p).answer.result
  unfolding look
  look_results x y s p = zero_result (first_no (asked z x.state (look_questions z x.state s p))) _ _ ∙ sym (zero_result (first_no (asked z y.state (look_questions z y.state s p))) _ _)

  -- a look of another design's page
  pub look_parts : (s p : ℕ) → ¬ (w.ledger.design s ≡ hidden) → (look z st s p).left ≡ (look z w'.state s p).left
  look_parts s p n = go (look z st s p).answer.refusal refl
    where
      go : (m : ℕ) → (look z st s p).answer.refusal ≡ m → (look z st s p).left ≡ (look z w'.state s p).left
      go zero h =
          let q = look_asked z st s p h in
          let o = (says_from_pack z w a.good).looks s p u h in
          let o' = (says_from_pack z w' a.good').looks s p u' (sym (look_refusals s p) ∙ h) in
          ext_get_or 0 (look z st s p).left (look z w'.state s p).left (o.0 ∙ sym o'.0)
          (λ k lt. let m : k < z.words = omega (arith, lt, o.0) in o.1 k m ∙ (text_like s p k q.0.0 q.0.1 m q.1.0).1 n ∙ sym (o'.1 k m))
      go (suc m) h = no_part z st s p m h ∙ sym (no_part z w'.state s p m (sym (look_refusals s p) ∙ h))
