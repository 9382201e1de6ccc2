-- A list of requests in turn: what the tables hold is what the first k leave, so they pass questions 1 and 2 and are as long as they were.
use mathlib.Core.Path.{◌≡◌, refl, ap, sym, subst, ◌∙◌}
use mathlib.Core.List.{List}
use Prim.Native.Nat.{ℕ, suc, ◌+◌, ◌≤◌}
use native.Mathlib.Omega.{arith}
use lib.ListN.{length}
use Rattle.model.specs.declared.sizes.Sizes.{Sizes}
use Rattle.model.specs.declared.event.Answer.{Answer}
use Rattle.model.specs.State.{State}
use Rattle.model.specs.ApplyAll.{Listed, no_answer, turned, after, after_length}
use Rattle.invariant.proofs.AfterKept.{after_kept}
use Rattle.events.specs.Kept.{KeptWhole, kept_whole}
use Rattle.batch.proofs.Turning.{good}

-- the last answer, the answers and the tables are what the first k requests leave
pub record Turned (z : Sizes) (requests answers : List ℕ) (st : State) (k : ℕ) (last : Answer) (now : List ℕ) (left : State) : Type 0 where
  pub is : ◌≡◌ {A = Listed} (record { answer = last; answers = now; left = left }) (after z requests answers st k)

module _ {z : Sizes} {requests answers : List ℕ} {st : State} where
  pub turned_none : Turned z requests answers st 0 no_answer answers st
  unfolding after
  turned_none = record { is = refl }

  pub turned_next : {k : ℕ} {last last' : Answer} {now now' : List ℕ} {left left' : State} → Turned z requests answers st k last now left
      → ◌≡◌ {A = Listed} (record { answer = last'; answers = now'; left = left' }) (turned z requests k (record { answer = last; answers = now; left = left }))
      → Turned z requests answers st (k + 1) last' now' left'
  unfolding after
  turned_next {k} t e = let s : suc k ≡ k + 1 = omega arith in record { is = e ∙ ap (turned z requests k) t.is ∙ ap (after z requests answers st) s }

  pub turned_end : {k n : ℕ} {last : Answer} {now : List ℕ} {left : State} → k ≤ n → n ≤ k → Turned z requests answers st k last now left → Turned z requests answers st n last now left
  turned_end {k} {n} a b t = let s : k ≡ n = omega (arith, a, b) in record { is = t.is ∙ ap (after z requests answers st) s }

  -- as many answers as there were
  pub turned_long : {k : ℕ} {last : Answer} {now : List ℕ} {left : State} → Turned z requests answers st k last now left → length now ≡ length answers
  turned_long {k} t = ap (λ (d : Listed). length d.answers) t.is ∙ after_length z requests answers st k

  -- the tables pass questions 1 and 2
  pub turned_kept : {k : ℕ} {last : Answer} {now : List ℕ} {left : State} → KeptWhole z st → Turned z requests answers st k last now left → KeptWhole z left
  turned_kept {k} g t =
      let h = after_kept z requests answers st (good z st g) k in
      subst (KeptWhole z) (sym (ap (λ (d : Listed). d.left) t.is)) (kept_whole z (after z requests answers st k).left h.0 h.1)
