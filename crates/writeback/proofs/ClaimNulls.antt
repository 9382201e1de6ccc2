-- Claim: what each of the code's ways out tells of the record made nulled.
use mathlib.Core.Path.{◌≡◌, refl, ap, sym, ◌∙◌}
use mathlib.Core.Bool.{Bool, true, false, not}
use mathlib.Core.List.{List}
use Prim.Native.Nat.{ℕ, suc, ◌+◌, ◌*◌, pred}
use native.Mathlib.Omega.{arith}
use lib.Dec.{eqb}
use lib.ListN.{take}
use Rattle.tables.specs.Base.{at, if, all}
use Rattle.tables.specs.Queue.{first}
use Rattle.tables.specs.QueueEntries.{size_zero}
use Rattle.tables.specs.Questions.{first_no}
use Rattle.model.specs.declared.sizes.Sizes.{Sizes}
use Rattle.model.specs.declared.frame.Frame.{Frame}
use Rattle.model.specs.declared.event.Answer.{Answer}
use Rattle.model.specs.State.{State, frame_at}
use Rattle.model.specs.Questions.{questions}
use Rattle.model.specs.Writeback.{looking, record_in}
use Rattle.model.specs.Laws.Own.{own, first_no_holds}
use Rattle.model.specs.Laws.Nulled.{claim_nulls, nulled_by}
use Rattle.writeback.specs.declared.claim.ClaimDone.{ClaimDone}
use Rattle.writeback.specs.Claim.{LooksEnded, used_left}
use Rattle.writeback.specs.Needs.{Queues, Claimable}
use Rattle.writeback.specs.Seen.{claim, seen_claim}
use Rattle.writeback.proofs.ClaimWork.{Said, says, taken_is, same_modified, held, record_is, begins}

-- what the contract says, of what is handed back and of the tables left
abbrev pub Told : Sizes → State → List Frame → ClaimDone → List ℕ → List ℕ → List ℕ → List ℕ → Type 0
Told z st fs done fq rl ss us =
    let o = own z st claim in
    record {
      nulled : done.nulled ≡ nulled_by z st claim;
      answer : done.answer ≡ o.answer;
      frames : fs ≡ o.left.memory.core.frames;
      free_queue : fq ≡ o.left.memory.core.free_queue;
      removal_list : rl ≡ o.left.memory.core.removal_list;
      states : ss ≡ o.left.memory.held.states;
      used : us ≡ used_left z st;
    }

pub told : (z : Sizes) (st : State) {fs : List Frame} {n : ℕ} {a : Answer} {fq rl ss us : List ℕ} → n ≡ nulled_by z st claim → Said z st fs a fq rl ss us
    → {done : ClaimDone} → done ≡ record { nulled = n; answer = a } → Told z st fs done fq rl ss us
told z st e s d = record {
  nulled = ap (λ (x : ClaimDone). x.nulled) d ∙ e;
  answer = ap (λ (x : ClaimDone). x.answer) d ∙ s.answer;
  frames = s.frames;
  free_queue = s.free_queue;
  removal_list = s.removal_list;
  states = s.states;
  used = s.used;
}

module _ (z : Sizes) (fs : List Frame) (ac ls ps ws fq rl ads ss us : List ℕ) where
  abbrev st : State
  st = seen_claim (take z.frames fs) ac ls ps ws fq rl ads ss us

  pub refused_nulls : {e : ℕ} → e ≡ at rl 0 → e ≡ 0 → 0 ≡ nulled_by z st claim
  unfolding nulled_by claim_nulls
  refused_nulls a b = let no : first_no (questions z st claim) ≡ 21 = first_no_holds 21 _ _ (λ h. omega (arith, size_zero rl (sym a ∙ b))) in rw no refl

  module _ {e : ℕ} (a : e ≡ at rl 0) (d : ¬ (e ≡ 0)) (ready : Queues z.frames fq rl × Claimable z (take z.frames fs) ac ls ps ws fq rl ads ss us) {kept : List Frame} {looks f : ℕ} {list : List ℕ} {g : Frame}
      (t : LooksEnded fs rl kept looks list) (here : f ≡ first list) (seen : g ≡ frame_at kept f)
      {b : Bool} (w : b ≡ if (eqb g.modified 1) (not (all z.words (λ k. eqb (at ws (f * z.words + k)) 0))) false) where
    yes : first_no (questions z st claim) ≡ 0
    yes = says z fs ac ls ps ws fq rl ads ss us a d

    pub begun_nulls : b ≡ true → 0 ≡ nulled_by z st claim
    unfolding nulled_by claim_nulls
    begun_nulls v = rw (yes, begins z fs ac ls ps ws fq rl ads ss us a d ready t here seen w ∙ v) refl

    -- the page's entry names the record
    its_record : at ads (pred g.page) ≡ suc (record_in z st (looking z st).taken)
    its_record = let h = held z fs ac ls ps ws fq rl ads ss us a d ready t here seen in
        h.holds ∙ ap suc (sym (record_is z fs ac ls ps ws fq rl ads ss us a d ready t here seen refl ∙ ap pred h.holds))

    mod_is : (frame_at (take z.frames fs) (looking z st).taken).modified ≡ g.modified
    mod_is = rw (taken_is z fs ac ls ps ws fq rl ads ss us a d ready t here seen) (same_modified z fs ac ls ps ws fq rl ads ss us a d ready t here seen)

    pub freed_nulls : b ≡ false → {n : ℕ} → n ≡ if (eqb g.modified 1) (at ads (pred g.page)) 0 → n ≡ nulled_by z st claim
    unfolding nulled_by claim_nulls
    freed_nulls v e = rw (yes, begins z fs ac ls ps ws fq rl ads ss us a d ready t here seen w ∙ v, mod_is) (e ∙ ap (λ (x : ℕ). if (eqb g.modified 1) x 0) its_record)
