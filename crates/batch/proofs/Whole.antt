-- The whole list: refused by question 1 or 2, or its requests in turn over the first F of the packed frames.
use mathlib.Core.Path.{◌≡◌, refl, ap, sym, subst, ◌∙◌}
use mathlib.Core.List.{List, [], ◌∷◌}
use Prim.Native.Nat.{ℕ}
use lib.ListN.{length, take}
use Rattle.model.specs.declared.sizes.Sizes.{Sizes}
use Rattle.model.specs.declared.frame.Frame.{Frame}
use Rattle.model.specs.declared.event.Answer.{Answer}
use Rattle.model.specs.State.{Core, State}
use Rattle.model.specs.Setters.{on_core, on_held}
use Rattle.model.specs.declared.frame.Pool.{Pool}
use Rattle.model.specs.declared.request.Request.{Request}
use Rattle.model.specs.Step.{Outcome}
use Rattle.model.specs.Laws.Fit.{fit}
use Rattle.model.specs.Calls.{frames_of, apply}
use Rattle.model.specs.ApplyAll.{Listed, request_count, refusals, last_refusal, after, apply_all, one, refused_all}
use Rattle.leaves.specs.Packed.{unpacked, unpacked_length}
use Rattle.events.specs.Kept.{KeptWhole, kept_whole}
use Rattle.calls.specs.Frames.{all_lent, lent_first, lent_of}
use Rattle.calls.specs.Common.{common, common_gives, unfit_apply}
use Rattle.batch.proofs.Turning.{set_pool}

abbrev set_frames : List Frame → Core → Core
set_frames fs c = record { frames = fs; words = c.words; free_queue = c.free_queue; removal_list = c.removal_list }

module _ (z : Sizes) (requests answers : List ℕ) (n : ℕ) where
  -- refused
  pub all_refused : (st : State) (m : ℕ) {last : Answer} {now : List ℕ} → m ≡ common z st → ¬ (m ≡ 0) → (last ≡ last_refusal m n) × (now ≡ refusals m answers n)
      → ◌≡◌ {A = Listed} (record { answer = last; answers = now; left = st }) (after z requests answers st n)
  all_refused st m e d a = (λ x. record { answer = a.0 x; answers = a.1 x; left = st }) ∙ refused_all z requests answers st m (λ r. unfit_apply z st r m e d) n

  -- a state by its frames: those that are lent, and others that are the same
  module _ (st : List Frame → State) {lent first : List Frame} (o : Listed) {fs : List Frame} (e : lent ≡ first) (h : o ≡ after z requests answers (st first) n) (f : fs ≡ o.left.memory.core.frames) where
    pub all_turned : ◌≡◌ {A = Listed} (record { answer = o.answer; answers = o.answers; left = on_core (set_frames fs) o.left }) (after z requests answers (st lent) n)
    all_turned = (λ x. record { answer = o.answer; answers = o.answers; left = on_core (set_frames (f x)) o.left }) ∙ h ∙ ap (λ (l : List Frame). after z requests answers (st l) n) (sym e)

    -- n of them have room for their answers
    pub all_applied : n ≡ request_count (length requests) (length answers) → ◌≡◌ {A = Listed} (record { answer = o.answer; answers = o.answers; left = on_core (set_frames fs) o.left }) (apply_all z requests answers (st lent))
    unfolding apply_all
    all_applied count = all_turned ∙ ap (after z requests answers (st lent)) count

-- the frames packed are as many
pub packed_long : (fs : List Frame) (ws : List ℕ) → length fs ≡ 64 → unpacked ws ≡ fs → length ws ≡ 64
packed_long fs ws long packs = sym (unpacked_length ws) ∙ ap length packs ∙ long

-- a state by its frames, and the frames packed: questions 1 and 2 said yes of these
module _ (z : Sizes) (st : List Frame → State) (of : (l : List Frame) → (st l).memory.core.frames ≡ l) (ws : List ℕ) (lent : ℕ) (long : length ws ≡ 64) (yes : common z (st (frames_of (unpacked ws) lent)) ≡ 0) where
  abbrev given : State
  given = st (frames_of (unpacked ws) lent)

  -- F frames are lent, the first F of the packed ones, and so many of those that come back
  pub packed_first : frames_of (unpacked ws) lent ≡ take z.frames (unpacked ws)
  packed_first = lent_first z st of (unpacked ws) lent (common_gives z given yes).0 (unpacked_length ws ∙ long)

  pub packed_kept : KeptWhole z (st (take z.frames (unpacked ws)))
  packed_kept = let g = common_gives z given yes in subst (λ (l : List Frame). KeptWhole z (st l)) packed_first (kept_whole z given g.0 g.1)

  pub packed_back : (ns : List ℕ) → length ns ≡ length ws → frames_of (unpacked ns) lent ≡ take z.frames (unpacked ns)
  packed_back ns l =
      let g = (common_gives z given yes).0 in
      lent_of (unpacked ns) lent z.frames (all_lent z st of (unpacked ws) lent g) (fit z given g).sizes.frames_most (unpacked_length ns ∙ l ∙ long)

-- the numbers of a request
abbrev pub numbers_of : Request → List ℕ
numbers_of r = r.kind ∷ r.first ∷ r.second ∷ r.third ∷ r.fourth ∷ []

-- a list of one request, over the frames that are lent, with the pool put together from what was taken and deposited
pub one_applied : (z : Sizes) (request : Request) (st : List Frame → State) {lent first : List Frame} (requests : List ℕ) (o : Listed) {fs : List Frame} {p : Pool} → requests ≡ numbers_of request → lent ≡ first
    → o ≡ after z requests (0 ∷ 0 ∷ []) (st first) 1 → fs ≡ o.left.memory.core.frames → p ≡ o.left.memory.held.pool
    → ◌≡◌ {A = Outcome State} (record { answer = o.answer; left = on_held (set_pool p) (on_core (set_frames fs) o.left) }) (apply z (st lent) request)
one_applied z request st {lent} {first} requests o {fs} e l h f q =
    (λ x. record { answer = o.answer; left = on_held (set_pool (q x)) (on_core (set_frames fs) o.left) })
    ∙ ap (λ (d : Listed). record { answer = d.answer; left = d.left })
    (all_applied z (numbers_of request) (0 ∷ 0 ∷ []) 1 st o l (h ∙ ap (λ (ns : List ℕ). after z ns (0 ∷ 0 ∷ []) (st first) 1) e) f refl ∙ one z request 0 0 (st lent))
