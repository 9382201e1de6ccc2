-- A claim's looks: one entry is taken, the others stay in the list, only used and initial go off; and how many looks there are.
use mathlib.Core.Path.{◌≡◌, refl, sym, ◌∙◌}
use mathlib.Core.Bool.{Bool, true, false}
use mathlib.Core.List.{List, [], ◌∷◌, ◌++◌}
use mathlib.Core.Logic.{inl, inr}
use Prim.Native.Nat.{ℕ, zero, suc, ◌+◌, ◌<◌, ◌≤◌}
use native.Mathlib.Omega.{arith}
use lib.Dec.{eqb}
use lib.ListN.{length, length-set, length-append}
use Rattle.tables.specs.Base.{if}
use Rattle.tables.specs.Queue.{members, times, size}
use Rattle.tables.specs.TimesLaws.{times_cons, times_rotate}
use Rattle.tables.specs.QueueLaws.{size_members}
use Rattle.model.specs.declared.sizes.Sizes.{Sizes}
use Rattle.model.specs.declared.frame.Frame.{Frame}
use Rattle.model.specs.State.{State, frame_at}
use Rattle.model.specs.Writeback.{Looked, look, looking, warm, cooled}
use Rattle.model.specs.Laws.LookLaws.{cool, cool_at, warms, warms_le, fewer}
use Rattle.invariant.proofs.Seats.{Cooler, cooler_same}

cooler_trans : {a b c : Frame} → Cooler a b → Cooler b c → Cooler a c
cooler_trans p q = record { page = p.page ∙ q.page; modified = p.modified ∙ q.modified; wired = p.wired ∙ q.wired; transfer = p.transfer ∙ q.transfer; used = omega (arith, p.used, q.used); initial = omega (arith, p.initial, q.initial) }

cooled_cooler : (g : Frame) → Cooler (cooled g) g
cooled_cooler g = record { page = refl; modified = refl; wired = refl; transfer = refl; used = omega arith; initial = omega arith }

cool_cooler : (fs : List Frame) (f x : ℕ) → Cooler (frame_at (cool fs f) x) (frame_at fs x)
cool_cooler fs f x = elim (cool_at fs f x) [ inl e ↦ rw e (cooled_cooler (frame_at fs x)) | inr e ↦ rw e.1 (cooler_same (frame_at fs x)) ]

-- what at most k looks after n make of frames and list
pub record Took (fs : List Frame) (xs : List ℕ) (k n : ℕ) (l : Looked) : Type 0 where
  pub cooler : (x : ℕ) → Cooler (frame_at l.frames x) (frame_at fs x)
  pub left : (x : ℕ) → times xs x ≡ if (eqb x l.taken) 1 0 + times l.list x
  pub cold : warm (frame_at l.frames l.taken) ≡ false
  pub frames_long : length l.frames ≡ length fs
  pub list_long : length xs ≡ suc (length l.list)
  pub least : n < l.looks
  pub most : l.looks ≤ n + k

look_takes : (k n : ℕ) (fs : List Frame) (xs : List ℕ) → warms fs xs < k → 0 < length xs → Took fs xs k n (look k n fs xs)
unfolding look warms
look_takes zero n fs xs h g = absurd (omega arith)
look_takes (suc k) n fs [] h g = absurd (omega arith)
look_takes (suc k) n fs (f ∷ xs) h g = go (warm (frame_at fs f)) refl (look_takes k (suc n) (cool fs f) (xs ++ f ∷ []))
  where
    long : length (xs ++ f ∷ []) ≡ suc (length xs)
    long = length-append xs (f ∷ []) ∙ omega arith

    go : (b : Bool) → warm (frame_at fs f) ≡ b → (warms (cool fs f) (xs ++ f ∷ []) < k → 0 < length (xs ++ f ∷ []) → Took (cool fs f) (xs ++ f ∷ []) k (suc n) (look k (suc n) (cool fs f) (xs ++ f ∷ [])))
        → Took fs (f ∷ xs) (suc k) n (if (warm (frame_at fs f)) (look k (suc n) (cool fs f) (xs ++ f ∷ [])) (record { looks = suc n; taken = f; frames = fs; list = xs }))
    go true e r = rw e (let t = r (omega (arith, fewer fs f xs, rw e at h)) (omega (arith, long)) in record {
      cooler = λ x. cooler_trans (t.cooler x) (cool_cooler fs f x);
      left = λ x. sym (times_rotate f xs x) ∙ t.left x;
      cold = t.cold;
      frames_long = t.frames_long ∙ length-set fs f (cooled (frame_at fs f));
      list_long = sym long ∙ t.list_long;
      least = omega (arith, t.least);
      most = omega (arith, t.most);
    })
    go false e r = rw e (record { cooler = λ x. cooler_same (frame_at fs x); left = times_cons f xs; cold = e; frames_long = refl; list_long = refl; least = omega arith; most = omega arith })

module _ (z : Sizes) (st : State) (some : 0 < size st.memory.core.removal_list) where
  pub looking_takes : Took st.memory.core.frames (members st.memory.core.removal_list) (suc (length (members st.memory.core.removal_list))) 0 (looking z st)
  unfolding looking
  looking_takes = let xs = members st.memory.core.removal_list in look_takes (suc (length xs)) 0 st.memory.core.frames xs (omega (arith, warms_le st.memory.core.frames xs)) (rw size_members at some)

  -- "The result is the number of looks, at most list length + 1."
  pub looks_bound : (1 ≤ (looking z st).looks) × ((looking z st).looks ≤ size st.memory.core.removal_list + 1)
  looks_bound = (looking_takes.least, omega (arith, looking_takes.most, size_members st.memory.core.removal_list))
