-- A list of requests in one call: what it leaves is what its events leave one after the other, so two such calls are compared act by act.
use mathlib.Core.Path.{◌≡◌, subst}
use mathlib.Core.List.{List, [], ◌∷◌, ◌++◌}
use Prim.Native.Nat.{ℕ}
use lib.Dec.{T}
use lib.ListN.{length}
use Rattle.model.specs.declared.sizes.Sizes.{Sizes}
use Rattle.model.specs.ApplyAll.{request_count, apply_all}
use Rattle.model.specs.Acts.{Act, World, act, legal, run}
use Rattle.model.specs.Terms.{acts_to}
use Rattle.model.specs.Laws.ListedActs.{legal_on, legal_acts, call_acts}
use Rattle.isolation.specs.Twins.{Twins}
use Rattle.isolation.specs.Shown.{Shown}
use Rattle.isolation.specs.Isolated.{Seen, AlongTwins}

-- the acts of a call with these requests and room for these answers
abbrev pub calling : List ℕ → List ℕ → List Act
calling requests answers = acts_to requests (request_count (length requests) (length answers))

-- ── lists one after another ──
twins_on : (z : Sizes) (hidden : ℕ) (xs xs' ys ys' : List Act) (w : World) → Twins z hidden w xs xs' → Twins z hidden (run z w xs) ys ys' → Twins z hidden w (xs ++ ys) (xs' ++ ys')
unfolding run
twins_on z hidden [] [] ys ys' w a b = b
twins_on z hidden [] (x ∷ xs) ys ys' w a b = absurd a
twins_on z hidden (x ∷ xs) [] ys ys' w a b = absurd a
twins_on z hidden (x ∷ xs) (x' ∷ xs') ys ys' w a b = (a.0, twins_on z hidden xs xs' ys ys' (act z w x) a.1 b)

-- what is seen of the second list, and after the last act
seen_on : (z : Sizes) (hidden : ℕ) (xs xs' ys ys' : List Act) (w w' : World) → Twins z hidden w xs xs' → Seen z hidden w w' (xs ++ ys) (xs' ++ ys') → Seen z hidden (run z w xs) (run z w' xs') ys ys'
unfolding run
seen_on z hidden [] [] ys ys' w w' a s = s
seen_on z hidden [] (x ∷ xs) ys ys' w w' a s = absurd a
seen_on z hidden (x ∷ xs) [] ys ys' w w' a s = absurd a
seen_on z hidden (x ∷ xs) (x' ∷ xs') ys ys' w w' a s = seen_on z hidden xs xs' ys ys' (act z w x) (act z w' x') a.1 s.1.1

seen_last : (z : Sizes) (hidden : ℕ) (xs xs' : List Act) (w w' : World) → Seen z hidden w w' xs xs' → Shown z hidden (run z w xs) (run z w' xs')
unfolding run
seen_last z hidden [] [] w w' s = s
seen_last z hidden [] (x ∷ xs) w w' s = absurd s
seen_last z hidden (x ∷ xs) [] w w' s = absurd s
seen_last z hidden (x ∷ xs) (x' ∷ xs') w w' s = seen_last z hidden xs xs' (act z w x) (act z w' x') s.1.1

-- ── the calls ──
-- after any two legal lists that are twins and leave the keepers restarted, two calls whose events are twins
pub isolated_call : (z : Sizes) (hidden : ℕ) (w₀ w₀' : World) → AlongTwins z hidden w₀ w₀' → (acts acts' : List Act) (requests requests' answers answers' : List ℕ) → T (legal z w₀ acts) → T (legal z w₀' acts') → Twins z hidden w₀ acts acts'
    → (let w = run z w₀ acts in let w' = run z w₀' acts' in T w.up → Twins z hidden w (calling requests answers) (calling requests' answers')
    → ((run z w (calling requests answers)).state ≡ (apply_all z requests answers w.state).left) × ((run z w' (calling requests' answers')).state ≡ (apply_all z requests' answers' w'.state).left)
    × Seen z hidden w w' (calling requests answers) (calling requests' answers'))
isolated_call z hidden w₀ w₀' all acts acts' requests requests' answers answers' t t' h up k =
    let xs = calling requests answers in let xs' = calling requests' answers' in
    let w = run z w₀ acts in let w' = run z w₀' acts' in
    let up' : T w'.up = subst T (seen_last z hidden acts acts' w₀ w₀' (all acts acts' t t' h)).up up in (
      call_acts z w requests answers,
      call_acts z w' requests' answers',
      seen_on z hidden acts acts' xs xs' w₀ w₀' h (all (acts ++ xs) (acts' ++ xs') (legal_on z w₀ acts xs t (legal_acts z w requests (request_count (length requests) (length answers)) up))
          (legal_on z w₀' acts' xs' t' (legal_acts z w' requests' (request_count (length requests') (length answers')) up')) (twins_on z hidden acts acts' xs xs' w₀ h k)),
    )
