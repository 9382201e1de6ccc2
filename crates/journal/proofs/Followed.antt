-- What the step functions ask, one after another, is what the protocol does: nothing else, and in that order.
use Rattle.std.proofs.Common.{◌≡◌, ℕ, zero, suc, ◌+◌, ◌-◌, ◌<◌, ◌≤◌, Bool, List, [], ◌∷◌, ◌++◌, length, Some, None, get_or, sym, refl, ap, ◌∙◌, ap₂, le_of_suc-le-suc, not-suc-le-zero, arith, le-ltb, lt-ltb}
use native.Mathlib.Decide.{dec_lt}
use Rattle.tables.specs.Base.{if, at}
use Rattle.tables.specs.Laws.{at_tab0, length_tab}
use Rattle.journal.specs.declared.Ask.TheVariants.{Done}
use Rattle.journal.specs.Device.{Sectors, put, Op, write, sync}
use Rattle.journal.specs.Layout.{Store, area_at, home_at, named}
use Rattle.journal.specs.Journal.{journal, planned, syncs, to_area, to_home, commit, read_back}
use Rattle.journal.specs.Steps.{past, asked, entry, meant, recovers, copying}
use Rattle.journal.specs.Laws.Asks.{ask_content, ask_past, past_home, past_done}
use Rattle.journal.proofs.Places.{put_there, home_area}

-- ── a store: the list of its operations, by number ──
in_area : (most : ℕ) (area : ℕ → ℕ) (s : Store) (rest : List Op) (i k : ℕ) → i < length s → get_or (to_area most area k s ++ rest) i sync ≡ write (record { place = area (k + i); words = (entry s i).words })
unfolding to_area
in_area most area [] rest i k h = absurd (not-suc-le-zero h)
in_area most area (w ∷ s) rest zero k h = let e : k ≡ k + zero = omega arith in ap (λ (j : ℕ). write (record { place = area j; words = w.words })) e
in_area most area (w ∷ s) rest (suc i) k h = let e : suc k + i ≡ k + suc i = omega arith in in_area most area s rest i (suc k) (le_of_suc-le-suc h) ∙ ap (λ (j : ℕ). write (record { place = area j; words = (entry s i).words })) e

past_area : (most : ℕ) (area : ℕ → ℕ) (s : Store) (rest : List Op) (i k : ℕ) → length s ≤ i → get_or (to_area most area k s ++ rest) i sync ≡ get_or rest (i - length s) sync
unfolding to_area
past_area most area [] rest i k h = let e : i ≡ i - 0 = omega arith in ap (λ (j : ℕ). get_or rest j sync) e
past_area most area (w ∷ s) rest zero k h = absurd (not-suc-le-zero h)
past_area most area (w ∷ s) rest (suc i) k h = let e : i - length s ≡ suc i - suc (length s) = omega arith in past_area most area s rest i (suc k) (le_of_suc-le-suc h) ∙ ap (λ (j : ℕ). get_or rest j sync) e

at_home : (most : ℕ) (s : Store) (rest : List Op) (i : ℕ) → i < length s → get_or (to_home most s ++ rest) i sync ≡ write (record { place = home_at most (entry s i).place; words = (entry s i).words })
unfolding to_home
at_home most [] rest i h = absurd (not-suc-le-zero h)
at_home most (w ∷ s) rest zero h = refl
at_home most (w ∷ s) rest (suc i) h = at_home most s rest i (le_of_suc-le-suc h)

length_area : (most : ℕ) (area : ℕ → ℕ) (s : Store) (rest : List Op) (k : ℕ) → length (to_area most area k s ++ rest) ≡ length s + length rest
unfolding to_area
length_area most area [] rest k = omega arith
length_area most area (w ∷ s) rest k = omega (arith, length_area most area s rest (suc k))

length_home : (most : ℕ) (s : Store) (rest : List Op) → length (to_home most s ++ rest) ≡ length s + length rest
unfolding to_home
length_home most [] rest = omega arith
length_home most (w ∷ s) rest = omega (arith, length_home most s rest)

module _ (most room : ℕ) (n : ℕ) (s : Store) where
  abbrev plan : List Op
  plan = (journal most room 0).plan n s

  -- a store of c contents: 2 c + 1 writes and two syncs
  pub plan_length : length plan ≡ length s + (3 + length s)
  unfolding journal planned syncs
  plan_length = length_area most (area_at most n) s _ 0 ∙ omega (arith, length_home most s [])

  -- each ask is the plan's operation
  pub followed : (at : ℕ) → at < length plan → get_or plan at sync ≡ meant most n s (asked (length s) at)
  unfolding journal planned syncs meant past
  followed at h = elim (dec_lt at (length s)) [
    | yes l ↦ in_area most (area_at most n) s _ at 0 l ∙ (let e : 0 + at ≡ at = omega arith in ap (λ (j : ℕ). write (record { place = area_at most n j; words = (entry s at).words })) e) ∙ ap (meant most n s) (ask_content (length s) at l)
    | no l ↦ past_area most (area_at most n) s _ at 0 (omega arith) ∙ go (at - length s) refl ∙ ap (meant most n s) (sym (ask_past (length s) at (at - length s) (omega arith) refl))
  ]
    where
      go : (k : ℕ) → at - length s ≡ k → get_or (sync ∷ commit most n s ∷ sync ∷ (to_home most s ++ [])) k sync ≡ meant most n s (past (length s) k)
      go zero e = refl
      go (suc zero) e = refl
      go (suc (suc zero)) e = refl
      go (suc (suc (suc k))) e = let l : k < length s = omega (arith, h, e, plan_length) in at_home most s [] k l ∙ ap (meant most n s) (past_home (length s) (suc (suc (suc k))) k refl l)

  -- and then it is done
  pub followed_done : (at : ℕ) → length plan ≤ at → asked (length s) at ≡ Done
  followed_done at h = ask_past (length s) at (at - length s) (omega (arith, plan_length)) refl ∙ sym (past_done (length s) (at - length s) (at - length s - 3) (omega (arith, plan_length)) (omega (arith, plan_length)))

-- ── a recovery ──
read_length : (most : ℕ) (f : Sectors) (area : ℕ → ℕ) (k : ℕ) (xs : List ℕ) → length (to_home most (read_back f area k xs)) ≡ length xs
unfolding to_home read_back
read_length most f area k [] = refl
read_length most f area k (x ∷ xs) = ap suc (read_length most f area (suc k) xs)

copied : (most : ℕ) (f : Sectors) (area : ℕ → ℕ) (k : ℕ) (xs : List ℕ) (i : ℕ) → i < length xs → get_or (to_home most (read_back f area k xs)) i sync ≡ write (record { place = home_at most (at xs i); words = f (area (k + i)) })
unfolding to_home read_back
copied most f area k [] i h = absurd (not-suc-le-zero h)
copied most f area k (x ∷ xs) zero h = let e : k ≡ k + zero = omega arith in ap (λ (j : ℕ). write (record { place = home_at most x; words = f (area j) })) e
copied most f area k (x ∷ xs) (suc i) h = let e : suc k + i ≡ k + suc i = omega arith in copied most f area (suc k) xs i (le_of_suc-le-suc h) ∙ ap (λ (j : ℕ). write (record { place = home_at most (at xs i); words = f (area j) })) e

module _ (most : ℕ) (f : Sectors) (c : List ℕ) where
  -- the way home of the store that c names, as the look reads it back
  abbrev way : List Op
  way = to_home most (read_back f (area_at most (at c 1)) 0 (named c))

  pub way_length : length way ≡ at c 2
  unfolding named
  way_length = read_length most f (area_at most (at c 1)) 0 (named c) ∙ length_tab (at c 2) (λ i. at c (3 + i)) 0

  -- each ask is its operation
  pub recovery_followed : (i : ℕ) → i < length way → get_or way i sync ≡ copying most f c (recovers (at c 2) i)
  unfolding recovers copying named
  recovery_followed i h =
      let l : i < at c 2 = omega (arith, h, way_length) in
      let e : 0 + i ≡ i = omega arith in
      let r : at (named c) i ≡ at c (3 + i) = at_tab0 (at c 2) (λ k. at c (3 + k)) i 0 l in
      copied most f (area_at most (at c 1)) 0 (named c) i (omega (arith, l, length_tab (at c 2) (λ k. at c (3 + k)) 0))
      ∙ ap₂ (λ (x j : ℕ). write (record { place = home_at most x; words = f (area_at most (at c 1) j) })) r e
      ∙ ap (copying most f c) (ap (λ (b : Bool). if b (Some i) None) (sym (lt-ltb i (at c 2) l)))

  -- and then it is done
  pub recovery_done : (i : ℕ) → length way ≤ i → recovers (at c 2) i ≡ None
  unfolding recovers
  recovery_done i h = rw (le-ltb i (at c 2) (omega (arith, h, way_length)))

-- What a copy reads is what the look would have read: no write home touches an area.
pub copy_late : (most n i x : ℕ) (c : List ℕ) (f : Sectors) → i < most → put (record { place = home_at most x; words = c }) f (area_at most n i) ≡ f (area_at most n i)
copy_late most n i x c f h = put_there (home_at most x) (area_at most n i) c f (λ e. home_area most x n i h (sym e))
