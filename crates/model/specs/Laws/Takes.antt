-- The records that an import takes: each was free, and no two are one.
use Rattle.std.specs.Prelude.{◌≡◌, ◌⊎◌, set}
use Rattle.std.proofs.Math.Path.{refl, ap}
use Rattle.std.proofs.Common.{sym, ◌∙◌}
use mathlib.Core.List.{List}
use Rattle.std.proofs.Math.Logic.{inl, inr}
use Prim.Native.Nat.{ℕ, zero, suc, ◌+◌, ◌<◌, ◌≤◌}
use native.Mathlib.Omega.{arith}
use Rattle.std.proofs.Math.Decide.{ℕ_discrete}
use Rattle.std.proofs.Math.Dec.{eqb, eqb→eq}
use Rattle.std.proofs.Math.ListN.{length, length-set}
use Rattle.tables.specs.Base.{at}
use Rattle.tables.specs.Laws.{last, eq→T}
use Rattle.tables.specs.CountLaws.{count_some, count_less}
use Rattle.tables.specs.Store.{Split}
use Rattle.model.specs.declared.sizes.Sizes.{Sizes}
use Rattle.model.specs.Lines.{FREE, FILED}
use Rattle.model.specs.State.{State, files, free_count}
use Rattle.model.specs.Parts.{picked}
use Rattle.model.specs.Laws.Choice.{hand_below, hand_free}
use Rattle.model.specs.Laws.Nearest.{nearest_is, nearest_below}
use Rattle.model.specs.Laws.Index.{split_set}
use Rattle.model.specs.Import.{taking, taken}

module _ (z : Sizes) (state : ℕ → ℕ) (hand : ℕ) where
  pub picked_below : 0 < z.records → (a : ℕ) → picked z state hand a < z.records
  picked_below h zero = hand_below z state hand h
  picked_below h (suc r) = nearest_below z state r h

  pub picked_free : (r : ℕ) → r < z.records → hand < z.records → state r ≡ FREE → (a : ℕ) → state (picked z state hand a) ≡ FREE
  picked_free r h l e zero = hand_free z state hand r h l e
  picked_free r h l e (suc q) = (nearest_is z state q r h e).free

module _ (z : Sizes) (st : State) (s : ℕ) (some : 0 < z.records) (long : length st.memory.held.states ≡ z.records) (owners_long : length st.memory.held.owners ≡ z.records) (hand : st.memory.held.pool.hand < z.records) where
  abbrev states : ℕ → List ℕ
  states k = (taking z st s k).states

  abbrev nth : ℕ → ℕ
  nth = taken z st s

  pub next_states : (k : ℕ) → states (suc k) ≡ set (states k) (nth k) FILED
  unfolding taking taken
  next_states k = refl

  pub next_owners : (k : ℕ) → (taking z st s (suc k)).owners ≡ set (taking z st s k).owners (nth k) s
  unfolding taking taken
  next_owners k = refl

  pub next_last : (k : ℕ) → (taking z st s (suc k)).last ≡ suc (nth k)
  unfolding taking taken
  next_last k = refl

  pub taken_below : (k : ℕ) → nth k < z.records
  unfolding taken
  taken_below k = picked_below z (at (states k)) st.memory.held.pool.hand some (taking z st s k).last

  pub states_long : (k : ℕ) → length (states k) ≡ z.records
  unfolding taking
  states_long zero = long
  states_long (suc k) = ap length (next_states k) ∙ length-set (states k) (nth k) FILED ∙ states_long k

  pub owners_are_long : (k : ℕ) → length (taking z st s k).owners ≡ z.records
  unfolding taking
  owners_are_long zero = owners_long
  owners_are_long (suc k) = ap length (next_owners k) ∙ length-set (taking z st s k).owners (nth k) s ∙ owners_are_long k

  -- one of the first k taken
  abbrev pub Among : ℕ → ℕ → Type 0
  Among k r = (j : ℕ) × (j < k) × (r ≡ nth j)

  -- each table after k records are taken
  split_next : (x : ℕ) (l m : List ℕ) (k r : ℕ) (old : ℕ) → m ≡ set l (nth k) x → length l ≡ z.records → Split (Among k r) (at l r) x old → Split (Among (suc k) r) (at m r) x old
  split_next x l m k r old e b p = elim (split_set l (nth k) x r (rw b (taken_below k))) [
    | inl y ↦ inl ((k, omega arith, y.0), ap (λ (t : List ℕ). at t r) e ∙ y.1)
    | inr y ↦ elim p [
      | inl w ↦ inl ((w.0.0, omega (arith, w.0.1), w.0.2), ap (λ (t : List ℕ). at t r) e ∙ y.1 ∙ w.1)
      | inr w ↦ inr (λ a. elim (last a.1) [ inl g ↦ w.0 (a.0, g, a.2) | inr g ↦ y.0 (a.2 ∙ ap nth g) ], ap (λ (t : List ℕ). at t r) e ∙ y.1 ∙ w.1)
    ]
  ]

  pub state_after : (k r : ℕ) → Split (Among k r) (at (states k) r) FILED (at st.memory.held.states r)
  unfolding taking
  state_after zero r = inr (λ a. omega (arith, a.1), refl)
  state_after (suc k) r = split_next FILED (states k) (states (suc k)) k r _ (next_states k) (states_long k) (state_after k r)

  pub owner_after : (k r : ℕ) → Split (Among k r) (at (taking z st s k).owners r) s (at st.memory.held.owners r)
  unfolding taking
  owner_after zero r = inr (λ a. omega (arith, a.1), refl)
  owner_after (suc k) r = split_next s (taking z st s k).owners (taking z st s (suc k)).owners k r _ (next_owners k) (owners_are_long k) (owner_after k r)

  -- while free records are left, the next one taken is free
  abbrev frees : ℕ → ℕ
  frees k = free_count z (at (states k))

  free_next : (k : ℕ) → 0 < frees k → at (states k) (nth k) ≡ FREE
  unfolding free_count taken
  free_next k h = let r = count_some z.records (λ r. eqb (at (states k) r) FREE) h in picked_free z (at (states k)) st.memory.held.pool.hand r.0 r.1 hand (eqb→eq (at (states k) r.0) FREE r.2) (taking z st s k).last

  fewer : (k : ℕ) → 0 < frees k → suc (frees (suc k)) ≡ frees k
  unfolding free_count
  fewer k h = count_less z.records (λ r. eqb (at (states k) r) FREE) (λ r. eqb (at (states (suc k)) r) FREE) (nth k) (taken_below k) (eq→T (free_next k h)) (λ t. omega (arith, here, eqb→eq (at (states (suc k)) (nth k)) FREE t))
      (λ i l d. ap (λ (x : ℕ). eqb x FREE) (sym (other i d)))
    where
      other : (i : ℕ) → ¬ (i ≡ nth k) → at (states (suc k)) i ≡ at (states k) i
      other i d = elim (split_set (states k) (nth k) FILED i (rw (states_long k) (taken_below k))) [ inl y ↦ absurd (d y.0) | inr y ↦ ap (λ (t : List ℕ). at t i) (next_states k) ∙ y.1 ]

      here : at (states (suc k)) (nth k) ≡ FILED
      here = ap (λ (t : List ℕ). at t (nth k)) (next_states k) ∙ elim (split_set (states k) (nth k) FILED (nth k) (rw (states_long k) (taken_below k))) [ inl y ↦ y.1 | inr y ↦ absurd (y.0 refl) ]

  -- of as many as there are free records
  module _ (c : ℕ) (enough : c ≤ free_count z (files st).state) where
    pub left : (k : ℕ) → k ≤ c → frees k + k ≡ free_count z (files st).state
    unfolding taking
    left zero h = omega arith
    left (suc k) h = let e = left k (omega (arith, h)) in omega (arith, e, fewer k (omega (arith, e, enough, h)))

    pub was_free : (k : ℕ) → k < c → at (states k) (nth k) ≡ FREE
    was_free k h = free_next k (omega (arith, left k (omega (arith, h)), enough, h))

    -- each was free before the import, and no two are one
    pub taken_free : (k : ℕ) → k < c → at st.memory.held.states (nth k) ≡ FREE
    taken_free k h = elim (state_after k (nth k)) [ inl y ↦ absurd (omega (arith, y.1, was_free k h)) | inr y ↦ sym y.1 ∙ was_free k h ]

    apart : (j k : ℕ) → j < k → k < c → ¬ (nth j ≡ nth k)
    apart j k l h e = elim (state_after k (nth k)) [ inl y ↦ omega (arith, y.1, was_free k h) | inr y ↦ y.0 (j, l, sym e) ]

    pub taken_once : (j k : ℕ) → j < c → k < c → nth j ≡ nth k → j ≡ k
    taken_once j k hj hk e = elim (ℕ_discrete j k) [ yes d ↦ d | no d ↦ elim (less j k d) [ inl l ↦ absurd (apart j k l hk e) | inr l ↦ absurd (apart k j l hj (sym e)) ] ]
      where
        less : (j k : ℕ) → ¬ (j ≡ k) → (j < k) ⊎ (k < j)
        less zero zero d = absurd (d refl)
        less zero (suc k) d = inl (omega arith)
        less (suc j) zero d = inr (omega arith)
        less (suc j) (suc k) d = elim (less j k (λ e. d (ap suc e))) [ inl l ↦ inl (omega (arith, l)) | inr l ↦ inr (omega (arith, l)) ]
