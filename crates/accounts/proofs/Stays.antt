-- A limit that stays above 0, or is account 0's, changes nobody who pays: the used counts stay.
use mathlib.Core.Path.{◌≡◌, refl, ap, ◌∙◌}
use mathlib.Core.Bool.{◌&&◌}
use mathlib.Core.List.{List}
use mathlib.Core.Logic.{inl, inr}
use Prim.Native.Nat.{ℕ, zero, suc, ◌<◌}
use native.Mathlib.Omega.{arith}
use native.Mathlib.Decide.{ℕ_discrete}
use lib.Dec.{eqb, ltb}
use lib.ListN.{length, set}
use lib.Seq.{get_or-set_same, get_or-set_other}
use Rattle.tables.specs.Base.{at, if, count}
use Rattle.tables.specs.TabLaws.{tab_entries}
use Rattle.tables.specs.Rule.{Holds, test, alike}
use Rattle.model.specs.declared.sizes.Sizes.{Sizes}
use Rattle.model.specs.declared.frame.Frame.{Frame}
use Rattle.model.specs.Payer
use Rattle.model.specs.State.{State, files, frames, all_pages, slot_of, charged, payer, used_of}
use Rattle.accounts.specs.Seen.{seen}
use Rattle.accounts.specs.Asks.{stays_payer}
use Rattle.accounts.proofs.Carried.{used_then}

-- ── who pays depends only on which limits are 0, account 0's aside ──
module _ (parent limit limit' : ℕ → ℕ) (agree : (q : ℕ) → ¬ (q ≡ 0) → (0 < limit q → 0 < limit' q) × (0 < limit' q → 0 < limit q)) where
  tests : (q : ℕ) → test (Payer.pays_itself parent limit q) ≡ test (Payer.pays_itself parent limit' q)
  tests q = alike (Payer.pays_itself parent limit q) (Payer.pays_itself parent limit' q) (go limit limit' (λ w. (agree q w).0)) (go limit' limit (λ w. (agree q w).1))
    where
      go : (l l' : ℕ → ℕ) → (¬ (q ≡ 0) → 0 < l q → 0 < l' q) → Holds (Payer.pays_itself parent l q) → Holds (Payer.pays_itself parent l' q)
      go l l' f (inl e) = inl e
      go l l' f (inr (inl h)) = elim (ℕ_discrete q 0) [ yes w ↦ inl w | no w ↦ inr (inl (f w h)) ]
      go l l' f (inr (inr h)) = inr (inr h)

  in_alike : (n q : ℕ) → Payer.payer_in parent limit n q ≡ Payer.payer_in parent limit' n q
  unfolding Payer.payer_in
  in_alike zero q = refl
  in_alike (suc n) q = λ x. if (tests q x) q (in_alike n (parent q) x)

  pub payer_alike : (q : ℕ) → Payer.payer parent limit q ≡ Payer.payer parent limit' q
  unfolding Payer.payer
  payer_alike q = in_alike q q

-- ── one limit stored anew ──
module _ (limits : List ℕ) (a n : ℕ) (h : a < length limits) (s : Holds (stays_payer a (at limits a) n)) where
  agreed : (q : ℕ) → ¬ (q ≡ 0) → (0 < at limits q → 0 < at (set limits a n) q) × (0 < at (set limits a n) q → 0 < at limits q)
  agreed q w = elim (ℕ_discrete q a) [
    | yes e ↦ go e s
    | no e ↦ let o = get_or-set_other limits a q n 0 e in (λ l. omega (arith, o, l), λ l. omega (arith, o, l))
  ]
    where
      go : q ≡ a → Holds (stays_payer a (at limits a) n) → (0 < at limits q → 0 < at (set limits a n) q) × (0 < at (set limits a n) q → 0 < at limits q)
      go e (inl o) = absurd (w (e ∙ o))
      go e (inr (l, m)) = (λ _. omega (arith, ap (λ (i : ℕ). at (set limits a n) i) e, get_or-set_same limits a n 0 h, m), λ _. omega (arith, ap (λ (i : ℕ). at limits i) e, l))

  module _ (z : Sizes) (fs : List Frame) (accounts maps parents addresses states active used : List ℕ) where
    abbrev now : State
    now = seen fs accounts maps limits parents addresses states active used

    abbrev used_by : (ℕ → ℕ) → ℕ → ℕ
    used_by who q = count (all_pages z) λ i. eqb (who (slot_of z i)) q && if (eqb (at active (slot_of z i)) 1) (test (charged z (files now) (frames now) i)) (ltb 0 (at maps i))

    -- the used counts that are there are those that the store leaves
    pub used_stays : length used ≡ z.accounts → ((q : ℕ) → q < z.accounts → at used q ≡ used_of z (files now) (frames now) q) → used ≡ used_then z now (set limits a n)
    unfolding used_of payer charged
    used_stays long c = tab_entries z.accounts _ used long (λ q l. c q l ∙ (λ x. used_by (λ i. payer_alike (at parents) (at limits) (at (set limits a n)) agreed (at accounts i) x) q))
