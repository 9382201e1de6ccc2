-- What an update now would store for a page: its address, where its record is live.
use Rattle.std.specs.Prelude.{◌≡◌, List, ℕ, suc, ◌-◌}
use Rattle.std.proofs.Common.{ap, sym, ◌∙◌, inl, inr, arith}
use Rattle.tables.specs.Base.{at, if}
use Rattle.tables.specs.Laws.{if_true, if_false}
use Rattle.tables.specs.Rule.{Rule, same, names, sound, complete, decided, test}
use Rattle.tables.specs.Store.{Split}
use Rattle.model.specs.Lines.{LIVE}

abbrev pub live_address : List ℕ → List ℕ → ℕ → ℕ
live_address addresses states i = if (test (names (at addresses i) λ r. same (at states r) LIVE)) (at addresses i) 0

module _ (addresses states : List ℕ) (i : ℕ) where
  abbrev is_live : Rule
  is_live = names (at addresses i) λ r. same (at states r) LIVE

  pub live_split : Split ((r : ℕ) × (at addresses i ≡ suc r) × (at states r ≡ LIVE)) (live_address addresses states i) (at addresses i) 0
  live_split = elim (decided is_live) [
    | yes h ↦ inl (h, if_true (test is_live) (at addresses i) 0 (complete is_live h))
    | no h ↦ inr (h, if_false (test is_live) (at addresses i) 0 (λ t. h (sound is_live t)))
  ]

  -- a is the address that the code reads, n its record's state
  module _ (a : ℕ) (e : a ≡ at addresses i) where
    pub live_none : a ≡ 0 → 0 ≡ live_address addresses states i
    live_none z = elim live_split [ inl x ↦ absurd (omega (arith, x.0.1)) | inr x ↦ sym x.1 ]

    module _ (some : ¬ (a ≡ 0)) (n : ℕ) (f : n ≡ at states (a - 1)) where
      pub live_on : n ≡ LIVE → a ≡ live_address addresses states i
      live_on l = elim live_split [ inl x ↦ e ∙ sym x.1 | inr x ↦ absurd (x.0 (a - 1, omega arith, sym f ∙ l)) ]

      pub live_off : ¬ (n ≡ LIVE) → 0 ≡ live_address addresses states i
      live_off l = elim live_split [ inl x ↦ (let p : a - 1 ≡ x.0.0 = omega (arith, x.0.1) in absurd (l (f ∙ ap (at states) p ∙ x.0.2))) | inr x ↦ sym x.1 ]
