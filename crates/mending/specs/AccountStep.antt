-- Step 3, the pass over the accounts alone: where it stands before a slot, and the laws that its loop cites.
use Rattle.std.specs.Prelude.{◌≡◌, ℕ, ◌+◌, ◌-◌, ◌*◌, ◌<◌, ◌≤◌, length}
use Rattle.std.proofs.Math.Path.{refl}
use Rattle.std.proofs.Common.{◌∙◌}
use mathlib.Core.List.{List}
use native.Mathlib.Omega.{arith}
use Rattle.tables.specs.Base.{at}
use Rattle.tables.specs.Rule.{below}
use Rattle.tables.specs.StoreLoops.{Turned, turned_all, turned_at}
use Rattle.model.specs.declared.sizes.Sizes.{Sizes}
use Rattle.mending.specs.Mend.{number, account, wants, changes}
use Rattle.mending.specs.Places.{place_number, place_account, place_entry}
use Rattle.mending.specs.Passes.{packed, filled, Lost, lost_kept, lost_long, lost_list_long, Standing, of_entry, zeroed, standing_off, standing_skip, place_turn}
use Rattle.mending.specs.Steps.{Passed, passed_by, untouched, slot_end, pack_none}

pub record AccountsRun (z : Sizes) (qs₀ l₀ : List ℕ) (n₀ s : ℕ) (qs l : List ℕ) (n : ℕ) : Type 0 where
  pub most : s ≤ z.slots
  pub long : length qs ≡ length qs₀
  pub list_long : length l ≡ length l₀
  pub kept : n + filled qs ≡ n₀ + filled qs₀
  pub run : (ns ms : List ℕ) → Turned qs₀ (λ t. changes z (packed ns qs₀ ms) 2 (account t)) zeroed s qs × Standing z (packed ns qs₀ ms) 3 (changes z (packed ns qs₀ ms) 2) l₀ n₀ (s * (z.pages + 2)) l n

module _ (z : Sizes) (qs₀ l₀ : List ℕ) (n₀ : ℕ) where
  pub accounts_none : AccountsRun z qs₀ l₀ n₀ 0 qs₀ l₀ n₀
  accounts_none = record { most = omega arith; long = refl; list_long = refl; kept = refl; run = λ ns ms. let p = pack_none z 2 (packed ns qs₀ ms) l₀ n₀ in (p.accounts, p.list) }

  pub accounts_next : (s : ℕ) {qs qs' l l' : List ℕ} {n r : ℕ} → 0 < z.accounts → s < z.slots → length qs₀ ≡ z.slots
      → Lost (below (z.accounts - 1) (at qs s)) 3 s z.pages s qs qs' l l' n r → AccountsRun z qs₀ l₀ n₀ s qs l n → AccountsRun z qs₀ l₀ n₀ (s + 1) qs' l' r
  unfolding wants
  accounts_next s {qs} {qs'} {l} {l'} {n} {r} pos h f gone m = record {
    most = omega arith;
    long = lost_long gone ∙ m.long;
    list_long = lost_list_long gone ∙ m.list_long;
    kept = lost_kept gone (omega (arith, m.long, f)) (λ c e. omega (arith, c, e)) ∙ m.kept;
    run = run;
  }
    where
      run : (ns ms : List ℕ) → Turned qs₀ (λ t. changes z (packed ns qs₀ ms) 2 (account t)) zeroed (s + 1) qs' × Standing z (packed ns qs₀ ms) 3 (changes z (packed ns qs₀ ms) 2) l₀ n₀ ((s + 1) * (z.pages + 2)) l' r
      run ns ms =
          let d = packed ns qs₀ ms in
          let o = m.run ns ms in
          let was : at qs s ≡ at qs₀ s = turned_at s o.0 s (omega arith) in
          let a = standing_off (s * (z.pages + 2)) o.1 (λ w. (rw (place_number z s) at w).1) in
          let b = place_turn (account s) (s * (z.pages + 2) + 1) (place_account z s) qs₀ (λ t. changes z d 2 (account t)) s (omega (arith, f)) (λ x. x) (λ x. x) refl
          (below (z.accounts - 1) (at qs s)) (λ c. (λ e. omega (arith, c, was, e), λ w. omega (arith, c, was, w))) (λ c. omega (arith, was, c.1, pos)) o.0 a gone in
          let e : s * (z.pages + 2) + 1 + 1 ≡ s * (z.pages + 2) + 2 = omega arith in
          let c = standing_skip z.pages (s * (z.pages + 2) + 2) (rw e at b.1) (λ p g w. (rw (place_entry z s p g) at w).1) in
          (b.0, rw (slot_end z.pages s) at c)

  pub accounts_all : (s : ℕ) {qs l : List ℕ} {n : ℕ} → length qs₀ ≡ z.slots → z.slots ≤ s → AccountsRun z qs₀ l₀ n₀ s qs l n → (ns ms : List ℕ) → Passed z 2 (packed ns qs₀ ms) (packed ns qs ms) l₀ l n₀ n
  unfolding wants
  accounts_all s {qs} {l} {n} f h m ns ms =
      let d = packed ns qs₀ ms in
      let e : s ≡ z.slots = omega (arith, m.most) in
      passed_by z 2 d
      (untouched ns (λ t. changes z d 2 (number t)) (λ t c. c.1))
      (turned_all s (m.run ns ms).0 (λ i b w. omega (arith, f, e, b)))
      (untouched ms (of_entry z (changes z d 2)) (λ t c. c.1))
      (rw e at (m.run ns ms).1) (omega (arith, m.kept))
