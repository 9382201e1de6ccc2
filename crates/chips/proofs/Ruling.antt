-- The rules of the chip, by the tests that the code makes.
use mathlib.Core.Path.{◌≡◌, subst}
use mathlib.Core.Bool.{false}
use mathlib.Core.List.{List}
use Prim.Native.Nat.{ℕ, suc, ◌+◌, ◌-◌, ◌*◌, ◌<◌, ◌≤◌}
use native.Mathlib.Omega.{arith}
use native.Mathlib.Decide.{dec_lt}
use lib.ListN.{length, get_or-eq_default}
use Rattle.tables.specs.Base.{at}
use Rattle.tables.specs.Rule.{Rule, Holds, same, ◌and◌, each, test, alike}
use Rattle.tables.specs.Turn.{not_so}
use Rattle.model.specs.declared.sizes.Sizes.{Sizes}
use Rattle.model.specs.Lines.{LIVE}
use Rattle.model.specs.State.{Chip}
use Rattle.model.specs.Rules.{next_fit, copy_once, copy_empty, copy_live}
use Rattle.rules.specs.Passes.{distinct}
use Rattle.chips.specs.Seen.{place_kept}

-- ── one place ──
module _ (z : Sizes) (state recordWord word : ℕ → ℕ) (b entry : ℕ) where
  pub is_empty : entry ≡ 0 → test (each z.words (λ w. same (word (b * z.words + w)) 0)) ≡ test (place_kept z state recordWord word b entry)
  is_empty e = alike (each z.words (λ w. same (word (b * z.words + w)) 0)) (place_kept z state recordWord word b entry) (λ h. (λ _. h, λ r q. absurd (omega (arith, e, q)))) (λ h. h.0 e)

  module _ (n : ¬ (entry ≡ 0)) where
    its : entry ≡ suc (entry - 1)
    its = omega (arith, n)

    pub not_live : ¬ (state (entry - 1) ≡ LIVE) → false ≡ test (place_kept z state recordWord word b entry)
    not_live d = not_so (place_kept z state recordWord word b entry) (λ h. d (h.1 (entry - 1) its).0)

    pub is_live_holds : state (entry - 1) ≡ LIVE → test (each z.words (λ w. same (word (b * z.words + w)) (recordWord ((entry - 1) * z.words + w)))) ≡ test (place_kept z state recordWord word b entry)
    is_live_holds l = alike (each z.words (λ w. same (word (b * z.words + w)) (recordWord ((entry - 1) * z.words + w)))) (place_kept z state recordWord word b entry)
        (λ h. (λ e. absurd (n e), λ r q. let o : entry - 1 ≡ r = omega (arith, q) in subst (λ (m : ℕ). Holds (same (state m) LIVE and each z.words (λ w. same (word (b * z.words + w)) (recordWord (m * z.words + w))))) o (l, h)))
        (λ h. (h.1 (entry - 1) its).1)

-- ── all of them ──
module _ (z : Sizes) (ss : List ℕ) (recordWord : ℕ → ℕ) (k : Chip) (states_long : length ss ≡ z.records) where
  abbrev all : Rule
  all = next_fit z (at ss) recordWord k and copy_once z (at ss) recordWord k and copy_empty z (at ss) recordWord k and copy_live z (at ss) recordWord k

  abbrev places : Rule
  places = each z.chip λ b. place_kept z (at ss) recordWord (at k.words) b (at k.copies b)

  -- a live record is one that there is
  there : (r : ℕ) → at ss r ≡ LIVE → r < z.records
  there r e = elim (dec_lt r (length ss)) [ yes h ↦ omega (arith, h, states_long) | no d ↦ absurd (omega (arith, e, get_or-eq_default ss 0 {n = r} (omega (arith, d)))) ]

  pub next_past : z.chip ≤ at k.next 0 → false ≡ test all
  next_past h = not_so all (λ x. omega (arith, h, x.0))

  pub named_twice : ¬ (Holds (distinct z.chip z.records (at k.copies))) → false ≡ test all
  named_twice n = not_so all (λ x. n (λ b l r e. there r (x.1.1.1 b l r e).0, x.1.0))

  pub by_places : at k.next 0 < z.chip → Holds (distinct z.chip z.records (at k.copies)) → test places ≡ test all
  by_places h d = alike places all (λ x. (h, (d.1, (λ b l. (x b l).0, λ b l. (x b l).1)))) (λ x b l. (x.1.1.0 b l, x.1.1.1 b l))
