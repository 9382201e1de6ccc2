-- The tests that code makes of an entry, or of a record, are the rule's.
use mathlib.Core.Path.{◌≡◌, refl, sym, ◌∙◌}
use mathlib.Core.Bool.{Bool, true, false, ◌&&◌, ◌||◌}
use Prim.Native.Nat.{ℕ, suc, ◌+◌, ◌-◌, ◌*◌, ◌<◌, ◌≤◌}
use native.Mathlib.Nat.{mul-le-mul_right, suc-mul}
use native.Mathlib.Omega.{arith}
use native.Mathlib.Decide.{ℕ_discrete}
use lib.Dec.{eqb}
use Rattle.tables.specs.Rule.{Rule, same, below, non, ◌and◌, ◌or◌, ◌then◌, named, Holds, test, alike}
use Rattle.tables.specs.Turn.{learn, unlearn, named_one, when, unless, otherwise, both}
use Rattle.model.specs.Rules.{fit}
use Rattle.rules.specs.Passes.{filed_record, mapped_record, held_record, imaged_record, held_entries, imaged_entries}

-- an entry that names something, by the record that it names
module _ (s m : ℕ) (state owner : ℕ → ℕ) (some : ¬ (m ≡ 0)) where
  -- the record is in slot s, and in one state, or in one of two
  abbrev own : ℕ → Bool
  own x = eqb (owner (m - 1)) s && eqb (state (m - 1)) x

  abbrev own_2 : ℕ → ℕ → Bool
  own_2 x y = eqb (owner (m - 1)) s && (eqb (state (m - 1)) x || eqb (state (m - 1)) y)

  not_back : (a : ℕ) → ¬ (a ≡ m) → ¬ (a ≡ suc (m - 1))
  not_back a d e = d (omega arith)

  pub filed_told : (active : ℕ) → ¬ (active ≡ 1) → eqb (owner (m - 1)) s && eqb (state (m - 1)) 1 ≡ test (named m (filed_record s state owner active))
  unfolding test
  filed_told active d = when (non (same active 1)) (same (owner (m - 1)) s and same (state (m - 1)) 1) (own 1) d refl ∙ named_one m (filed_record s state owner active) some

  pub mapped_told : (active a : ℕ) → active ≡ 1 → ¬ (a ≡ m) → eqb (owner (m - 1)) s && (eqb (state (m - 1)) 4 || eqb (state (m - 1)) 5) ≡ test (named m (mapped_record s state owner active a))
  unfolding test
  mapped_told active a on d = when (same active 1) (same a (suc (m - 1)) or pending) (own_2 4 5) on (otherwise (same a (suc (m - 1))) pending (own_2 4 5) (not_back a d) refl) ∙ named_one m (mapped_record s state owner active a) some
    where
      pending : Rule
      pending = same (owner (m - 1)) s and (same (state (m - 1)) 4 or same (state (m - 1)) 5)

  pub held_told : eqb (owner (m - 1)) s && (eqb (state (m - 1)) 2 || eqb (state (m - 1)) 3) ≡ test (named m (held_record s state owner))
  unfolding test
  held_told = named_one m (held_record s state owner) some

  pub imaged_told : (a : ℕ) → ¬ (a ≡ m) → eqb (owner (m - 1)) s && eqb (state (m - 1)) 4 ≡ test (named m (imaged_record s state owner a))
  unfolding test
  imaged_told a d = otherwise (same a (suc (m - 1))) (same (owner (m - 1)) s and same (state (m - 1)) 4) (own 4) (not_back a d) refl ∙ named_one m (imaged_record s state owner a) some

-- ── a page's entries, by its slot's switches ──
nothing : (x : ℕ) (f : ℕ → Rule) → x ≡ 0 → Holds (named x f)
nothing x f z r q = absurd (empty x r z q)
  where
    empty : (x r : ℕ) → x ≡ 0 → x ≡ suc r → ⊥
    empty x r z q = omega arith

module _ (s active m a : ℕ) (state owner : ℕ → ℕ) where
  -- a page of an active slot
  pub active_told : active ≡ 1 → (h t : Bool) → h ≡ test (named a (held_record s state owner)) → t ≡ test (named m (mapped_record s state owner active a)) → h && t ≡ test (held_entries s active m a state owner)
  active_told on h t e f = both (named a (held_record s state owner)) (named m (mapped_record s state owner active a)) h t e f ∙ alike
      (named a (held_record s state owner) and named m (mapped_record s state owner active a))
      (held_entries s active m a state owner)
      (λ x. (λ r q off. absurd (off on), (x.1, (x.0, λ r q. on))))
      (λ x. (x.1.1.0, x.1.0))

  -- a page of an inactive slot
  pub inactive_told : ¬ (active ≡ 1) → a ≡ 0 → (t : Bool) → t ≡ test (named m (filed_record s state owner active)) → t ≡ test (held_entries s active m a state owner)
  inactive_told off z t e = e ∙ alike (named m (filed_record s state owner active)) (held_entries s active m a state owner)
      (λ x. (x, (λ r q on. absurd (off on), (nothing a (held_record s state owner) z, nothing a (λ r. same active 1) z))))
      (λ x. x.0)

  -- .. has no address
  pub inactive_zero : ¬ (active ≡ 1) → Holds (held_entries s active m a state owner) → a ≡ 0
  inactive_zero off x = elim (ℕ_discrete a 0) [ yes e ↦ e | no e ↦ absurd (off (x.1.1.1 (a - 1) (omega arith))) ]

module _ (s updating a g : ℕ) (state owner : ℕ → ℕ) where
  pub updating_told : updating ≡ 1 → (t : Bool) → t ≡ test (named g (imaged_record s state owner a)) → t ≡ test (imaged_entries s updating a g state owner)
  updating_told on t e = e ∙ alike (named g (imaged_record s state owner a)) (imaged_entries s updating a g state owner) (λ x. (x, λ r q. on)) (λ x. x.0)

  pub not_updating : ¬ (updating ≡ 1) → test (same g 0) ≡ test (imaged_entries s updating a g state owner)
  not_updating off = alike (same g 0) (imaged_entries s updating a g state owner)
      (λ z. (nothing g (imaged_record s state owner a) z, nothing g (λ r. same updating 1) z))
      (λ x. elim (ℕ_discrete g 0) [ yes e ↦ e | no e ↦ absurd (off (x.1 (g - 1) (omega arith))) ])

-- a rule that asks for a mark in one of two states
module _ (state a b mark : ℕ) where
  pub asked_for : eqb state a || eqb state b ≡ true → eqb mark 1 ≡ test ((same state a or same state b) then same mark 1)
  unfolding test
  asked_for e = when (same state a or same state b) (same mark 1) (eqb mark 1) (learn (same state a or same state b) (sym e)) refl

  pub not_asked_for : eqb state a || eqb state b ≡ false → true ≡ test ((same state a or same state b) then same mark 1)
  unfolding test
  not_asked_for e = unless (same state a or same state b) (same mark 1) (unlearn (same state a or same state b) (sym e))

-- an entry that fits is at most the number of what it names
pub fit_le : (n m : ℕ) (entry : ℕ → ℕ) → Holds (fit n m entry) → (i : ℕ) → i < n → entry i ≤ m
fit_le n m entry h i l = elim (ℕ_discrete (entry i) 0) [ yes e ↦ omega arith | no e ↦ omega (arith, h i l (entry i - 1) (omega arith)) ]

pub named_le : (m e : ℕ) {b : Bool} → b ≡ true → b ≡ test (named e λ r. below r m) → e ≤ m
named_le m e taken told = fit_le 1 m (λ i. e) (λ i h. learn (named e λ r. below r m) (sym taken ∙ told)) 0 (omega arith)

-- part r of a table of m parts of w entries
pub part : (r m w len : ℕ) → r < m → m * w ≤ len → r * w + w ≤ len
part r m w len h l = let k : suc r * w ≤ m * w = mul-le-mul_right w h in let e : suc r * w ≡ r * w + w = suc-mul r w in omega arith
