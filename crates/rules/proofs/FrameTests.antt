-- The tests that code makes of a frame, of its page and of a queue's entry are the rule's.
use mathlib.Core.Path.{◌≡◌, refl, ◌∙◌}
use mathlib.Core.Bool.{Bool, true, false, not, ◌&&◌, ◌||◌}
use Prim.Native.Nat.{ℕ, zero, suc, ◌-◌, ◌*◌, ◌/◌, ◌<◌, ◌≤◌}
use native.Mathlib.Nat.{div-lt_iff_lt-mul}
use native.Mathlib.Omega.{arith}
use lib.Dec.{eqb, leb, leb-zero}
use Rattle.tables.specs.Base.{if, ◌⇒◌}
use Rattle.tables.specs.Rule.{Rule, same, below, non, named, names, ◌and◌, ◌then◌, Holds, test, alike}
use Rattle.tables.specs.Turn.{not_so, if_then, named_one, both}
use Rattle.model.specs.Lines.{LIVE}
use Rattle.rules.specs.Passes.{held_page, queue_entry}

pub moving_le : (t : ℕ) → if (eqb t 0) 0 1 ≤ 1
moving_le t = go (eqb t 0)
  where
    go : (b : Bool) → if b 0 1 ≤ 1
    go true = omega arith
    go false = omega arith

-- what is said of all but one case
pub if_not : (a b : Bool) → a || b ≡ (not a ⇒ b)
if_not true b = refl
if_not false b = refl

-- a page's slot is below S
pub slot_below : (page slots pages : ℕ) → 0 < pages → ¬ (page ≡ 0) → page ≤ slots * pages → (page - 1) / pages < slots
slot_below page slots pages h d l = (div-lt_iff_lt-mul h).1 (omega arith)

-- a frame's page has an address, a reading one a live one
module _ (address state : ℕ → ℕ) (transfer page : ℕ) (d : ¬ (page ≡ 0)) where
  abbrev rule : ℕ → Rule
  rule i = non (same (address i) 0) and (same transfer 1 then names (address i) λ r. same (state r) LIVE)

  pub no_address : address (page - 1) ≡ 0 → false ≡ test (held_page address state transfer page)
  no_address e = not_so (rule (page - 1)) (λ h. h.0 e) ∙ named_one page rule d

  module _ (a : ¬ (address (page - 1) ≡ 0)) where
    abbrev record_of_holds : ℕ
    record_of_holds = address (page - 1) - 1

    abbrev live_read : Rule
    live_read = same transfer 1 then same (state record_of_holds) 3

    up : Holds live_read → Holds (rule (page - 1))
    up h = (a, λ t. (record_of_holds, omega arith, h t))

    down : Holds (rule (page - 1)) → Holds live_read
    down h t = let x = h.1 t in let e : address (page - 1) ≡ suc x.0 = x.1 in let q : record_of_holds ≡ x.0 = omega arith in rw q x.2

    told : not (eqb transfer 1) || eqb (state record_of_holds) 3 ≡ test live_read
    unfolding test
    told = if_then (eqb transfer 1) (eqb (state record_of_holds) 3)

    pub held_page_holds : not (eqb transfer 1) || eqb (state (address (page - 1) - 1)) 3 ≡ test (held_page address state transfer page)
    held_page_holds = told ∙ alike live_read (rule (page - 1)) up down ∙ named_one page rule d

-- ── a queue's entry ──
pub named_told : (n e : ℕ) → leb e n ≡ test (named e λ f. below f n)
unfolding test
named_told n zero = leb-zero n
named_told n (suc f) = refl

then_told : (a b : ℕ) → not (eqb a 0) || eqb b 0 ≡ test (same a 0 then same b 0)
unfolding test
then_told a b = if_then (eqb a 0) (eqb b 0)

pub entry_told : (n e next : ℕ) → leb e n && (not (eqb e 0) || eqb next 0) ≡ test (queue_entry n e next)
entry_told n e next = both _ _ _ _ (named_told n e) (then_told e next)
