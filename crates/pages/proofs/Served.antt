-- The questions of a read, a write and a page look: as the code asks them, and what they give.
use mathlib.Core.Path.{◌≡◌, ◌∙◌}
use mathlib.Core.Bool.{Bool, true, false, ◌&&◌}
use mathlib.Core.List.{List}
use Prim.Native.Nat.{ℕ, ◌<◌}
use native.Mathlib.Omega.{arith}
use lib.Dec.{ltb}
use lib.ListN.{take}
use Rattle.tables.specs.Rule.{Rule, below, ◌and◌, test}
use Rattle.tables.specs.Turn.{said_yes}
use Rattle.tables.specs.Questions.{first_no}
use Rattle.tables.specs.Also.{◌also◌}
use Rattle.model.specs.declared.sizes.Sizes.{Sizes}
use Rattle.model.specs.declared.frame.Frame.{Frame}
use Rattle.model.specs.declared.refusals.Refusal.{Refusal}
use Rattle.model.specs.Refusals.{number, number_above}
use Rattle.model.specs.State.{State, page_of}
use Rattle.model.specs.Questions.{served, still, arrived}
use Rattle.pages.specs.Seen.{seen}
use Rattle.leaves.specs.Asks.{slot_asked, asked_range, two_below, three_below}
use Rattle.pages.specs.Asks.{frame_asked}

-- a refusal is no yes
pub no_yes : (e : Refusal) → ¬ (number e ≡ 0)
no_yes e x = let above = number_above e in omega (arith, above, x)

-- the ranges as the code tests them
abbrev pub page_test : Sizes → ℕ → ℕ → Bool
page_test z s p = ltb s z.slots && ltb p z.pages

abbrev pub word_test : Sizes → ℕ → ℕ → ℕ → Bool
word_test z s p w = ltb s z.slots && (ltb p z.pages && ltb w z.words)

abbrev pub page_range : Sizes → ℕ → ℕ → Rule
page_range z s p = below s z.slots and below p z.pages

abbrev pub word_range : Sizes → ℕ → ℕ → ℕ → Rule
word_range z s p w = below s z.slots and below p z.pages and below w z.words

pub page_test_holds : (z : Sizes) (s p : ℕ) → page_test z s p ≡ test (page_range z s p)
page_test_holds z s p = two_below s z.slots p z.pages

pub word_test_holds : (z : Sizes) (s p w : ℕ) → word_test z s p w ≡ test (word_range z s p w)
word_test_holds z s p w = three_below s z.slots p z.pages w z.words

pub page_range_holds : (z : Sizes) (s p : ℕ) → page_test z s p ≡ true → (s < z.slots) × (p < z.pages)
page_range_holds z s p = said_yes (page_range z s p) (page_test_holds z s p)

pub word_range_holds : (z : Sizes) (s p w : ℕ) → word_test z s p w ≡ true → (s < z.slots) × (p < z.pages) × (w < z.words)
word_range_holds z s p w e = let r = said_yes (word_range z s p w) (word_test_holds z s p w) e in (r.0, r.1.0, r.1.1)

-- what 14 asks of the page; reads: of a read or a look
abbrev pub quiet_of : Bool → Sizes → State → ℕ → Rule
quiet_of true z st i = arrived z st i
quiet_of false z st i = still z st i

-- what an event about a page in a frame is passed
pub record Call : Type 0 where
  pub sizes : Sizes
  pub frames : List Frame
  pub numbers : List ℕ
  pub words : List ℕ
  pub list : List ℕ
  pub active : List ℕ
  pub slot : ℕ
  pub page : ℕ

module _ (a : Call) where
  -- the state that it sees, and the page's place
  abbrev pub state : State
  state = seen (take a.sizes.frames a.frames) a.numbers a.words a.list a.active

  abbrev pub flat : ℕ
  flat = page_of a.sizes a.slot a.page

  -- n answers 3, 4, 8, 13 and 14, as the code asks them: b tells the range
  module _ (range : Rule) (n : ℕ) (b : Bool) (t : b ≡ test range) where
    pub served_answer : (reads : Bool) → n ≡ first_no (slot_asked b a.slot a.numbers a.active also frame_asked reads a.sizes (take a.sizes.frames a.frames) flat)
        → n ≡ first_no (served a.sizes state range (quiet_of reads a.sizes state) a.slot a.page)
    served_answer true e = e ∙ asked_range b range _ t
    served_answer false e = e ∙ asked_range b range _ t
