-- The number of each question that says no, and the answers that carry it.
use Rattle.std.specs.Prelude.{◌≡◌, ℕ, ◌<◌, T, Result, Ok, Err}
use Rattle.std.proofs.Common.{arith, sym, ◌∙◌}
use Rattle.tables.specs.Questions.{Questions, first_no, above}
use Rattle.tables.specs.Also.{◌also◌, also_yes, also_no}
use Rattle.model.specs.declared.event.Answer.{Answer}
use Rattle.model.specs.declared.refusals.Refusal.{Refusal}

-- the paper's number for each case
abbrev pub number : Refusal → ℕ
number Refusal.NoFit = 1
number Refusal.NoRule = 2
number Refusal.NoRange = 3
number Refusal.NoDesign = 4
number Refusal.SlotFilled = 5
number Refusal.NumberTaken = 6
number Refusal.MapNotEmpty = 7
number Refusal.NotActive = 8
number Refusal.Active = 9
number Refusal.Updating = 10
number Refusal.PagesIn = 11
number Refusal.MapOld = 12
number Refusal.PageOut = 13
number Refusal.InTransfer = 14
number Refusal.PageIn = 15
number Refusal.Wired = 16
number Refusal.NotWired = 17
number Refusal.AtLimit = 18
number Refusal.NoRecord = 19
number Refusal.NoFrame = 20
number Refusal.NothingToClaim = 21
number Refusal.NoTransfer = 22
number Refusal.ListShort = 24
number Refusal.NoMove = 25
number Refusal.OverLimit = 26
number Refusal.LineFull = 27
number Refusal.SheetWrong = 29
number Refusal.SheetOther = 30
number Refusal.SheetShort = 31
number Refusal.NumberHigh = 32
number Refusal.NumberGiven = 33

-- 0, or the number of the question that says no
abbrev pub said : {A : Type 0} → Result A Refusal → ℕ
said (Ok a) = 0
said (Err e) = number e

-- "the number of the first question that fails, result 0"
abbrev pub refused : Refusal → Answer
refused e = record { refusal = number e; result = 0 }

-- an answer, by what the work found
abbrev pub answered : Result ℕ Refusal → Answer
answered (Ok found) = record { refusal = 0; result = found }
answered (Err e) = refused e

-- ── questions asked in parts ──
-- no question has number 0
pub number_above : (e : Refusal) → 0 < number e
number_above Refusal.NoFit = omega arith
number_above Refusal.NoRule = omega arith
number_above Refusal.NoRange = omega arith
number_above Refusal.NoDesign = omega arith
number_above Refusal.SlotFilled = omega arith
number_above Refusal.NumberTaken = omega arith
number_above Refusal.MapNotEmpty = omega arith
number_above Refusal.NotActive = omega arith
number_above Refusal.Active = omega arith
number_above Refusal.Updating = omega arith
number_above Refusal.PagesIn = omega arith
number_above Refusal.MapOld = omega arith
number_above Refusal.PageOut = omega arith
number_above Refusal.InTransfer = omega arith
number_above Refusal.PageIn = omega arith
number_above Refusal.Wired = omega arith
number_above Refusal.NotWired = omega arith
number_above Refusal.AtLimit = omega arith
number_above Refusal.NoRecord = omega arith
number_above Refusal.NoFrame = omega arith
number_above Refusal.NothingToClaim = omega arith
number_above Refusal.NoTransfer = omega arith
number_above Refusal.ListShort = omega arith
number_above Refusal.NoMove = omega arith
number_above Refusal.OverLimit = omega arith
number_above Refusal.LineFull = omega arith
number_above Refusal.SheetWrong = omega arith
number_above Refusal.SheetOther = omega arith
number_above Refusal.SheetShort = omega arith
number_above Refusal.NumberHigh = omega arith
number_above Refusal.NumberGiven = omega arith

-- the first part says no: that is the answer
pub no_also : (e : Refusal) (p q : Questions) → number e ≡ first_no p → number e ≡ first_no (p also q)
no_also e p q h = let above = number_above e in h ∙ sym (also_no p q (λ k. omega (arith, above, h, k)))

-- it says yes: the second part answers
pub yes_also : (p q : Questions) → T (above 0 p) → 0 ≡ first_no p → first_no q ≡ first_no (p also q)
yes_also p q numbered h = sym (also_yes 0 p q numbered (sym h))
