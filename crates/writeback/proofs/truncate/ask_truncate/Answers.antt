-- `ask_truncate` meets its contract: the questions of the slot, then of the frames of its pages from k up.
use mathlib.Core.Path.{◌≡◌, refl, ap, sym, ◌∙◌}
use mathlib.Core.Bool.{Bool, ◌&&◌}
use Prim.Native.Nat.{ℕ, suc}
use native.Mathlib.Omega.{arith}
use native.Mathlib.Decide.{dec_lt}
use lib.Dec.{ltb, leb, ltb→lt, lt→ltb}
use lib.ListN.{take}
use Rattle.std.proofs.lemmas.Result.{err_from_is_err_and}
use Rattle.tables.specs.Laws.{T→true, ¬T→false}
use Rattle.tables.specs.Questions.{Questions, ask, first_no}
use Rattle.tables.specs.Also.{◌also◌}
use Rattle.tables.specs.Rule.{Rule, Holds, below, ◌and◌, test}
use Rattle.leaves.specs.Asks.{ask_filled, ask_active, part_no, part_yes, part_range}
use Rattle.leaves.specs.Packed.{unpacked}
use Rattle.writeback.specs.Truncate.{ask_frames}
use Rattle.writeback.proofs.Cut.{from_up_holds, not_up}
use Rattle.writeback.proofs.Refused.{number_some}
use Rattle.writeback.proofs.TruncateWork.{asked_alike}
use Rattle.writeback.proofs.truncate.ask_truncate.Goals as goal

-- the range as the code tests it
at_most : (k n : ℕ) → leb k n ≡ ltb k (suc n)
at_most k n = elim (dec_lt n k) [
  | yes h ↦ not_up k n h ∙ sym (¬T→false (ltb k (suc n)) (λ t. omega (arith, ltb→lt k (suc n) t)))
  | no h ↦ from_up_holds k n (omega arith) ∙ sym (T→true (ltb k (suc n)) (lt→ltb k (suc n) (omega arith)))
]

pub returns-in_err-ask_slot : goal.returns-in_err-ask_slot
unfolding test
returns-in_err-ask_slot c =
    let p = err_from_is_err_and c.from_residual.result c.from_residual.ensures.1 in
    let range : Rule = let a = c.args in below a.slot a.sizes.slots and below a.k (suc a.sizes.pages) in
    let tested : (let a = c.args in (ltb a.slot a.sizes.slots && leb a.k a.sizes.pages) ≡ test range) = ap (λ (b : Bool). ltb c.args.slot c.args.sizes.slots && b) (at_most c.args.k c.args.sizes.pages) in
    let active : Questions = let a = c.args in ask_filled a.slot a.numbers.now also ask_active a.slot a.active.now in
    let framed : Questions = let a = c.args in ask_frames a.sizes.frames a.sizes.pages a.slot a.k (take a.sizes.frames (unpacked a.frames.now)) in
    rw (p.1, p.2) (record { answer = part_no _ range tested active framed _ c.in_err-ask_slot.ensures (number_some _); any = tt })

pub ask_frames-requires : goal.ask_frames-requires
unfolding test
ask_frames-requires c =
    let range : Rule = let a = c.args in below a.slot a.sizes.slots and below a.k (suc a.sizes.pages) in
    let tested : (let a = c.args in (ltb a.slot a.sizes.slots && leb a.k a.sizes.pages) ≡ test range) = ap (λ (b : Bool). ltb c.args.slot c.args.sizes.slots && b) (at_most c.args.k c.args.sizes.pages) in
    let active : Questions = let a = c.args in ask_filled a.slot a.numbers.now also ask_active a.slot a.active.now in
    let framed : Questions = let a = c.args in ask_frames a.sizes.frames a.sizes.pages a.slot a.k (take a.sizes.frames (unpacked a.frames.now)) in
    let r : Holds range = part_range _ range tested active framed _ c.in_ok-ask_slot.ensures tt refl in
    record { most = c.requires.0; pages_most = c.requires.1; slots_most = omega (arith, c.requires.2, r.0); from = omega (arith, r.1) }

pub returns : goal.returns
unfolding test
returns c =
    let range : Rule = let a = c.args in below a.slot a.sizes.slots and below a.k (suc a.sizes.pages) in
    let tested : (let a = c.args in (ltb a.slot a.sizes.slots && leb a.k a.sizes.pages) ≡ test range) = ap (λ (b : Bool). ltb c.args.slot c.args.sizes.slots && b) (at_most c.args.k c.args.sizes.pages) in
    let active : Questions = let a = c.args in ask_filled a.slot a.numbers.now also ask_active a.slot a.active.now in
    let framed : Questions = let a = c.args in ask_frames a.sizes.frames a.sizes.pages a.slot a.k (take a.sizes.frames (unpacked a.frames.now)) in
    let more : first_no framed ≡ first_no (ask 3 range (active also framed)) = part_yes _ range tested active framed _ c.in_ok-ask_slot.ensures tt refl in
    let a = c.args in
    record {
      answer = c.ask_frames.ensures.answer ∙ asked_alike a.sizes.frames (unpacked a.frames.now) a.sizes.pages a.slot a.k ∙ more;
      any = c.ask_frames.ensures.any;
    }
