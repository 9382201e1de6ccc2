-- `frame_of` meets its contract: no frame passed has the page.
use mathlib.Core.Path.{◌≡◌, refl, sym, ap, ◌∙◌}
use mathlib.Core.List.{List}
use Prim.Native.Nat.{ℕ, suc, ◌+◌, ◌%◌}
use native.Mathlib.Omega.{arith}
use borrow.Author.Count.{below_more}
use lib.Dec.{eqb, eqb→eq}
use native.Mathlib.Numerals.{add-one}
use Rattle.tables.specs.Base.{at}
use Rattle.tables.specs.Laws.{eq→T}
use Rattle.tables.specs.Rule.{same}
use Rattle.tables.specs.Turn.{said_yes, said_no}
use Rattle.tables.specs.FindLaws.{find_at, find_none}
use Rattle.model.specs.declared.frame.Frame.{Frame}
use Rattle.model.specs.State.{frame_at}
use Rattle.leaves.specs.Packed.{unpacked, unpack_page, unpacked_at}
use Rattle.leaves.proofs.packed.frame_of.Goals as goal

-- the page of frame f, as the loop reads it
page-told : (ws : List ℕ) (f n : ℕ) → n ≡ at ws f → (frame_at (unpacked ws) f).page ≡ n % 65536
page-told ws f n e = ap (λ (g : Frame). g.page) (unpacked_at ws f) ∙ unpack_page (at ws f) ∙ ap (λ (m : ℕ). m % 65536) (sym e)

pub loop-f-init : goal.loop-f-init
loop-f-init c =
    let a = c.args in
    λ k h e. c.pass_fours-start.ensures.before k h (sym (page-told a.frames.now k (at a.frames.now k) refl) ∙ e ∙ sym (add-one a.page))

pub returns-then-has_page : goal.returns-then-has_page
returns-then-has_page c =
    let a = c.args in
    sym (find_at a.count (λ f. eqb (frame_at (unpacked a.frames.now) f).page (suc a.page)) 0 c.loop-f.f (omega arith) (omega arith)
    (eq→T (page-told a.frames.now c.loop-f.f c.at.result c.at.ensures ∙ said_yes (same (c.at.result % 65536) (a.page + 1)) c.has_page.ensures c.if-has_page.true ∙ add-one a.page))
    (λ k h i t. c.loop-f.invariant k i (eqb→eq _ _ t)))

pub loop-f-preserved : goal.loop-f-preserved
loop-f-preserved c =
    let a = c.args in
    below_more _ _ c.loop-f.invariant (λ e. said_no (same (c.at.result % 65536) (a.page + 1)) c.has_page.ensures c.if-has_page.false (sym (page-told a.frames.now c.loop-f.f c.at.result c.at.ensures) ∙ e ∙ sym (add-one _)))

pub returns : goal.returns
returns c =
    let a = c.args in
    sym (find_none a.count (λ f. eqb (frame_at (unpacked a.frames.now) f).page (suc a.page)) 0 (λ k h i t. c.loop-f.invariant k (omega arith) (eqb→eq _ _ t)) ∙ omega arith)
