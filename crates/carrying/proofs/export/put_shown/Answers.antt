-- `put_shown` meets its contract.
use mathlib.Core.Path.{ap, sym, ◌∙◌}
use Prim.Native.Nat.{ℕ, ◌+◌}
use native.Mathlib.Omega.{arith}
use Rattle.sheets.specs.Sheet.{laid}
use Rattle.carrying.proofs.Shown.{room, field_is, shown_listed, shown_text_holds, shown_long, hidden_long, hidden_laid}
use Rattle.carrying.proofs.export.put_shown.Goals as goal

pub overflow_sub-start : goal.overflow_sub-start
overflow_sub-start c = let q = sym c.is_shown.ensures ∙ c.if-is_shown.true in omega (arith, shown_listed c.args.w c.args.records.now c.args.entry q)

pub put_page-requires : goal.put_page-requires
put_page-requires c =
    let q = sym c.is_shown.ensures ∙ c.if-is_shown.true in
    let long = shown_long c.args.w c.args.records.now c.args.entry c.args.page q in
    (c.requires.1, omega (arith, c.requires.3, long), rw c.from.ensures (room c.args.w c.args.records.now c.args.entry (shown_listed c.args.w c.args.records.now c.args.entry q) c.requires.2))

pub returns-then-is_shown : goal.returns-then-is_shown
returns-then-is_shown c =
    let q = sym c.is_shown.ensures ∙ c.if-is_shown.true in
    let listed = shown_listed c.args.w c.args.records.now c.args.entry q in
    let text = field_is c.args.w c.args.records.now c.args.entry listed c.args.page ∙ sym (shown_text_holds c.args.w c.args.records.now c.args.entry c.args.page q) in
    record {
      next = ap (λ (n : ℕ). c.args.from + n) (sym (shown_long c.args.w c.args.records.now c.args.entry c.args.page q));
      buffer = rw c.from.ensures at c.put_page.ensures ∙ ap (laid c.args.buffer.now c.args.from) text;
    }

pub returns : goal.returns
returns c = let q = sym c.is_shown.ensures ∙ c.if-is_shown.false in record {
  next = hidden_long c.args.w c.args.records.now c.args.entry c.args.page c.args.from q;
  buffer = hidden_laid c.args.w c.args.records.now c.args.entry c.args.page c.args.from c.args.buffer.now q;
}
