-- `put_sheet` meets its contract: the start, page after page, the end.
use mathlib.Core.Path.{◌≡◌, refl, ap, ◌∙◌}
use Prim.Native.Nat.{ℕ, ◌+◌, ◌*◌, ◌<◌}
use native.Mathlib.Omega.{arith}
use lib.ListN.{length}
use Rattle.sheets.specs.Sheet.{laid}
use Rattle.sheets.proofs.Numbers.{slice_at, slice_end}
use Rattle.sheets.specs.Laws.Laying.{length_laid}
use Rattle.carrying.proofs.Printed.{area, none_long, none_laid, next_long, next_laid, all_laid, all_long, area_rises}
use Rattle.carrying.proofs.export.put_sheet.Goals as goal

pub put_start-requires : goal.put_start-requires
put_start-requires c =
    let a = c.args in
    omega (arith, c.requires.1, all_long a.pages a.w a.slot a.number a.records.now a.maps.now (14 + length (area a.pages a.w a.slot a.number a.records.now a.maps.now a.pages)) refl)

pub loop-p-init : goal.loop-p-init
loop-p-init c =
    let a = c.args in
    (none_long a.pages a.w a.slot a.number a.records.now a.maps.now, none_laid a.pages a.w a.slot a.number a.records.now a.maps.now _)

pub put_shown-from-requires : goal.put_shown-from-requires
put_shown-from-requires c =
    let a = c.args in
    let long = ap length c.loop-p.invariant.1 ∙ length_laid c.put_start.new.b 14 (area a.pages a.w a.slot a.number a.records.now a.maps.now c.loop-p.p) ∙ c.put_start.auto.b in
    let h : c.loop-p.p < a.pages = omega (arith, slice_end a.maps.now (a.slot * a.pages) a.pages c.requires.0.maps_long) in (
      c.requires.0.words,
      omega (arith, c.requires.0.words_most),
      rw (slice_at _ _ _ _ c.loop-p-test.true) (c.requires.0.listed c.loop-p.p h),
      rw (slice_at _ _ _ _ c.loop-p-test.true) (omega (
        arith,
        next_long a.pages a.w a.slot a.number a.records.now a.maps.now c.loop-p.p c.loop-p.from c.loop-p.invariant.0,
        area_rises a.pages a.w a.slot a.number a.records.now a.maps.now (c.loop-p.p + 1) a.pages (omega (arith, h)),
        all_long a.pages a.w a.slot a.number a.records.now a.maps.now (14 + length (area a.pages a.w a.slot a.number a.records.now a.maps.now a.pages)) refl,
        c.requires.1,
        long,
      )),
    )

pub loop-p-preserved : goal.loop-p-preserved
loop-p-preserved c =
    let a = c.args in
    let e = c.put_shown-from.ensures in
    (rw (slice_at _ _ _ _ c.loop-p-test.true) at e.next ∙ next_long a.pages a.w a.slot a.number a.records.now a.maps.now c.loop-p.p c.loop-p.from c.loop-p.invariant.0, next_laid a.pages a.w a.slot a.number a.records.now a.maps.now _ c.loop-p.p c.loop-p.from c.loop-p.invariant.0 c.loop-p.invariant.1 (rw (slice_at _ _ _ _ c.loop-p-test.true) at e.buffer))

pub put_end-requires : goal.put_end-requires
put_end-requires c =
    let a = c.args in
    let long = ap length c.loop-p.invariant.1 ∙ length_laid c.put_start.new.b 14 (area a.pages a.w a.slot a.number a.records.now a.maps.now c.loop-p.p) ∙ c.put_start.auto.b in
    let e : c.loop-p.p ≡ a.pages = omega (arith, slice_end a.maps.now (a.slot * a.pages) a.pages c.requires.0.maps_long) in
    let from = c.loop-p.invariant.0 ∙ ap (λ (n : ℕ). 14 + length (area a.pages a.w a.slot a.number a.records.now a.maps.now n)) e in
    omega (arith, from, all_long a.pages a.w a.slot a.number a.records.now a.maps.now (14 + length (area a.pages a.w a.slot a.number a.records.now a.maps.now a.pages)) refl, c.requires.1, long)

pub overflow_add-result : goal.overflow_add-result
overflow_add-result c =
    let a = c.args in
    let long = ap length c.loop-p.invariant.1 ∙ length_laid c.put_start.new.b 14 (area a.pages a.w a.slot a.number a.records.now a.maps.now c.loop-p.p) ∙ c.put_start.auto.b in
    let e : c.loop-p.p ≡ a.pages = omega (arith, slice_end a.maps.now (a.slot * a.pages) a.pages c.requires.0.maps_long) in
    let from = c.loop-p.invariant.0 ∙ ap (λ (n : ℕ). 14 + length (area a.pages a.w a.slot a.number a.records.now a.maps.now n)) e in
    omega (arith, from, all_long a.pages a.w a.slot a.number a.records.now a.maps.now (14 + length (area a.pages a.w a.slot a.number a.records.now a.maps.now a.pages)) refl, c.requires.1, long)

pub returns : goal.returns
returns c =
    let a = c.args in
    let e : c.loop-p.p ≡ a.pages = omega (arith, slice_end a.maps.now (a.slot * a.pages) a.pages c.requires.0.maps_long) in
    let from = c.loop-p.invariant.0 ∙ ap (λ (n : ℕ). 14 + length (area a.pages a.w a.slot a.number a.records.now a.maps.now n)) e in
    let shown = c.loop-p.invariant.1 ∙ ap (λ (n : ℕ). laid c.put_start.new.b 14 (area a.pages a.w a.slot a.number a.records.now a.maps.now n)) e in record {
      length = all_long a.pages a.w a.slot a.number a.records.now a.maps.now c.loop-p.from from;
      buffer = all_laid a.pages a.w a.slot a.number a.records.now a.maps.now a.buffer.now c.loop-p.from from c.put_start.ensures shown c.put_end.ensures;
    }
