-- `sheet_bytes` meets its contract: page after page.
use mathlib.Core.Path.{◌≡◌, refl, ap}
use Prim.Native.Nat.{ℕ, ◌+◌, ◌*◌}
use native.Mathlib.Omega.{arith}
use lib.ListN.{length}
use Rattle.sheets.proofs.Numbers.{slice_at, slice_end}
use Rattle.carrying.proofs.Printed.{area, none_long, next_long, all_long}
use Rattle.carrying.proofs.export.sheet_bytes.Goals as goal

pub loop-entry-init : goal.loop-entry-init
loop-entry-init c =
    let a = c.args in
    let none = none_long a.pages a.w a.slot 0 a.records.now a.maps.now in
    (omega (arith, none), omega arith)

pub loop-entry-preserved : goal.loop-entry-preserved
loop-entry-preserved c =
    let a = c.args in
    let p = c.loop-entry.entry-index in
    let e = c.shown_bytes-bytes.ensures in
    let field = rw (slice_at _ _ _ _ c.loop-entry-test.true) at (e.bytes p) in
    let next = next_long a.pages a.w a.slot 0 a.records.now a.maps.now p (14 + length (area a.pages a.w a.slot 0 a.records.now a.maps.now p)) refl in
    (omega (arith, c.loop-entry.invariant.0, field, next), omega (arith, c.loop-entry.invariant.1, e.most, c.requires.words_most))

pub returns : goal.returns
returns c =
    let a = c.args in
    let e : c.loop-entry.entry-index ≡ a.pages = omega (arith, slice_end a.maps.now (a.slot * a.pages) a.pages c.requires.maps_long) in
    let whole = ap (λ (n : ℕ). length (area a.pages a.w a.slot 0 a.records.now a.maps.now n)) e in
    record {
      bytes = λ number. omega (arith, c.loop-entry.invariant.0, whole, all_long a.pages a.w a.slot number a.records.now a.maps.now (14 + length (area a.pages a.w a.slot number a.records.now a.maps.now a.pages)) refl);
      most = omega (arith, c.loop-entry.invariant.1, e, c.requires.pages_most);
    }
