-- `export` meets its contract: the questions, then the sheet.
use mathlib.Core.Path.{◌≡◌, ap, ◌∙◌}
use mathlib.Core.List.{List}
use Prim.Native.Nat.{ℕ, ◌≤◌}
use native.Mathlib.Omega.{arith}
use lib.ListN.{length}
use Rattle.std.proofs.lemmas.Result.{err_from_is_err_and}
use Rattle.tables.specs.Base.{at}
use Rattle.sheets.specs.Sheet.{laid, printed}
use Rattle.model.specs.Export.{exported}
use Rattle.carrying.specs.Texts.{slot_text, Printing}
use Rattle.carrying.specs.Exports.{seen_export}
use Rattle.carrying.proofs.Whole.{same_sheet}
use Rattle.carrying.proofs.Exporting.{export_no, export_short, export_yes, printing}
use Rattle.carrying.proofs.export.export.Goals as goal

pub returns-in_err-ask_activate : goal.returns-in_err-ask_activate
returns-in_err-ask_activate c =
    let a = c.args in
    let p = err_from_is_err_and c.from_residual.result c.from_residual.ensures.1 in
    rw (p.1, p.2) (export_no a.sizes a.slot a.records.now a.numbers.now a.maps.now a.active.now a.sheet.now _ c.in_err-ask_activate.ensures)

pub sheet_bytes-bytes-requires : goal.sheet_bytes-bytes-requires
sheet_bytes-bytes-requires c =
    let prints : (let a = c.args in Printing a.sizes.pages a.sizes.words a.slot a.records.now a.maps.now) =
    let a = c.args in
    printing a.sizes a.slot a.records.now a.numbers.now a.maps.now a.active.now a.sheet.now c.in_ok-ask_activate.ensures c.requires in
    prints

pub returns-then-sheet-bytes : goal.returns-then-sheet-bytes
returns-then-sheet-bytes c =
    let sheet : List ℕ = let a = c.args in exported a.sizes (seen_export a.records.now a.numbers.now a.maps.now a.active.now) a.slot in
    let shown : (let a = c.args in printed a.sizes.words a.sizes.pages (at a.numbers.now a.slot) (slot_text a.sizes.pages a.sizes.words a.slot a.records.now a.maps.now) ≡ sheet) = let a = c.args in same_sheet a.sizes (seen_export a.records.now a.numbers.now a.maps.now a.active.now) a.slot in
    let a = c.args in
    export_short a.sizes a.slot a.records.now a.numbers.now a.maps.now a.active.now a.sheet.now c.in_ok-ask_activate.ensures
    (omega (arith, c.if-sheet-bytes.true, c.sheet_bytes-bytes.ensures.bytes (at a.numbers.now a.slot), ap length shown))

pub put_sheet-length-requires : goal.put_sheet-length-requires
put_sheet-length-requires c =
    let prints : (let a = c.args in Printing a.sizes.pages a.sizes.words a.slot a.records.now a.maps.now) =
    let a = c.args in
    printing a.sizes a.slot a.records.now a.numbers.now a.maps.now a.active.now a.sheet.now c.in_ok-ask_activate.ensures c.requires in
    let room : (number : ℕ) → (let a = c.args in
    length (printed a.sizes.words a.sizes.pages number (slot_text a.sizes.pages a.sizes.words a.slot a.records.now a.maps.now)) ≤ length a.sheet.now) = λ number. omega (arith, c.if-sheet-bytes.false, c.sheet_bytes-bytes.ensures.bytes number) in
    (prints, room c.at-number.result)

pub returns : goal.returns
returns c =
    let sheet : List ℕ = let a = c.args in exported a.sizes (seen_export a.records.now a.numbers.now a.maps.now a.active.now) a.slot in
    let shown : (let a = c.args in printed a.sizes.words a.sizes.pages (at a.numbers.now a.slot) (slot_text a.sizes.pages a.sizes.words a.slot a.records.now a.maps.now) ≡ sheet) = let a = c.args in same_sheet a.sizes (seen_export a.records.now a.numbers.now a.maps.now a.active.now) a.slot in
    let room : (number : ℕ) → (let a = c.args in
    length (printed a.sizes.words a.sizes.pages number (slot_text a.sizes.pages a.sizes.words a.slot a.records.now a.maps.now)) ≤ length a.sheet.now) = λ number. omega (arith, c.if-sheet-bytes.false, c.sheet_bytes-bytes.ensures.bytes number) in
    let a = c.args in
    let done = c.put_sheet-length.ensures in
    let sheet-is = ap (λ (m : ℕ). printed a.sizes.words a.sizes.pages m (slot_text a.sizes.pages a.sizes.words a.slot a.records.now a.maps.now)) c.at-number.ensures ∙ shown in
    export_yes a.sizes a.slot a.records.now a.numbers.now a.maps.now a.active.now a.sheet.now c.in_ok-ask_activate.ensures
    (λ l. omega (arith, l, room c.at-number.result, ap length sheet-is)) (done.length ∙ ap length sheet-is) (done.buffer ∙ ap (laid a.sheet.now 0) sheet-is)
