-- `import` meets its contract: the questions, then the stores, the used counts and the pool.
use mathlib.Core.Path.{sym, subst}
use Prim.Native.Nat.{ℕ}
use native.Mathlib.Omega.{arith}
use Rattle.tables.specs.Base.{at}
use Rattle.model.specs.Payer.{payer}
use Rattle.carrying.specs.Seen.{Carrying, Sheeted}
use Rattle.carrying.specs.Imports.{Tables, tables_of, Affords}
use Rattle.carrying.proofs.Passed.{import_no, passed, few, carrying, sheeted, import_yes}
use Rattle.carrying.proofs.import.import.Goals as goal

pub returns-in-Err : goal.returns-in-Err
returns-in-Err c =
    let tables : Tables =
    let a = c.args in
    tables_of a.pool a.records.now a.numbers.now a.accounts.now a.maps.now a.highest.now a.states.now a.owners.now a.free_map.now a.used.now in
    let a = c.args in
    rw c.from-answer.ensures (import_no a.sizes a.slot a.account a.number a.sheet.now a.limits.now a.parents.now tables _ c.in-Err.ensures.asked)

pub overflow_cast-account : goal.overflow_cast-account
overflow_cast-account c =
    let tables : Tables =
    let a = c.args in
    tables_of a.pool a.records.now a.numbers.now a.accounts.now a.maps.now a.highest.now a.states.now a.owners.now a.free_map.now a.used.now in
    let a = c.args in
    omega (arith, (passed a.sizes a.slot a.account a.number a.sheet.now a.limits.now a.parents.now tables c.requires c.in-Ok.ensures.asked).account, c.requires.sizes.accounts_most)

pub import_design-last-requires : goal.import_design-last-requires
import_design-last-requires c =
    let tables : Tables =
    let a = c.args in
    tables_of a.pool a.records.now a.numbers.now a.accounts.now a.maps.now a.highest.now a.states.now a.owners.now a.free_map.now a.used.now in
    let (number, count) = c.in-Ok.ensures.told in
    let a = c.args in
    let p = passed a.sizes a.slot a.account a.number a.sheet.now a.limits.now a.parents.now tables c.requires c.in-Ok.ensures.asked in (
      p.slot,
      subst (λ (n : ℕ). Carrying a.sizes a.pool.hand a.sheet.now n a.records.now a.states.now a.owners.now a.free_map.now) (sym count)
          (carrying a.sizes a.slot a.account a.number a.sheet.now a.limits.now a.parents.now tables c.requires c.in-Ok.ensures.asked),
      subst (λ (n : ℕ). Sheeted a.sizes a.sheet.now n a.maps.now) (sym count)
          (sheeted a.sizes a.slot a.account a.number a.sheet.now a.limits.now a.parents.now tables c.requires c.in-Ok.ensures.asked),
    )

pub charge-requires : goal.charge-requires
charge-requires c =
    let tables : Tables =
    let a = c.args in
    tables_of a.pool a.records.now a.numbers.now a.accounts.now a.maps.now a.highest.now a.states.now a.owners.now a.free_map.now a.used.now in
    let (number, count) = c.in-Ok.ensures.told in
    let a = c.args in
    subst (Affords a.used.now a.limits.now (payer (at a.parents.now) (at a.limits.now) a.account)) (sym count)
    (passed a.sizes a.slot a.account a.number a.sheet.now a.limits.now a.parents.now tables c.requires c.in-Ok.ensures.asked).affords

pub take_all-requires : goal.take_all-requires
take_all-requires c =
    let tables : Tables =
    let a = c.args in
    tables_of a.pool a.records.now a.numbers.now a.accounts.now a.maps.now a.highest.now a.states.now a.owners.now a.free_map.now a.used.now in
    let (number, count) = c.in-Ok.ensures.told in
    let a = c.args in
    omega (arith, count, few a.sizes a.slot a.account a.number a.sheet.now a.limits.now a.parents.now tables c.requires c.in-Ok.ensures.asked)

pub returns : goal.returns
returns c =
    let tables : Tables =
    let a = c.args in
    tables_of a.pool a.records.now a.numbers.now a.accounts.now a.maps.now a.highest.now a.states.now a.owners.now a.free_map.now a.used.now in
    let (number, count) = c.in-Ok.ensures.told in
    let a = c.args in
    let e = c.import_design-last.ensures in
    rw c.from.ensures (import_yes a.sizes a.slot a.account a.number a.sheet.now a.limits.now a.parents.now tables c.requires c.in-Ok.ensures.asked _ _ _
    count number e.last c.take_all.ensures e.records e.numbers e.accounts e.maps e.highest e.states e.owners e.map c.charge.ensures)
