-- The disk's passes are its rules, whatever memory holds.
use mathlib.Core.Path.{◌∙◌}
use Prim.Native.Nat.{ℕ}
use native.Mathlib.Omega.{arith}
use lib.ListN.{length-replicate}
use Rattle.tables.specs.Laws.{at_zeros}
use Rattle.model.specs.State.{Disk}
use Rattle.model.specs.Laws.Fit.{within, disk_fit}
use Rattle.model.specs.Lent.{disk_of}
use Rattle.questions.specs.Groups.{DiskLong}
use Rattle.questions.proofs.DiskLaw.{disk_told}
use Rattle.questions.proofs.question2.disk_rules.Goals as goal

pub disk-requires : goal.disk-requires
disk-requires c =
    let lent : Disk = let a = c.args in disk_of a.disk.records.now a.disk.numbers.now a.disk.accounts.now a.disk.maps.now a.disk.limits.now a.disk.parents.now a.disk.highest.now in
    let long : (let d = lent in DiskLong c.args.z d.numbers d.accounts d.maps d.parents) =
    let f = disk_fit c.args.z lent c.requires.1 in
    record { within = within c.args.z c.requires.0; numbers_long = f.numbers; accounts_long = f.accounts; maps_long = f.maps; parents_long = f.parents } in
    let pre = c.requires in let args = c.args in
    (long, omega (arith, length-replicate {A = ℕ} 128 0, (within args.z pre.0).records_most), λ k h. at_zeros 128 k)

pub returns : goal.returns
returns c =
    let lent : Disk = let a = c.args in disk_of a.disk.records.now a.disk.numbers.now a.disk.accounts.now a.disk.maps.now a.disk.limits.now a.disk.parents.now a.disk.highest.now in
    let long : (let d = lent in DiskLong c.args.z d.numbers d.accounts d.maps d.parents) =
    let f = disk_fit c.args.z lent c.requires.1 in
    record { within = within c.args.z c.requires.0; numbers_long = f.numbers; accounts_long = f.accounts; maps_long = f.maps; parents_long = f.parents } in
    let args = c.args in
    λ m. c.disk.ensures.0 ∙ disk_told args.z (record { disk = lent; memory = m }) long
