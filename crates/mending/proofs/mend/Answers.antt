-- `mend` meets its contract: the two questions, then the five passes, each on what the one before left.
use native.Mathlib.Omega.{arith}
use Rattle.tables.specs.Rule.{Holds}
use Rattle.tables.specs.Turn.{said_yes, said_no}
use Rattle.model.specs.Laws.Fit.{within}
use Rattle.mending.specs.Mend.{Lent}
use Rattle.mending.specs.Steps.{lent_of}
use Rattle.mending.specs.Answers.{fits, roomy, mend_unfit, mend_short, places_most, given_first, chain_none, chain_next, given_next, given_accounts, given_maps, chain_fit, chain_most, chain_all}
use Rattle.mending.proofs.mend.Goals as goal

pub returns-then-not-disk_fit : goal.returns-then-not-disk_fit
returns-then-not-disk_fit c =
    let lent : Lent = lent_of c.args.records.now c.args.numbers.now c.args.accounts.now c.args.maps.now c.args.limits.now c.args.parents.now c.args.highest.now c.args.changes.now in
    mend_unfit c.args.sizes lent (said_no (fits c.args.sizes lent) c.disk_fit.ensures c.if-not-disk_fit.true)

pub overflow_add-sizes : goal.overflow_add-sizes
overflow_add-sizes c =
    let lent : Lent = lent_of c.args.records.now c.args.numbers.now c.args.accounts.now c.args.maps.now c.args.limits.now c.args.parents.now c.args.highest.now c.args.changes.now in
    let f = said_yes (fits c.args.sizes lent) c.disk_fit.ensures c.if-not-disk_fit.false in
    let w = within c.args.sizes f.0 in
    omega (arith, w.pages_most)

pub overflow_mul-sizes : goal.overflow_mul-sizes
overflow_mul-sizes c =
    let lent : Lent = lent_of c.args.records.now c.args.numbers.now c.args.accounts.now c.args.maps.now c.args.limits.now c.args.parents.now c.args.highest.now c.args.changes.now in
    let f = said_yes (fits c.args.sizes lent) c.disk_fit.ensures c.if-not-disk_fit.false in
    let w = within c.args.sizes f.0 in
    omega (arith, places_most c.args.sizes w)

pub overflow_mul-sizes-2 : goal.overflow_mul-sizes-2
overflow_mul-sizes-2 c =
    let lent : Lent = lent_of c.args.records.now c.args.numbers.now c.args.accounts.now c.args.maps.now c.args.limits.now c.args.parents.now c.args.highest.now c.args.changes.now in
    let f = said_yes (fits c.args.sizes lent) c.disk_fit.ensures c.if-not-disk_fit.false in
    let w = within c.args.sizes f.0 in
    omega (arith, places_most c.args.sizes w)

pub returns-then-changes-sizes : goal.returns-then-changes-sizes
returns-then-changes-sizes c =
    let lent : Lent = lent_of c.args.records.now c.args.numbers.now c.args.accounts.now c.args.maps.now c.args.limits.now c.args.parents.now c.args.highest.now c.args.changes.now in
    mend_short c.args.sizes lent (said_yes (fits c.args.sizes lent) c.disk_fit.ensures c.if-not-disk_fit.false) (λ h. h c.if-changes-sizes.true)

pub empty_doubled-first-requires : goal.empty_doubled-first-requires
empty_doubled-first-requires c =
    let lent : Lent = lent_of c.args.records.now c.args.numbers.now c.args.accounts.now c.args.maps.now c.args.limits.now c.args.parents.now c.args.highest.now c.args.changes.now in
    let z = c.args.sizes in
    let l = lent in
    let f = said_yes (fits z l) c.disk_fit.ensures c.if-not-disk_fit.false in
    let r : Holds (roomy z l) = λ h. omega (arith, h, c.if-changes-sizes.false) in
    given_first z l f r

pub empty_unfilled-second-requires : goal.empty_unfilled-second-requires
empty_unfilled-second-requires c =
    let lent : Lent = lent_of c.args.records.now c.args.numbers.now c.args.accounts.now c.args.maps.now c.args.limits.now c.args.parents.now c.args.highest.now c.args.changes.now in
    let z = c.args.sizes in
    let l = lent in
    let f = said_yes (fits z l) c.disk_fit.ensures c.if-not-disk_fit.false in
    let r : Holds (roomy z l) = λ h. omega (arith, h, c.if-changes-sizes.false) in
    let c0 = chain_none z l f in
    let c1 = chain_next z l f 0 c0 c.empty_doubled-first.ensures in
    given_next z l f r c1

pub fit_accounts-third-requires : goal.fit_accounts-third-requires
fit_accounts-third-requires c =
    let lent : Lent = lent_of c.args.records.now c.args.numbers.now c.args.accounts.now c.args.maps.now c.args.limits.now c.args.parents.now c.args.highest.now c.args.changes.now in
    let z = c.args.sizes in
    let l = lent in
    let f = said_yes (fits z l) c.disk_fit.ensures c.if-not-disk_fit.false in
    let r : Holds (roomy z l) = λ h. omega (arith, h, c.if-changes-sizes.false) in
    let c0 = chain_none z l f in
    let c1 = chain_next z l f 0 c0 c.empty_doubled-first.ensures in
    let c2 = chain_next z l f 1 c1 c.empty_unfilled-second.ensures in
    given_accounts z l f r c2

pub fit_entries-fourth-requires : goal.fit_entries-fourth-requires
fit_entries-fourth-requires c =
    let lent : Lent = lent_of c.args.records.now c.args.numbers.now c.args.accounts.now c.args.maps.now c.args.limits.now c.args.parents.now c.args.highest.now c.args.changes.now in
    let z = c.args.sizes in
    let l = lent in
    let f = said_yes (fits z l) c.disk_fit.ensures c.if-not-disk_fit.false in
    let r : Holds (roomy z l) = λ h. omega (arith, h, c.if-changes-sizes.false) in
    let c0 = chain_none z l f in
    let c1 = chain_next z l f 0 c0 c.empty_doubled-first.ensures in
    let c2 = chain_next z l f 1 c1 c.empty_unfilled-second.ensures in
    let c3 = chain_next z l f 2 c2 (c.fit_accounts-third.ensures _ _) in
    given_maps z l f r c3

pub drop_shared-fifth-requires : goal.drop_shared-fifth-requires
drop_shared-fifth-requires c =
    let lent : Lent = lent_of c.args.records.now c.args.numbers.now c.args.accounts.now c.args.maps.now c.args.limits.now c.args.parents.now c.args.highest.now c.args.changes.now in
    let z = c.args.sizes in
    let l = lent in
    let f = said_yes (fits z l) c.disk_fit.ensures c.if-not-disk_fit.false in
    let r : Holds (roomy z l) = λ h. omega (arith, h, c.if-changes-sizes.false) in
    let c0 = chain_none z l f in
    let c1 = chain_next z l f 0 c0 c.empty_doubled-first.ensures in
    let c2 = chain_next z l f 1 c1 c.empty_unfilled-second.ensures in
    let c3 = chain_next z l f 2 c2 (c.fit_accounts-third.ensures _ _) in
    let c4 = chain_next z l f 3 c3 (c.fit_entries-fourth.ensures _ _) in
    (given_maps z l f r c4, chain_fit z l f c4)

pub overflow_cast-result : goal.overflow_cast-result
overflow_cast-result c =
    let lent : Lent = lent_of c.args.records.now c.args.numbers.now c.args.accounts.now c.args.maps.now c.args.limits.now c.args.parents.now c.args.highest.now c.args.changes.now in
    let z = c.args.sizes in
    let l = lent in
    let f = said_yes (fits z l) c.disk_fit.ensures c.if-not-disk_fit.false in
    let r : Holds (roomy z l) = λ h. omega (arith, h, c.if-changes-sizes.false) in
    let c0 = chain_none z l f in
    let c1 = chain_next z l f 0 c0 c.empty_doubled-first.ensures in
    let c2 = chain_next z l f 1 c1 c.empty_unfilled-second.ensures in
    let c3 = chain_next z l f 2 c2 (c.fit_accounts-third.ensures _ _) in
    let c4 = chain_next z l f 3 c3 (c.fit_entries-fourth.ensures _ _) in
    let c5 = chain_next z l f 4 c4 (c.drop_shared-fifth.ensures _ _) in
    omega (arith, chain_most z l f c5)

pub returns : goal.returns
returns c =
    let lent : Lent = lent_of c.args.records.now c.args.numbers.now c.args.accounts.now c.args.maps.now c.args.limits.now c.args.parents.now c.args.highest.now c.args.changes.now in
    let z = c.args.sizes in
    let l = lent in
    let f = said_yes (fits z l) c.disk_fit.ensures c.if-not-disk_fit.false in
    let r : Holds (roomy z l) = λ h. omega (arith, h, c.if-changes-sizes.false) in
    let c0 = chain_none z l f in
    let c1 = chain_next z l f 0 c0 c.empty_doubled-first.ensures in
    let c2 = chain_next z l f 1 c1 c.empty_unfilled-second.ensures in
    let c3 = chain_next z l f 2 c2 (c.fit_accounts-third.ensures _ _) in
    let c4 = chain_next z l f 3 c3 (c.fit_entries-fourth.ensures _ _) in
    let c5 = chain_next z l f 4 c4 (c.drop_shared-fifth.ensures _ _) in
    chain_all z l f r c5
