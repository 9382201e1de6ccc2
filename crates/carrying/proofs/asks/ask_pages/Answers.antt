-- `ask_pages` meets its contract: the first question that fails gives its number.
use mathlib.Core.Path.{◌≡◌, ◌∙◌}
use Prim.Native.Nat.{suc, ◌+◌}
use native.Mathlib.Omega.{arith}
use Rattle.tables.specs.Base.{at}
use Rattle.tables.specs.Rule.{below, test}
use Rattle.model.specs.Payer.{payer}
use Rattle.carrying.proofs.Asking.{told_by_holds, asks_30, asks_none, asks_18, asks_19, asks_yes}
use Rattle.carrying.proofs.asks.ask_pages.Goals as goal
use Rattle.carrying.proofs.asks.ask_pages.Goals.{then-words-sizes-via-then-words-sizes, then-words-sizes-via-else-words-sizes+then-pages-sizes}

pub returns-then-words-sizes : goal.returns-then-words-sizes
returns-then-words-sizes c =
    let a = c.args in
    asks_30 a.sizes a.account a.words a.pages a.count a.free a.limits.now a.parents.now a.used.now
    (λ h. elim c.then-words-sizes.branch [ then-words-sizes-via-then-words-sizes w ↦ w.if-words-sizes.true h.0 | then-words-sizes-via-else-words-sizes+then-pages-sizes w ↦ w.if-pages-sizes.true h.1 ])

pub returns-then-count-eq0 : goal.returns-then-count-eq0
returns-then-count-eq0 c =
    let alike : ((c.args.words ≡ c.args.sizes.words) × (c.args.pages ≡ c.args.sizes.pages)) = (c.if-words-sizes.false, c.if-pages-sizes.false) in
    let a = c.args in
    asks_none a.sizes a.account a.words a.pages a.count a.free a.limits.now a.parents.now a.used.now alike c.if-count-eq0.true

pub returns-then-not-affords : goal.returns-then-not-affords
returns-then-not-affords c =
    let alike : ((c.args.words ≡ c.args.sizes.words) × (c.args.pages ≡ c.args.sizes.pages)) = (c.if-words-sizes.false, c.if-pages-sizes.false) in
    let told : (let a = c.args in let p = payer (at a.parents.now) (at a.limits.now) a.account in
    test (below (at a.used.now p + a.count) (suc (at a.limits.now p))) ≡ c.affords.result) =
    let a = c.args in
    told_by_holds a.limits.now a.parents.now a.used.now a.account _ _ _ _ _ c.payer_of-payer.ensures c.at.ensures c.at-2.ensures c.affords.ensures in
    let a = c.args in
    asks_18 a.sizes a.account a.words a.pages a.count a.free a.limits.now a.parents.now a.used.now alike c.if-count-eq0.false (told ∙ c.if-not-affords.true)

pub returns-then-free-count : goal.returns-then-free-count
returns-then-free-count c =
    let alike : ((c.args.words ≡ c.args.sizes.words) × (c.args.pages ≡ c.args.sizes.pages)) = (c.if-words-sizes.false, c.if-pages-sizes.false) in
    let told : (let a = c.args in let p = payer (at a.parents.now) (at a.limits.now) a.account in
    test (below (at a.used.now p + a.count) (suc (at a.limits.now p))) ≡ c.affords.result) =
    let a = c.args in
    told_by_holds a.limits.now a.parents.now a.used.now a.account _ _ _ _ _ c.payer_of-payer.ensures c.at.ensures c.at-2.ensures c.affords.ensures in
    let a = c.args in
    asks_19 a.sizes a.account a.words a.pages a.count a.free a.limits.now a.parents.now a.used.now alike (told ∙ c.if-not-affords.false) c.if-count-eq0.false c.if-free-count.true

pub returns : goal.returns
returns c =
    let alike : ((c.args.words ≡ c.args.sizes.words) × (c.args.pages ≡ c.args.sizes.pages)) = (c.if-words-sizes.false, c.if-pages-sizes.false) in
    let told : (let a = c.args in let p = payer (at a.parents.now) (at a.limits.now) a.account in
    test (below (at a.used.now p + a.count) (suc (at a.limits.now p))) ≡ c.affords.result) =
    let a = c.args in
    told_by_holds a.limits.now a.parents.now a.used.now a.account _ _ _ _ _ c.payer_of-payer.ensures c.at.ensures c.at-2.ensures c.affords.ensures in
    let a = c.args in
    asks_yes a.sizes a.account a.words a.pages a.count a.free a.limits.now a.parents.now a.used.now alike (told ∙ c.if-not-affords.false) (λ h. omega (arith, h, c.if-free-count.false))
