-- `format` meets its contract: the answers of questions 1 and 3.
use mathlib.Core.Path.{◌≡◌, ap, sym, ◌∙◌}
use mathlib.Core.Bool.{Bool, and_assoc, ◌&&◌}
use native.Mathlib.Omega.{arith}
use lib.Dec.{eqb}
use lib.ListN.{length}
use Rattle.tables.specs.Rule.{◌and◌, test}
use Rattle.tables.specs.Turn.{learn}
use Rattle.model.specs.Sizes.{sizes_fit}
use Rattle.model.specs.State.{Disk}
use Rattle.model.specs.Lent.{disk_of}
use Rattle.model.specs.Step.{disk_lengths, format_lengths}
use Rattle.restarts.specs.Formats.{formats_to, format_no, format_high, format_yes}
use Rattle.calls.proofs.format.Goals as goal

pub returns-then-not-disk_fit-wanted : goal.returns-then-not-disk_fit-wanted
unfolding test
returns-then-not-disk_fit-wanted c =
    let lent : Disk = let a = c.args in disk_of a.records.now a.numbers.now a.accounts.now a.maps.now a.limits.now a.parents.now a.highest.now in
    let fitting : (c.disk_fit.result && eqb (length c.args.wanted.now) c.args.sizes.accounts ≡ test (sizes_fit c.args.sizes and format_lengths c.args.sizes c.args.wanted.now lent)) = let z = c.args.sizes in let e = eqb (length c.args.wanted.now) z.accounts in
    ap (λ (b : Bool). b && e) c.disk_fit.ensures ∙ and_assoc (test (sizes_fit z)) (test (disk_lengths z lent)) e in
    format_no c.args.sizes c.args.wanted.now lent (sym c.if-not-disk_fit-wanted.true ∙ fitting)

pub parents_ok-requires : goal.parents_ok-requires
unfolding test
parents_ok-requires c =
    let lent : Disk = let a = c.args in disk_of a.records.now a.numbers.now a.accounts.now a.maps.now a.limits.now a.parents.now a.highest.now in
    let fitting : (c.disk_fit.result && eqb (length c.args.wanted.now) c.args.sizes.accounts ≡ test (sizes_fit c.args.sizes and format_lengths c.args.sizes c.args.wanted.now lent)) = let z = c.args.sizes in let e = eqb (length c.args.wanted.now) z.accounts in
    ap (λ (b : Bool). b && e) c.disk_fit.ensures ∙ and_assoc (test (sizes_fit z)) (test (disk_lengths z lent)) e in
    omega (arith, (learn (sizes_fit c.args.sizes and format_lengths c.args.sizes c.args.wanted.now lent) (sym c.if-not-disk_fit-wanted.false ∙ fitting)).1.1)

pub returns-then-not-parents_ok : goal.returns-then-not-parents_ok
unfolding test
returns-then-not-parents_ok c =
    let lent : Disk = let a = c.args in disk_of a.records.now a.numbers.now a.accounts.now a.maps.now a.limits.now a.parents.now a.highest.now in
    let fitting : (c.disk_fit.result && eqb (length c.args.wanted.now) c.args.sizes.accounts ≡ test (sizes_fit c.args.sizes and format_lengths c.args.sizes c.args.wanted.now lent)) = let z = c.args.sizes in let e = eqb (length c.args.wanted.now) z.accounts in
    ap (λ (b : Bool). b && e) c.disk_fit.ensures ∙ and_assoc (test (sizes_fit z)) (test (disk_lengths z lent)) e in
    format_high c.args.sizes c.args.wanted.now lent (sym c.if-not-disk_fit-wanted.false ∙ fitting) (sym c.if-not-parents_ok.true ∙ c.parents_ok.ensures)

pub returns : goal.returns
unfolding test
returns c =
    let lent : Disk = let a = c.args in disk_of a.records.now a.numbers.now a.accounts.now a.maps.now a.limits.now a.parents.now a.highest.now in
    let fitting : (c.disk_fit.result && eqb (length c.args.wanted.now) c.args.sizes.accounts ≡ test (sizes_fit c.args.sizes and format_lengths c.args.sizes c.args.wanted.now lent)) = let z = c.args.sizes in let e = eqb (length c.args.wanted.now) z.accounts in
    ap (λ (b : Bool). b && e) c.disk_fit.ensures ∙ and_assoc (test (sizes_fit z)) (test (disk_lengths z lent)) e in
    let e = c.format_tables.ensures in
    (λ x. formats_to 0 (disk_of (e.records x) (e.numbers x) (e.accounts x) (e.maps x) (e.limits x) (e.parents x) (e.highest x)))
    ∙ format_yes c.args.sizes c.args.wanted.now lent (sym c.if-not-disk_fit-wanted.false ∙ fitting) (sym c.if-not-parents_ok.false ∙ c.parents_ok.ensures)
