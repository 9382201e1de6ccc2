-- The pass over pages, then the two that rest on it.
use mathlib.Core.Path.{sym, ◌∙◌}
use Prim.Native.Nat.{ℕ}
use native.Mathlib.Omega.{arith}
use lib.ListN.{length-replicate}
use Rattle.tables.specs.Turn.{learn, first_no_holds, second_told, both}
use Rattle.tables.specs.Laws.{at_zeros}
use Rattle.rules.proofs.Marked.{not_true}
use Rattle.questions.proofs.GroupLaws.{rows_held, held_fit, imaged_fit}
use Rattle.questions.proofs.groups.files.Goals as goal

pub pages_ok-requires : goal.pages_ok-requires
pages_ok-requires c =
    let pre = c.requires in let args = c.args in (
      pre.0.within.pages,
      omega (arith, pre.0.accounts_long),
      omega (arith, pre.0.active_long),
      omega (arith, pre.0.updating_long),
      pre.0.maps_long,
      held_fit args.z args.disk.numbers.now args.payers.now args.disk.maps.now args.memory.addresses.now args.memory.states.now args.memory.owners.now args.memory.active.now args.memory.updating.now args.memory.images.now
          pre.0 pre.1,
      imaged_fit args.z args.disk.numbers.now args.payers.now args.disk.maps.now args.memory.addresses.now args.memory.states.now args.memory.owners.now args.memory.active.now args.memory.updating.now args.memory.images.now
          pre.0,
      λ s h. omega (arith, pre.4 s h, pre.0.within.accounts_most),
      pre.5,
      pre.6,
      omega (arith, length-replicate {A = ℕ} 128 0, pre.0.within.records_most),
      λ k h. at_zeros 128 k,
      omega (arith, length-replicate {A = ℕ} 128 0, pre.0.within.records_most),
      λ k h. at_zeros 128 k,
    )

pub returns-then-not-pages_ok : goal.returns-then-not-pages_ok
returns-then-not-pages_ok c =
    let pages-ok = c.pages_ok in
    (first_no_holds _ _ (sym c.if-not-pages_ok.true ∙ pages-ok.ensures.0), not_true)

pub returns : goal.returns
returns c =
    let args = c.args in let pre = c.requires in
    let pages-ok = c.pages_ok in
    let memory-slots-ok = c.memory_slots_ok in
    let records-ok = c.records_ok in
    let rows = rows_held args.z.records args.z.slots pages-ok.new.marks args.listed.now args.disk.maps.now args.memory.addresses.now args.memory.states.now args.memory.owners.now args.memory.updating.now
    (rw (← pre.0.maps_long) at (pages-ok.ensures.1 c.if-not-pages_ok.false).0) pre.3 in (
      second_told _ _ _ (learn _ (sym c.if-not-pages_ok.false ∙ pages-ok.ensures.0)) (both _ _ _ _ memory-slots-ok.ensures (records-ok.ensures ∙ rows)),
      λ e. (pages-ok.ensures.1 c.if-not-pages_ok.false).2,
    )
