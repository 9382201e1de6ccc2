-- Subject by subject; the counts decide at the end.
use mathlib.Core.Path.{◌≡◌, sym, ◌∙◌}
use mathlib.Core.List.{List}
use Prim.Native.Nat.{ℕ, ◌<◌, ◌≤◌}
use native.Mathlib.Omega.{arith}
use lib.ListN.{length, take, length-replicate}
use Rattle.tables.specs.Base.{at}
use Rattle.tables.specs.Turn.{learn}
use Rattle.tables.specs.Laws.{at_zeros}
use Rattle.model.specs.declared.sizes.Sizes.{Sizes}
use Rattle.model.specs.State.{State, all_pages, files, frame_at}
use Rattle.model.specs.Laws.Ruled.{OnDisk}
use Rattle.leaves.specs.Packed.{unpacked}
use Rattle.leaves.specs.Payers.{Paying, paying, paying_below}
use Rattle.model.specs.Laws.Fit.{Fit}
use Rattle.model.specs.Laws.Apart.{fit_apart}
use Rattle.model.specs.Laws.Bounds.{pages_most}
use Rattle.model.specs.Lent.{tables_read}
use Rattle.questions.proofs.Shapes.{all_zero}
use Rattle.questions.proofs.DiskLaw.{on_disk_holds}
use Rattle.questions.proofs.RulesLaw.{disk_long, files_long, frames_long, counts_long, no_disk, no_files, no_frames, counts_decide, empty_line, frames_taken, sums_small}
use Rattle.questions.proofs.question2.all_rules.Goals as goal

-- once the disk rules are kept, the table of who pays for each slot
module _ (z : Sizes) (st : State) (payers : List ℕ) (lent : Fit z st) (told : Paying st payers) where
  enough : z.slots ≤ length payers
  enough = omega (arith, told.long, lent.sizes.slots_most)

  few : OnDisk z (files st) → (x : ℕ) → x < length payers → at payers x < z.accounts
  few kept = paying_below z st lent.disk.accounts kept.account_fit_holds lent.sizes.accounts payers told

pub disk-requires : goal.disk-requires
disk-requires c =
    let lent : State =
    let a = c.args in
    tables_read (take a.count (unpacked a.frames.now)) a.pool a.disk a.memory in
    let fits : Fit c.args.z lent = fit_apart c.args.z lent c.requires in
    (disk_long c.args.z lent fits, omega (arith, length-replicate {A = ℕ} 128 0, fits.sizes.records_most), λ k h. at_zeros 128 k)

pub returns-then-not-disk : goal.returns-then-not-disk
returns-then-not-disk c =
    let lent : State =
    let a = c.args in
    tables_read (take a.count (unpacked a.frames.now)) a.pool a.disk a.memory in
    let fits : Fit c.args.z lent = fit_apart c.args.z lent c.requires in
    no_disk c.args.z lent fits (sym c.if-not-disk.true ∙ c.disk.ensures.0)

pub fill_payers-requires : goal.fill_payers-requires
fill_payers-requires c =
    let lent : State =
    let a = c.args in
    tables_read (take a.count (unpacked a.frames.now)) a.pool a.disk a.memory in
    let fits : Fit c.args.z lent = fit_apart c.args.z lent c.requires in
    (omega (arith, length-replicate {A = ℕ} 64 0, fits.disk.accounts, fits.sizes.slots_most), λ k h. at_zeros 64 k)

pub files-requires : goal.files-requires
files-requires c =
    let lent : State =
    let a = c.args in
    tables_read (take a.count (unpacked a.frames.now)) a.pool a.disk a.memory in
    let fits : Fit c.args.z lent = fit_apart c.args.z lent c.requires in
    let held = learn _ (sym c.if-not-disk.false ∙ c.disk.ensures.0) in
    let payers = c.fill_payers.new.table in
    let told : Paying lent payers = paying lent payers _ (length-replicate {A = ℕ} 64 0) c.fill_payers.ensures in
    let kept : OnDisk c.args.z (files lent) = on_disk_holds c.args.z lent (disk_long c.args.z lent fits) held in
    (files_long c.args.z lent fits payers (enough c.args.z lent payers fits told), held.0.0, omega (arith, fits.sizes.records_most), c.disk.ensures.1 c.if-not-disk.false, λ x h. few c.args.z lent payers fits told kept x (omega (arith, h, enough c.args.z lent payers fits told)), length-replicate {A = ℕ} 16 0, all_zero 16)

pub returns-then-not-files : goal.returns-then-not-files
returns-then-not-files c =
    let lent : State =
    let a = c.args in
    tables_read (take a.count (unpacked a.frames.now)) a.pool a.disk a.memory in
    let fits : Fit c.args.z lent = fit_apart c.args.z lent c.requires in
    no_files c.args.z lent fits (sym c.if-not-files.true ∙ c.files.ensures.0)

pub frames-requires : goal.frames-requires
frames-requires c =
    let lent : State =
    let a = c.args in
    tables_read (take a.count (unpacked a.frames.now)) a.pool a.disk a.memory in
    let fits : Fit c.args.z lent = fit_apart c.args.z lent c.requires in
    let held = learn _ (sym c.if-not-disk.false ∙ c.disk.ensures.0) in
    let payers = c.fill_payers.new.table in
    let told : Paying lent payers = paying lent payers _ (length-replicate {A = ℕ} 64 0) c.fill_payers.ensures in
    let kept : OnDisk c.args.z (files lent) = on_disk_holds c.args.z lent (disk_long c.args.z lent fits) held in
    let files = c.files in
    let st = lent in (
      frames_long c.args.z st fits payers (enough c.args.z lent payers fits told),
      rw fits.memory.addresses (learn _ (sym c.if-not-files.false ∙ files.ensures.0)).0.1.0,
      few c.args.z lent payers fits told kept,
      files.auto.totals ∙ length-replicate {A = ℕ} 16 0,
      sums_small c.args.z.slots c.args.z.pages payers st.memory.slots.active st.disk.maps st.memory.held.addresses st.memory.held.states files.new.totals (omega (arith, pages_most c.args.z fits.sizes)) (files.ensures.1 c.if-not-files.false),
    )

pub returns-then-not-frames : goal.returns-then-not-frames
returns-then-not-frames c =
    let lent : State =
    let a = c.args in
    tables_read (take a.count (unpacked a.frames.now)) a.pool a.disk a.memory in
    let fits : Fit c.args.z lent = fit_apart c.args.z lent c.requires in
    let same : (f : ℕ) → f < c.args.z.frames → frame_at (unpacked c.args.frames.now) f ≡ frame_at lent.memory.core.frames f = frames_taken c.args.z.frames c.args.count (unpacked c.args.frames.now) fits.memory.frames in
    no_frames c.args.z lent fits (frame_at (unpacked c.args.frames.now)) same (sym c.if-not-frames.true ∙ c.frames.ensures.0)

pub counts-requires : goal.counts-requires
counts-requires c =
    let lent : State =
    let a = c.args in
    tables_read (take a.count (unpacked a.frames.now)) a.pool a.disk a.memory in
    let fits : Fit c.args.z lent = fit_apart c.args.z lent c.requires in
    (counts_long c.args.z lent fits, omega (arith, fits.sizes.accounts_most))

pub returns : goal.returns
returns c =
    let lent : State =
    let a = c.args in
    tables_read (take a.count (unpacked a.frames.now)) a.pool a.disk a.memory in
    let fits : Fit c.args.z lent = fit_apart c.args.z lent c.requires in
    let same : (f : ℕ) → f < c.args.z.frames → frame_at (unpacked c.args.frames.now) f ≡ frame_at lent.memory.core.frames f = frames_taken c.args.z.frames c.args.count (unpacked c.args.frames.now) fits.memory.frames in
    let payers = c.fill_payers.new.table in
    let told : Paying lent payers = paying lent payers _ (length-replicate {A = ℕ} 64 0) c.fill_payers.ensures in
    let frames = c.frames in
    let files = c.files in
    counts_decide c.args.z lent fits (frame_at (unpacked c.args.frames.now)) same payers told files.new.totals frames.new.totals _ (empty_line (all_pages c.args.z))
    (learn _ (sym c.if-not-disk.false ∙ c.disk.ensures.0)) (learn _ (sym c.if-not-files.false ∙ files.ensures.0)) (learn _ (sym c.if-not-frames.false ∙ frames.ensures.0)) (files.ensures.1 c.if-not-files.false) (frames.ensures.1 c.if-not-frames.false) c.counts.ensures
