-- `restart_core` meets its contract: refused by question 1 or 2, or every table set anew.
use mathlib.Core.Path.{◌≡◌, refl, sym, ◌∙◌}
use mathlib.Core.Bool.{true}
use mathlib.Core.List.{List}
use Prim.Native.Nat.{ℕ}
use Rattle.tables.specs.Rule.{test}
use Rattle.tables.specs.Turn.{learn}
use Rattle.model.specs.declared.frame.Frame.{Frame}
use Rattle.model.specs.State.{State}
use Rattle.model.specs.Rules.{disk_rules}
use Rattle.model.specs.Lent.{state_of, all_of, chip_of}
use Rattle.model.specs.Step.{all_fit}
use Rattle.model.specs.Laws.Fit.{sizes_fit_holds, fit_disk, chip_fits}
use Rattle.model.specs.Calls.{frames_of, length_frames}
use Rattle.restarts.specs.Restarts.{seen, ready}
use Rattle.restarts.specs.Answers.{fit_told, disk_told, restarted_tables, restart_unfit, restart_unruled}
use Rattle.calls.specs.Frames.{all_lent}
use Rattle.calls.specs.Lined.{no_line_zeros, no_copy_zeros}
use Rattle.calls.specs.Restarting.{restarted_lent, restart_left}
use Rattle.calls.proofs.restart_core.Goals as goal

pub returns-then-not-lent_fit : goal.returns-then-not-lent_fit
returns-then-not-lent_fit c =
    let at : List Frame → State = λ l.
    let a = c.args in
    all_of l a.pool a.records.now a.numbers.now a.accounts.now a.maps.now a.limits.now a.parents.now a.highest.now a.frame_words.now a.free_queue.now a.removal_list.now
    a.addresses.now a.states.now a.owners.now a.free_map.now a.active.now a.updating.now a.images.now a.chip_words.now a.chip_records.now a.chip_next.now a.line.now a.used.now in
    let lent : State = at (frames_of c.args.frames c.args.lent) in
    let a = c.args in
    rw c.from.ensures (restart_unfit a.sizes lent
    (sym c.if-not-lent_fit.true ∙ c.lent_fit.ensures (frames_of a.frames a.lent) a.pool (length_frames a.frames a.lent)))

pub disk_rules-requires : goal.disk_rules-requires
disk_rules-requires c =
    let at : List Frame → State = λ l.
    let a = c.args in
    all_of l a.pool a.records.now a.numbers.now a.accounts.now a.maps.now a.limits.now a.parents.now a.highest.now a.frame_words.now a.free_queue.now a.removal_list.now
    a.addresses.now a.states.now a.owners.now a.free_map.now a.active.now a.updating.now a.images.now a.chip_words.now a.chip_records.now a.chip_next.now a.line.now a.used.now in
    let lent : State = at (frames_of c.args.frames c.args.lent) in
    let fitted : (true ≡ test (all_fit c.args.sizes lent)) =
    let a = c.args in
    sym c.if-not-lent_fit.false ∙ c.lent_fit.ensures (frames_of a.frames a.lent) a.pool (length_frames a.frames a.lent) in
    let f = fit_told c.args.sizes lent fitted in
    (sizes_fit_holds c.args.sizes f.sizes, fit_disk c.args.sizes lent.disk f.disk)

pub returns-then-not-disk_rules : goal.returns-then-not-disk_rules
returns-then-not-disk_rules c =
    let at : List Frame → State = λ l.
    let a = c.args in
    all_of l a.pool a.records.now a.numbers.now a.accounts.now a.maps.now a.limits.now a.parents.now a.highest.now a.frame_words.now a.free_queue.now a.removal_list.now
    a.addresses.now a.states.now a.owners.now a.free_map.now a.active.now a.updating.now a.images.now a.chip_words.now a.chip_records.now a.chip_next.now a.line.now a.used.now in
    let lent : State = at (frames_of c.args.frames c.args.lent) in
    let fitted : (true ≡ test (all_fit c.args.sizes lent)) =
    let a = c.args in
    sym c.if-not-lent_fit.false ∙ c.lent_fit.ensures (frames_of a.frames a.lent) a.pool (length_frames a.frames a.lent) in
    rw c.from-then-not-disk_rules.ensures (restart_unruled c.args.sizes lent fitted (sym c.if-not-disk_rules.true ∙ c.disk_rules.ensures lent.memory))

pub restart_tables-requires : goal.restart_tables-requires
restart_tables-requires c =
    let at : List Frame → State = λ l.
    let a = c.args in
    all_of l a.pool a.records.now a.numbers.now a.accounts.now a.maps.now a.limits.now a.parents.now a.highest.now a.frame_words.now a.free_queue.now a.removal_list.now
    a.addresses.now a.states.now a.owners.now a.free_map.now a.active.now a.updating.now a.images.now a.chip_words.now a.chip_records.now a.chip_next.now a.line.now a.used.now in
    let lent : State = at (frames_of c.args.frames c.args.lent) in
    let fitted : (true ≡ test (all_fit c.args.sizes lent)) =
    let a = c.args in
    sym c.if-not-lent_fit.false ∙ c.lent_fit.ensures (frames_of a.frames a.lent) a.pool (length_frames a.frames a.lent) in
    let listed : (true ≡ test (disk_rules c.args.sizes lent)) = sym c.if-not-disk_rules.false ∙ c.disk_rules.ensures lent.memory in
    ready c.args.sizes lent (fit_told c.args.sizes lent fitted) (disk_told c.args.sizes lent listed)

pub returns : goal.returns
returns c =
    let at : List Frame → State = λ l.
    let a = c.args in
    all_of l a.pool a.records.now a.numbers.now a.accounts.now a.maps.now a.limits.now a.parents.now a.highest.now a.frame_words.now a.free_queue.now a.removal_list.now
    a.addresses.now a.states.now a.owners.now a.free_map.now a.active.now a.updating.now a.images.now a.chip_words.now a.chip_records.now a.chip_next.now a.line.now a.used.now in
    let lent : State = at (frames_of c.args.frames c.args.lent) in
    let fitted : (true ≡ test (all_fit c.args.sizes lent)) =
    let a = c.args in
    sym c.if-not-lent_fit.false ∙ c.lent_fit.ensures (frames_of a.frames a.lent) a.pool (length_frames a.frames a.lent) in
    let listed : (true ≡ test (disk_rules c.args.sizes lent)) = sym c.if-not-disk_rules.false ∙ c.disk_rules.ensures lent.memory in
    let top : List ℕ = c.raise_highest.new.highest in
    let after : State =
    let t = c.restart_tables in
    let a = c.args in
    let r = t.new in
    state_of (frames_of t.result.frames a.lent) t.result.pool a.records.now a.numbers.now a.accounts.now a.maps.now a.limits.now a.parents.now top
    r.words r.free_queue r.removal_list r.addresses r.states r.owners r.free_map r.active r.updating r.images r.used in
    let t = c.restart_tables in
    let a = c.args in
    let e = t.ensures in
    let beside = c.empty_beside.ensures in
    restart_left a.sizes lent after _ _ t.result.answer e.answer
    (restarted_tables a.sizes lent.disk c.raise_highest.ensures
    (restarted_lent a.sizes (seen a.accounts.now a.maps.now a.limits.now a.parents.now) t.result.frames a.lent (all_lent a.sizes at (λ l. refl) a.frames a.lent (learn (all_fit a.sizes lent) fitted)) e.frames)
    e.pool e.words e.queue e.removing e.addresses e.states e.owners e.free e.active e.updating e.images e.used)
    (beside.line ∙ no_line_zeros a.line.now (fit_told a.sizes lent fitted).memory.line)
    ((λ x. chip_of (beside.words x) (beside.copies x) (beside.next x)) ∙ no_copy_zeros a.sizes lent.memory.chip (chip_fits a.sizes lent (learn (all_fit a.sizes lent) fitted))) fitted listed
