-- The invariant: the pages of the slots before s keep their rules, what they hold and list is marked, and the used ones are counted.
use mathlib.Core.Path.{◌≡◌, refl, sym, ◌∙◌}
use Prim.Native.Nat.{ℕ, ◌+◌, ◌*◌, ◌<◌, ◌≤◌}
use native.Mathlib.Omega.{arith}
use lib.ListN.{length}
use Rattle.tables.specs.Base.{at}
use Rattle.tables.specs.Laws.{count_bound}
use Rattle.tables.specs.Turn.{none}
use Rattle.rules.specs.Passes.{most_entries, used_page}
use Rattle.rules.proofs.Entries.{part}
use Rattle.rules.proofs.Marked.{start, not_true}
use Rattle.rules.proofs.ByRow.{no_row, no_image, row_more, rows_done, rows_marked, to_next, from_none, few_slots}
use Rattle.rules.proofs.Tally.{totals_start, totals_few, totals_next, totals_end}
use Rattle.rules.proofs.rows.pages_ok.Goals as goal

-- the row of the slot that a turn looks at is in the tables,
in_row : (s slots pages len : ℕ) → s < slots → len ≡ slots * pages → s * pages + pages ≤ len
in_row s slots pages len h long = part s slots pages len h (omega (arith, long))

-- and the slot's number is small
few : (s slots pages len : ℕ) → 0 < pages → s < slots → len ≡ slots * pages → len ≤ most_entries → s < 16384
few s slots pages len room h long small = few_slots s slots pages room h (omega (arith, long, small))

pub loop-s-init : goal.loop-s-init
loop-s-init c =
    let pre = c.requires in let args = c.args in (
      none _,
      from_none _ _ _ _ _ _ (start _ _ _ _ _ refl pre.10 pre.11),
      from_none _ _ _ _ _ _ (start _ _ _ _ _ refl pre.12 pre.13),
      totals_start args.pages args.accounts.now args.active.now args.maps.now args.addresses.now args.states.now _ _ pre.8 pre.9,
    )

pub row_ok-requires : goal.row_ok-requires
row_ok-requires c =
    let loop = c.loop-s in
    (in_row c.loop-s.s c.args.slots c.args.pages (length c.args.maps.now) c.loop-s-test.true c.requires.4, c.requires.5, rw loop.invariant.1.sized loop.invariant.1)

pub returns-in_default : goal.returns-in_default
returns-in_default c =
    let args = c.args in (
      no_row args.slots args.pages args.records args.active.now args.updating.now args.maps.now args.addresses.now args.images.now args.states.now args.owners.now
          c.loop-s.s c.loop-s-test.true c.in_default.ensures.told,
      not_true,
    )

pub image_ok-requires : goal.image_ok-requires
image_ok-requires c =
    let loop = c.loop-s in let pre = c.requires in
    (omega (arith, in_row c.loop-s.s c.args.slots c.args.pages (length c.args.maps.now) c.loop-s-test.true c.requires.4, pre.5.addresses_long), pre.6, rw loop.invariant.2.sized loop.invariant.2)

pub returns-then-not-image_ok : goal.returns-then-not-image_ok
returns-then-not-image_ok c =
    let image-ok = c.image_ok in
    let args = c.args in (
      no_image args.slots args.pages args.records args.active.now args.updating.now args.maps.now args.addresses.now args.images.now args.states.now args.owners.now
          c.loop-s.s c.loop-s-test.true (sym c.if-not-image_ok.true ∙ image-ok.ensures.0),
      not_true,
    )

pub offset_bounds-accounts-s : goal.offset_bounds-accounts-s
offset_bounds-accounts-s c = omega (arith, few c.loop-s.s c.args.slots c.args.pages (length c.args.maps.now) c.requires.0 c.loop-s-test.true c.requires.4 c.requires.5.few)

pub overflow_add-totals : goal.overflow_add-totals
overflow_add-totals c =
    let loop = c.loop-s in
    let args = c.args in
    let few-totals = totals_few args.pages args.accounts.now args.active.now args.maps.now args.addresses.now args.states.now _ _ _ loop.invariant.3 (at args.accounts.now loop.s) (c.requires.7 c.loop-s.s c.loop-s-test.true) in
    let few-used = count_bound args.pages
    (λ p. used_page (at args.active.now loop.s) (at args.maps.now (loop.s * args.pages + p)) (at args.addresses.now (loop.s * args.pages + p)) (at args.states.now)) in
    omega (arith, few-totals, c.in-Some.ensures.counted, few-used, in_row c.loop-s.s c.args.slots c.args.pages (length c.args.maps.now) c.loop-s-test.true c.requires.4, c.requires.5.few)

pub loop-s-preserved : goal.loop-s-preserved
loop-s-preserved c =
    let image-ok = c.image_ok in
    let loop = c.loop-s in
    let args = c.args in (
      row_more args.slots args.pages args.records args.active.now args.updating.now args.maps.now args.addresses.now args.images.now args.states.now args.owners.now
          loop.s loop.invariant.0 c.in-Some.ensures.told (sym c.if-not-image_ok.false ∙ image-ok.ensures.0),
      to_next _ _ _ _ _ loop.s args.pages (rw loop.invariant.1.sized at c.in-Some.ensures.marked),
      to_next _ _ _ _ _ loop.s args.pages (rw loop.invariant.2.sized at (image-ok.ensures.1 c.if-not-image_ok.false)),
      totals_next args.pages args.accounts.now args.active.now args.maps.now args.addresses.now args.states.now c.requires.0 _ _ _
          loop.invariant.3 c.loop-s-test.true _ (c.requires.7 c.loop-s.s c.loop-s-test.true) c.in-Some.ensures.counted,
    )

pub returns : goal.returns
returns c =
    let loop = c.loop-s in let loop-test = c.loop-s-test in
    let args = c.args in
    let end : loop.s ≡ args.slots = omega (arith, loop-test.false, loop.invariant.3.within) in (
      rows_done args.slots args.pages args.records args.active.now args.updating.now args.maps.now args.addresses.now args.images.now args.states.now args.owners.now
          loop.s loop.invariant.0 loop.invariant.1 loop.invariant.2 loop-test.false loop.invariant.3.within,
      λ e. (
        rows_marked args.records _ (at args.addresses.now) _ loop.marks loop.s args.slots args.pages loop.invariant.1 end,
        rows_marked args.records _ (at args.images.now) _ loop.image_marks loop.s args.slots args.pages loop.invariant.2 end,
        totals_end args.pages args.accounts.now args.active.now args.maps.now args.addresses.now args.states.now _ _ _ loop.invariant.3 loop-test.false,
      ),
    )
