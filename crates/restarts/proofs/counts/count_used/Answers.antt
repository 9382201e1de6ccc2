-- `count_used` meets its contract: after i entries each account has the count of those above 0 that it pays for.
use mathlib.Core.Path.{◌≡◌, ◌∙◌}
use mathlib.Core.List.{List}
use Prim.Native.Nat.{ℕ, ◌*◌, ◌/◌, ◌<◌, ◌≤◌}
use native.Mathlib.Nat.{div-lt_iff_lt-mul}
use native.Mathlib.Omega.{arith}
use lib.ListN.{length}
use Rattle.tables.specs.Base.{at}
use Rattle.tables.specs.Rule.{Holds, each, below}
use Rattle.leaves.specs.ByEntry.{filled_tab, filled_by, filled_start}
use Rattle.restarts.specs.Counts.{listed_used, used_by, used_none, used_turn, used_pass, used_room}
use Rattle.restarts.proofs.counts.count_used.Goals.{then-entry-ne0, else-entry-ne0}
use Rattle.restarts.proofs.counts.count_used.Goals as goal

-- the entry that a turn looks at: its slot is one of the slots, and the slot's account has a count
slot-inside : (pages i long : ℕ) (payers : List ℕ) → 0 < pages → long ≤ length payers * pages → i < long → i / pages < length payers
slot-inside pages i long payers p most h = (div-lt_iff_lt-mul p).1 (omega (arith, most, h))

abbrev Counting : (pages n : ℕ) (payers maps : List ℕ) → Type 0
Counting pages n payers maps = (0 < pages) × (length maps ≤ length payers * pages) × (length maps < 65536) × Holds (each (length payers) (λ s. below (at payers s) n))

counted : (pages n i : ℕ) (payers maps : List ℕ) → Counting pages n payers maps → i < length maps → at payers (i / pages) < n
counted pages n i payers maps r h = r.3 (i / pages) (slot-inside pages i (length maps) payers r.0 r.1 h)

pub loop-i-init : goal.loop-i-init
loop-i-init c =
    let a = c.args in
    filled_start _ (used_by 0 a.pages (at a.payers.now) (at a.maps.now)) (c.fill.ensures.after (λ y h. h)) c.fill.ensures.len (used_none a.pages (at a.payers.now) (at a.maps.now))

pub overflow_add-used : goal.overflow_add-used
overflow_add-used c =
    let a = c.args in
    let payer = at a.payers.now in
    let l = c.loop-i in
    let h : payer (l.i / a.pages) < length c.fill.new.self = omega (arith, c.fill.ensures.len, counted a.pages (length a.used.now) l.i a.payers.now a.maps.now c.requires (omega arith)) in
    omega (arith, c.requires.2, used_room a.pages payer (at a.maps.now) l.i l.invariant (payer (l.i / a.pages)) h)

pub loop-i-preserved : goal.loop-i-preserved
loop-i-preserved c =
    let a = c.args in
    let payer = at a.payers.now in
    let map = at a.maps.now in
    let l = c.loop-i in
    let h : payer (l.i / a.pages) < length c.fill.new.self = omega (arith, c.fill.ensures.len, counted a.pages (length a.used.now) l.i a.payers.now a.maps.now c.requires (omega arith)) in
    elim c.if-entry-ne0.branch [
      | then-entry-ne0 w ↦ filled_by (used_turn a.pages payer map l.i l.invariant h w.if-entry-ne0.true) w.used-is
      | else-entry-ne0 w ↦ filled_by (used_pass a.pages payer map l.i l.invariant w.if-entry-ne0.false) w.used-is
    ]

pub returns : goal.returns
returns c =
    let e : length c.fill.new.self ≡ length c.args.used.now = c.fill.ensures.len in
    let n : c.loop-i.i ≡ length c.args.maps.now = omega arith in
    filled_tab c.loop-i.invariant ∙ (λ x. listed_used (e x) (n x) c.args.pages (at c.args.payers.now) (at c.args.maps.now))
