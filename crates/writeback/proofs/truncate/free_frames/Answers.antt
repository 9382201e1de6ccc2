-- `free_frames` meets its contract: each turn counts a page that is charged, and frees the frame that its entry names, where it names one.
use mathlib.Core.Bool.{Bool, ◌&&◌}
use mathlib.Core.Path.{◌≡◌, refl, ap, sym, ◌∙◌}
use mathlib.Core.List.{List, ◌++◌}
use Prim.Native.Nat.{ℕ, ◌+◌, ◌-◌, ◌*◌}
use native.Mathlib.Omega.{arith}
use lib.Dec.{leb}
use lib.ListN.{length, length-replicate, get_or-replicate}
use Rattle.tables.specs.Base.{if, count}
use Rattle.tables.specs.Laws.{count_same}
use Rattle.tables.specs.Queue.{members, packed, without}
use Rattle.tables.specs.Rule.{test}
use Rattle.model.specs.declared.frame.Frame.{Frame}
use Rattle.model.specs.State.{frame_at}
use Rattle.leaves.specs.Packed.{unpacked}
use Rattle.writeback.specs.ByPage.{charged_entry}
use Rattle.writeback.specs.Pages.{charges_from}
use Rattle.writeback.specs.Truncate.{cut_frames, cut_frame, Cutting}
use Rattle.writeback.proofs.ByPage.{charged_entry_holds}
use Rattle.writeback.proofs.Cut.{none_below, one_more, one_not}
use Rattle.writeback.proofs.CutFrames.{CutTurn, turn_starts, none_freed, push_asks, remove_asks, turn_frees, turn_leaves, in_entry, its_entry, no_entry_holds}
use Rattle.writeback.proofs.truncate.free_frames.Invariants.{counts}
use Rattle.writeback.proofs.truncate.free_frames.Goals as goal
use Rattle.writeback.proofs.truncate.free_frames.Goals.{then-is_charged, else-is_charged, then-entry-ne0, else-entry-ne0}

-- what the turns below m leave is what the pass leaves, m the pages
ended : (n pages s k : ℕ) (fs : List Frame) (fq rl : List ℕ) (ready : Cutting n pages s k fs fq rl) {m : ℕ} {q r : List ℕ} → m ≡ pages → CutTurn n pages s k fs fq rl ready m q r
    → (q ≡ packed (length fq) (members fq ++ cut_frames n pages s k fs pages)) × (r ≡ packed (length rl) (without (λ f. test (cut_frame pages s k pages (frame_at fs f))) (members rl)))
ended n pages s k fs fq rl ready e t = (
  t.so_queue ∙ ap (λ (m : ℕ). packed (length fq) (members fq ++ cut_frames n pages s k fs m)) e,
  t.so_list ∙ ap (λ (m : ℕ). packed (length rl) (without (λ f. test (cut_frame pages s k m (frame_at fs f))) (members rl))) e,
)

pub returns-then-not-any : goal.returns-then-not-any
returns-then-not-any c =
    let a = c.args in record {
      charges = sym (ap (λ (b : Bool). if b (charges_from a.sizes.frames a.sizes.pages a.slot a.k (unpacked a.frames.now) a.addresses.now a.states.now) 0) c.if-not-any.true);
      queues = ended a.sizes.frames a.sizes.pages a.slot a.k (unpacked a.frames.now) a.free_queue.now a.removal_list.now c.requires.0 refl
          (none_freed a.sizes.frames a.sizes.pages a.slot a.k (unpacked a.frames.now) a.free_queue.now a.removal_list.now c.requires.0 (c.requires.1 c.if-not-any.true) (a.sizes.pages - a.k) a.sizes.pages (omega (arith, c.requires.0.sized.from)) (omega arith));
    }

pub by_page-requires : goal.by_page-requires
by_page-requires c = (c.requires.0.sized.most, c.requires.0.sized.pages_most, c.requires.0.sized.slots_most, length-replicate {A = ℕ} 256 0, λ p h. get_or-replicate {A = ℕ} 256 p 0 0 h)

pub loop-p-init : goal.loop-p-init
loop-p-init c =
    let a = c.args in
    record {
      few = omega arith;
      counted = sym (none_below a.k (counts a.sizes.pages a.slot a.frames.now a.addresses.now a.states.now c.by_page.new.table));
      turned = λ m t r. turn_starts _ _ _ _ _ _ _ r;
    }

pub push_back-requires : goal.push_back-requires
push_back-requires c =
    let t = c.by_page.ensures in
    let a = c.args in
    push_asks a.sizes.frames a.sizes.pages a.slot a.k (unpacked a.frames.now) a.free_queue.now a.removal_list.now c.requires.0 c.loop-p.auto.p (c.loop-p.invariant.turned a.sizes.frames t c.requires.0)
    (its_entry a.sizes.frames a.sizes.pages a.slot a.k (unpacked a.frames.now) a.free_queue.now a.removal_list.now c.requires.0 t c.loop-p.p c.loop-p-test.true c.from-entry.ensures c.if-entry-ne0.true)
    (in_entry a.sizes.frames a.sizes.pages a.slot a.k (unpacked a.frames.now) a.free_queue.now a.removal_list.now c.requires.0 t c.loop-p.p c.loop-p-test.true c.from-entry.ensures c.if-entry-ne0.true)

pub remove-requires : goal.remove-requires
remove-requires c =
    let t = c.by_page.ensures in
    let a = c.args in
    remove_asks a.sizes.frames a.sizes.pages a.slot a.k (unpacked a.frames.now) a.free_queue.now a.removal_list.now c.requires.0 c.loop-p.auto.p (c.loop-p.invariant.turned a.sizes.frames t c.requires.0)
    (its_entry a.sizes.frames a.sizes.pages a.slot a.k (unpacked a.frames.now) a.free_queue.now a.removal_list.now c.requires.0 t c.loop-p.p c.loop-p-test.true c.from-entry.ensures c.if-entry-ne0.true)
    (in_entry a.sizes.frames a.sizes.pages a.slot a.k (unpacked a.frames.now) a.free_queue.now a.removal_list.now c.requires.0 t c.loop-p.p c.loop-p-test.true c.from-entry.ensures c.if-entry-ne0.true)

pub loop-p-preserved : goal.loop-p-preserved
loop-p-preserved c =
    let a = c.args in
    let told = c.is_charged.ensures ∙ ap (λ (e : ℕ). test (charged_entry e (unpacked a.frames.now) a.addresses.now a.states.now (a.slot * a.sizes.pages + c.loop-p.p))) c.from-entry.ensures in
    let counted = counts a.sizes.pages a.slot a.frames.now a.addresses.now a.states.now c.by_page.new.table in record {
      few = elim c.if-is_charged.branch [ then-is_charged v ↦ omega (arith, v.n-is) | else-is_charged v ↦ omega (arith, v.n-is) ];
      counted = elim c.if-is_charged.branch [
        | then-is_charged v ↦ v.n-is ∙ one_more a.k counted c.loop-p.auto.p c.loop-p.invariant.counted told v.if-is_charged.true
        | else-is_charged v ↦ v.n-is ∙ one_not a.k counted c.loop-p.auto.p c.loop-p.invariant.counted told v.if-is_charged.false
      ];
      turned = λ m t ready. elim c.if-entry-ne0.branch [
        | then-entry-ne0 v ↦
            turn_frees m a.sizes.pages a.slot a.k (unpacked a.frames.now) a.free_queue.now a.removal_list.now ready c.loop-p.auto.p (c.loop-p.invariant.turned m t ready)
            (its_entry m a.sizes.pages a.slot a.k (unpacked a.frames.now) a.free_queue.now a.removal_list.now ready t c.loop-p.p c.loop-p-test.true c.from-entry.ensures v.if-entry-ne0.true)
            (in_entry m a.sizes.pages a.slot a.k (unpacked a.frames.now) a.free_queue.now a.removal_list.now ready t c.loop-p.p c.loop-p-test.true c.from-entry.ensures v.if-entry-ne0.true)
            (v.free_queue-is ∙ v.push_back.ensures) (v.removal_list-is ∙ v.remove.ensures)
        | else-entry-ne0 v ↦
            turn_leaves m a.sizes.pages a.slot a.k (unpacked a.frames.now) a.free_queue.now a.removal_list.now ready c.loop-p.auto.p (c.loop-p.invariant.turned m t ready)
            (no_entry_holds m a.sizes.pages a.slot a.k (unpacked a.frames.now) a.free_queue.now a.removal_list.now ready t c.loop-p.p c.loop-p-test.true c.from-entry.ensures v.if-entry-ne0.false) v.free_queue-is v.removal_list-is
      ];
    }

pub returns : goal.returns
returns c =
    let a = c.args in
    let e : c.loop-p.p ≡ a.sizes.pages = omega arith in record {
      charges = c.loop-p.invariant.counted ∙ ap (λ (m : ℕ). count m (λ q. leb a.k q && counts a.sizes.pages a.slot a.frames.now a.addresses.now a.states.now c.by_page.new.table q)) e
          ∙ count_same a.sizes.pages _ _ (λ q h. ap (λ (t : Bool). leb a.k q && t) (charged_entry_holds a.sizes.pages a.slot (unpacked a.frames.now) c.by_page.ensures c.requires.0.placed.seated a.addresses.now a.states.now q h))
          ∙ sym (ap (λ (c : Bool). if c (charges_from a.sizes.frames a.sizes.pages a.slot a.k (unpacked a.frames.now) a.addresses.now a.states.now) 0) c.if-not-any.false);
      queues = ended a.sizes.frames a.sizes.pages a.slot a.k (unpacked a.frames.now) a.free_queue.now a.removal_list.now c.requires.0 e (c.loop-p.invariant.turned a.sizes.frames c.by_page.ensures c.requires.0);
    }
