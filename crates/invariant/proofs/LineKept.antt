-- The waiting line: every other event leaves it as it is, and joining and turns keep its rule.
use mathlib.Core.Path.{◌≡◌, refl, ◌∙◌}
use mathlib.Core.Bool.{Bool, true, false}
use mathlib.Core.List.{List, []}
use Prim.Native.Nat.{ℕ, ◌<◌, ◌%◌}
use native.Mathlib.Omega.{arith}
use lib.Dec.{eqb}
use lib.ListN.{length}
use Rattle.tables.specs.Base.{if}
use Rattle.tables.specs.Queue.{queue_of, size, first, pop, push_back}
use Rattle.tables.specs.QueueLaws.{packed_queue, queue_push_back, queue_pop, length_pop, length_push_back, size_pop, size_le, first_below}
use Rattle.tables.specs.TimesLaws.{times_nil}
use Rattle.tables.specs.Questions.{Asked}
use Rattle.tables.specs.Rule.{Holds}
use Rattle.model.specs.declared.sizes.Sizes.{Sizes}
use Rattle.model.specs.declared.event.Design.TheVariants.{Create, Delete, Activate, Deactivate}
use Rattle.model.specs.declared.event.Account.TheVariants.{Limit, Move}
use Rattle.model.specs.declared.event.Page.TheVariants.{Fault, Read, Write, Wire, Unwire}
use Rattle.model.specs.declared.event.Writeback.TheVariants.{Claim, Truncate, Update, PageDone, MapDone}
use Rattle.model.specs.declared.event.Waiting.TheVariants.{Join, Turn}
use Rattle.model.specs.declared.event.Event.{Event}
use Rattle.model.specs.declared.event.Event.TheVariants as Event
use Rattle.model.specs.State.{Disk, State, LINE, all_pages, page_of, slot_of}
use Rattle.model.specs.Setters.{set_line, counted}
use Rattle.model.specs.Laws.Index.{page_below}
use Rattle.model.specs.Questions.{Turning, nobody, serves, goes_back, faults, claims, sends_away, next_page, next_fault, turning, turn_questions, page_questions, questions}
use Rattle.model.specs.Laws.LineLaws.{Treats, back, faulting, treats}
use Rattle.model.specs.Designs
use Rattle.model.specs.Accounts
use Rattle.model.specs.Pages
use Rattle.model.specs.Writeback
use Rattle.model.specs.Line
use Rattle.model.specs.Restart as R
use Rattle.model.specs.Step.{carried}
use Rattle.model.specs.Laws.Ruled.{Ruled}
use Rattle.model.specs.Laws.Fit.{Fit}
use Rattle.invariant.proofs.Cases.{fault_by, claim_by, page_done_by}

-- the line, whichever of two states it is taken from
if_line : (b : Bool) (x y : State) {l : List ℕ} → x.memory.line ≡ l → y.memory.line ≡ l → (if b x y).memory.line ≡ l
if_line true x y p q = p
if_line false x y p q = q

-- an empty line keeps its rule
pub restarted_line : (z : Sizes) (d : Disk) → Holds (queue_of LINE (all_pages z) (R.restarted z d).memory.line)
unfolding R.restarted counted
restarted_line z d = packed_queue LINE (all_pages z) [] (omega arith) (λ x h. absurd (omega (arith, times_nil x, h)))

module _ (z : Sizes) (st : State) where
  -- ── fault, claim and dones leave the line as it is ──
  abbrev Same : State → Type 0
  Same x = x.memory.line ≡ st.memory.line

  pub fault_line : (s p : ℕ) → Same (Pages.fault z st s p)
  unfolding Pages.begin_read Pages.serve_zeros Pages.take_record counted
  fault_line s p = fault_by z st Same s p refl (λ r. refl) refl

  pub claim_line : Same (Writeback.claim z st)
  unfolding Writeback.free_frame counted
  claim_line = claim_by z st Same refl refl refl

  pub done_line : (f good : ℕ) → Same (Writeback.page_done z st f good)
  unfolding Writeback.read_good Writeback.read_failed Writeback.write_good Writeback.write_failed Writeback.free_frame counted
  done_line f good = page_done_by z st Same f good (λ t u. refl) (λ t u. refl) (λ t u. refl) (λ t u. refl)

  pub map_line : (s good : ℕ) → Same (Writeback.map_done z st s good)
  unfolding Writeback.map_done counted
  map_line s good = if_line (eqb good 1) _ _ refl refl

  -- ── what holds of a line within the sizes ──
  -- a line of the right length that keeps its rule
  abbrev pub Lined : List ℕ → Type 0
  Lined l = (length l ≡ LINE) × Holds (queue_of LINE (all_pages z) l)

  module _ (f : Fit z st) (r : Ruled z st) where
    abbrev line : List ℕ
    line = st.memory.line

    as_before : Lined line
    as_before = (f.memory.line, r.line)

    shorter : Lined (pop line)
    shorter = (length_pop line ∙ f.memory.line, queue_pop line f.memory.line r.line)

    back_again : 0 < size line → Lined (push_back (pop line) (first line))
    back_again h = (
      length_push_back (pop line) (first line) ∙ shorter.0,
      queue_push_back (pop line) shorter.0 shorter.1 (first line) (first_below line f.memory.line r.line h)
          (omega (arith, h, size_pop line, length_pop line, size_le line)),
    )

    pub joined_line : (s p : ℕ) → Asked (questions z st (Event.Waiting (Join s p))) → Lined (push_back line (page_of z s p))
    joined_line s p a = (length_push_back line (page_of z s p) ∙ f.memory.line, queue_push_back line f.memory.line r.line (page_of z s p) (page_below z f.sizes.pages s p a.0.0 a.0.1) (omega (arith, a.1.0, f.memory.line)))

    -- A turn changes the line alone, or is a fault, or is a claim: what all three leave so, a turn leaves so.
    pub by_turn : (P : State → Type 0) → ((l : List ℕ) → Lined l → P (set_line l st))
        → (Asked (page_questions z st (next_fault z st)) → P (Pages.fault z st (slot_of z (next_page z st)) (next_page z st % z.pages)))
        → (Asked (questions z st (Event.Writeback Claim)) → P (Writeback.claim z st))
        → Asked (questions z st (Event.Waiting Turn)) → P (Line.turn z st)
    unfolding Line.turn
    by_turn P quiet faulted claimed a = go (turning z st) (treats z st) a
      where
        go : (t : Turning) → Treats z st t → Asked (turn_questions z st t) → P (Line.turned z st t)
        go nobody h q = quiet line as_before
        go serves h q = quiet (pop line) shorter
        go goes_back (back w i s) q = quiet (push_back (pop line) (first line)) (back_again w)
        go faults (faulting w i k) q = faulted k
        go claims h q = claimed q
        go (sends_away n) h q = quiet (pop line) shorter

    -- ── every event keeps the rule of the line ──
    pub line_kept : (e : Event) → Asked (questions z st e) → Holds (queue_of LINE (all_pages z) (carried z st e).memory.line)
    unfolding carried counted Accounts.limit Accounts.move Designs.create Designs.delete Designs.activate Designs.deactivate Pages.read Pages.write Pages.wire Pages.unwire Writeback.truncate Writeback.update Line.join
    line_kept (Event.Account (Limit q n)) a = r.line
    line_kept (Event.Account (Move g t m)) a = r.line
    line_kept (Event.Design (Create s q n)) a = r.line
    line_kept (Event.Design (Delete s)) a = r.line
    line_kept (Event.Design (Activate s)) a = r.line
    line_kept (Event.Design (Deactivate s)) a = r.line
    line_kept (Event.Page (Fault s p)) a = rw (fault_line s p) r.line
    line_kept (Event.Page (Read s p w)) a = r.line
    line_kept (Event.Page (Write s p w x)) a = r.line
    line_kept (Event.Page (Wire s p)) a = r.line
    line_kept (Event.Page (Unwire s p)) a = r.line
    line_kept (Event.Writeback Claim) a = rw claim_line r.line
    line_kept (Event.Writeback (Truncate s k)) a = r.line
    line_kept (Event.Writeback (Update s)) a = r.line
    line_kept (Event.Writeback (PageDone k good)) a = rw (done_line k good) r.line
    line_kept (Event.Writeback (MapDone s good)) a = rw (map_line s good) r.line
    line_kept (Event.Waiting (Join s p)) a = (joined_line s p a).1
    line_kept (Event.Waiting Turn) a = by_turn (λ x. Holds (queue_of LINE (all_pages z) x.memory.line)) (λ l h. h.1) (λ k. rw (fault_line _ _) r.line) (λ k. rw claim_line r.line) a
