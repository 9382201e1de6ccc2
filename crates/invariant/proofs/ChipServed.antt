-- A fault that finds a copy: the frame that it takes is in service as after a good read. So what holds after that fault and the good done of its read holds after it.
use mathlib.Core.Path.{◌≡◌, refl, ap, sym, ◌∙◌, subst}
use mathlib.Core.Logic.{inl, inr}
use mathlib.Core.List.{List}
use Prim.Native.Nat.{ℕ, suc, ◌/◌, ◌%◌, ◌<◌, pred}
use native.Mathlib.Nat.{mod-lt}
use native.Mathlib.Omega.{arith}
use native.Mathlib.Decide.{dec_lt, ℕ_discrete}
use lib.Dec.{T}
use lib.ListN.{length, set, get_or-eq_default}
use lib.Seq.{get_or-set_same}
use Rattle.tables.specs.Base.{at}
use Rattle.tables.specs.Laws.{not_zero}
use Rattle.tables.specs.Rule.{Rule, Holds, same}
use Rattle.tables.specs.Questions.{Asked}
use Rattle.tables.specs.Store.{store, choose, choose_ext, at_choose, length_choose}
use Rattle.model.specs.declared.sizes.Sizes.{Sizes}
use Rattle.model.specs.declared.frame.Frame.{Frame}
use Rattle.model.specs.declared.event.Page.TheVariants.{Fault, Read, Write, Wire, Unwire}
use Rattle.model.specs.declared.event.Waiting.TheVariants.{Join, Turn}
use Rattle.model.specs.declared.event.Event.{Event}
use Rattle.model.specs.declared.event.Event.TheVariants as Event
use Rattle.model.specs.Lines.{LIVE}
use Rattle.model.specs.State.{Chip, State, files, frames, frame_at, no_frame, NONE, slot_of}
use Rattle.model.specs.Setters.{on_core, set_words, set_removal_list, counted}
use Rattle.model.specs.Parts.{set_part, word_at}
use Rattle.model.specs.Questions.{Turning, nobody, serves, goes_back, faults, claims, sends_away, next_page, turning, questions}
use Rattle.model.specs.Laws.LineLaws.{Treats, faulting, treats}
use Rattle.model.specs.Chip.{place_of, found, take_copy}
use Rattle.model.specs.Pages
use Rattle.model.specs.Pages.{on_frame, fresh, fault_frame}
use Rattle.model.specs.Writeback.{record_in, read_good}
use Rattle.model.specs.Line
use Rattle.model.specs.Step as Step
use Rattle.model.specs.Step.{carried, turn_faults}
use Rattle.model.specs.Laws.Ruled.{Ruled}
use Rattle.model.specs.Laws.Fit.{Fit, ChipFit}
use Rattle.invariant.proofs.Framed.{Framed}
use Rattle.invariant.proofs.Counts.{core_framed}
use Rattle.invariant.proofs.Cases.{fault_by}
use Rattle.invariant.proofs.Freed.{set_there, set_elsewhere}
use Rattle.invariant.proofs.FramesDone.{read_good_holds}
use Rattle.invariant.proofs.Stands.{seat_at, moving_place}
use Rattle.invariant.proofs.Chip.{Sound, place_of_holds}

-- a part takes words by its places below W
part_same : (z : Sizes) (f : ℕ) (a b : ℕ → ℕ) (xs : List ℕ) → 0 < z.words → ((w : ℕ) → w < z.words → a w ≡ b w) → set_part z f a xs ≡ set_part z f b xs
unfolding store
part_same z f a b xs pos e = choose_ext (choose (length xs) t (λ k. a (k % z.words)) (at xs)) (length xs) t (λ k. b (k % z.words)) (at xs) (length_choose (length xs) t (λ k. a (k % z.words)) (at xs))
    (λ i l. elim (at_choose (length xs) t (λ k. a (k % z.words)) (at xs) i l) [ inl x ↦ inl (x.0, x.1 ∙ e (i % z.words) (mod-lt i pos)) | inr x ↦ inr x ])
  where
    t : ℕ → Rule
    t k = same (k / z.words) f

-- ── a frame that awaits the words of a record with a copy ──
-- st: the state as the event's own work leaves it; k: the chip
module _ (z : Sizes) (st : State) (fit : Fit z st) (r : Ruled z st) (k : Chip) (cf : ChipFit z k) (s : Sound z (files st).state (at st.disk.records) k) (f : ℕ) (h : Holds (found z k st f)) where
  abbrev place : ℕ
  place = place_of z k (record_in z st f)

  pub within : f < z.frames
  within = elim (dec_lt f z.frames) [
    | yes l ↦ l
    | no d ↦ absurd (omega (arith, h.0, ap (λ (g : Frame). g.transfer) (get_or-eq_default st.memory.core.frames no_frame {n = f} (rw fit.memory.frames (omega (arith, d))))))
  ]

  moving : ¬ (((frames st).frame f).transfer ≡ NONE)
  moving e = omega (arith, e, h.0)

  -- its page, whose record is live
  page : ((frames st).frame f).page ≡ suc (pred ((frames st).frame f).page)
  page = not_zero ((frames st).frame f).page (r.frames.busy f within (omega (arith, moving_place (seat_at z st r f within) moving)))

  live : (files st).state (record_in z st f) ≡ LIVE
  live = let o = (r.frames.held f within (pred ((frames st).frame f).page) page).1 h.0 in let e : record_in z st f ≡ o.0 = ap pred o.1 in ap (files st).state e ∙ o.2

  words_same : set_part z f (word_at z k.words place) st.memory.core.words ≡ set_part z f (word_at z st.disk.records (record_in z st f)) st.memory.core.words
  words_same = let o = place_of_holds z k cf (record_in z st f) h.1 in part_same z f _ _ st.memory.core.words fit.sizes.words (λ w l. s.words place o.0 (record_in z st f) o.1 live w l)

  -- In service as after a good read.
  pub as_read : on_core (take_copy z k f place) st ≡ read_good z st f
  unfolding take_copy read_good
  as_read = ap (λ (ws : List ℕ). on_core (λ c. set_removal_list (read_good z st f).memory.core.removal_list (on_frame f (λ g. fresh (pred g.page)) (set_words ws c))) st) words_same

  -- a frame that a fault has just taken is unmodified, so the counts stay
  pub read_framed : ((frames st).frame f).modified ≡ 0 → Framed z (read_good z st f)
  unfolding read_good
  read_framed m = core_framed z st (read_good z st f).memory.core fit r.counts (read_good_holds z st fit r f within moving h.0) (λ x l. elim (ℕ_discrete x f) [
    | yes e ↦ rw (e, set_there z st.memory.core.frames fit.memory.frames f within (fresh (pred ((frames st).frame f).page))) (page, m)
    | no d ↦ rw (set_elsewhere st.memory.core.frames f (fresh (pred ((frames st).frame f).page)) x d) (refl, refl)
  ])

  pub read_kept : ((frames st).frame f).modified ≡ 0 → Fit z (on_core (take_copy z k f place) st) × Ruled z (on_core (take_copy z k f place) st)
  unfolding read_good
  read_kept m = subst (λ (x : State). Fit z x × Ruled z x) (sym as_read) (let o = read_framed m in (o.lengths, record { disk = r.disk; records = r.records; queues = o.queues; frames = o.frames; counts = o.counts; line = r.line }))

-- ── the event that begins the read ──
fault_unmodified : (z : Sizes) (st : State) (s p : ℕ) → ((g : Frame) → g.modified ≡ 0 → (frame_at (set st.memory.core.frames (fault_frame st) g) (fault_frame st)).modified ≡ 0)
    → ((frames (Pages.fault z st s p)).frame (fault_frame st)).modified ≡ 0
unfolding Pages.begin_read Pages.serve_zeros Pages.take_record counted
fault_unmodified z st s p there = fault_by z st (λ x. ((frames x).frame (fault_frame st)).modified ≡ 0) s p (there _ refl) (λ r. there _ refl) (there _ refl)

module _ (z : Sizes) (st : State) where
  -- it is a fault: by itself, or a turn's
  pub record ByFault (x : State) : Type 0 where
    pub slot : ℕ
    pub page : ℕ
    pub asked : Asked (questions z st (Event.Page (Fault slot page)))
    pub is : x ≡ Pages.fault z st slot page

  pub by_fault_holds : (e : Event) → T (Step.is_fault z st e) → Asked (questions z st e) → ByFault (carried z st e)
  unfolding Step.is_fault carried Line.turn
  by_fault_holds (Event.Page (Fault s p)) t a = record { slot = s; page = p; asked = a; is = refl }
  by_fault_holds (Event.Page (Read s p w)) t a = absurd t
  by_fault_holds (Event.Page (Write s p w x)) t a = absurd t
  by_fault_holds (Event.Page (Wire s p)) t a = absurd t
  by_fault_holds (Event.Page (Unwire s p)) t a = absurd t
  by_fault_holds (Event.Waiting (Join s p)) t a = absurd t
  by_fault_holds (Event.Waiting Turn) t a = go (turning z st) (treats z st) t
    where
      go : (u : Turning) → Treats z st u → T (turn_faults u) → ByFault (Line.turned z st u)
      go nobody h t = absurd t
      go serves h t = absurd t
      go goes_back h t = absurd t
      go faults (faulting w i k) t = record { slot = slot_of z (next_page z st); page = next_page z st % z.pages; asked = k; is = refl }
      go claims h t = absurd t
      go (sends_away n) h t = absurd t
  by_fault_holds (Event.Design e) t a = absurd t
  by_fault_holds (Event.Account e) t a = absurd t
  by_fault_holds (Event.Writeback e) t a = absurd t

  -- the frame taken is unmodified then
  pub unmodified : (x : State) → ByFault x → fault_frame st < length st.memory.core.frames → ((frames x).frame (fault_frame st)).modified ≡ 0
  unmodified x b l = subst (λ (y : State). ((frames y).frame (fault_frame st)).modified ≡ 0) (sym b.is) (at_fault b.slot b.page)
    where
      there : (g : Frame) → g.modified ≡ 0 → (frame_at (set st.memory.core.frames (fault_frame st) g) (fault_frame st)).modified ≡ 0
      there g m = ap (λ (y : Frame). y.modified) (get_or-set_same st.memory.core.frames (fault_frame st) g no_frame l) ∙ m

      at_fault : (s p : ℕ) → ((frames (Pages.fault z st s p)).frame (fault_frame st)).modified ≡ 0
      at_fault s p = fault_unmodified z st s p there
