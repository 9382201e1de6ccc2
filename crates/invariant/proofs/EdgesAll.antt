-- Edges 1, 2, 3, 4 and 6 of the paper for all sizes and states: what `Edges` computes at one size, proved.
use mathlib.Core.Path.{◌≡◌, refl, ap, sym, ◌∙◌}
use mathlib.Core.List.{List, [], ◌∷◌, ◌++◌, append_assoc, append-nil, map}
use mathlib.Core.Logic.{inl, inr}
use Prim.Native.Nat.{ℕ, zero, suc, ◌+◌, ◌-◌, ◌<◌, ◌≤◌}
use native.Mathlib.Omega.{arith}
use native.Mathlib.Decide.{ℕ_discrete}
use lib.Dec.{T, leb, leb→le, ltb→lt}
use lib.ListN.{length, length-append}
use lib.Seq.{ext_get_or, get_or-set_other}
use Rattle.tables.specs.Base.{if, tab}
use Rattle.tables.specs.Laws.{and_left, if_true, if_false, at_tab0, length_tab}
use Rattle.tables.specs.TabLaws.{tab_entries}
use Rattle.tables.specs.ThoseLaws.{those_none}
use Rattle.tables.specs.TimesLaws.{times_nil, times_cons, times_here, times_other, times_append, without_same}
use Rattle.tables.specs.Queue.{members, times, size, packed, without}
use Rattle.tables.specs.QueueLaws.{size_members, members_within, packed_members}
use Rattle.tables.specs.Questions.{Questions, Asked, ask, first_no, yes_all}
use Rattle.tables.specs.Rule.{Rule, Holds, ◌and◌, test, sound}
use Rattle.tables.specs.Store.{store, choose_none}
use Rattle.model.specs.declared.sizes.Sizes.{Sizes}
use Rattle.model.specs.declared.frame.Frame.{Frame}
use Rattle.model.specs.declared.event.Event.{Event}
use Rattle.model.specs.declared.event.Event.TheVariants as Event
use Rattle.model.specs.declared.event.Design.TheVariants.{Create}
use Rattle.model.specs.declared.event.Page.TheVariants.{Read}
use Rattle.model.specs.declared.event.Writeback.TheVariants.{Claim, Truncate}
use Rattle.model.specs.Lines.{RELEASED}
use Rattle.model.specs.Sizes.{sizes_fit}
use Rattle.model.specs.State.{Chip, State, files, frames, frame_at, no_frame, READING, page_of, framed, free_count, free_word, used_of, map_words}
use Rattle.model.specs.Setters.{on_core, on_held, set_frames, set_free_queue, set_removal_list, set_addresses, set_states, set_free_map, set_free, set_used, set_chip, counted}
use Rattle.model.specs.Parts.{frame_of, from_page, word_at}
use Rattle.model.specs.Laws.Index.{place_below}
use Rattle.model.specs.Questions.{questions}
use Rattle.model.specs.Pages
use Rattle.model.specs.Writeback
use Rattle.model.specs.Writeback.{look, looking, warm, cooled, cut_frame, cut_frames, cut_record}
use Rattle.model.specs.Laws.LookLaws.{cool, cool_at}
use Rattle.model.specs.Laws.Ruled.{Ruled, ruled, once_list, chip_ruled}
use Rattle.model.specs.Laws.Fit.{Fit, fit, chip_fits}
use Rattle.model.specs.Step.{Outcome, carried, result, step, is_fault, supplied, filled, whole}
use Rattle.model.specs.Laws.Own.{refusal, completed, first_yes, first_no_holds, step_own}
use Rattle.model.specs.Laws.OwnLaws.{whole_no, whole_yes}
use Rattle.model.specs.Laws.EveryCall.{Call, sizes_in, lengths, outcome_of, later, later_above, refused_unchanged}
use Rattle.model.specs.Terms.{Good, Present}
use Rattle.model.specs.Chip.{only_live}
use Rattle.invariant.proofs.Chip.{nothing_dropped}
use Rattle.invariant.proofs.Never as Never

-- ── question 1 of the sizes, for every call ──
unfit : (c : Call) → ¬ (Holds (sizes_fit (sizes_in c))) → (outcome_of c).answer.refusal ≡ 1
unfit c h = (refused_unchanged c).first ∙ first_no_holds 1 (sizes_fit (sizes_in c) and lengths c) (later c) (λ k. h k.0)

fits : (c : Call) → Holds (sizes_fit (sizes_in c)) → Holds (lengths c) → ¬ ((outcome_of c).answer.refusal ≡ 1)
fits c h l e =
    let q : first_no (later c) ≡ 1 = sym (first_yes 1 (sizes_fit (sizes_in c) and lengths c) (later c) (h, l)) ∙ sym (refused_unchanged c).first ∙ e in
    omega (arith, q, ltb→lt 1 (first_no (later c)) (Never.later 1 (later c) (later_above c) (λ n. omega (arith, n, q))))

-- ── an event by its own questions ──
module _ (z : Sizes) (st : State) (g : Good z st) (e : Event) where
  accepted : Asked (questions z st e) → step z st e ≡ completed (result z st e) (whole z st e)
  accepted a = step_own z st e g.0 g.1 ∙ sym (whole_yes z st e 0 (sym (yes_all (questions z st e) a)) refl)

  -- its first question is 3, and fails
  refused3 : (r : Rule) (q : Questions) → questions z st e ≡ ask 3 r q → ¬ (Holds r) → step z st e ≡ refusal 3 st
  refused3 r q p h = step_own z st e g.0 g.1 ∙ sym (whole_no z st e 3 (sym (ap first_no p ∙ first_no_holds 3 r q h)) (omega arith))

-- ── claim ──
-- the entries xs are warm and those of ys, which follow, are not: one look for each of xs, and one more
look_all : (xs ys : List ℕ) (k n : ℕ) (fs : List Frame) → length xs < k → 0 < length xs + length ys → ((x : ℕ) → times xs x ≤ 1)
    → ((x : ℕ) → 0 < times xs x → T (warm (frame_at fs x))) → ((x : ℕ) → 0 < times ys x → ¬ (T (warm (frame_at fs x)))) → (look k n fs (xs ++ ys)).looks ≡ suc (n + length xs)
unfolding look
look_all xs ys zero n fs h g o w c = absurd (omega arith)
look_all [] [] (suc k) n fs h g o w c = absurd (omega arith)
look_all [] (y ∷ ys) (suc k) n fs h g o w c = ap (λ (l : Writeback.Looked). l.looks) (if_false (warm (frame_at fs y)) _ _ (c y (rw times_here (omega arith)))) ∙ omega arith
look_all (x ∷ xs) ys (suc k) n fs h g o w c =
    ap (λ (l : Writeback.Looked). l.looks) (if_true (warm (frame_at fs x)) _ _ (w x (rw times_here (omega arith))))
    ∙ ap (λ (l : List ℕ). (look k (suc n) (cool fs x) l).looks) (append_assoc xs ys (x ∷ []))
    ∙ look_all xs (ys ++ x ∷ []) k (suc n) (cool fs x) (omega arith) (rw length-append (omega arith)) (λ y. omega (arith, times_cons x xs y, o y)) warm_still cold
    ∙ omega arith
  where
    -- the entry looked at stands nowhere else
    other : (y : ℕ) → 0 < times xs y → ¬ (y ≡ x)
    other y l e = omega (arith, o x, times_here xs x, rw e at l)

    warm_still : (y : ℕ) → 0 < times xs y → T (warm (frame_at (cool fs x) y))
    warm_still y l = rw (get_or-set_other fs x y (cooled (frame_at fs x)) no_frame (other y l)) (w y (omega (arith, times_cons x xs y)))

    cold : (y : ℕ) → 0 < times (ys ++ x ∷ []) y → ¬ (T (warm (frame_at (cool fs x) y)))
    cold y l t = elim (cool_at fs x y) [
      | inl e ↦ rw e at t
      | inr e ↦ c y (omega (arith, times_append ys (x ∷ []) y, times_other x [] y e.0, times_nil y, l)) (rw e.1 at t)
    ]

claim_looks : (z : Sizes) (st : State) → Good z st → 0 < size st.memory.core.removal_list → ((f : ℕ) → 0 < times (members st.memory.core.removal_list) f → T (warm ((frames st).frame f)))
    → (step z st (Event.Writeback Claim)).answer ≡ record { refusal = 0; result = size st.memory.core.removal_list + 1 }
unfolding result looking
claim_looks z st g h w = ap (λ (o : Outcome State). o.answer) (accepted z st g (Event.Writeback Claim) (h, tt)) ∙ ap (λ (n : ℕ). record { refusal = 0; result = n }) looks
  where
    list : List ℕ
    list = st.memory.core.removal_list

    r : Ruled z st
    r = ruled z st g.1

    once : (x : ℕ) → times (members list) x ≤ 1
    once x = elim (ℕ_discrete (times (members list) x) 0) [
      | yes e ↦ omega arith
      | no e ↦ once_list z st r x (members_within list (fit z st g.0).memory.removal_list r.queues.removal_list x (omega arith))
    ]

    looks : (looking z st).looks ≡ size list + 1
    looks =
        ap (λ (l : List ℕ). (look (suc (length (members list))) 0 st.memory.core.frames l).looks) (sym (append-nil (members list)))
        ∙ look_all (members list) [] (suc (length (members list))) 0 st.memory.core.frames (omega arith) (omega (arith, size_members list, h)) once w (λ x l. absurd (omega (arith, times_nil x)))
        ∙ omega (arith, size_members list)

-- ── read ──
read_inside : (z : Sizes) (st : State) → Good z st → (s p w : ℕ) → Present z st s p → w < z.words
    → (step z st (Event.Page (Read s p w))).answer ≡ record { refusal = 0; result = word_at z st.memory.core.words (frame_of z (frames st) (page_of z s p)) w }
unfolding result Pages.word_read
read_inside z st g s p w i h = ap (λ (o : Outcome State). o.answer) (accepted z st g (Event.Page (Read s p w)) ((i.slot, (i.page, h)), (i.filled, (i.active, (i.framed, (i.arrived, tt))))))

-- ── truncate to N ──
counted_same : (z : Sizes) (st : State) → Fit z st → Ruled z st → counted z st ≡ st
unfolding counted
counted_same z st f r = λ i. set_used (used i) (on_held (λ h. set_free (free i) (set_free_map (map i) h)) st)
  where
    used : tab z.accounts (used_of z (files st) (frames st)) 0 ≡ st.memory.used
    used = sym (tab_entries z.accounts (used_of z (files st) (frames st)) st.memory.used f.memory.used r.counts.used)

    free : free_count z (files st).state ≡ st.memory.held.pool.free
    free = sym r.counts.free

    map : tab (map_words z) (free_word z (files st).state) 0 ≡ st.memory.held.free_map
    map = sym (tab_entries (map_words z) (free_word z (files st).state) st.memory.held.free_map f.memory.free_map r.counts.free_map)

module _ (z : Sizes) (st : State) (f : Fit z st) (r : Ruled z st) (s : ℕ) where
  -- no page is from N up
  none : (i : ℕ) → ¬ (Holds (from_page z s z.pages i))
  none i h = h.1 (place_below z f.sizes.pages i)

  uncut : (x : ℕ) → ¬ (T (test (cut_frame z st s z.pages x)))
  uncut x t = let c = sound (cut_frame z st s z.pages x) t in none c.0 c.2

  frames_same : tab (length st.memory.core.frames) (λ x. if (test (cut_frame z st s z.pages x)) no_frame (frame_at st.memory.core.frames x)) 0 ≡ st.memory.core.frames
  frames_same = let fs = st.memory.core.frames in ext_get_or no_frame _ fs (length_tab (length fs) _ 0) (λ x h. at_tab0 (length fs) _ x no_frame (rw length_tab at h) ∙ if_false (test (cut_frame z st s z.pages x)) no_frame (frame_at fs x) (uncut x))

  cut_none : cut_frames z st s z.pages ≡ []
  unfolding cut_frames
  cut_none = ap (map (λ p. frame_of z (frames st) (page_of z s p))) (those_none z.pages _ 0 (λ p a h t. omega (arith, h, leb→le z.pages p (and_left (leb z.pages p) _ t))))

  queue_same : packed (length st.memory.core.free_queue) (members st.memory.core.free_queue ++ cut_frames z st s z.pages) ≡ st.memory.core.free_queue
  queue_same = let q = st.memory.core.free_queue in
      rw (cut_none, append-nil, f.memory.free_queue) (packed_members q f.memory.free_queue r.queues.free_queue)

  list_same : packed (length st.memory.core.removal_list) (without (λ x. test (cut_frame z st s z.pages x)) (members st.memory.core.removal_list)) ≡ st.memory.core.removal_list
  list_same = let q = st.memory.core.removal_list in
      rw (without_same (λ x. test (cut_frame z st s z.pages x)) (members q) (λ x h. uncut x), f.memory.removal_list) (packed_members q f.memory.removal_list r.queues.removal_list)

  addresses_same : store st.memory.held.addresses (from_page z s z.pages) (λ i. 0) ≡ st.memory.held.addresses
  unfolding store
  addresses_same = sym (choose_none st.memory.held.addresses (from_page z s z.pages) (λ i. 0) none)

  states_same : store st.memory.held.states (cut_record z st s z.pages) (λ q. RELEASED) ≡ st.memory.held.states
  unfolding store
  states_same = sym (choose_none st.memory.held.states (cut_record z st s z.pages) (λ q. RELEASED) (λ q h. none h.0 h.2.0))

  truncated_same : Writeback.truncate z st s z.pages ≡ st
  unfolding Writeback.truncate
  truncated_same = ap (counted z) (λ i. on_held (λ h. set_addresses (addresses_same i) (set_states (states_same i) h))
      (on_core (λ c. set_free_queue (queue_same i) (set_removal_list (list_same i) (set_frames (frames_same i) c))) st)) ∙ counted_same z st f r

truncate_all : (z : Sizes) (st : State) → Good z st → (s : ℕ) → s < z.slots → ¬ ((files st).number s ≡ 0) → (files st).active s ≡ 1 → step z st (Event.Writeback (Truncate s z.pages)) ≡ completed 0 st
unfolding whole supplied is_fault filled carried result
truncate_all z st g s h n a =
    accepted z st g (Event.Writeback (Truncate s z.pages)) ((h, omega arith), (n, (a, (λ p l k. absurd (k l), (λ p l k. absurd (k l), tt)))))
    ∙ ap (completed 0) (ap (λ (x : State). set_chip (only_live z (files x).state st.memory.chip) x) (truncated_same z st (fit z st g.0) (ruled z st g.1) s)
    ∙ ap (λ (k : Chip). set_chip k st) (nothing_dropped z st.memory.chip (chip_fits z st g.0) (files st).state (λ b l q e. ((chip_ruled z st g.1).live b l q e).0)))

-- ── the edges ──
pub record EdgesAll : Type 0 where
  -- 1. R = 0 gives 1; 1 and 4,096 pass; 4,097 gives 1. Every call; sizes outside their limits, R or another, and sizes within them.
  e1_none : (c : Call) → (sizes_in c).records ≡ 0 → (outcome_of c).answer.refusal ≡ 1
  e1_more : (c : Call) → 4096 < (sizes_in c).records → (outcome_of c).answer.refusal ≡ 1
  e1_outside : (c : Call) → ¬ (Holds (sizes_fit (sizes_in c))) → (outcome_of c).answer.refusal ≡ 1
  e1_within : (c : Call) → Holds (sizes_fit (sizes_in c)) → Holds (lengths c) → ¬ ((outcome_of c).answer.refusal ≡ 1)
  -- 2. create with number 0 gives 3.
  e2 : (z : Sizes) (st : State) → Good z st → (s q : ℕ) → step z st (Event.Design (Create s q 0)) ≡ refusal 3 st
  -- 3. word W−1 is read; word W gives 3.
  e3_last : (z : Sizes) (st : State) → Good z st → (s p : ℕ) → Present z st s p
      → (step z st (Event.Page (Read s p (z.words - 1)))).answer ≡ record { refusal = 0; result = word_at z st.memory.core.words (frame_of z (frames st) (page_of z s p)) (z.words - 1) }
  e3_past : (z : Sizes) (st : State) → Good z st → (s p w : ℕ) → z.words ≤ w → step z st (Event.Page (Read s p w)) ≡ refusal 3 st
  -- 4. truncate to N changes nothing; N+1 gives 3.
  e4_all : (z : Sizes) (st : State) → Good z st → (s : ℕ) → s < z.slots → ¬ ((files st).number s ≡ 0) → (files st).active s ≡ 1 → step z st (Event.Writeback (Truncate s z.pages)) ≡ completed 0 st
  e4_past : (z : Sizes) (st : State) → Good z st → (s k : ℕ) → z.pages < k → step z st (Event.Writeback (Truncate s k)) ≡ refusal 3 st
  -- 6. claim, one entry, initial on: 2 looks. n entries, all used: n+1. Each of them used or initial.
  e6 : (z : Sizes) (st : State) → Good z st → 0 < size st.memory.core.removal_list → ((f : ℕ) → 0 < times (members st.memory.core.removal_list) f → T (warm ((frames st).frame f)))
      → (step z st (Event.Writeback Claim)).answer ≡ record { refusal = 0; result = size st.memory.core.removal_list + 1 }

pub edges_all : EdgesAll
edges_all = record {
  e1_none = λ c e. unfit c (λ h. omega (arith, e, h.1.0.0));
  e1_more = λ c l. unfit c (λ h. omega (arith, l, h.1.0.1));
  e1_outside = unfit;
  e1_within = fits;
  e2 = λ z st g s q. refused3 z st g (Event.Design (Create s q 0)) _ _ refl (λ h. omega (arith, h.1.1));
  e3_last = λ z st g s p i. read_inside z st g s p (z.words - 1) i (omega (arith, (fit z st g.0).sizes.words));
  e3_past = λ z st g s p w l. refused3 z st g (Event.Page (Read s p w)) _ _ refl (λ h. omega (arith, l, h.1.1));
  e4_all = truncate_all;
  e4_past = λ z st g s k l. refused3 z st g (Event.Writeback (Truncate s k)) _ _ refl (λ h. omega (arith, l, h.1));
  e6 = claim_looks;
}
