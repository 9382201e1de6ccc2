-- A request in place k of the line is served or sent away within 3 × k turns, where a frame is unwired, only turns and good done reports
-- happen, and no transfer is under way as any turn starts.
use mathlib.Core.Path.{◌≡◌, refl, ap, sym, ◌∙◌, subst}
use mathlib.Core.List.{List, [], ◌∷◌, ◌++◌}
use mathlib.Core.Logic.{◌⊎◌, inl, inr}
use Prim.Native.Nat.{ℕ, zero, suc, ◌+◌, ◌*◌, ◌%◌, ◌<◌, ◌≤◌}
use native.Mathlib.Omega.{arith}
use lib.Dec.{T, eqb, ltb→lt}
use lib.ListN.{length}
use borrow.Author.Tests.{ne_eqb}
use Rattle.tables.specs.Base.{if}
use Rattle.tables.specs.Laws.{and_left, and_right}
use Rattle.tables.specs.Queue.{members, size, first, head, tail, pop}
use Rattle.tables.specs.QueueLaws.{members_pop, size_members, size_pop}
use Rattle.tables.specs.Questions.{Asked, first_no, yes_all}
use Rattle.tables.specs.Rule.{Holds, test, sound}
use Rattle.model.specs.declared.sizes.Sizes.{Sizes}
use Rattle.model.specs.declared.event.Writeback.TheVariants.{PageDone, MapDone}
use Rattle.model.specs.declared.event.Waiting.TheVariants.{Turn}
use Rattle.model.specs.declared.event.Event.{Event}
use Rattle.model.specs.declared.event.Event.TheVariants as Event
use Rattle.model.specs.State.{State, frames, page_of, slot_of, framed, Chip, files}
use Rattle.model.specs.Laws.Index.{page_again}
use Rattle.model.specs.Setters.{on_core, set_chip}
use Rattle.model.specs.Chip.{arrives, only_live}
use Rattle.model.specs.Pages.{fault_frame}
use Rattle.model.specs.Questions.{Turning, nobody, serves, goes_back, faults, claims, sends_away, next_page, next_fault, page_questions, questions, turn_questions, turning}
use Rattle.model.specs.Line
use Rattle.model.specs.Laws.LineLaws.{Treats, empty, served, back, faulting, claiming, away, treats}
use Rattle.model.specs.Step as Step
use Rattle.model.specs.Step.{Outcome, outcome, answer, result, carried, step, turn_faults, filled, whole}
use Rattle.model.specs.Laws.Own.{step_own, own_whole}
use Rattle.model.specs.Laws.Ruled.{Ruled, ruled}
use Rattle.model.specs.Laws.Fit.{Fit, fit}
use Rattle.model.specs.Turns.{Deed, turn, page_done, map_done, turns, Gone, pages_of, calm, after, calm_turns, gone, after_all, NoneRefused, Left}
use Rattle.model.specs.Terms.{Good, unwired}
use Rattle.invariant.proofs.Chip.{nothing_dropped}
use Rattle.invariant.proofs.Kept.{kept, asked_all, good_chip}
use Rattle.invariant.proofs.Never.{later}
use Rattle.invariant.proofs.LineKept.{fault_line, claim_line}
use Rattle.invariant.proofs.Nearer.{Here, Near, here, room, far, near_pos, Onward, near_on, page_done_holds, map_done_holds, fault_here, fault_unwired, claim_room, claim_unwired, none_free, listed}
use Rattle.invariant.proofs.NearerCopy.{served_on}

-- somebody waits: the first, and those behind
members_first : (q : List ℕ) → 0 < size q → members q ≡ first q ∷ members (pop q)
unfolding first head tail
members_first q h = rw members_pop (go (members q) (rw size_members at h))
  where
    go : (ms : List ℕ) → 0 < length ms → ms ≡ head ms ∷ tail ms
    go [] p = absurd (omega (arith, p))
    go (m ∷ ms) p = refl

module _ (z : Sizes) where
  -- ── a turn ──
  module _ (st : State) (g : Good z st) where
    abbrev fs : Fit z st
    fs = fit z st g.0

    abbrev r : Ruled z st
    r = ruled z st g.1

    abbrev line : List ℕ
    line = st.memory.line

    -- what a turn leaves in the chip, and in all
    abbrev Kept : Turning → Chip
    Kept t = only_live z (files (Line.turned z st t)).state st.memory.chip

    abbrev Turned : Turning → State
    Turned t = set_chip (Kept t) (on_core (λ c. if (turn_faults t) (arrives z st.memory.chip (Line.turned z st t) (fault_frame st) c) c) (Line.turned z st t))

    -- a turn's outcome by its treatment of the first request
    abbrev By : Turning → Outcome State
    By t = outcome (first_no (turn_questions z st t)) (Line.treated t) st (Turned t)

    turn_is : step z st (Event.Waiting Turn) ≡ By (turning z st)
    unfolding own_whole result whole Step.supplied Step.is_fault filled carried Line.turn Line.turn_result
    turn_is = step_own z st (Event.Waiting Turn) g.0 g.1

    by_treat : (P : Outcome State → Type 0) → ((t : Turning) → Treats z st t → P (By t)) → P (step z st (Event.Waiting Turn))
    by_treat P f = subst P (sym turn_is) (f (turning z st) (treats z st))

    module _ (u : Holds (unwired z st)) (c : Holds (calm z st)) where
      -- nobody goes to the back
      no_back : ¬ Treats z st goes_back
      no_back (back w i s) = s (λ f h e. c f h)

      -- a claim is not refused
      claim_listed : Treats z st claims → 0 < size st.memory.core.removal_list
      claim_listed (claiming w i e) = listed z st fs r u c (none_free z st fs r e)

      claims_asked : Treats z st claims → first_no (turn_questions z st claims) ≡ 0
      claims_asked t = yes_all (turn_questions z st claims) (claim_listed t, tt)

      -- a fault that is carried out had a frame
      fault_room : Treats z st faults → 0 < size st.memory.core.free_queue
      fault_room (faulting w i a) = a.1.1.1.1.1.1.0

      page_same : page_of z (slot_of z (next_page z st)) (next_page z st % z.pages) ≡ next_page z st
      page_same = page_again z fs.sizes.pages (slot_of z (next_page z st)) (next_page z st) refl

      -- no turn is refused, and a frame stays unwired
      abbrev Keeps : Outcome State → Type 0
      Keeps o = (o.answer.refusal ≡ 0) × Holds (unwired z o.left)

      turn_keeps : Keeps (step z st (Event.Waiting Turn))
      unfolding first_no
      turn_keeps = by_treat Keeps go
        where
          go : (t : Turning) → Treats z st t → Keeps (By t)
          go nobody h = (refl, u)
          go serves h = (refl, u)
          go goes_back h = absurd (no_back h)
          go faults (faulting s i a) = (refl, (served_on z st g _ _ a (Kept faults)).unwired' (fault_unwired z st fs r _ _ (fault_room (faulting s i a)) u))
          go claims h = subst (λ (n : ℕ). Keeps (outcome n 0 st (Turned claims))) (sym (claims_asked h)) (refl, claim_unwired z st fs r (claim_listed h) u)
          go (sends_away n) h = (refl, u)

      -- ── the first request leaves, or comes nearer ──
      module _ (ds : List Deed) where
        -- what has left by a turn with this outcome and what follows it
        abbrev Then : Outcome State → List Gone
        Then o = let rest = gone z o.left ds in if (eqb o.answer.result 0) rest (record { page = next_page z st; result = o.answer.result } ∷ rest)

        -- what is shown of the state after it: with k more before a request in place k + 1, and n turns to wait for the first
        abbrev Waits : State → Type 0
        Waits st' = (k n : ℕ) → Near z st' (next_page z st') n → n + 3 * k ≤ turns ds → k < size st'.memory.line → Left (suc k) (members st'.memory.line) (gone z st' ds)

        -- the first one has left: the others wait at most three turns each
        leaves : (c : Chip) (k m : ℕ) → Waits (set_chip c (Line.leaves z st)) → (m ≡ 1) ⊎ (2 < m) → 0 < size line → 3 * k ≤ turns ds → k < size line
            → Left (suc k) (members line) (record { page = next_page z st; result = m } ∷ gone z (set_chip c (Line.leaves z st)) ds)
        leaves c k m rest how w e h = rw (members_first line w) (refl, (how, go k e h))
          where
            go : (k : ℕ) → 3 * k ≤ turns ds → k < size line → Left k (members (pop line)) (gone z (set_chip c (Line.leaves z st)) ds)
            go zero e h = tt
            go (suc k) e h = rest k 3 far (omega (arith, e)) (omega (arith, h, size_pop line))

        -- it stays first, nearer by a turn
        stays : (k n : ℕ) (st' : State) → Waits st' → st'.memory.line ≡ line → Near z st' (next_page z st) n → n + 3 * k ≤ turns ds → k < size line → Left (suc k) (members line) (gone z st' ds)
        stays k n st' rest e near h l = subst (λ (q : List ℕ). Left (suc k) (members q) (gone z st' ds)) e
            (rest k n (subst (λ (q : List ℕ). Near z st' (first q) n) (sym e) near) h (subst (λ (q : List ℕ). k < size q) (sym e) l))

        turn_waits : (k n : ℕ) → Near z st (next_page z st) n → n + 3 * k ≤ suc (turns ds) → k < size line
            → Waits (step z st (Event.Waiting Turn)).left → Left (suc k) (members line) (Then (step z st (Event.Waiting Turn)))
        unfolding first_no
        turn_waits k n near h l = by_treat (λ o. Waits o.left → Left (suc k) (members line) (Then o)) go
          where
            least : 1 ≤ n
            least = near_pos z near

            -- in no frame: more than one turn to wait
            more : (¬ Holds (framed z (frames st) (next_page z st))) → 2 ≤ n
            more i = elim near as (λ m _. 2 ≤ m) [ here p ↦ absurd (i (p.0, p.1, p.2.0)) | room p ↦ omega arith | far ↦ omega arith ]

            -- and no frame free: three
            most : (¬ Holds (framed z (frames st) (next_page z st))) → (¬ (0 < size st.memory.core.free_queue)) → 3 ≤ n
            most i e = elim near as (λ m _. 3 ≤ m) [
              | here p ↦ absurd (i (p.0, p.1, p.2.0))
              | room p ↦ elim p [ inl s ↦ absurd (e s) | inr y ↦ absurd (omega (arith, y.2, c y.0 y.1)) ]
              | far ↦ omega arith
            ]

            go : (t : Turning) → Treats z st t → Waits (By t).left → Left (suc k) (members line) (Then (By t))
            go nobody (empty e) w = absurd (omega (arith, e, l))
            go serves (served s i q) w = leaves (Kept serves) k 1 w (inl refl) s (omega (arith, h, least)) l
            go goes_back q w = absurd (no_back q)
            go faults (faulting s i a) w = stays k 1 _ w ((served_on z st g _ _ a (Kept faults)).line' ∙ fault_line z st _ _)
                (here (subst (Here z (Turned faults)) page_same ((served_on z st g _ _ a (Kept faults)).here' _ (fault_here z st fs r _ _ (fault_room (faulting s i a)))))) (omega (arith, h, more i)) l
            go claims (claiming s i e) w = subst (λ (m : ℕ). Waits (outcome m 0 st (Turned claims)).left → Left (suc k) (members line) (Then (outcome m 0 st (Turned claims)))) (sym (claims_asked (claiming s i e)))
                (λ v. stays k 2 _ v (claim_line z st) (room (claim_room z st fs r (claim_listed (claiming s i e)))) (omega (arith, h, most i (none_free z st fs r e))) l) w
            go (sends_away m) (away s i _ e a b) w = rw (ne_eqb m 0 a) (leaves (Kept (sends_away m)) k m w (inr (omega (arith, ltb→lt 2 (first_no (page_questions z st (next_fault z st))) (later 2 (page_questions z st (next_fault z st)) tt (λ x. a (sym e ∙ x))), e))) s (omega (arith, h, least)) l)

  -- ── a list ──
  -- a good done report, carried out or refused
  done_on : (st : State) (g : Good z st) (e : Event) → Step.supplied z st e ≡ carried z st e → (Asked (questions z st e) → Onward z st (carried z st e)) → Onward z st (step z st e).left
  unfolding step whole
  done_on st g e q f = go (answer z st e) refl
    where
      go : (n : ℕ) → answer z st e ≡ n → Onward z st (outcome n (result z st e) st (whole z st e)).left
      go zero h = let o = subst (Onward z st) (sym q) (f (asked_all z st e h).1.1) in record { here' = o.here'; room' = o.room'; unwired' = o.unwired'; line' = o.line' }
      go (suc n) h = record { here' = λ i p. p; room' = λ p. p; unwired' = λ p. p; line' = refl }

  page_on : (st : State) (g : Good z st) (f : ℕ) → Onward z st (after z st (page_done f))
  unfolding carried Step.supplied Step.is_fault
  page_on st g f = done_on st g (Event.Writeback (PageDone f 1)) refl go
    where
      go : Asked (questions z st (Event.Writeback (PageDone f 1))) → Onward z st (carried z st (Event.Writeback (PageDone f 1)))
      go a = page_done_holds z st (fit z st g.0) (ruled z st g.1) f a.0.0 a.1.0

  map_on : (st : State) (g : Good z st) (s : ℕ) → Onward z st (after z st (map_done s))
  unfolding carried Step.supplied Step.is_fault
  map_on st g s = done_on st g (Event.Writeback (MapDone s 1)) refl go
    where
      go : Asked (questions z st (Event.Writeback (MapDone s 1))) → Onward z st (carried z st (Event.Writeback (MapDone s 1)))
      go a = map_done_holds z st (fit z st g.0) (ruled z st g.1) s

  -- what was said of the state before a good done report
  by_on : (ds : List Deed) (st st' : State) → Onward z st st' → (k n : ℕ) → Near z st (next_page z st) n → n + 3 * k ≤ turns ds → k < size st.memory.line
      → ((k n : ℕ) → Near z st' (next_page z st') n → n + 3 * k ≤ turns ds → k < size st'.memory.line → Left (suc k) (members st'.memory.line) (gone z st' ds))
      → Left (suc k) (members st.memory.line) (gone z st' ds)
  by_on ds st st' o k n near h l rest = subst (λ (q : List ℕ). Left (suc k) (members q) (gone z st' ds)) o.line'
      (rest k n (subst (λ (q : List ℕ). Near z st' (first q) n) (sym o.line') (near_on z o near)) h (subst (λ (q : List ℕ). k < size q) (sym o.line') l))

  waits : (ds : List Deed) (st : State) → Good z st → Holds (unwired z st) → T (calm_turns z st ds) → (k n : ℕ) → Near z st (next_page z st) n → n + 3 * k ≤ turns ds → k < size st.memory.line
      → Left (suc k) (members st.memory.line) (gone z st ds)
  unfolding calm_turns gone
  waits [] st g u c k n near h l = absurd (omega (arith, h, near_pos z near))
  waits (turn ∷ ds) st g u c k n near h l =
      let m = sound (calm z st) (and_left (test (calm z st)) (calm_turns z (after z st turn) ds) c) in
      turn_waits st g u m ds k n near h l (waits ds (after z st turn) (kept z st (Event.Waiting Turn) g) (turn_keeps st g u m).1 (and_right (test (calm z st)) (calm_turns z (after z st turn) ds) c))
  waits (page_done f ∷ ds) st g u c k n near h l = by_on ds st (after z st (page_done f)) (page_on st g f) k n near h l
      (waits ds (after z st (page_done f)) (kept z st (Event.Writeback (PageDone f 1)) g) ((page_on st g f).unwired' u) c)
  waits (map_done s ∷ ds) st g u c k n near h l = by_on ds st (after z st (map_done s)) (map_on st g s) k n near h l
      (waits ds (after z st (map_done s)) (kept z st (Event.Writeback (MapDone s 1)) g) ((map_on st g s).unwired' u) c)

  none_refused : (ds : List Deed) (st : State) → Good z st → Holds (unwired z st) → T (calm_turns z st ds) → NoneRefused z st ds
  unfolding calm_turns
  none_refused [] st g u c = tt
  none_refused (turn ∷ ds) st g u c =
      let k = turn_keeps st g u (sound (calm z st) (and_left (test (calm z st)) (calm_turns z (after z st turn) ds) c)) in
      (k.0, none_refused ds (after z st turn) (kept z st (Event.Waiting Turn) g) k.1 (and_right (test (calm z st)) (calm_turns z (after z st turn) ds) c))
  none_refused (page_done f ∷ ds) st g u c = none_refused ds (after z st (page_done f)) (kept z st (Event.Writeback (PageDone f 1)) g) ((page_on st g f).unwired' u) c
  none_refused (map_done s ∷ ds) st g u c = none_refused ds (after z st (map_done s)) (kept z st (Event.Writeback (MapDone s 1)) g) ((map_on st g s).unwired' u) c

-- When the tables pass 1 and 2, at least one frame is unwired, only turns and good done reports happen, and no transfer is under way as any turn starts,
-- the request standing in place k (from 1) is served or sent away within 3 × k turns.
pub served_within : (z : Sizes) (st : State) (ds : List Deed) (k : ℕ) → Good z st → Holds (unwired z st) → T (calm_turns z st ds) → 3 * k ≤ turns ds → k ≤ size st.memory.line
    → NoneRefused z st ds × Left k (members st.memory.line) (gone z st ds)
served_within z st ds zero g u c h l = (none_refused z ds st g u c, tt)
served_within z st ds (suc k) g u c h l = (none_refused z ds st g u c, waits z ds st g u c k 3 far (omega (arith, h)) (omega (arith, l)))

-- ── a result above 0 is a request that has left the line ──
-- a turn with a result above 0 takes the first request out of the line and changes nothing else
pub turn_leaves : (z : Sizes) (st : State) → Good z st → (let o = step z st (Event.Waiting Turn) in ¬ (o.answer.result ≡ 0) → o.left ≡ Line.leaves z st)
unfolding first_no
turn_leaves z st g = by_treat z st g (λ o. ¬ (o.answer.result ≡ 0) → o.left ≡ Line.leaves z st) go
  where
    claimed : (n : ℕ) → ¬ ((outcome n 0 st (Turned z st g claims)).answer.result ≡ 0) → (outcome n 0 st (Turned z st g claims)).left ≡ Line.leaves z st
    claimed zero d = absurd (d refl)
    claimed (suc n) d = absurd (d refl)

    -- no record's state changes, so no copy is dropped
    all_stay : set_chip (Kept z st g serves) (Line.leaves z st) ≡ Line.leaves z st
    all_stay = let c = good_chip z st g in
        ap (λ (k : Chip). set_chip k (Line.leaves z st)) (nothing_dropped z st.memory.chip c.fit (files st).state (λ b h q e. (c.rules.live b h q e).0))

    go : (t : Turning) → Treats z st t → ¬ ((By z st g t).answer.result ≡ 0) → (By z st g t).left ≡ Line.leaves z st
    go nobody h d = absurd (d refl)
    go serves h d = all_stay
    go goes_back h d = absurd (d refl)
    go faults h d = absurd (d refl)
    go claims h d = claimed (first_no (turn_questions z st claims)) d
    go (sends_away m) h d = all_stay

module _ (z : Sizes) where
  -- those that stood in the line are those that have left, then those that wait
  abbrev Stood : List Deed → State → Type 0
  Stood ds st = members st.memory.line ≡ pages_of (gone z st ds) ++ members (after_all z st ds).memory.line

  turn_stood : (st : State) (g : Good z st) (u : Holds (unwired z st)) (c : Holds (calm z st)) (ds : List Deed) → Stood ds (step z st (Event.Waiting Turn)).left
      → members st.memory.line ≡ pages_of (Then z st g u c ds (step z st (Event.Waiting Turn))) ++ members (after_all z (step z st (Event.Waiting Turn)).left ds).memory.line
  unfolding first_no
  turn_stood st g u c ds = by_treat z st g P go
    where
      P : Outcome State → Type 0
      P o = Stood ds o.left → members st.memory.line ≡ pages_of (Then z st g u c ds o) ++ members (after_all z o.left ds).memory.line

      here : (x : State) → x.memory.line ≡ st.memory.line → Stood ds x → members st.memory.line ≡ pages_of (gone z x ds) ++ members (after_all z x ds).memory.line
      here x e w = ap members (sym e) ∙ w

      left : (c : Chip) → 0 < size st.memory.line → (let x = set_chip c (Line.leaves z st) in Stood ds x → members st.memory.line ≡ next_page z st ∷ (pages_of (gone z x ds) ++ members (after_all z x ds).memory.line))
      left c h w = members_first st.memory.line h ∙ ap (λ (l : List ℕ). next_page z st ∷ l) w

      go : (t : Turning) → Treats z st t → P (By z st g t)
      go nobody h w = w
      go serves (served s i q) w = left (Kept z st g serves) s w
      go goes_back h w = absurd (no_back z st g u c h)
      go faults (faulting s i a) w = here _ ((served_on z st g _ _ a (Kept z st g faults)).line' ∙ fault_line z st _ _) w
      go claims h w = subst (λ (m : ℕ). P (outcome m 0 st (Turned z st g claims))) (sym (claims_asked z st g u c h)) (λ v. here _ (claim_line z st) v) w
      go (sends_away m) (away s i _ e a b) w = rw (ne_eqb m 0 a) (left (Kept z st g (sends_away m)) s w)

  stood : (ds : List Deed) (st : State) → Good z st → Holds (unwired z st) → T (calm_turns z st ds) → Stood ds st
  unfolding calm_turns gone after_all
  stood [] st g u c = refl
  stood (turn ∷ ds) st g u c =
      let m = sound (calm z st) (and_left (test (calm z st)) (calm_turns z (after z st turn) ds) c) in
      turn_stood st g u m ds (stood ds (after z st turn) (kept z st (Event.Waiting Turn) g) (turn_keeps z st g u m).1 (and_right (test (calm z st)) (calm_turns z (after z st turn) ds) c))
  stood (page_done f ∷ ds) st g u c =
      ap members (sym (page_on z st g f).line') ∙ stood ds (after z st (page_done f)) (kept z st (Event.Writeback (PageDone f 1)) g) ((page_on z st g f).unwired' u) c
  stood (map_done s ∷ ds) st g u c =
      ap members (sym (map_on z st g s).line') ∙ stood ds (after z st (map_done s)) (kept z st (Event.Writeback (MapDone s 1)) g) ((map_on z st g s).unwired' u) c

-- along such a list the requests that stood in the line are, in order, those whose turn had a result above 0, and then those that still wait
pub left_line : (z : Sizes) (st : State) (ds : List Deed) → Good z st → Holds (unwired z st) → T (calm_turns z st ds)
    → members st.memory.line ≡ pages_of (gone z st ds) ++ members (after_all z st ds).memory.line
left_line z st ds g u c = stood z ds st g u c
