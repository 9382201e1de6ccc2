-- A fault over all tables: what it requires once questions 1 and 2 said yes, the counts that it leaves, and its outcome.
use mathlib.Core.Path.{◌≡◌, refl, ap, sym, ◌∙◌, subst}
use mathlib.Core.Bool.{Bool, true, false, ◌&&◌}
use mathlib.Core.Logic.{inl, inr}
use mathlib.Core.List.{List}
use Prim.Native.Nat.{ℕ, suc, ◌-◌, ◌*◌, ◌<◌}
use native.Mathlib.Omega.{arith}
use native.Mathlib.Nat.{suc_inj}
use native.Mathlib.Decide.{ℕ_discrete}
use lib.Dec.{T}
use lib.ListN.{length, set}
use lib.Seq.{get_or-set_same, get_or-set_other}
use borrow.Author.Tests.{eq-eqb, ne_eqb}
use Rattle.tables.specs.Base.{if, at}
use Rattle.tables.specs.Queue.{first}
use Rattle.tables.specs.QueueLaws.{first_below, first_once}
use Rattle.tables.specs.Questions.{Asked, first_no, all_yes}
use Rattle.tables.specs.Rule.{Holds, same, test, sound, alike}
use Rattle.model.specs.declared.sizes.Sizes.{Sizes}
use Rattle.model.specs.declared.frame.Frame.{Frame}
use Rattle.model.specs.declared.frame.Pool.{Pool}
use Rattle.model.specs.declared.event.Answer.{Answer}
use Rattle.model.specs.declared.event.Event.{Event}
use Rattle.model.specs.declared.event.Page.TheVariants as Page
use Rattle.model.specs.Lines.{FREE, NULLED, LIVE}
use Rattle.model.specs.State.{Core, Held, State, Files, Frames, files, frames, frame_at, page_of, all_pages, live, charged, payer, free_count}
use Rattle.model.specs.Setters.{counted}
use Rattle.model.specs.Laws.Index.{page_below}
use Rattle.model.specs.Questions.{questions}
use Rattle.model.specs.Pages as Pages
use Rattle.model.specs.Lent.{state_in, same_state}
use Rattle.model.specs.Step.{Outcome, carried, result}
use Rattle.model.specs.Laws.Own.{own, refusal, leaves}
use Rattle.model.specs.Laws.OwnLaws.{done, own_no, own_yes}
use Rattle.model.specs.Laws.Ruled.{once_free}
use Rattle.leaves.specs.Counts.{used_counts, counts_same, free_less}
use Rattle.leaves.specs.FreeMap.{free_map_table, free_map_clear}
use Rattle.pages.specs.Seen.{seen_fault}
use Rattle.pages.specs.Needs.{Seats, Queued, Pooled}
use Rattle.pages.specs.Faults.{goes, taken, cleared, FaultLeft}
use Rattle.pages.proofs.Holding.{chosen_free, chosen_below}
use Rattle.dispatch.specs.Kept.{Kept}
use Rattle.dispatch.proofs.Charges.{within, woven_same, counts_alike, used_table_holds, map_table}
use Rattle.dispatch.proofs.PageLaws.{served_ready}

-- a state's tables but the counts
record Tables (t : State) (fs : List Frame) (hand : ℕ) (words queue list addresses states owners : List ℕ) : Type 0 where
  the_frames : fs ≡ t.memory.core.frames
  the_hand : hand ≡ t.memory.held.pool.hand
  the_words : words ≡ t.memory.core.words
  the_queue : queue ≡ t.memory.core.free_queue
  the_list : list ≡ t.memory.core.removal_list
  the_addresses : addresses ≡ t.memory.held.addresses
  the_states : states ≡ t.memory.held.states
  the_owners : owners ≡ t.memory.held.owners

-- the three ways of a fault
module _ (z : Sizes) (st : State) (s p : ℕ) where
  abbrev reading : State
  reading = Pages.begin_read z st (page_of z s p) (Pages.fault_frame st)

  abbrev taking : State
  taking = Pages.serve_zeros z (Pages.take_record z st (page_of z s p) (taken z st s p)) (page_of z s p) (Pages.fault_frame st)

  abbrev serving : State
  serving = Pages.serve_zeros z st (page_of z s p) (Pages.fault_frame st)

  abbrev by_way : Bool → Bool → State
  by_way a b = if a reading (if b taking serving)

module _ (z : Sizes) (st : State) (k : Kept z st) where
  abbrev core : Core
  core = st.memory.core

  abbrev held : Held
  held = st.memory.held

  pub queued_ready : Queued z core.free_queue core.removal_list
  queued_ready = record {
    free_long = k.fits.memory.free_queue;
    free_packed = k.rules.queues.free_queue;
    list_long = k.fits.memory.removal_list;
    list_packed = k.rules.queues.removal_list;
    apart = λ f h. omega (arith, k.rules.frames.in_one_place_holds f h);
  }

  pub pooled_ready : Pooled z held.pool held.states held.free_map
  pooled_ready = record { hand = k.rules.counts.hand; free = k.rules.counts.free; long = k.fits.memory.free_map; bits = k.rules.counts.free_map }

  pub fault_ready : Seats z core.frames × Queued z core.free_queue core.removal_list × (length core.words ≡ z.frames * z.words) × Pooled z held.pool held.states held.free_map
  fault_ready = (served_ready z st k, queued_ready, k.fits.memory.words, pooled_ready)

  module _ (s p : ℕ) where
    abbrev faults : Event
    faults = Event.Page (Page.Fault s p)

    abbrev i : ℕ
    i = page_of z s p

    abbrev v : Files
    v = files st

    abbrev c : Frames
    c = frames st

    module _ (ok : Asked (questions z st faults)) where
      abbrev f : ℕ
      f = first core.free_queue

      inside : f < z.frames
      inside = first_below core.free_queue k.fits.memory.free_queue k.rules.queues.free_queue ok.1.1.1.1.1.1.0

      -- the first queued frame has no page
      bare : (frame_at core.frames f).page ≡ 0
      bare = (k.rules.frames.free f inside (λ h. omega (arith, h, first_once core.free_queue k.fits.memory.free_queue k.rules.queues.free_queue (once_free z st k.rules) ok.1.1.1.1.1.1.0))).0

      in_pages : i < all_pages z
      in_pages = page_below z k.fits.sizes.pages s p ok.0.0 ok.0.1

      -- ── the page is in frame f then, unmodified: as before no page is charged by it ──
      module _ (g : Frame) (off : g.modified ≡ 0) where
        woven_as : (j : ℕ) → test (within z.frames core.frames j) ≡ test (within z.frames (set core.frames f g) j)
        woven_as j = woven_same z.frames core.frames f g (rw k.fits.memory.frames inside) j (λ h. absurd (omega (arith, h.0, bare))) (λ h. absurd (omega (arith, h.1, off)))

      -- ── the record taken ──
      module _ (some : 0 < held.pool.free) where
        abbrev r : ℕ
        r = taken z st s p

        was_free : at held.states r ≡ FREE
        was_free = chosen_free z held.pool held.addresses held.states held.free_map (page_of z s p) k.fits.sizes pooled_ready some

        below : r < z.records
        below = chosen_below z held.pool held.addresses held.states held.free_map (page_of z s p) k.fits.sizes pooled_ready

        abbrev new : List ℕ
        new = set held.states r NULLED

        now_nulled : at new r ≡ NULLED
        now_nulled = get_or-set_same held.states r NULLED 0 (rw k.fits.memory.states below)

        states_other : (x : ℕ) → ¬ (x ≡ r) → at held.states x ≡ at new x
        states_other x d = sym (get_or-set_other held.states r x NULLED 0 d)

        free_then : held.pool.free - 1 ≡ free_count z (at new)
        free_then = omega (arith, free_less z (at held.states) (at new) r below states_other was_free (λ h. omega (arith, h, now_nulled)), k.rules.counts.free)

        map_then : cleared held.free_map r ≡ free_map_table z (at new)
        map_then = ap (λ (m : List ℕ). cleared m r) (map_table z st k) ∙ free_map_clear z r below (at held.states) (at new) states_other was_free (λ h. omega (arith, h, now_nulled))

        -- no page is live that was not: this one had no address, and its record is nulled then
        lives_as : v.address i ≡ 0 → (j : ℕ) → test (live v j) ≡ test (live (files (taking z st s p)) j)
        unfolding Pages.serve_zeros Pages.take_record
        lives_as none j = alike (live v j) (live (files (taking z st s p)) j)
            (λ (x, a, l). (x, get_or-set_other held.addresses i j (suc r) 0 (λ e. omega (arith, sym (ap (at held.addresses) e) ∙ a, none)) ∙ a, sym (states_other x (λ e. let y : at held.states r ≡ LIVE = sym (ap (at held.states) e) ∙ l in omega (arith, y, was_free))) ∙ l))
            (λ (x, a, l). let q : ¬ (x ≡ r) = λ e. let y : at new r ≡ LIVE = sym (ap (at new) e) ∙ l in omega (arith, y, now_nulled) in
            elim (ℕ_discrete j i) [
              | yes e ↦ absurd (q (suc_inj (sym a ∙ ap (at (set held.addresses i (suc r))) e ∙ get_or-set_same held.addresses i (suc r) 0 (rw k.fits.memory.addresses in_pages))))
              | no e ↦ (x, sym (get_or-set_other held.addresses i j (suc r) 0 e) ∙ a, states_other x q ∙ l)
            ])

      -- ── the counts by the way ──
      module _ (a b : Bool) (ea : test (live v i) ≡ a) (eb : test (same (v.address i) 0) ≡ b) where
        is_none : T b → v.address i ≡ 0
        is_none x = sound (same (v.address i) 0) (subst T (sym eb) x)

        is_live_holds : T a → Holds (live v i)
        is_live_holds x = sound (live v i) (subst T (sym ea) x)

        enough : T b → 0 < held.pool.free
        enough x = elim ok.1.1.1.1.1.0 [ inl u ↦ absurd (u (is_none x)) | inr u ↦ u ]

      used_then_holds : (a b : Bool) → test (live v i) ≡ a → test (same (v.address i) 0) ≡ b → st.memory.used ≡ used_counts z (files (by_way z st s p a b)) (frames (by_way z st s p a b))
      unfolding Pages.begin_read Pages.serve_zeros Pages.take_record Pages.fault_frame charged payer
      used_then_holds true b ea eb = used_table_holds z st k ∙ counts_same z v v c (frames (reading z st s p)) (λ x. refl) (λ j h. counts_alike z v v c (frames (reading z st s p)) j refl refl refl (woven_as (Pages.awaiting i) refl j))
      used_then_holds false true ea eb = used_table_holds z st k ∙ counts_same z v (files (taking z st s p)) c (frames (taking z st s p)) (λ x. refl)
          (λ j h. counts_alike z v (files (taking z st s p)) c (frames (taking z st s p)) j refl refl (lives_as (enough false true ea eb tt) (is_none false true ea eb tt) j) (woven_as (Pages.fresh i) refl j))
      used_then_holds false false ea eb = used_table_holds z st k ∙ counts_same z v v c (frames (serving z st s p)) (λ x. refl) (λ j h. counts_alike z v v c (frames (serving z st s p)) j refl refl refl (woven_as (Pages.fresh i) refl j))

      free_by : (a b : Bool) → test (live v i) ≡ a → test (same (v.address i) 0) ≡ b → if b (held.pool.free - 1) held.pool.free ≡ free_count z (files (by_way z st s p a b)).state
      unfolding Pages.begin_read Pages.serve_zeros Pages.take_record
      free_by true true ea eb = absurd (let l = is_live_holds true true ea eb tt in omega (arith, l.1, is_none true true ea eb tt))
      free_by true false ea eb = k.rules.counts.free
      free_by false true ea eb = free_then (enough false true ea eb tt)
      free_by false false ea eb = k.rules.counts.free

      map_by : (a b : Bool) → test (live v i) ≡ a → test (same (v.address i) 0) ≡ b → if b (cleared held.free_map (taken z st s p)) held.free_map ≡ free_map_table z (files (by_way z st s p a b)).state
      unfolding Pages.begin_read Pages.serve_zeros Pages.take_record
      map_by true true ea eb = absurd (let l = is_live_holds true true ea eb tt in omega (arith, l.1, is_none true true ea eb tt))
      map_by true false ea eb = map_table z st k
      map_by false true ea eb = map_then (enough false true ea eb tt)
      map_by false false ea eb = map_table z st k

    -- ── the outcome ──
    -- the tables that a fault sees
    abbrev sees : State
    sees = seen_fault core.frames held.pool st.disk.numbers core.words core.free_queue core.removal_list held.addresses held.states held.owners held.free_map
        st.memory.slots.active

    on : first_no (questions z st faults) ≡ 0 → goes z sees s p ≡ true
    unfolding goes
    on h = eq-eqb (first_no (questions z st faults)) 0 h

    off : ¬ (first_no (questions z st faults) ≡ 0) → goes z sees s p ≡ false
    unfolding goes
    off h = ne_eqb (first_no (questions z st faults)) 0 h

    -- all tables, with those new that a fault changes
    abbrev left : List Frame → Pool → List ℕ → List ℕ → List ℕ → List ℕ → List ℕ → List ℕ → List ℕ → State
    left fs pool ws fq rl ads ss os fm =
        state_in st.memory.chip st.memory.line fs pool st.disk.records st.disk.numbers st.disk.accounts st.disk.maps st.disk.limits st.disk.parents st.disk.highest ws fq rl ads ss os fm st.memory.slots.active st.memory.slots.updating st.memory.slots.images st.memory.used

    module _ {fs : List Frame} (pool : Pool) {ws fq rl ads ss os fm : List ℕ} where
      -- carried out, by the way
      fault_by : Asked (questions z st faults) → (a b : Bool) → test (live v i) ≡ a → test (same (v.address i) 0) ≡ b → Tables (counted z (by_way z sees s p a b)) fs pool.hand ws fq rl ads ss os
          → pool.free ≡ if b (held.pool.free - 1) held.pool.free → fm ≡ if b (cleared held.free_map (taken z st s p)) held.free_map
          → left fs pool ws fq rl ads ss os fm ≡ counted z (by_way z st s p a b)
      unfolding Pages.begin_read Pages.serve_zeros Pages.take_record Pages.fault_frame counted
      fault_by ok a b ea eb t n m = go a b t (n ∙ free_by ok a b ea eb) (m ∙ map_by ok a b ea eb) (used_then_holds ok a b ea eb)
        where
          go : (a b : Bool) → Tables (counted z (by_way z sees s p a b)) fs pool.hand ws fq rl ads ss os → pool.free ≡ free_count z (files (by_way z st s p a b)).state → fm ≡ free_map_table z (files (by_way z st s p a b)).state
              → st.memory.used ≡ used_counts z (files (by_way z st s p a b)) (frames (by_way z st s p a b)) → left fs pool ws fq rl ads ss os fm ≡ counted z (by_way z st s p a b)
          go true b t n m u = same_state t.the_frames (λ x. record { hand = t.the_hand x; free = n x }) refl refl refl refl refl refl refl t.the_words t.the_queue t.the_list t.the_addresses t.the_states t.the_owners m refl refl refl u
          go false true t n m u = same_state t.the_frames (λ x. record { hand = t.the_hand x; free = n x }) refl refl refl refl refl refl refl t.the_words t.the_queue t.the_list t.the_addresses t.the_states t.the_owners m refl refl refl u
          go false false t n m u = same_state t.the_frames (λ x. record { hand = t.the_hand x; free = n x }) refl refl refl refl refl refl refl t.the_words t.the_queue t.the_list t.the_addresses t.the_states t.the_owners m refl refl refl u

      -- refused
      fault_none : Tables sees fs pool.hand ws fq rl ads ss os → pool.free ≡ held.pool.free → fm ≡ held.free_map → left fs pool ws fq rl ads ss os fm ≡ st
      fault_none t n m = same_state t.the_frames (λ x. record { hand = t.the_hand x; free = n x }) refl refl refl refl refl refl refl t.the_words t.the_queue t.the_list t.the_addresses t.the_states t.the_owners m refl refl refl refl

      module _ (l : FaultLeft z sees s p fs pool ws fq rl ads ss os fm) where
        tables : {o : Outcome State} → own z sees faults ≡ o → Tables o.left fs pool.hand ws fq rl ads ss os
        tables o = record {
          the_frames = l.frames ∙ (λ y. (o y).left.memory.core.frames);
          the_hand = l.hand ∙ (λ y. (o y).left.memory.held.pool.hand);
          the_words = l.words_left ∙ (λ y. (o y).left.memory.core.words);
          the_queue = l.queue_left ∙ (λ y. (o y).left.memory.core.free_queue);
          the_list = l.list_left ∙ (λ y. (o y).left.memory.core.removal_list);
          the_addresses = l.addresses_left ∙ (λ y. (o y).left.memory.held.addresses);
          the_states = l.states_left ∙ (λ y. (o y).left.memory.held.states);
          the_owners = l.owners_left ∙ (λ y. (o y).left.memory.held.owners);
        }

        module _ {b : Bool} (g : goes z sees s p ≡ b) where
          free_left_holds : pool.free ≡ if (b && test (same (v.address i) 0)) (held.pool.free - 1) held.pool.free
          free_left_holds = l.free ∙ (λ y. if (g y && test (same (v.address i) 0)) (held.pool.free - 1) held.pool.free)

          map_left_holds : fm ≡ if (b && test (same (v.address i) 0)) (cleared held.free_map (taken z st s p)) held.free_map
          map_left_holds = l.map_left_holds ∙ (λ y. if (g y && test (same (v.address i) 0)) (cleared held.free_map (taken z st s p)) held.free_map)

        pub fault_own : {answer : Answer} → answer ≡ (own z sees faults).answer → leaves answer (left fs pool ws fq rl ads ss os fm) ≡ own z st faults
        unfolding carried result Pages.fault Pages.fault_frame
        fault_own {answer} e = elim (ℕ_discrete (first_no (questions z st faults)) 0) [
          | yes h ↦
              let o : own z sees faults ≡ done z sees faults = sym (own_yes z sees faults (first_no (questions z st faults)) refl h) in
              let t = fault_by (all_yes 0 (questions z st faults) tt h) (test (live v i)) (test (same (v.address i) 0)) refl refl (tables o) (free_left_holds (on h)) (map_left_holds (on h)) in
              (λ x. leaves ((e ∙ (λ y. (o y).answer)) x) (t x)) ∙ own_yes z st faults (first_no (questions z st faults)) refl h
          | no h ↦
              let o : own z sees faults ≡ refusal (first_no (questions z st faults)) sees = sym (own_no z sees faults (first_no (questions z st faults)) refl h) in
              let t = fault_none (tables o) (free_left_holds (off h)) (map_left_holds (off h)) in
              (λ x. leaves ((e ∙ (λ y. (o y).answer)) x) (t x)) ∙ own_no z st faults (first_no (questions z st faults)) refl h
        ]
