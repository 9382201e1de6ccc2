-- A fault in code: refused, it leaves all; carried out, each table is what the model leaves.
use mathlib.Core.Path.{◌≡◌, refl, ap, sym, ◌∙◌, subst}
use mathlib.Core.Bool.{Bool, true, false, ◌&&◌}
use mathlib.Core.Logic.{inl, inr}
use mathlib.Core.List.{List}
use Prim.Native.Nat.{ℕ, suc, ◌-◌, ◌%◌, ◌<◌}
use native.Mathlib.Omega.{arith}
use lib.Dec.{T}
use lib.ListN.{length, take, set}
use borrow.Author.Tests.{eq-eqb, ne_eqb}
use Rattle.tables.specs.Base.{if, at}
use Rattle.tables.specs.Queue.{queue, size, first, pop, push_front}
use Rattle.tables.specs.QueueLaws.{first_below, first_once, room}
use Rattle.tables.specs.Questions.{Asked, first_no, all_yes}
use Rattle.tables.specs.Also.{◌also◌}
use Rattle.tables.specs.Rule.{Holds, same, test, sound}
use Rattle.model.specs.declared.sizes.Sizes.{Sizes}
use Rattle.model.specs.declared.frame.Frame.{Frame}
use Rattle.model.specs.declared.frame.Pool.{Pool}
use Rattle.model.specs.declared.event.Answer.{Answer}
use Rattle.model.specs.declared.event.Event.{Event}
use Rattle.model.specs.declared.event.Page.TheVariants as Page
use Rattle.model.specs.Lines.{NULLED}
use Rattle.model.specs.State.{State, files, page_of, slot_of, live}
use Rattle.model.specs.Laws.Index.{slot_of_page}
use Rattle.model.specs.Parts.{pick, set_part}
use Rattle.model.specs.Pool.{taken, taken_by}
use Rattle.model.specs.Pages as Pages
use Rattle.model.specs.Pages.{awaiting, fresh}
use Rattle.model.specs.Questions.{questions}
use Rattle.model.specs.Step.{carried, result}
use Rattle.model.specs.Laws.Own.{own, refusal}
use Rattle.model.specs.Laws.OwnLaws.{done, own_no, own_yes}
use Rattle.leaves.specs.FrameLaws.{take_frame}
use Rattle.pages.specs.Seen.{seen_fault}
use Rattle.pages.specs.Needs.{Queued}
use Rattle.leaves.specs.Asks.{slot_asked, asked_range}
use Rattle.pages.specs.declared.supply.Way.{Way}
use Rattle.pages.specs.Faults.{way_of, is_new, is_live_way, away_asked, supply_asked, goes, cleared, FaultLeft}
use Rattle.pages.proofs.Served.{page_test, page_range, page_test_holds}
use Rattle.pages.proofs.Ways.{new_none}
use Rattle.pages.proofs.Faulting.{way, live_none, fault_frames, fault_words, fault_queue, fault_list, fault_addresses, fault_states, fault_owners, fault_hand}

-- a carried-out fault counts by its way
if_also : {A : Type 0} (g b : Bool) (x y : A) → g ≡ true → if b x y ≡ if (g && b) x y
if_also true b x y e = refl
if_also false b x y e = absurd (subst (λ (c : Bool). T c) (sym e) tt)

if_never : {A : Type 0} (g b : Bool) (x y : A) → g ≡ false → y ≡ if (g && b) x y
if_never true b x y e = absurd (subst (λ (c : Bool). T c) e tt)
if_never false b x y e = refl

if_pool : (b : Bool) (x y : Pool) → (if b x y).hand ≡ if b x.hand y.hand
if_pool true x y = refl
if_pool false x y = refl

if_free : (b : Bool) (x y : Pool) → (if b x y).free ≡ if b x.free y.free
if_free true x y = refl
if_free false x y = refl

-- n is the answer to a fault's questions, over what the code is lent
pub record FaultAsked (z : Sizes) (fs : List Frame) (pool : Pool) (numbers words queue list addresses states owners map active : List ℕ) (s p n : ℕ) : Type 0 where
  pub answered : n ≡ first_no (questions z (seen_fault (take z.frames fs) pool numbers words queue list addresses states owners map active) (Event.Page (Page.Fault s p)))

pub fault_asked : {z : Sizes} {fs : List Frame} {pool : Pool} {numbers words queue list addresses states owners map active : List ℕ} {s p n : ℕ}
    → n ≡ first_no (slot_asked (page_test z s p) s numbers active also away_asked z (take z.frames fs) (page_of z s p) also supply_asked (page_of z s p) addresses pool.free queue)
    → FaultAsked z fs pool numbers words queue list addresses states owners map active s p n
fault_asked {z} {s = s} {p = p} h = record { answered = h ∙ asked_range (page_test z s p) (page_range z s p) _ (page_test_holds z s p) }

module _ {z : Sizes} {fs : List Frame} {pool : Pool} {numbers words queue list addresses states owners map active : List ℕ} {s p n : ℕ}
    (q : FaultAsked z fs pool numbers words queue list addresses states owners map active s p n) where
  abbrev st : State
  st = seen_fault (take z.frames fs) pool numbers words queue list addresses states owners map active

  abbrev i : ℕ
  i = page_of z s p

  abbrev e : Event
  e = Event.Page (Page.Fault s p)

  -- ── refused ──
  module _ (h : ¬ (n ≡ 0)) where
    o : refusal n st ≡ own z st e
    o = own_no z st e n q.answered h

    stays : goes z st s p ≡ false
    unfolding goes
    stays = ne_eqb (first_no (questions z st e)) 0 (λ x. h (q.answered ∙ x))

    pub fault_no : ◌≡◌ {A = Answer} (record { refusal = n; result = 0 }) (own z st e).answer
    fault_no = λ t. (o t).answer

    pub fault_none : FaultLeft z st s p (take z.frames fs) (taken z 0 pool) words queue list addresses states owners map
    unfolding taken
    fault_none = record {
      frames = λ t. (o t).left.memory.core.frames;
      words_left = λ t. (o t).left.memory.core.words;
      queue_left = λ t. (o t).left.memory.core.free_queue;
      list_left = λ t. (o t).left.memory.core.removal_list;
      addresses_left = λ t. (o t).left.memory.held.addresses;
      states_left = λ t. (o t).left.memory.held.states;
      owners_left = λ t. (o t).left.memory.held.owners;
      hand = λ t. (o t).left.memory.held.pool.hand;
      free = if_never (goes z st s p) _ _ pool.free stays;
      map_left_holds = if_never (goes z st s p) _ _ map stays;
    }

  -- ── carried out ──
  module _ (h : n ≡ 0) where
    asked : Asked (questions z st e)
    asked = all_yes 0 (questions z st e) tt (sym q.answered ∙ h)

    going : goes z st s p ≡ true
    unfolding goes
    going = eq-eqb (first_no (questions z st e)) 0 (sym q.answered ∙ h)

    pub fault_range : (s < z.slots) × (p < z.pages)
    fault_range = (asked.0.0, asked.0.1)

    pub fault_some : 0 < size queue
    fault_some = asked.1.1.1.1.1.1.0

    -- j, w and f are the code's page, way and frame
    module _ {j : ℕ} {w : Way} {f : ℕ} (ej : j ≡ i) (ew : w ≡ way_of addresses states j) (ef : f ≡ first queue) where
      its : w ≡ way z st s p
      its = ew ∙ ap (way_of addresses states) ej

      pub fault_record : is_new w ≡ true → 0 < pool.free
      fault_record x = elim asked.1.1.1.1.1.0 [ inl u ↦ absurd (u (new_none addresses states i (sym (ap is_new its) ∙ x))) | inr u ↦ u ]

      none_way : is_new (way z st s p) ≡ test (same (at addresses i) 0)
      unfolding way_of
      none_way = live_none (test (live (files st) i)) (test (same (at addresses i) 0)) (λ a b. let x = sound (live (files st) i) a in let u = sound (same (at addresses i) 0) b in omega (arith, x.1, u))

      y : done z st e ≡ own z st e
      y = own_yes z st e n q.answered h

      pub fault_yes : ◌≡◌ {A = Answer} (record { refusal = 0; result = f }) (own z st e).answer
      unfolding result Pages.fault_frame
      fault_yes = (λ t. record { refusal = 0; result = ef t }) ∙ (λ t. (y t).answer)

      pub fault_done : (pos : 0 < z.pages) (gs : List Frame) (t : ℕ) (words' queue' list' addresses' states' owners' map' : List ℕ)
          → gs ≡ set fs f (if (is_live_way w) (awaiting j) (fresh j))
          → t ≡ if (is_new w) (suc (pick z (at addresses) (at states) pool.hand j)) 0
          → words' ≡ if (is_live_way w) words (set_part z f (λ x. 0) words)
          → queue' ≡ pop queue
          → list' ≡ if (is_live_way w) list (push_front list f)
          → addresses' ≡ if (is_new w) (set addresses j (suc (pick z (at addresses) (at states) pool.hand j))) addresses
          → states' ≡ if (is_new w) (set states (pick z (at addresses) (at states) pool.hand j) NULLED) states
          → owners' ≡ if (is_new w) (set owners (pick z (at addresses) (at states) pool.hand j) s) owners
          → map' ≡ if (is_new w) (cleared map (pick z (at addresses) (at states) pool.hand j)) map
          → FaultLeft z st s p (take z.frames gs) (taken z t pool) words' queue' list' addresses' states' owners' map'
      unfolding carried
      fault_done pos gs n' words' queue' list' addresses' states' owners' map' eg ep ewo eq el ea es eo em = record {
        frames = ap (take z.frames) eg ∙ take_frame z.frames fs f _ ∙ (λ t. set (take z.frames fs) (ef t) (if (is_live_way (its t)) (awaiting (ej t)) (fresh (ej t)))) ∙ sym (fault_frames z st s p) ∙ (λ t. (y t).left.memory.core.frames);
        words_left = ewo ∙ (λ t. if (is_live_way (its t)) words (set_part z (ef t) (λ x. 0) words)) ∙ sym (fault_words z st s p) ∙ (λ t. (y t).left.memory.core.words);
        queue_left = eq ∙ sym (fault_queue z st s p) ∙ (λ t. (y t).left.memory.core.free_queue);
        list_left = el ∙ (λ t. if (is_live_way (its t)) list (push_front list (ef t))) ∙ sym (fault_list z st s p) ∙ (λ t. (y t).left.memory.core.removal_list);
        addresses_left = ea ∙ (λ t. if (is_new (its t)) (set addresses (ej t) (suc (pick z (at addresses) (at states) pool.hand (ej t)))) addresses) ∙ sym (fault_addresses z st s p) ∙ (λ t. (y t).left.memory.held.addresses);
        states_left = es ∙ (λ t. if (is_new (its t)) (set states (pick z (at addresses) (at states) pool.hand (ej t)) NULLED) states) ∙ sym (fault_states z st s p) ∙ (λ t. (y t).left.memory.held.states);
        owners_left = eo ∙ (λ t. if (is_new (its t)) (set owners (pick z (at addresses) (at states) pool.hand (ej t)) (slot t)) owners) ∙ sym (fault_owners z st s p) ∙ (λ t. (y t).left.memory.held.owners);
        hand = ap (λ (x : Pool). x.hand) held ∙ if_pool (is_new w) _ pool ∙ (λ t. if (is_new (its t)) (suc (pick z (at addresses) (at states) pool.hand (ej t)) % z.records) pool.hand) ∙ sym (fault_hand z st s p) ∙ (λ t. (y t).left.memory.held.pool.hand);
        free = ap (λ (x : Pool). x.free) held ∙ if_free (is_new w) _ pool ∙ (λ t. if (none t) (pool.free - 1) pool.free) ∙ if_also (goes z st s p) (test (same (at addresses i) 0)) (pool.free - 1) pool.free going;
        map_left_holds = em ∙ (λ t. if (none t) (cleared map (pick z (at addresses) (at states) pool.hand (ej t))) map) ∙ if_also (goes z st s p) (test (same (at addresses i) 0)) (cleared map (pick z (at addresses) (at states) pool.hand i)) map going;
      }
        where
          held : taken z n' pool ≡ if (is_new w) (record { hand = suc (pick z (at addresses) (at states) pool.hand j) % z.records; free = pool.free - 1 }) pool
          held = ap (λ (x : ℕ). taken z x pool) ep ∙ taken_by z (pick z (at addresses) (at states) pool.hand j) pool (is_new w)

          slot : s ≡ slot_of z i
          slot = sym (slot_of_page z pos s p fault_range.1)

          none : is_new w ≡ test (same (at addresses i) 0)
          none = ap is_new its ∙ none_way

-- the first queued frame, and room for it in the removal list
pub serve_needs : (z : Sizes) (free list : List ℕ) (f : ℕ) → Queued z free list → 0 < size free → f ≡ first free → (f < z.frames) × Holds (queue (length list) list) × (size list < length list)
serve_needs z free list f q h e = (rw e below, rw q.list_long q.list_packed, room list q.list_long q.list_packed (λ x l. omega (arith, q.apart x l)) (first free) below (omega (arith, q.apart (first free) below, first_once free q.free_long q.free_packed (λ x l. omega (arith, q.apart x l)) h)))
  where
    below : first free < z.frames
    below = first_below free q.free_long q.free_packed h
