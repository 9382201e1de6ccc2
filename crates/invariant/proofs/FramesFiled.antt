-- The events that change no frame keep the rules of queues, frames, counts and lengths: limit, move, create, delete, activate, deactivate, update, map done.
use mathlib.Core.Path.{◌≡◌, refl, ap, sym, ◌∙◌}
use mathlib.Core.Logic.{inl, inr}
use mathlib.Core.List.{List}
use Prim.Native.Nat.{ℕ, suc, ◌+◌, ◌*◌, ◌%◌, ◌<◌}
use native.Mathlib.Nat.{mod-lt, div-add-mod'}
use native.Mathlib.Omega.{arith}
use lib.Dec.{eqb}
use lib.ListN.{length, set, length-set}
use lib.Seq.{get_or-set_other}
use Rattle.tables.specs.Base.{at}
use Rattle.tables.specs.Laws.{if_elim}
use Rattle.tables.specs.Rule.{Rule, Holds}
use Rattle.tables.specs.Store.{store, length_store}
use Rattle.tables.specs.Questions.{Asked}
use Rattle.model.specs.declared.sizes.Sizes.{Sizes}
use Rattle.model.specs.declared.event.Design.TheVariants.{Create, Delete, Activate, Deactivate}
use Rattle.model.specs.declared.event.Writeback.TheVariants.{Update, MapDone}
use Rattle.model.specs.declared.event.Event.TheVariants as Event
use Rattle.model.specs.Lines.{FILED, NULLED, LIVE, RELEASED, LEAVING}
use Rattle.model.specs.State.{Disk, Held, Slots, State, files, frames, all_pages, slot_of}
use Rattle.model.specs.Setters.{on_disk, set_limits, counted}
use Rattle.model.specs.Questions.{questions}
use Rattle.model.specs.Designs
use Rattle.model.specs.Accounts
use Rattle.model.specs.Laws.AccountLaws.{length_shifted}
use Rattle.model.specs.Writeback
use Rattle.model.specs.Laws.Ruled.{Ruled}
use Rattle.model.specs.Laws.Fit.{Fit, DiskFit}
use Rattle.invariant.proofs.Lengths.{HeldFit, SlotsFit, long}
use Rattle.invariant.proofs.Framed.{Framed, Framing}
use Rattle.invariant.proofs.Counts.{counted_framed}
use Rattle.invariant.proofs.Seats.{Kept, seated, seat_kept, cooler_same}
use Rattle.invariant.proofs.FrameParts.{unstored}
use Rattle.invariant.proofs.Stands.{seat_at}

module _ (z : Sizes) (st : State) (f : Fit z st) (r : Ruled z st) where
  -- the state with another disk, other held tables and other slots
  abbrev refiled : Disk → Held → Slots → State
  refiled d h a = record { disk = d; memory = record { core = st.memory.core; held = h; slots = a; chip = st.memory.chip; line = st.memory.line; used = st.memory.used } }

  -- what the event has to say: the disk keeps its records' words, each framed page its address, its record's state and its slot's switch
  filed : (d : Disk) (h : Held) (a : Slots) → ((k : ℕ) → k < z.frames → Kept z (files st) (files (refiled d h a)) (at st.disk.records) (at d.records) ((frames st).frame k).page)
      → h.pool.hand < z.records → DiskFit z d → HeldFit z h → SlotsFit z a → Framing z (refiled d h a)
  filed d h a kept hand df hf af = record {
    queues = record { free_queue = r.queues.free_queue; removal_list = r.queues.removal_list };
    frames = seated z (files (refiled d h a)) (frames st) (at d.records) (λ k l. seat_kept (seat_at z st r k l) (cooler_same ((frames st).frame k)) refl refl (λ w b. refl) (kept k l)) r.frames.once;
    hand = hand;
    lengths = record { sizes = f.sizes; disk = df; core = (long z st f).core; held = hf; slots = af; line = f.memory.line };
  }

  -- ── a page in a frame ──
  module _ (k : ℕ) (below : k < z.frames) (i : ℕ) (page : ((frames st).frame k).page ≡ suc i) where
    fit : i < all_pages z
    fit = (seat_at z st r k below).page_fit i page

    active : (files st).active (slot_of z i) ≡ 1
    active = (seat_at z st r k below).active i page

    addressed : i < length st.memory.held.addresses
    addressed = rw f.memory.addresses fit

    module _ (q : ℕ) (a : (files st).address i ≡ suc q) where
      stated : q < length st.memory.held.states
      stated = rw f.memory.states (r.records.address_fit_holds i fit q a)

      owned : (files st).owner q ≡ slot_of z i
      owned = (r.records.held i fit q a).0

      -- nulled or live: no other state
      no_other : (n : ℕ) → ¬ (n ≡ NULLED) → ¬ (n ≡ LIVE) → ¬ ((files st).state q ≡ n)
      no_other n x y e = elim (r.records.held i fit q a).1 [ inl s ↦ x (sym e ∙ s) | inr s ↦ y (sym e ∙ s) ]

  -- ── create and delete: numbers, accounts and the highest number ──
  renamed : (numbers accounts highest : List ℕ) → length numbers ≡ z.slots → length accounts ≡ z.slots → length highest ≡ 1
      → Framing z (refiled (record { records = st.disk.records; numbers = numbers; accounts = accounts; maps = st.disk.maps; limits = st.disk.limits; parents = st.disk.parents; highest = highest }) st.memory.held st.memory.slots)
  renamed numbers accounts highest a b c = filed _ st.memory.held st.memory.slots (λ k l. record { address = λ i e. refl; state = λ i e q x. refl; active = λ i e. refl; words = λ i e q x w lw. refl }) r.counts.hand
      (record { records = f.disk.records; numbers = a; accounts = b; maps = f.disk.maps; limits = f.disk.limits; parents = f.disk.parents; highest = c }) (long z st f).held (long z st f).slots

  pub create_frames : (s q n : ℕ) → Asked (questions z st (Event.Design (Create s q n))) → Framed z (Designs.create z st s q n)
  unfolding Designs.create
  create_frames s q n a = counted_framed z _ (renamed (set st.disk.numbers s n) (set st.disk.accounts s q) (set st.disk.highest 0 n)
      (length-set st.disk.numbers s n ∙ f.disk.numbers) (length-set st.disk.accounts s q ∙ f.disk.accounts) (length-set st.disk.highest 0 n ∙ f.disk.highest))

  pub delete_frames : (s : ℕ) → Asked (questions z st (Event.Design (Delete s))) → Framed z (Designs.delete z st s)
  unfolding Designs.delete
  delete_frames s a = counted_framed z _ (renamed (set st.disk.numbers s 0) (set st.disk.accounts s 0) st.disk.highest
      (length-set st.disk.numbers s 0 ∙ f.disk.numbers) (length-set st.disk.accounts s 0 ∙ f.disk.accounts) f.disk.highest)

  -- ── limit and move: the limits ──
  relimited : (limits : List ℕ) → length limits ≡ z.accounts → Framed z (counted z (on_disk (set_limits limits) st))
  relimited limits e = counted_framed z _ (filed (set_limits limits st.disk) st.memory.held st.memory.slots
      (λ k l. record { address = λ i e. refl; state = λ i e q x. refl; active = λ i e. refl; words = λ i e q x w lw. refl }) r.counts.hand
      (record { records = f.disk.records; numbers = f.disk.numbers; accounts = f.disk.accounts; maps = f.disk.maps; limits = e; parents = f.disk.parents; highest = f.disk.highest }) (long z st f).held (long z st f).slots)

  pub limit_frames : (q n : ℕ) → Framed z (Accounts.limit z st q n)
  unfolding Accounts.limit
  limit_frames q n = relimited (set st.disk.limits q n) (length-set st.disk.limits q n ∙ f.disk.limits)

  pub move_frames : (g t m : ℕ) → Framed z (Accounts.move z st g t m)
  unfolding Accounts.move
  move_frames g t m = relimited (Accounts.shifted st.disk.limits g t m) (length_shifted st.disk.limits g t m ∙ f.disk.limits)

  -- ── activate and deactivate: a slot of which no page is in a frame ──
  switched : (s x : ℕ) (t u : ℕ → Rule) (g o : ℕ → ℕ) → ((k : ℕ) → k < z.frames → (i : ℕ) → ((frames st).frame k).page ≡ suc i → ¬ (slot_of z i ≡ s))
      → ((i : ℕ) → Holds (t i) → slot_of z i ≡ s) → ((k : ℕ) → k < z.frames → (i : ℕ) → ((frames st).frame k).page ≡ suc i → (q : ℕ) → (files st).address i ≡ suc q → ¬ (Holds (u q)))
      → Framing z (refiled st.disk
      (record { addresses = store st.memory.held.addresses t g; states = store st.memory.held.states u o; owners = st.memory.held.owners; free_map = st.memory.held.free_map; pool = st.memory.held.pool })
      (record { active = set st.memory.slots.active s x; updating = st.memory.slots.updating; images = st.memory.slots.images }))
  switched s x t u g o away of other = filed st.disk _ _
      (λ k l. record {
        address = λ i e. unstored st.memory.held.addresses t g i (addressed k l i e) (λ y. away k l i e (of i y));
        state = λ i e q a. unstored st.memory.held.states u o q (stated k l i e q a) (other k l i e q a);
        active = λ i e. get_or-set_other st.memory.slots.active s (slot_of z i) x 0 (away k l i e);
        words = λ i e q a w lw. refl;
      }) r.counts.hand f.disk
      (record { addresses = length_store st.memory.held.addresses t g ∙ f.memory.addresses; states = length_store st.memory.held.states u o ∙ f.memory.states; owners = f.memory.owners })
      (record { active = length-set st.memory.slots.active s x ∙ f.memory.active; updating = f.memory.updating; images = f.memory.images })

  pub activate_frames : (s : ℕ) → Asked (questions z st (Event.Design (Activate s))) → Framed z (Designs.activate z st s)
  unfolding Designs.activate
  activate_frames s a = counted_framed z _ (switched s 1 _ _ _ _ (λ k l i e b. a.1.1.0 (sym (ap (files st).active b) ∙ active k l i e)) (λ i e. e) (λ k l i e q d b. no_other k l i e q d FILED (λ y. omega (arith, y)) (λ y. omega (arith, y)) b.0))

  pub deactivate_frames : (s : ℕ) → Asked (questions z st (Event.Design (Deactivate s))) → Framed z (Designs.deactivate z st s)
  unfolding Designs.deactivate
  deactivate_frames s a = counted_framed z _ (switched s 0 _ _ _ _ away (λ i e. e) (λ k l i e q d b. away k l i e (sym (owned k l i e q d) ∙ b.1)))
    where
      away : (k : ℕ) → k < z.frames → (i : ℕ) → ((frames st).frame k).page ≡ suc i → ¬ (slot_of z i ≡ s)
      away k l i e b = a.1.1.1.1.0 (i % z.pages) (mod-lt i f.sizes.pages) (k, l, e ∙ ap suc (sym (div-add-mod' i z.pages) ∙ ap (λ (x : ℕ). x * z.pages + i % z.pages) b))

  -- ── update ──
  pub update_frames : (s : ℕ) → Asked (questions z st (Event.Writeback (Update s))) → Framed z (Writeback.update z st s)
  unfolding Writeback.update
  update_frames s a = counted_framed z _ (filed st.disk _ _
      (λ k l. record {
        address = λ i e. unstored st.memory.held.addresses (Writeback.leaving_page z st s) (λ j. 0) i (addressed k l i e) (λ y. y.1.1 (k, l, e));
        state = λ i e q d. unstored st.memory.held.states (Writeback.leaving_record z st s) (λ j. LEAVING) q (stated k l i e q d) (λ y. elim y [
          | inl x ↦ x.2.0.1.1 (k, l, e ∙ ap suc (r.records.held_once_holds i (fit k l i e) x.0 x.1 q d x.2.1))
          | inr x ↦ no_other k l i e q d RELEASED (λ y. omega (arith, y)) (λ y. omega (arith, y)) x.1
        ]);
        active = λ i e. refl;
        words = λ i e q d w lw. refl;
      }) r.counts.hand f.disk
      (record { addresses = length_store st.memory.held.addresses _ _ ∙ f.memory.addresses; states = length_store st.memory.held.states _ _ ∙ f.memory.states; owners = f.memory.owners })
      (record { active = f.memory.active; updating = length-set st.memory.slots.updating s 1 ∙ f.memory.updating; images = length_store st.memory.slots.images _ _ ∙ f.memory.images }))

  -- ── map done ──
  -- the slot's leaving records change, and no page in a frame holds one
  ended : (s : ℕ) (maps : List ℕ) (g : ℕ → ℕ) (owners : List ℕ) → length maps ≡ all_pages z → length owners ≡ z.records
      → Framing z (refiled (record { records = st.disk.records; numbers = st.disk.numbers; accounts = st.disk.accounts; maps = maps; limits = st.disk.limits; parents = st.disk.parents; highest = st.disk.highest })
      (record { addresses = st.memory.held.addresses; states = store st.memory.held.states (Writeback.leaver z st s) g; owners = owners; free_map = st.memory.held.free_map; pool = st.memory.held.pool })
      (Writeback.update_over z st s st.memory.slots))
  unfolding Writeback.update_over
  ended s maps g owners lm lo = filed _ _ _
      (λ k l. record {
        address = λ i e. refl;
        state = λ i e q d. unstored st.memory.held.states (Writeback.leaver z st s) g q (stated k l i e q d) (λ y. no_other k l i e q d LEAVING (λ x. omega (arith, x)) (λ x. omega (arith, x)) y.0);
        active = λ i e. refl;
        words = λ i e q d w lw. refl;
      }) r.counts.hand (record { records = f.disk.records; numbers = f.disk.numbers; accounts = f.disk.accounts; maps = lm; limits = f.disk.limits; parents = f.disk.parents; highest = f.disk.highest })
      (record { addresses = f.memory.addresses; states = length_store st.memory.held.states _ _ ∙ f.memory.states; owners = lo })
      (record { active = f.memory.active; updating = length-set st.memory.slots.updating s 0 ∙ f.memory.updating; images = length_store st.memory.slots.images _ _ ∙ f.memory.images })

  pub map_done_frames : (s good : ℕ) → Asked (questions z st (Event.Writeback (MapDone s good))) → Framed z (Writeback.map_done z st s good)
  unfolding Writeback.map_done Writeback.store_image
  map_done_frames s good a = counted_framed z _ (if_elim (Framing z) (eqb good 1) _ _
      (λ t. ended s _ _ _ (length_store st.disk.maps _ _ ∙ f.disk.maps) (length_store st.memory.held.owners _ _ ∙ f.memory.owners))
      (λ t. ended s _ _ _ f.disk.maps f.memory.owners))
